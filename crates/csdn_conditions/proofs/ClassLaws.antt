-- Counts that stand at the greatest number, compared with smaller limits.
use Rattle.std.proofs.Common.{◌≡◌, ℕ, ◌+◌, ◌-◌, ◌<◌, ◌≤◌, arith}
use Rattle.fol_forms.specs.Limits.{capped, most_nodes}
use Rattle.csdn_conditions.specs.Classes.{greatest_size}

pub over_nodes : (n count : ℕ) → count ≡ capped n → most_nodes < count → most_nodes < n
unfolding capped
over_nodes n count is more = omega (arith, is, more)

pub under_nodes : (n count : ℕ) → count ≡ capped n → count ≤ most_nodes → n ≤ most_nodes
unfolding capped
under_nodes n count is few = omega (arith, is, few)

pub over_size : (n count size : ℕ) → count ≡ capped n → size < count → size < n
unfolding capped
over_size n count size is more = omega (arith, is, more)

pub under_size : (n count size : ℕ) → size ≤ greatest_size → count ≡ capped n → count ≤ size → n ≤ size
unfolding capped
under_size n count size small is few = omega (arith, small, is, few)

-- beside the formula and one node more

pub no_room_left : (n count room : ℕ) → count ≡ capped n → room ≤ count → room < 0 + (n + 1)
unfolding capped
no_room_left n count room is full = omega (arith, is, full)

pub room_left : (n count room : ℕ) → n ≤ most_nodes → count ≡ capped n → count < room → room - count - 1 + (0 + (n + 1)) ≡ room
unfolding capped
room_left n count room small is some = omega (arith, small, is, some)
