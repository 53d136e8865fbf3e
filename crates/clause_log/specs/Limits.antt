-- The limits within which a step can be written down.
use Rattle.std.specs.Prelude.{ℕ, Bool, not, ◌&&◌, ◌==◌, nat_le}
use Rattle.std.specs.List.{list_all}
use Rattle.clause_log.specs.Literals.{is_clause}
use Rattle.clause_log.specs.Refutations.{Step}

-- 2 ^ 63 - 1
abbrev pub most_hint : ℕ
most_hint = 9223372036854775807

-- a number from 1 to 2 ^ 63 - 1
abbrev pub is_hint : ℕ → Bool
is_hint h = not (h == 0) && nat_le h most_hint

-- literals of distinct atoms from 1 to `atoms`, and hints from 1 to 2 ^ 63 - 1
abbrev pub is_step : ℕ → Step → Bool
is_step atoms s = is_clause atoms s.literals && list_all is_hint s.hints
