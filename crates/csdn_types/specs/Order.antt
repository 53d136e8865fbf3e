-- The order of refusals: the least place, and at one place the order in which they are named.
use Rattle.std.specs.Prelude.{◌≡◌, ◌⊎◌, ℕ, ◌<◌, ◌≤◌, List, All, Contains}
use Rattle.csdn_types.specs.declared.refusal.SortRefusal.{SortRefusal}
use Rattle.csdn_types.specs.declared.refusal.SortRefusal.TheVariants.{Memory, Duplicate, Unknown, WrongArity, WrongSort, NotAllowed, TooMany}

-- where a rule is broken
abbrev pub at_of : SortRefusal → ℕ
at_of Memory = 0
at_of (Duplicate at) = at
at_of (Unknown at) = at
at_of (WrongArity at) = at
at_of (WrongSort at) = at
at_of (NotAllowed at) = at
at_of (TooMany at) = at

-- the place in the table of refusals
abbrev pub rank : SortRefusal → ℕ
rank Memory = 0
rank (Duplicate at) = 1
rank (Unknown at) = 2
rank (WrongArity at) = 3
rank (WrongSort at) = 4
rank (NotAllowed at) = 5
rank (TooMany at) = 6

-- a refusal is answered before another
pub record ComesFirst (e d : SortRefusal) : Type 0 where
  pub is : (at_of e < at_of d) ⊎ ((at_of e ≡ at_of d) × (rank e ≤ rank d))

-- the refusal to answer, of all the rules that are broken
pub record IsLeast (faults : List SortRefusal) (e : SortRefusal) : Type 0 where
  pub among : Contains faults e
  pub first : All (ComesFirst e) faults
