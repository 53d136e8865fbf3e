-- The marks that a map keeps.
use Rattle.std.specs.Prelude.{ℕ, Bool, Option, Some, None, is_some}
use Rattle.std.specs.BTreeMap.{get}
use Rattle.csdn_core.specs.declared.event.Match.{Match}
use Rattle.csdn_run.specs.declared.marks.Marks.{Marks}
use Rattle.csdn_run.specs.Places.{match_cmp}

abbrev pub or_zero : Option ℕ → ℕ
or_zero None = 0
or_zero (Some n) = n

-- the mark of each match; 0 where none was set
abbrev pub mark_of : Marks → Match → ℕ
mark_of marks m = or_zero (get match_cmp marks.numbers m)

-- whether there is a place for the mark of a match, so that to set it wants no memory
abbrev pub has_room : Marks → Match → Bool
has_room marks m = is_some (get match_cmp marks.numbers m)
