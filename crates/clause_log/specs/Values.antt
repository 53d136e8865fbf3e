-- The partial assignment that a map keeps.
use Rattle.std.specs.Prelude.{ℕ, Bool}
use Rattle.std.specs.Ordering.{nat_cmp}
use Rattle.std.specs.BTreeMap.{BTreeMap, get}
use Rattle.clause_log.specs.Assignments.{Assignment}

abbrev pub assigned : BTreeMap ℕ Bool → Assignment
assigned m = λ a. get nat_cmp m a
