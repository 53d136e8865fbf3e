-- The tuples of true atoms.
use Rattle.std.specs.Prelude.{ℕ, ◌-◌, ◌&&◌, nat_lt, List, [], if◌then◌else◌}
use Rattle.csdn_core.specs.declared.program.Parts.{Parts}
use Rattle.csdn_core.specs.declared.terms.Pred.{Pred}
use Rattle.clause_log.specs.Literals.{Literal}
use Rattle.fol_forms.specs.Counts.{count_of}
use Rattle.decision_laws.specs.Numbers.{tuple_count, tuple_of}
use Rattle.ground_inst.specs.Equality.{exchanges}
use Rattle.ground_inst.specs.declared.facts.Facts.{Facts}
use Rattle.ground_inst.specs.declared.facts.UsedRelation.{UsedRelation}

-- the clauses of the tuple of an atom, where it is one of the relation's
abbrev pub tuple_clauses : Parts → Facts → Pred → UsedRelation → ℕ → List (List Literal)
tuple_clauses P facts r u t =
    if nat_lt u.before t && nat_lt (t - u.before - 1) (tuple_count (count_of facts.counts) u.sorts)
    then exchanges P facts r u.sorts (tuple_of (count_of facts.counts) u.sorts (t - u.before - 1))
    else []
