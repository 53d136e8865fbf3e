use Rattle.std.proofs.Common.{◌≡◌, ◌-◌, length, map}
use Rattle.csdn_core.specs.Sorted.{sorts_of}
use Rattle.csdn_core.specs.WellSorted.{signature}
use Rattle.csdn_core.specs.declared.terms.Pred.TheVariants.{Stored}
use Rattle.fol_forms.specs.Forms.{form_of}
use Rattle.decision_laws.specs.Vocabulary.{places_from, sorts_or, uses}
use Rattle.ground_inst.specs.Facts.{declared, with_relations}
use Rattle.ground_inst.proofs.facts.gather_declared.Given as goal

abbrev pub invariant-loop-number : goal.invariant-loop-number
invariant-loop-number l =
    with_relations (uses (form_of l.sentence)) (λ r. sorts_or (sorts_of (signature l.parts) r)) l.facts (map (λ k. Stored (record { 0 = k })) (places_from l.number (length l.parts.relations - l.number)))
    ≡ with_relations (uses (form_of l.sentence)) (λ r. sorts_or (sorts_of (signature l.parts) r)) l.fn.facts (declared l.parts)
