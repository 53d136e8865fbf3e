-- What copies are, where the facts are what is said of them.
use Rattle.std.specs.Prelude.{ℕ, Bool, ◌∷◌}
use Rattle.csdn_core.specs.declared.terms.Sort.{Sort}
use Rattle.fol_forms.specs.Forms.{Form, signed}
use Rattle.decision_laws.specs.Copies.{Fact, Scope, copies, judge}
use Rattle.ground_inst.specs.Walk.{entry, ways_of}
use Rattle.ground_inst.specs.declared.places.Binding.{Binding}
use Rattle.copy_truth.specs.declared.reading.Reading.{Reading}
use Rattle.copy_truth.specs.Said.{said_by}

-- those of a form, over the constants of variables and from the first free constants on
abbrev pub judged_copies : Reading → Form → Scope → (Sort → ℕ) → Bool
judged_copies r f env base = judge (said_by r) (copies (ways_of r.names).voc (ways_of r.names).count f env base)

-- those of a body whose variable stands for a constant
abbrev pub judged_bound : Reading → Form → Binding → Scope → (Sort → ℕ) → Bool
judged_bound r f b env base = judged_copies r f (entry b ∷ env) base

-- a fact with a sign
abbrev pub said_signed : Reading → Bool → Fact → Bool
said_signed r sign fact = signed sign (said_by r fact)
