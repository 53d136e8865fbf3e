-- The condition of a number, by its kind.
use Rattle.std.proofs.Common.{◌≡◌, ◌∙◌, ap, ℕ, Some, Result, Ok, Err, IfOk}
use Rattle.std.specs.Prelude.{slice_get, option_map}
use Rattle.std.proofs.lemmas.Option.{slice_get-map}
use Rattle.csdn_core.specs.declared.program.Parts.{Parts}
use Rattle.csdn_conditions.specs.declared.kinds.CondKind.{CondKind}
use Rattle.csdn_conditions.specs.declared.sentence.Condition.{Condition}
use Rattle.csdn_conditions.specs.Kinds.{kinds}
use Rattle.csdn_conditions.specs.Conditions.{condition}
use Rattle.csdn_conditions.specs.Answers.{OfCondition}

pub of_kind : (P : Parts) (n i : ℕ) (kind : CondKind) (Fact : Condition → Type 0) → slice_get (kinds P n) i ≡ Some kind → Fact (condition P n kind) → OfCondition P n i Fact
of_kind P n i kind Fact is fact = record {
  condition = condition P n kind;
  there = slice_get-map (condition P n) (kinds P n) i ∙ ap (option_map (condition P n)) is;
  holds = fact;
}

pub if_ok : {X E : Type 0} (r : Result X E) (A C : X → Type 0) → ((x : X) → A x → C x) → IfOk r A → IfOk r C
if_ok (Ok x) A C to a = to x a
if_ok (Err e) A C to a = tt
