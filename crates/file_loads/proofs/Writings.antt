-- What explains a write.
use Rattle.std.proofs.Common.{◌≡◌, ℕ, ◌+◌, ◌≤◌, Bool, true, false, List, [], Option, Some, sym, ap, subst, refl, arith}
use Rattle.vericon_edge.specs.Counts.{counted}
use Rattle.vericon_edge.specs.Told.{Told}
use Rattle.file_loads.specs.declared.outcome.Outcome.{Outcome}
use Rattle.file_loads.specs.Status.{code_of}
use Rattle.file_loads.specs.Lines.{IsSaid}
use Rattle.file_loads.specs.Views.{Change, Touches}
use Rattle.file_loads.specs.Answers.{Answer}
use Rattle.file_loads.specs.Writes.{Write, HasWritten}
use Rattle.file_loads.specs.Explained.{IsExplained}
use Rattle.file_loads.specs.Outputs.{Writing, was_done, had_failed}
use Rattle.file_loads.proofs.Explaining.{said_so}

module _ (change : Change) (name : List ℕ) (others : (other : List ℕ) → (other ≡ name → ⊥) → change.after.told other ≡ change.before.told other) (once : change.after.write_calls ≡ counted change.before.write_calls) where
  pub touched : change.before.write_faults ≤ change.after.write_faults → change.after.read_faults ≡ change.before.read_faults → change.after.read_calls ≡ change.before.read_calls → Touches 0 (Some name) change
  touched later faults reads =
      record {
        reads = omega (arith, reads);
        read_faults = omega (arith, faults);
        writes = record { others = λ other apart. others other (λ same. apart (ap Some (sym same))); later = later; once = omega (arith, once) };
      }

  module _ (bytes : List ℕ) (output : List ℕ → ℕ → Type 0) (text : List ℕ) (status : ℕ) (reads : change.after.read_calls ≡ change.before.read_calls) where
    pub done : HasWritten (change.before.told name) (change.after.told name) bytes change.before.write_faults change.after.write_faults true → output text status → IsExplained change [] (Writing name bytes output) text status
    done written out =
        record {
          answers = [];
          write = Some (record { name = name; bytes = bytes; is_done = true });
          answered = tt;
          counted = omega (arith, reads);
          written = record { written = written; others = others; calls = omega (arith, once) };
          said = was_done refl refl out;
        }

    pub not_done : HasWritten (change.before.told name) (change.after.told name) bytes change.before.write_faults change.after.write_faults false → text ≡ [] → status ≡ 8 → IsExplained change [] (Writing name bytes output) text status
    not_done written text_is status_is =
        record {
          answers = [];
          write = Some (record { name = name; bytes = bytes; is_done = false });
          answered = tt;
          counted = omega (arith, reads);
          written = record { written = written; others = others; calls = omega (arith, once) };
          said = had_failed refl refl text_is status_is;
        }

-- the outcome that a write goes before is what follows where the write was done
so_writing : (name bytes : List ℕ) (outcome : Outcome) (output : List ℕ → ℕ → Type 0) (answers : List Answer) (write : Option Write) (text : List ℕ) (status : ℕ) → output outcome.text.items (code_of outcome.status) → Writing name bytes (IsSaid outcome) answers write text status
    → Writing name bytes output answers write text status
so_writing name bytes outcome output answers write text status out (was_done none is said) =
    was_done none is (subst (λ (t : List ℕ). output t status) (sym said.0) (subst (λ (n : ℕ). output outcome.text.items n) (sym said.1) out))
so_writing name bytes outcome output answers write text status out (had_failed none is text_is status_is) = had_failed none is text_is status_is

pub writing_so : (change : Change) (name found bytes : List ℕ) (outcome : Outcome) (output : List ℕ → ℕ → Type 0) (text : List ℕ) (status : ℕ) → found ≡ bytes → output outcome.text.items (code_of outcome.status) → IsExplained change [] (Writing name found (IsSaid outcome)) text status
    → IsExplained change [] (Writing name bytes output) text status
writing_so change name found bytes outcome output text status is out explained =
    subst (λ (written : List ℕ). IsExplained change [] (Writing name written output) text status) is
    (said_so change [] (Writing name found (IsSaid outcome)) (Writing name found output) text status (λ answers write said. so_writing name found outcome output answers write text status out said) explained)
