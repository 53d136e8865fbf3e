-- What a yes has left in the log that was asked for.
use Rattle.std.proofs.Common.{◌≡◌, ℕ, ◌≤◌, true, List, Option, Some, None, sym, ◌∙◌, subst, arith}
use Rattle.std.proofs.lemmas.Option.{same_Some}
use Rattle.csdn_core.specs.declared.program.Parts.{Parts}
use Rattle.csdn_read.specs.Programs.{Spells}
use Rattle.vericon_edge.specs.FileAnswers.{NowHolds}
use Rattle.vericon_edge.specs.Told.{Told, MayHold}
use Rattle.command_words.specs.Call.{Call}
use Rattle.file_loads.specs.Views.{Change}
use Rattle.file_loads.specs.Answers.{Answer}
use Rattle.file_loads.specs.Writes.{Write, IsWritten, MayWrite}
use Rattle.file_loads.specs.Explained.{IsExplained}
use Rattle.file_loads.specs.Outputs.{Writing, was_done, had_failed}
use Rattle.answer_listing.specs.Logs.{IsLogOf}
use Rattle.vericon_app.specs.Calls.{IsCheck, files_named, size_named, level_named, log_named}
use Rattle.vericon_app.specs.Check.{IsYesLine, YesOutput, wants_no_log, wants_log, ProgramOutput, is_proven, is_not_proven}
use Rattle.vericon_app.specs.Output.{Output, serves_none}
use Rattle.vericon_app.specs.Left.{Finishes, all, front}
use Rattle.vericon_app.specs.Logs.{IsLogged}
use Rattle.vericon_app.proofs.Checks.{CheckEnds, of_program, of_no_program, of_none, checked, not_proven_status, none_status}

module _ (change : Change) (size most : ℕ) (log : List ℕ) where
  -- a write that was done left its bytes in its file
  writing_logged : (file : Told) (bytes text : List ℕ) (status : ℕ) (P : Parts) (level : ℕ) (name written : List ℕ) (answers : List Answer) (write : Option Write) → level ≤ most → MayHold file bytes → Spells bytes P → name ≡ log → IsLogOf P level written
      → MayWrite change write → Writing name written (IsYesLine level) answers write text status → status ≡ 0 → IsLogged most file (change.before.told log) (change.after.told log)
  writing_logged file bytes text status P level name written answers write within may spells same log_of writes (was_done none is said) zero_is =
      let done : IsWritten change (record { name = name; bytes = written; is_done = true }) = subst (λ (w : Option Write). MayWrite change w) is writes in
      record {
        bytes = bytes;
        parts = P;
        level = level;
        text = written;
        told_bytes = may;
        spells = spells;
        within = within;
        log_of = log_of;
        holds = subst (λ (n : List ℕ). NowHolds (change.before.told n) (change.after.told n) written) same done.written.0;
      }
  writing_logged file bytes text status P level name written answers write within may spells same log_of writes (had_failed none is text_is status_is) zero_is = absurd (omega arith)

  module _ (wanted : Option (List ℕ)) (wants : wanted ≡ Some log) where
    yes_logged : (file : Told) (bytes text : List ℕ) (status : ℕ) (P : Parts) (level : ℕ) (answers : List Answer) (write : Option Write) → level ≤ most → MayHold file bytes → Spells bytes P → MayWrite change write → YesOutput wanted P level answers write text status → status ≡ 0
        → IsLogged most file (change.before.told log) (change.after.told log)
    yes_logged file bytes text status P level answers write within may spells writes (wants_no_log none said) zero_is = absurd cc
    yes_logged file bytes text status P level answers write within may spells writes (wants_log name written named log_of said) zero_is =
        writing_logged file bytes text status P level name written answers write within may spells (same_Some name log (sym named ∙ wants)) log_of writes said zero_is

    program_logged : (file : Told) (bytes text : List ℕ) (status : ℕ) (P : Parts) (answers : List Answer) (write : Option Write) → MayHold file bytes → Spells bytes P → MayWrite change write → ProgramOutput size most wanted P answers write text status → status ≡ 0
        → IsLogged most file (change.before.told log) (change.after.told log)
    program_logged file bytes text status P answers write may spells writes (is_proven level proofs proven out) zero_is = yes_logged file bytes text status P level answers write proven.within may spells writes out zero_is
    program_logged file bytes text status P answers write may spells writes (is_not_proven out) zero_is = absurd (not_proven_status size most P text status out.said zero_is)

    end_logged : (name text : List ℕ) (status : ℕ) → CheckEnds change size most wanted name text status → status ≡ 0 → IsLogged most (change.before.told name) (change.before.told log) (change.after.told log)
    end_logged name text status (of_program bytes P rest write may spells writes out) zero_is = program_logged (change.before.told name) bytes text status P rest write may spells writes out zero_is
    end_logged name text status (of_no_program bytes at why may refusal status_is) zero_is = absurd (omega arith)
    end_logged name text status (of_none answer may said) zero_is = absurd (none_status name text status answer said zero_is)

-- a call of `check` that ends with 0 has written the log that it was asked for
pub logged : (asked : Option Call) (change : Change) (text : List ℕ) (said : ℕ) (old new : Option (List ℕ)) (before after status : ℕ) (name log : List ℕ)
    → IsExplained change (files_named asked) (Output serves_none asked) text said → Finishes text said old new before after status → IsCheck asked name → log_named asked ≡ Some log → status ≡ 0 → IsLogged (level_named asked) (change.before.told name) (change.before.told log) (change.after.told log)
logged asked change text said old new before after status name log out (all is grown steady) check wants zero_is =
    end_logged change (size_named asked) (level_named asked) log (log_named asked) wants name text said (checked asked change text said name check out) (sym is ∙ zero_is)
logged asked change text said old new before after status name log out (front is grown rose) check wants zero_is = absurd (omega arith)
