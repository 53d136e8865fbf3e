-- The relation of outputs leaves no choice where nothing disturbs the call.
use Rattle.std.proofs.Common.{◌≡◌, ℕ, ◌<◌, ◌⊎◌, inl, inr, false, List, Option, Some, None, subst, arith}
use Rattle.csdn_core.specs.declared.program.Parts.{Parts}
use Rattle.csdn_read.specs.Programs.{Spells}
use Rattle.vericon_decide.specs.declared.verdict.Proof.{Proof}
use Rattle.vericon_decide.specs.Answers.{IsYes}
use Rattle.vericon_edge.specs.Counts.{Rose}
use Rattle.vericon_edge.specs.Told.{Told, holds, MayHold, MayBeMissing, MayBeLonger}
use Rattle.command_words.specs.Call.{Call}
use Rattle.file_loads.specs.declared.read.FileKind.TheVariants.{Program}
use Rattle.file_loads.specs.Views.{Change}
use Rattle.file_loads.specs.Answers.{Answer, held, missing, longer, failed, FileMayAnswer}
use Rattle.file_loads.specs.Writes.{Write, IsWritten, MayWrite}
use Rattle.file_loads.specs.Explained.{IsExplained}
use Rattle.file_loads.specs.Outputs.{IsNone, Writing, was_done, had_failed}
use Rattle.file_loads.proofs.Explaining.{calmed}
use Rattle.vericon_app.specs.Calls.{IsCheck, files_named, size_named, level_named, log_named}
use Rattle.vericon_app.specs.Check.{IsYesLine, YesOutput, wants_no_log, wants_log, IsNotProven, is_broken, is_not_decided, has_no_network, ProgramOutput, is_proven, is_not_proven}
use Rattle.vericon_app.specs.Output.{Output, serves_none}
use Rattle.vericon_app.specs.Left.{HasLeft, whole, no_memory, cut, cut_memory}
use Rattle.vericon_app.specs.Quiet.{IsUndisturbed, IsAnswered, answers, wants_memory}
use Rattle.vericon_app.specs.Decided as ends
use Rattle.vericon_app.specs.Decided.{IsDecided, is_yes, is_counterexample, is_unknown, spells_none, is_too_long}
use Rattle.csdn_read.proofs.Exact.{none_spelled}
use Rattle.vericon_app.proofs.Checks.{CheckEnds, of_program, of_no_program, of_none, checked}

-- a count that stands where it stood, and could have risen, didn't rise
steady : (before after : ℕ) → after ≡ before → before < 18446744073709551615 → Rose before after → ⊥
steady before after same few rose = omega (arith, rose, same, few)

module _ (change : Change) (no_fault : Rose change.before.write_faults change.after.write_faults → ⊥) (size most : ℕ) (log : Option (List ℕ)) where
  written_decided : (bytes text : List ℕ) (status : ℕ) (P : Parts) (level : ℕ) (proofs : List Proof) (name written : List ℕ) (said : List Answer) (write : Option Write) → Spells bytes P → IsYes P size most level proofs → MayWrite change write
      → Writing name written (IsYesLine level) said write text status → IsDecided size most bytes status
  written_decided bytes text status P level proofs name written said write spells proven writes (was_done none is out) = is_yes P level proofs spells proven out.1
  written_decided bytes text status P level proofs name written said write spells proven writes (had_failed none is text_is status_is) =
      let failing : IsWritten change (record { name = name; bytes = written; is_done = false }) = subst (λ (w : Option Write). MayWrite change w) is writes in
      absurd (no_fault failing.written.1)

  yes_decided : (bytes text : List ℕ) (status : ℕ) (P : Parts) (level : ℕ) (proofs : List Proof) (said : List Answer) (write : Option Write) → Spells bytes P → IsYes P size most level proofs → MayWrite change write → YesOutput log P level said write text status
      → IsDecided size most bytes status
  yes_decided bytes text status P level proofs said write spells proven writes (wants_no_log none out) = is_yes P level proofs spells proven out.said.1
  yes_decided bytes text status P level proofs said write spells proven writes (wants_log name written named log_of out) = written_decided bytes text status P level proofs name written said write spells proven writes out

  not_proven_decided : (bytes text : List ℕ) (status : ℕ) (P : Parts) → Spells bytes P → IsNotProven size most P text status → IsDecided size most bytes status
  not_proven_decided bytes text status P spells (is_broken level index case counter shows status_is) = is_counterexample P level index case spells counter status_is
  not_proven_decided bytes text status P spells (is_not_decided level index why unknown line status_is) = is_unknown P level index why spells unknown status_is
  not_proven_decided bytes text status P spells (has_no_network proof unmet text_is status_is) = ends.has_no_network P proof spells unmet status_is

  program_decided : (bytes text : List ℕ) (status : ℕ) (P : Parts) (said : List Answer) (write : Option Write) → Spells bytes P → MayWrite change write → ProgramOutput size most log P said write text status → IsDecided size most bytes status
  program_decided bytes text status P said write spells writes (is_proven level proofs proven out) = yes_decided bytes text status P level proofs said write spells proven writes out
  program_decided bytes text status P said write spells writes (is_not_proven out) = not_proven_decided bytes text status P spells out.said

  module _ (name bytes : List ℕ) (told : change.before.told name ≡ holds bytes) (no_read_fault : Rose change.before.read_faults change.after.read_faults → ⊥) where
    none_decided : (text : List ℕ) (status : ℕ) (answer : Answer) → FileMayAnswer change (record { kind = Program; name = name }) answer → IsNone Program name answer text status → IsDecided size most bytes status
    none_decided text status (held found) may said = absurd said
    none_decided text status missing may said = absurd (subst (λ (t : Told). MayBeMissing t change.before.read_faults change.after.read_faults) told may)
    none_decided text status longer may said = is_too_long (subst (λ (t : Told). MayBeLonger t 65536) told may) said.1
    none_decided text status failed may said = absurd (no_read_fault may)

    found_is : (found : List ℕ) → MayHold (change.before.told name) found → found ≡ bytes
    found_is found may = subst (λ (t : Told). MayHold t found) told may

    end_decided : (text : List ℕ) (status : ℕ) → CheckEnds change size most log name text status → IsDecided size most bytes status
    end_decided text status (of_program found P rest write may spells writes out) =
        subst (λ (b : List ℕ). IsDecided size most b status) (found_is found may) (program_decided found text status P rest write spells writes out)
    end_decided text status (of_no_program found at why may refusal status_is) =
        subst (λ (b : List ℕ). IsDecided size most b status) (found_is found may) (spells_none (none_spelled found at why refusal) status_is)
    end_decided text status (of_none answer may said) = none_decided text status answer may said

module _ (asked : Option Call) (change : Change) (old new : Option (List ℕ)) (before after status : ℕ) (quiet : IsUndisturbed change before after) where
  no_read_rose : Rose change.before.read_faults change.after.read_faults → ⊥
  no_read_rose = steady change.before.read_faults change.after.read_faults quiet.no_read_fault quiet.reads_counted

  no_write_rose : Rose change.before.write_faults change.after.write_faults → ⊥
  no_write_rose = steady change.before.write_faults change.after.write_faults quiet.no_file_fault quiet.files_counted

  no_sink_rose : Rose before after → ⊥
  no_sink_rose = steady before after quiet.no_write_fault quiet.writes_counted

  -- an undisturbed check decides by the bytes, or memory was short
  pub decided : (name bytes : List ℕ) → IsCheck asked name → change.before.told name ≡ holds bytes → HasLeft (IsExplained change (files_named asked) (Output serves_none asked)) old new before after status → IsDecided (size_named asked) (level_named asked) bytes status ⊎ (status ≡ 7)
  decided name bytes check told (whole text out grown same) =
      inl (end_decided change no_write_rose (size_named asked) (level_named asked) (log_named asked) name bytes told no_read_rose text status (checked asked change text status name check out))
  decided name bytes check told (no_memory is grown same) = inr is
  decided name bytes check told (cut text other out is grown rose) = absurd (no_sink_rose rose)
  decided name bytes check told (cut_memory is grown rose) = absurd (no_sink_rose rose)

  -- an undisturbed call answers, or memory was short
  pub answered : HasLeft (IsExplained change (files_named asked) (Output serves_none asked)) old new before after status → IsAnswered serves_none asked change old new status
  answered (whole text out grown same) = answers text (calmed change (files_named asked) (Output serves_none asked) text status no_read_rose no_write_rose out) grown
  answered (no_memory is grown same) = wants_memory is grown
  answered (cut text other out is grown rose) = absurd (no_sink_rose rose)
  answered (cut_memory is grown rose) = absurd (no_sink_rose rose)
