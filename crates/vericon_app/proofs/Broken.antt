-- What a counterexample means.
use Rattle.std.proofs.Common.{◌≡◌, ℕ, List, Option, sym, ◌∙◌, arith}
use Rattle.csdn_core.specs.declared.program.Parts.{Parts}
use Rattle.csdn_conditions.specs.declared.sentence.Condition.{Condition}
use Rattle.csdn_conditions.specs.Answers.{OfCondition}
use Rattle.csdn_read.specs.Programs.{Spells}
use Rattle.net_structs.specs.declared.case.Case.{Case}
use Rattle.vericon_decide.specs.Verdicts.{IsCaseOf}
use Rattle.vericon_decide.specs.Answers.{IsCounter}
use Rattle.vericon_edge.specs.Told.{Told, MayHold}
use Rattle.vericon_edge.specs.Written.{Grown}
use Rattle.command_words.specs.Call.{Call}
use Rattle.file_loads.specs.Views.{Change}
use Rattle.file_loads.specs.Answers.{Answer}
use Rattle.file_loads.specs.Writes.{Write}
use Rattle.file_loads.specs.Explained.{IsExplained}
use Rattle.file_loads.specs.Outputs.{Then, Writing, was_done, had_failed}
use Rattle.vericon_app.specs.Calls.{IsCheck, files_named, size_named, level_named, log_named}
use Rattle.vericon_app.specs.Check.{IsYesLine, YesOutput, wants_no_log, wants_log, IsNotProven, is_broken, is_not_decided, has_no_network, ProgramOutput, is_proven, is_not_proven}
use Rattle.vericon_app.specs.Output.{Output, serves_none}
use Rattle.vericon_app.specs.Left.{Finishes, all, front}
use Rattle.vericon_app.specs.Broken.{IsShownBroken}
use Rattle.vericon_app.proofs.Checks.{CheckEnds, of_program, of_no_program, of_none, checked, none_is_not_one}
use Rattle.vericon_app.proofs.Starts.{StartsExactly, spelled_well, case_ends}

-- the case of an answer is one of its condition
pub case_of_counter : (P : Parts) (size most level index : ℕ) (case : Case) → IsCounter P size most level index case → OfCondition P level index (λ (c : Condition). IsCaseOf P c case)
case_of_counter P size most level index case counter =
    let found = counter.broken in
    record { condition = found.condition; there = found.there; holds = found.holds.case_of }

-- a yes is told by another status than 1
written_status : (name bytes : List ℕ) (level : ℕ) (answers : List Answer) (write : Option Write) (text : List ℕ) (status : ℕ) → Writing name bytes (IsYesLine level) answers write text status → status ≡ 1 → ⊥
written_status name bytes level answers write text status (was_done none is said) one_is = let zero_is = said.1 in omega (arith, zero_is)
written_status name bytes level answers write text status (had_failed none is text_is status_is) one_is = omega arith

yes_status : (log : Option (List ℕ)) (P : Parts) (level : ℕ) (answers : List Answer) (write : Option Write) (text : List ℕ) (status : ℕ) → YesOutput log P level answers write text status → status ≡ 1 → ⊥
yes_status log P level answers write text status (wants_no_log none out) one_is = let zero_is = out.said.1 in omega (arith, zero_is)
yes_status log P level answers write text status (wants_log name bytes named log_of said) one_is = written_status name bytes level answers write text status said one_is

module _ (exact : StartsExactly) (size most : ℕ) (log : Option (List ℕ)) (old new : Option (List ℕ)) (text : List ℕ) (grown : Grown old new text) where
  not_proven_shown : (file : Told) (bytes : List ℕ) (status : ℕ) (P : Parts) → MayHold file bytes → Spells bytes P → IsNotProven size most P text status → status ≡ 1 → IsShownBroken file old new
  not_proven_shown file bytes status P may spells (is_broken level index case counter shows status_is) one_is =
      let found = case_of_counter P size most level index case counter in
      record { bytes = bytes; told_bytes = may; program = P; spells = spells; level = level; index = index; case = case; case_of = found; ends = case_ends exact P (spelled_well bytes P spells) level index case found; text = text; shows = shows; written = grown }
  not_proven_shown file bytes status P may spells (is_not_decided level index why unknown line status_is) one_is = absurd (omega arith)
  not_proven_shown file bytes status P may spells (has_no_network proof unmet text_is status_is) one_is = absurd (omega arith)

  program_shown : (file : Told) (bytes : List ℕ) (status : ℕ) (P : Parts) (answers : List Answer) (write : Option Write) → MayHold file bytes → Spells bytes P → ProgramOutput size most log P answers write text status → status ≡ 1 → IsShownBroken file old new
  program_shown file bytes status P answers write may spells (is_proven level proofs proven out) one_is = absurd (yes_status log P level answers write text status out one_is)
  program_shown file bytes status P answers write may spells (is_not_proven out) one_is = not_proven_shown file bytes status P may spells out.said one_is

  end_shown : (change : Change) (name : List ℕ) (status : ℕ) → CheckEnds change size most log name text status → status ≡ 1 → IsShownBroken (change.before.told name) old new
  end_shown change name status (of_program bytes P rest write may spells writes out) one_is = program_shown (change.before.told name) bytes status P rest write may spells out one_is
  end_shown change name status (of_no_program bytes at why may refusal status_is) one_is = absurd (omega arith)
  end_shown change name status (of_none answer may said) one_is = absurd (none_is_not_one name text status answer said one_is)

-- a call of `check` that ends with 1 has written a counterexample
pub shown : StartsExactly → (asked : Option Call) (change : Change) (text : List ℕ) (said : ℕ) (old new : Option (List ℕ)) (before after status : ℕ) (name : List ℕ)
    → IsExplained change (files_named asked) (Output serves_none asked) text said → Finishes text said old new before after status → IsCheck asked name → status ≡ 1 → IsShownBroken (change.before.told name) old new
shown exact asked change text said old new before after status name out (all is grown steady) check one_is =
    end_shown exact (size_named asked) (level_named asked) (log_named asked) old new text grown change name said (checked asked change text said name check out) (sym is ∙ one_is)
shown exact asked change text said old new before after status name out (front is grown rose) check one_is = absurd (omega arith)
