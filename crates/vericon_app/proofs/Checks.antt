-- What a check of a file comes to.
use Rattle.std.proofs.Common.{◌≡◌, ℕ, List, [], ◌∷◌, Option, Some, sym, ◌∙◌, ap, subst, arith}
use Rattle.csdn_core.specs.declared.program.Parts.{Parts}
use Rattle.csdn_core.proofs.Induction.{sound}
use Rattle.csdn_read.specs.declared.refusal.ProgramWhy.{ProgramWhy}
use Rattle.csdn_read.specs.Programs.{Spells, IsNoProgram}
use Rattle.vericon_decide.specs.declared.verdict.Proof.{Proof}
use Rattle.vericon_decide.specs.Answers.{IsYes}
use Rattle.vericon_edge.specs.Told.{Told, MayHold}
use Rattle.command_words.specs.Call.{Call}
use Rattle.command_words.specs.declared.table.Command.{Command}
use Rattle.command_words.specs.declared.table.Command.TheVariants.{Check}
use Rattle.file_loads.specs.declared.read.FileKind.TheVariants.{Program}
use Rattle.file_loads.specs.Views.{Change}
use Rattle.file_loads.specs.Answers.{Answer, held, missing, longer, failed, File, FileMayAnswer}
use Rattle.file_loads.specs.Writes.{Write, MayWrite}
use Rattle.file_loads.specs.Explained.{IsExplained}
use Rattle.file_loads.specs.Outputs.{IsNone, With, was_value, was_refused, was_none}
use Rattle.file_loads.specs.Loads.{IsNotProgram}
use Rattle.file_loads.proofs.Explaining.{first_answer}
use Rattle.vericon_app.specs.Calls.{IsCheck, file_name, file_of, files_of, files_named, size_of, size_named, level_of, level_named, log_name, log_named}
use Rattle.vericon_app.specs.Check.{IsNotProven, is_broken, is_not_decided, has_no_network, ProgramOutput, is_proven, is_not_proven, CheckOutput}
use Rattle.vericon_app.specs.Output.{CommandOutput, Output, serves_none}
use Rattle.vericon_app.specs.Left.{Finishes, all, front}
use Rattle.vericon_app.specs.Verified.{IsVerified}

-- a check decided the program of the file's bytes; or they are none; or there are no bytes
pub data CheckEnds (change : Change) (size most : ℕ) (log : Option (List ℕ)) (name text : List ℕ) (status : ℕ) : Type 0 where
  of_program : (bytes : List ℕ) (P : Parts) (rest : List Answer) (write : Option Write) → MayHold (change.before.told name) bytes → Spells bytes P → MayWrite change write → ProgramOutput size most log P rest write text status → CheckEnds change size most log name text status
  of_no_program : (bytes : List ℕ) (at : ℕ) (why : ProgramWhy) → MayHold (change.before.told name) bytes → IsNoProgram bytes at why → status ≡ 3 → CheckEnds change size most log name text status
  of_none : (answer : Answer) → FileMayAnswer change (record { kind = Program; name = name }) answer → IsNone Program name answer text status → CheckEnds change size most log name text status

module _ (change : Change) (size most : ℕ) (log : Option (List ℕ)) (name text : List ℕ) (status : ℕ) where
  abbrev program_file : File
  program_file = record { kind = Program; name = name }

  ends_as : (answers : List Answer) (write : Option Write) → ((rest : List Answer) (answer : Answer) → answers ≡ answer ∷ rest → FileMayAnswer change program_file answer) → MayWrite change write → CheckOutput size most log name answers write text status → CheckEnds change size most log name text status
  ends_as answers write may writes (was_value bytes P rest is spells out) = of_program bytes P rest write (may rest (held bytes) is).0 spells writes out
  ends_as answers write may writes (was_refused bytes is none (at, why, refusal, text_is) status_is) = of_no_program bytes at why (may [] (held bytes) is).0 refusal status_is
  ends_as answers write may writes (was_none answer is none said) = of_none answer (may [] answer is) said

  check_ends : IsExplained change (program_file ∷ []) (CheckOutput size most log name) text status → CheckEnds change size most log name text status
  check_ends out = ends_as out.answers out.write (λ rest answer is. first_answer change program_file [] out.answers rest answer is out.answered) out.written out.said

-- the log that a call of `check` asks for
log_of_check : (asked : Option Call) (name : List ℕ) (check : IsCheck asked name) → log_named asked ≡ log_name Check check.call
log_of_check asked name check = ap log_named check.asked_is ∙ ap (λ (command : Command). log_name command check.call) check.command_is

-- .. and the highest level that it tries
level_of_check : (asked : Option Call) (name : List ℕ) (check : IsCheck asked name) → level_named asked ≡ level_of check.call
level_of_check asked name check = ap level_named check.asked_is

-- .. and the size by which it decides
size_of_check : (asked : Option Call) (name : List ℕ) (check : IsCheck asked name) → size_named asked ≡ size_of check.call
size_of_check asked name check = ap size_named check.asked_is

-- what a call of `check` comes to
pub checked : (asked : Option Call) (change : Change) (text : List ℕ) (status : ℕ) (name : List ℕ) → IsCheck asked name → IsExplained change (files_named asked) (Output serves_none asked) text status → CheckEnds change (size_named asked) (level_named asked) (log_named asked) name text status
checked asked change text status name check out =
    let size = size_of check.call in
    let most = level_of check.call in
    let said : IsExplained change (files_of check.call.command check.call) (CommandOutput serves_none check.call.command check.call) text status = subst (λ (a : Option Call). IsExplained change (files_named a) (Output serves_none a) text status) check.asked_is out in
    let here : IsExplained change (file_of Program check.call 0 ∷ []) (CheckOutput size most (log_name Check check.call) (file_name check.call 0)) text status =
    subst (λ (command : Command). IsExplained change (files_of command check.call) (CommandOutput serves_none command check.call) text status) check.command_is said in
    let named : IsExplained change (record { kind = Program; name = name } ∷ []) (CheckOutput size most (log_name Check check.call) name) text status =
    subst (λ (n : List ℕ). IsExplained change (record { kind = Program; name = n } ∷ []) (CheckOutput size most (log_name Check check.call) n) text status) check.name_is here in
    let logs : CheckEnds change size most (log_named asked) name text status =
    subst (λ (log : Option (List ℕ)). CheckEnds change size most log name text status) (sym (log_of_check asked name check)) (check_ends change size most (log_name Check check.call) name text status named) in
    let leveled : CheckEnds change size (level_named asked) (log_named asked) name text status =
    subst (λ (level : ℕ). CheckEnds change size level (log_named asked) name text status) (sym (level_of_check asked name check)) logs in
    subst (λ (n : ℕ). CheckEnds change n (level_named asked) (log_named asked) name text status) (sym (size_of_check asked name check)) leveled

-- ---- what a yes means

-- a program that isn't proven is told by another status than 0
pub not_proven_status : (size most : ℕ) (P : Parts) (text : List ℕ) (status : ℕ) → IsNotProven size most P text status → status ≡ 0 → ⊥
not_proven_status size most P text status (is_broken level index case counter shows status_is) zero_is = omega arith
not_proven_status size most P text status (is_not_decided level index why unknown line status_is) zero_is = omega arith
not_proven_status size most P text status (has_no_network proof unmet text_is status_is) zero_is = omega arith

-- a file without bytes is told by 3 or 5
pub none_status : (name text : List ℕ) (status : ℕ) (answer : Answer) → IsNone Program name answer text status → status ≡ 0 → ⊥
none_status name text status (held bytes) said zero_is = absurd said
none_status name text status missing said zero_is = let five = said.1 in omega (arith, five)
none_status name text status longer said zero_is = let three = said.1 in omega (arith, three)
none_status name text status failed said zero_is = let five = said.1 in omega (arith, five)

pub none_is_not_one : (name text : List ℕ) (status : ℕ) (answer : Answer) → IsNone Program name answer text status → status ≡ 1 → ⊥
none_is_not_one name text status (held bytes) said one_is = absurd said
none_is_not_one name text status missing said one_is = let five = said.1 in omega (arith, five)
none_is_not_one name text status longer said one_is = let three = said.1 in omega (arith, three)
none_is_not_one name text status failed said one_is = let five = said.1 in omega (arith, five)

proven_is_verified : (size most : ℕ) (told : Told) (bytes : List ℕ) (P : Parts) (level : ℕ) (proofs : List Proof) → MayHold told bytes → Spells bytes P → IsYes P size most level proofs → IsVerified most told
proven_is_verified size most told bytes P level proofs may spells proven =
    record { bytes = bytes; told_bytes = may; program = P; spells = spells; level = level; within = proven.within; inductive = proven.inductive; holds = sound P level proven.inductive; network = proven.met.network }

verified_program : (size most : ℕ) (log : Option (List ℕ)) (told : Told) (bytes text : List ℕ) (status : ℕ) (P : Parts) (rest : List Answer) (write : Option Write) → MayHold told bytes → Spells bytes P → ProgramOutput size most log P rest write text status → status ≡ 0 → IsVerified most told
verified_program size most log told bytes text status P rest write may spells (is_proven level proofs proven out) zero_is = proven_is_verified size most told bytes P level proofs may spells proven
verified_program size most log told bytes text status P rest write may spells (is_not_proven out) zero_is = absurd (not_proven_status size most P text status out.said zero_is)

verified_end : (change : Change) (size most : ℕ) (log : Option (List ℕ)) (name text : List ℕ) (status : ℕ) → CheckEnds change size most log name text status → status ≡ 0 → IsVerified most (change.before.told name)
verified_end change size most log name text status (of_program bytes P rest write may spells writes out) zero_is = verified_program size most log (change.before.told name) bytes text status P rest write may spells out zero_is
verified_end change size most log name text status (of_no_program bytes at why may refusal status_is) zero_is = absurd (omega arith)
verified_end change size most log name text status (of_none answer may said) zero_is = absurd (none_status name text status answer said zero_is)

-- a call of `check` that ends with 0 has written a yes
pub verified : (asked : Option Call) (change : Change) (text : List ℕ) (said : ℕ) (old new : Option (List ℕ)) (before after status : ℕ) (name : List ℕ)
    → IsExplained change (files_named asked) (Output serves_none asked) text said → Finishes text said old new before after status → IsCheck asked name → status ≡ 0 → IsVerified (level_named asked) (change.before.told name)
verified asked change text said old new before after status name out (all is grown steady) check zero_is =
    verified_end change (size_named asked) (level_named asked) (log_named asked) name text said (checked asked change text said name check out) (sym is ∙ zero_is)
verified asked change text said old new before after status name out (front is grown rose) check zero_is = absurd (omega arith)
