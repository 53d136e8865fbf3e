-- What a run leaves that has served nobody.
use Rattle.std.proofs.Common.{ℕ, ◌<◌, List, [], Option, Some, None, subst, refl, arith}
use Rattle.command_words.specs.declared.table.Command.{Command}
use Rattle.command_words.specs.declared.table.Command.TheVariants.{Check, Show, Eval, Trace, Conditions, Clauses, Frames, Make, Replay, Run}
use Rattle.command_words.specs.Call.{Call}
use Rattle.csdn_core.specs.declared.program.Parts.{Parts}
use Rattle.file_loads.specs.declared.read.FileKind.{FileKind}
use Rattle.file_loads.specs.declared.read.FileKind.TheVariants.{Network, Program}
use Rattle.file_loads.specs.Lines.{memory_text}
use Rattle.file_loads.specs.Views.{Change}
use Rattle.file_loads.specs.Answers.{Answer, held, missing, longer, failed}
use Rattle.file_loads.specs.Writes.{Write}
use Rattle.file_loads.specs.Explained.{IsExplained}
use Rattle.file_loads.specs.Outputs.{IsNone, was_value, was_refused, was_none}
use Rattle.file_loads.proofs.Explaining.{said_so}
use Rattle.vericon_app.specs.Calls.{file_name, files_named, level_of, size_of}
use Rattle.vericon_app.specs.Check.{IsNotProven, is_broken, is_not_decided, has_no_network}
use Rattle.vericon_app.specs.Left as left
use Rattle.vericon_app.specs.Left.{Finishes, all, front}
use Rattle.vericon_app.specs.Output.{CommandOutput, Output}
use Rattle.vericon_app.proofs.Outputs.{finished}
use Rattle.vericon_run.specs.Runs.{ListenerView}
use Rattle.vericon_run.specs.Outputs.{RunOutput, Unserved, UnservedNetwork, UnservedProgram, is_not_proven, is_proven, is_unserved}
use Rattle.vericon_run.specs.Left.{HasCause, HasRunLeft, has_left}
use Rattle.vericon_run.proofs.Asked.{AsksRun}

-- ---- what was printed

module _ (l : ListenerView) where
  idle_command : (command : Command) (call : Call) (answers : List Answer) (write : Option Write) (text : List ℕ) (status : ℕ) → CommandOutput Unserved command call answers write text status → CommandOutput (RunOutput l l []) command call answers write text status
  idle_command Check call answers write text status out = out
  idle_command Show call answers write text status out = out
  idle_command Eval call answers write text status out = out
  idle_command Trace call answers write text status out = out
  idle_command Conditions call answers write text status out = out
  idle_command Clauses call answers write text status out = out
  idle_command Frames call answers write text status out = out
  idle_command Make call answers write text status out = out
  idle_command Replay call answers write text status out = out
  idle_command Run call answers write text status out = is_unserved (record { same = refl; none = refl }) out

  idle : (asked : Option Call) (answers : List Answer) (write : Option Write) (text : List ℕ) (status : ℕ) → Output Unserved asked answers write text status → Output (RunOutput l l []) asked answers write text status
  idle None answers write text status out = out
  idle (Some call) answers write text status out = idle_command call.command call answers write text status out

  -- what is told is left
  pub told_left : (asked : Option Call) (change : Change) (text : List ℕ) (given : ℕ) (old new : Option (List ℕ)) (before after status : ℕ) → IsExplained change (files_named asked) (Output Unserved asked) text given → Finishes text given old new before after status
      → HasRunLeft (IsExplained change (files_named asked) (Output (RunOutput l l []) asked)) old new before after status
  told_left asked change text given old new before after status out finishes =
      has_left (finished (IsExplained change (files_named asked) (Output (RunOutput l l []) asked)) text given old new before after status
      (said_so change (files_named asked) (Output Unserved asked) (Output (RunOutput l l []) asked) text given (λ answers write said. idle asked answers write text given said) out) finishes)

-- .. or the line `memory`
pub memory_left : (output : List ℕ → ℕ → Type 0) (old new : Option (List ℕ)) (before after status : ℕ) → Finishes memory_text 7 old new before after status → HasRunLeft output old new before after status
memory_left output old new before after status (all is grown same) = has_left (left.no_memory is grown same)
memory_left output old new before after status (front is grown rose) = has_left (left.cut_memory is grown rose)

-- ---- its status

abbrev pub IsRefusal : ℕ → Type 0
IsRefusal status = (0 < status) × (status < 7)

none_refuses : (kind : FileKind) (name : List ℕ) (answer : Answer) (text : List ℕ) (status : ℕ) → IsNone kind name answer text status → IsRefusal status
none_refuses kind name (held bytes) text status said = absurd said
none_refuses kind name missing text status said = let five = said.1 in (omega (arith, five), omega (arith, five))
none_refuses kind name longer text status said = let three = said.1 in (omega (arith, three), omega (arith, three))
none_refuses kind name failed text status said = let five = said.1 in (omega (arith, five), omega (arith, five))

not_proven_refuses : (size most : ℕ) (P : Parts) (text : List ℕ) (status : ℕ) → IsNotProven size most P text status → IsRefusal status
not_proven_refuses size most P text status (is_broken level index case counter shows status_is) = (omega (arith, status_is), omega (arith, status_is))
not_proven_refuses size most P text status (is_not_decided level index why unknown line status_is) = (omega (arith, status_is), omega (arith, status_is))
not_proven_refuses size most P text status (has_no_network proof unmet text_is status_is) = (omega (arith, status_is), omega (arith, status_is))

network_refuses : (P : Parts) (net : List ℕ) (answers : List Answer) (write : Option Write) (text : List ℕ) (status : ℕ) → UnservedNetwork P net answers write text status → IsRefusal status
network_refuses P net answers write text status (was_value bytes N rest is reads out) = let three = out.said.status_is in (omega (arith, three), omega (arith, three))
network_refuses P net answers write text status (was_refused bytes is none refused status_is) = (omega (arith, status_is), omega (arith, status_is))
network_refuses P net answers write text status (was_none answer is none said) = none_refuses Network net answer text status said

program_refuses : (size most : ℕ) (net : List ℕ) (P : Parts) (answers : List Answer) (write : Option Write) (text : List ℕ) (status : ℕ) → UnservedProgram size most net P answers write text status → IsRefusal status
program_refuses size most net P answers write text status (is_not_proven out) = not_proven_refuses size most P text status out.said
program_refuses size most net P answers write text status (is_proven level proofs proven out) = network_refuses P net answers write text status out

call_refuses : (call : Call) (answers : List Answer) (write : Option Write) (text : List ℕ) (status : ℕ) → Unserved call answers write text status → IsRefusal status
call_refuses call answers write text status (was_value bytes P rest is spells out) = program_refuses (size_of call) (level_of call) (file_name call 1) P rest write text status out
call_refuses call answers write text status (was_refused bytes is none refused status_is) = (omega (arith, status_is), omega (arith, status_is))
call_refuses call answers write text status (was_none answer is none said) = none_refuses Program (file_name call 0) answer text status said

refuses : (asked : Option Call) → AsksRun asked → (answers : List Answer) (write : Option Write) (text : List ℕ) (status : ℕ) → Output Unserved asked answers write text status → IsRefusal status
refuses None only answers write text status out = let six = out.said.1 in (omega (arith, six), omega (arith, six))
refuses (Some call) only answers write text status out =
    call_refuses call answers write text status (subst (λ (command : Command). CommandOutput Unserved command call answers write text status) (only call refl) out)

-- what is told is told with a status of its own, or with 8
pub told_cause : (asked : Option Call) (only : AsksRun asked) (change : Change) (l : ListenerView) (text : List ℕ) (given : ℕ) (old new : Option (List ℕ)) (before after status : ℕ) → IsExplained change (files_named asked) (Output Unserved asked) text given
    → Finishes text given old new before after status → HasCause asked l l before after status
told_cause asked only change l text given old new before after status out (all is grown same) =
    let r = refuses asked only out.answers out.write text given out.said in
    let low = r.0 in
    let high = r.1 in
    record { done = λ zero_is. absurd (omega (arith, zero_is, is, low)); listen_fault = λ nine. absurd (omega (arith, nine, is, high)); write_fault = λ eight. absurd (omega (arith, eight, is, high)) }
told_cause asked only change l text given old new before after status out (front is grown rose) =
    record { done = λ zero_is. absurd (omega (arith, zero_is, is)); listen_fault = λ nine. absurd (omega (arith, nine, is)); write_fault = λ eight. rose }

pub memory_cause : (asked : Option Call) (l : ListenerView) (old new : Option (List ℕ)) (before after status : ℕ) → Finishes memory_text 7 old new before after status → HasCause asked l l before after status
memory_cause asked l old new before after status (all is grown same) =
    record { done = λ zero_is. absurd (omega (arith, zero_is, is)); listen_fault = λ nine. absurd (omega (arith, nine, is)); write_fault = λ eight. absurd (omega (arith, eight, is)) }
memory_cause asked l old new before after status (front is grown rose) =
    record { done = λ zero_is. absurd (omega (arith, zero_is, is)); listen_fault = λ nine. absurd (omega (arith, nine, is)); write_fault = λ eight. rose }
