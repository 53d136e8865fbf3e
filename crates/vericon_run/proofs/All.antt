-- The calls of all commands as one.
use Rattle.std.proofs.Common.{◌≡◌, ℕ, if◌then◌else◌, List, Option, Some, None, subst, refl}
use Rattle.command_words.specs.declared.table.Command.{Command}
use Rattle.command_words.specs.declared.table.Command.TheVariants.{Check, Show, Eval, Trace, Conditions, Clauses, Frames, Make, Replay, Run}
use Rattle.command_words.specs.Call.{Call}
use Rattle.command_words.specs.Calls.{if_serves, serves, unless_serves}
use Rattle.file_loads.specs.Views.{Change}
use Rattle.file_loads.specs.Answers.{Answer}
use Rattle.file_loads.specs.Writes.{Write}
use Rattle.file_loads.specs.Explained.{IsExplained}
use Rattle.file_loads.proofs.Explaining.{said_so}
use Rattle.vericon_app.specs.Calls.{files_named}
use Rattle.vericon_app.specs.Output.{CommandOutput, MayPrint, Output, serves_none}
use Rattle.vericon_app.specs.Left as left
use Rattle.vericon_app.specs.Left.{HasLeft}
use Rattle.vericon_run.specs.Left.{HasRunLeft, has_left}

-- a call of `run` is one that serves, and another is one that doesn't
serves_all : (c : Call) (command : Command) → c.command ≡ command → (if serves command then Some c else None) ≡ None → (if serves command then None else Some c) ≡ Some c
serves_all c Check same is = refl
serves_all c Show same is = refl
serves_all c Eval same is = refl
serves_all c Trace same is = refl
serves_all c Conditions same is = refl
serves_all c Clauses same is = refl
serves_all c Frames same is = refl
serves_all c Make same is = refl
serves_all c Replay same is = refl
serves_all c Run same is = absurd cc

pub unserving : (asked : Option Call) → if_serves asked ≡ None → unless_serves asked ≡ asked
unserving None is = refl
unserving (Some c) is = serves_all c c.command refl is

serves_some : (c call : Call) (command : Command) → (if serves command then Some c else None) ≡ Some call → (if serves command then Some c else None) ≡ Some c
serves_some c call Check is = absurd cc
serves_some c call Show is = absurd cc
serves_some c call Eval is = absurd cc
serves_some c call Trace is = absurd cc
serves_some c call Conditions is = absurd cc
serves_some c call Clauses is = absurd cc
serves_some c call Frames is = absurd cc
serves_some c call Make is = absurd cc
serves_some c call Replay is = absurd cc
serves_some c call Run is = refl

pub serving : (asked : Option Call) (call : Call) → if_serves asked ≡ Some call → if_serves asked ≡ asked
serving None call is = refl
serving (Some c) call is = serves_some c call c.command is

-- .. whose output is that of its command
other_command : (run : Call → MayPrint) (command : Command) (call : Call) (answers : List Answer) (write : Option Write) (text : List ℕ) (status : ℕ) → (if serves command then Some call else None) ≡ None
    → CommandOutput serves_none command call answers write text status → CommandOutput run command call answers write text status
other_command run Check call answers write text status is out = out
other_command run Show call answers write text status is out = out
other_command run Eval call answers write text status is out = out
other_command run Trace call answers write text status is out = out
other_command run Conditions call answers write text status is out = out
other_command run Clauses call answers write text status is out = out
other_command run Frames call answers write text status is out = out
other_command run Make call answers write text status is out = out
other_command run Replay call answers write text status is out = out
other_command run Run call answers write text status is out = absurd cc

other_output : (run : Call → MayPrint) (asked : Option Call) (answers : List Answer) (write : Option Write) (text : List ℕ) (status : ℕ) → if_serves asked ≡ None → Output serves_none asked answers write text status → Output run asked answers write text status
other_output run None answers write text status is out = out
other_output run (Some call) answers write text status is out = other_command run call.command call answers write text status is out

module _ (run : Call → MayPrint) (asked : Option Call) (change : Change) (old new : Option (List ℕ)) (before after status : ℕ) where
  other_explained : (text : List ℕ) (given : ℕ) → if_serves asked ≡ None → IsExplained change (files_named asked) (Output serves_none asked) text given → IsExplained change (files_named asked) (Output run asked) text given
  other_explained text given is out = said_so change (files_named asked) (Output serves_none asked) (Output run asked) text given (λ answers write said. other_output run asked answers write text given is said) out

  others : if_serves asked ≡ None → HasLeft (IsExplained change (files_named asked) (Output serves_none asked)) old new before after status → HasLeft (IsExplained change (files_named asked) (Output run asked)) old new before after status
  others is (left.whole text out grown same) = left.whole text (other_explained text status is out) grown same
  others is (left.no_memory seven grown same) = left.no_memory seven grown same
  others is (left.cut text other out eight grown rose) = left.cut text other (other_explained text other is out) eight grown rose
  others is (left.cut_memory eight grown rose) = left.cut_memory eight grown rose

  pub left_by_others : if_serves asked ≡ None → HasLeft (IsExplained change (files_named (unless_serves asked)) (Output serves_none (unless_serves asked))) old new before after status
      → HasRunLeft (IsExplained change (files_named asked) (Output run asked)) old new before after status
  left_by_others is out =
      has_left (others is (subst (λ (a : Option Call). HasLeft (IsExplained change (files_named a) (Output serves_none a)) old new before after status) (unserving asked is) out))

  pub left_by_run : (call : Call) → if_serves asked ≡ Some call → HasRunLeft (IsExplained change (files_named (if_serves asked)) (Output run (if_serves asked))) old new before after status
      → HasRunLeft (IsExplained change (files_named asked) (Output run asked)) old new before after status
  left_by_run call is out = subst (λ (a : Option Call). HasRunLeft (IsExplained change (files_named a) (Output run a)) old new before after status) (serving asked call is) out
