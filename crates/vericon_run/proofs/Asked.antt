-- Words that ask for a run.
use Rattle.std.proofs.Common.{◌≡◌, ℕ, if◌then◌else◌, List, length, Option, Some, None, sym, ◌∙◌, ap, subst, refl}
use Rattle.std.proofs.lemmas.Option.{same_Some}
use Rattle.command_words.specs.declared.table.Command.{Command}
use Rattle.command_words.specs.declared.table.Command.TheVariants.{Check, Show, Eval, Trace, Conditions, Clauses, Frames, Make, Replay, Run}
use Rattle.command_words.specs.Call.{Call}
use Rattle.command_words.specs.Calls.{if_serves, serves}
use Rattle.file_loads.specs.Status.{code_of}
use Rattle.file_loads.specs.Views.{Change, OnlyReads}
use Rattle.file_loads.specs.Explained.{IsExplained}
use Rattle.vericon_app.specs.Calls.{files_named, files_of}
use Rattle.vericon_app.specs.Output.{CommandOutput, MayPrint, Output}
use Rattle.vericon_run.specs.declared.prepared.Prepared.{Prepared}
use Rattle.vericon_run.specs.declared.prepared.Prepared.TheVariants.{Ready, Told}
use Rattle.vericon_run.specs.Outputs.{Unserved}
use Rattle.vericon_run.specs.Starts.{IsPrepared, IsStartAsked, IsStartFor, run_files}

-- a call that is asked for, where there is one, is of `run`
abbrev pub AsksRun : Option Call → Type 0
AsksRun asked = (call : Call) → asked ≡ Some call → call.command ≡ Run

serving : (c call : Call) (command : Command) → c.command ≡ command → (if serves command then Some c else None) ≡ Some call → call.command ≡ Run
serving c call Check same is = absurd cc
serving c call Show same is = absurd cc
serving c call Eval same is = absurd cc
serving c call Trace same is = absurd cc
serving c call Conditions same is = absurd cc
serving c call Clauses same is = absurd cc
serving c call Frames same is = absurd cc
serving c call Make same is = absurd cc
serving c call Replay same is = absurd cc
serving c call Run same is = ap (λ (d : Call). d.command) (sym (same_Some c call is)) ∙ same

pub asks_run : (asked : Option Call) → AsksRun (if_serves asked)
asks_run None call is = absurd cc
asks_run (Some c) call is = serving c call c.command refl is

module _ (asked : Option Call) (call : Call) (asked_is : asked ≡ Some call) (command_is : call.command ≡ Run) where
  -- what is explained of a run's files is explained of those that the words name
  pub as_asked : (change : Change) (run : Call → MayPrint) (text : List ℕ) (status : ℕ) → IsExplained change (run_files call) (run call) text status → IsExplained change (files_named asked) (Output run asked) text status
  as_asked change run text status out =
      let of_command : IsExplained change (files_of call.command call) (CommandOutput run call.command call) text status =
      subst (λ (command : Command). IsExplained change (files_of command call) (CommandOutput run command call) text status) (sym command_is) out in
      subst (λ (a : Option Call). IsExplained change (files_named a) (Output run a) text status) (sym asked_is) of_command

  -- .. and the other way round
  pub as_called : (change : Change) (run : Call → MayPrint) (text : List ℕ) (status : ℕ) → IsExplained change (files_named asked) (Output run asked) text status → IsExplained change (run_files call) (run call) text status
  as_called change run text status out =
      let of_command : IsExplained change (files_of call.command call) (CommandOutput run call.command call) text status =
      subst (λ (a : Option Call). IsExplained change (files_named a) (Output run a) text status) asked_is out in
      subst (λ (command : Command). IsExplained change (files_of command call) (CommandOutput run command call) text status) command_is of_command

  -- so many files are read at most
  pub reads_asked : (change : Change) → OnlyReads 2 change → OnlyReads (length (files_named asked)) change
  reads_asked change reads =
      let of_command : OnlyReads (length (files_of call.command call)) change = subst (λ (command : Command). OnlyReads (length (files_of command call)) change) (sym command_is) reads in
      subst (λ (a : Option Call). OnlyReads (length (files_named a)) change) (sym asked_is) of_command

  pub reads_called : (change : Change) → OnlyReads (length (files_named asked)) change → OnlyReads 2 change
  reads_called change reads =
      let of_command : OnlyReads (length (files_of call.command call)) change = subst (λ (a : Option Call). OnlyReads (length (files_named a)) change) asked_is reads in
      subst (λ (command : Command). OnlyReads (length (files_of command call)) change) command_is of_command

  pub prepared_asked : (change : Change) (p : Prepared) → IsPrepared change (run_files call) (Unserved call) (IsStartFor change call) p → IsPrepared change (files_named asked) (Output Unserved asked) (IsStartAsked change asked) p
  prepared_asked change (Ready start) is = record { call = call; asked_is = asked_is; by = is }
  prepared_asked change (Told outcome) is = as_asked change Unserved outcome.text.items (code_of outcome.status) is
