-- The outputs of all commands.
use Rattle.std.specs.Prelude.{◌≡◌, ℕ, List, Option, Some, None}
use Rattle.command_words.specs.declared.table.Command.{Command}
use Rattle.command_words.specs.declared.table.Command.TheVariants.{Check, Show, Eval, Trace, Conditions, Clauses, Frames, Make, Replay, Run}
use Rattle.command_words.specs.Call.{Call}
use Rattle.command_words.specs.Calls.{number_at}
use Rattle.file_loads.specs.Lines.{usage_text}
use Rattle.file_loads.specs.Answers.{Answer}
use Rattle.file_loads.specs.Writes.{Write}
use Rattle.file_loads.specs.Outputs.{Then}
use Rattle.vericon_app.specs.Calls.{file_name, count_of, session_of, level_of, size_of, condition_level, log_name}
use Rattle.vericon_app.specs.Check.{CheckOutput}
use Rattle.vericon_app.specs.Show.{ShowOutput}
use Rattle.vericon_app.specs.Eval.{EvalOutput}
use Rattle.vericon_app.specs.Conditions.{ConditionsOutput}
use Rattle.vericon_app.specs.Trace.{TraceOutput}
use Rattle.vericon_app.specs.Frames.{FramesOutput}
use Rattle.vericon_app.specs.Clauses.{ClausesOutput}
use Rattle.vericon_app.specs.Make.{MakeOutput}
use Rattle.vericon_app.specs.Replay.{ReplayOutput}

-- what a call may print, and its status, by what its reads answered and what it wrote
abbrev pub MayPrint : Type 1
MayPrint = List Answer → Option Write → List ℕ → ℕ → Type 0

-- `usage`, with status 6
abbrev pub IsUsage : List ℕ → ℕ → Type 0
IsUsage text status = (text ≡ usage_text) × (status ≡ 6)

-- what a call of the command may print; where the command is `run`, that is given
abbrev pub CommandOutput : (Call → MayPrint) → Command → Call → MayPrint
CommandOutput run Check call = CheckOutput (size_of call) (level_of call) (log_name Check call) (file_name call 0)
CommandOutput run Show call = ShowOutput (file_name call 0)
CommandOutput run Eval call = EvalOutput (condition_level call) (number_at call.operands 3) (file_name call 0) (file_name call 1)
CommandOutput run Trace call = TraceOutput (file_name call 0) (file_name call 1) (file_name call 2)
CommandOutput run Conditions call = ConditionsOutput (size_of call) (level_of call) (file_name call 0)
CommandOutput run Clauses call = ClausesOutput (file_name call 0)
CommandOutput run Frames call = FramesOutput (file_name call 0)
CommandOutput run Make call = MakeOutput (count_of call) (file_name call 1)
CommandOutput run Replay call = ReplayOutput (file_name call 0) (file_name call 1) (file_name call 2) (session_of call) (file_name call 4)
CommandOutput run Run call = run call

-- what a call with these words may print
abbrev pub Output : (Call → MayPrint) → Option Call → MayPrint
Output run None = Then IsUsage
Output run (Some call) = CommandOutput run call.command call

-- to a call that serves no sessions the words of `run` are those of no command
abbrev pub serves_none : Call → MayPrint
serves_none call = Then IsUsage
