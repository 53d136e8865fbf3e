-- From what the parts of a call ensure to what the call ensures.
use Rattle.std.proofs.Common.{◌≡◌, ℕ, List, Option, None, sym, subst}
use Rattle.command_words.specs.declared.table.Command.{Command}
use Rattle.command_words.specs.declared.table.Command.TheVariants.{Run}
use Rattle.command_words.specs.Call.{Call}
use Rattle.file_loads.specs.Views.{View}
use Rattle.file_loads.specs.Explained.{IsExplained}
use Rattle.file_loads.proofs.Explaining.{unread, unread_of}
use Rattle.vericon_app.specs.Calls.{files_named, files_of}
use Rattle.vericon_app.specs.Output.{CommandOutput, IsUsage, MayPrint, Output, serves_none}
use Rattle.vericon_app.specs.Left.{HasLeft, whole, cut, Finishes, all, front}

-- words that are the call of no command
pub unasked : (run : Call → MayPrint) (asked : Option Call) (view : View) (text : List ℕ) (status : ℕ) → asked ≡ None → IsUsage text status → IsExplained (record { before = view; after = view }) (files_named asked) (Output run asked) text status
unasked run asked view text status none said = subst (λ (a : Option Call). IsExplained (record { before = view; after = view }) (files_named a) (Output run a) text status) (sym none) (unread IsUsage view text status said)

-- a call of `run`, where nobody is served
pub unserved : (call : Call) (view : View) (text : List ℕ) (status : ℕ) → call.command ≡ Run → IsUsage text status
    → IsExplained (record { before = view; after = view }) (files_of call.command call) (CommandOutput serves_none call.command call) text status
unserved call view text status is said =
    subst (λ (command : Command). IsExplained (record { before = view; after = view }) (files_of command call) (CommandOutput serves_none command call) text status) (sym is) (unread_of (files_of Run call) IsUsage view text status said)

-- a text that was written, or cut off, is what is left
pub finished : (output : List ℕ → ℕ → Type 0) (text : List ℕ) (given : ℕ) (old new : Option (List ℕ)) (before after status : ℕ) → output text given → Finishes text given old new before after status → HasLeft output old new before after status
finished output text given old new before after status said (all is grown steady) = whole text (subst (λ (n : ℕ). output text n) (sym is) said) grown steady
finished output text given old new before after status said (front is grown rose) = cut text given said is grown rose
