-- The output of `run`.
use Rattle.std.specs.Prelude.{◌≡◌, ℕ, List, [], ◌∷◌, ◌++◌, Option, Some, None, codes}
use Rattle.csdn_core.specs.declared.event.Packet.TheVariants.{Nothing}
use Rattle.csdn_core.specs.declared.program.Parts.{Parts}
use Rattle.csdn_core.specs.Network.{Network, structure}
use Rattle.csdn_core.specs.Run.{empty_state}
use Rattle.csdn_history.specs.declared.entry.Entry.{Entry}
use Rattle.csdn_read.specs.Programs.{Spells}
use Rattle.csdn_run.specs.Histories.{running}
use Rattle.net_listing.specs.Falses.{first_false}
use Rattle.vericon_decide.specs.declared.verdict.Proof.{Proof}
use Rattle.vericon_decide.specs.Answers.{IsYes}
use Rattle.answer_listing.specs.Words.{yes_text}
use Rattle.session_workers.specs.declared.row.Row.{Row}
use Rattle.session_workers.specs.declared.terms.Terms.{Terms}
use Rattle.session_workers.specs.declared.halt.Halt.{Halt}
use Rattle.command_words.specs.Call.{Call}
use Rattle.file_loads.specs.Answers.{Answer, held}
use Rattle.file_loads.specs.Writes.{Write}
use Rattle.file_loads.specs.Outputs.{Then}
use Rattle.file_loads.specs.Loads.{WithProgram}
use Rattle.file_loads.specs.Networks.{IsOpenNetwork, WithNetwork}
use Rattle.vericon_app.specs.Calls.{file_name, level_of, size_of}
use Rattle.vericon_app.specs.Check.{IsNotProven}
use Rattle.vericon_app.specs.Output.{MayPrint}
use Rattle.vericon_run.specs.Runs.{HasServed, ListenerView, accepted_text, is_fault, status_of}
use Rattle.vericon_run.specs.Words.{AreTerms, room_of}

-- ---- where nothing is served

-- the name of the first topology invariant that is false in a network
abbrev pub first_broken : Parts → Network → Option (List ℕ)
first_broken P N = first_false (structure P N empty_state Nothing) P.topology

-- `NET breaks NAME`
abbrev pub breaks_text : List ℕ → List ℕ → List ℕ
breaks_text net name = net ++ codes " breaks " ++ name ++ codes "\n"

-- the network breaks a topology invariant
pub record IsBroken (P : Parts) (net : List ℕ) (N : Network) (text : List ℕ) (status : ℕ) : Type 0 where
  pub name : List ℕ
  pub first : first_broken P N ≡ Some name
  pub text_is : text ≡ breaks_text net name
  pub status_is : status ≡ 3

-- of a program that is proven: its network isn't read, or breaks a topology invariant
abbrev pub UnservedNetwork : Parts → List ℕ → MayPrint
UnservedNetwork P net = WithNetwork P net (λ N. Then (IsBroken P net N))

-- of a program: it isn't proven, and no network is read; or it is
pub data UnservedProgram (size most : ℕ) (net : List ℕ) (P : Parts) (answers : List Answer) (write : Option Write) (text : List ℕ) (status : ℕ) : Type 0 where
  is_not_proven : Then (IsNotProven size most P) answers write text status → UnservedProgram size most net P answers write text status
  is_proven : (level : ℕ) (proofs : List Proof) → IsYes P size most level proofs → UnservedNetwork P net answers write text status → UnservedProgram size most net P answers write text status

-- a call of `run` that serves nobody
abbrev pub Unserved : Call → MayPrint
Unserved call = WithProgram (file_name call 0) (UnservedProgram (size_of call) (level_of call) (file_name call 1))

-- ---- where sessions are served

-- The bytes of the two files are a program that is proven at this level, and a network over which it is served, which breaks no topology invariant.
pub record IsAdmitted (size most : ℕ) (bytes net : List ℕ) (P : Parts) (N : Network) (level : ℕ) : Type 0 where
  pub spells : Spells bytes P
  pub proofs : List Proof
  pub proven : IsYes P size most level proofs
  pub reads : IsOpenNetwork P net N
  pub unbroken : first_broken P N ≡ None

-- A call of `run` that serves: the yes is printed, and then the sessions that were served along this history, and the history, and `listen fault`
-- where the listener failed.
pub record Served (l l' : ListenerView) (history : List Entry) (call : Call) (answers : List Answer) (write : Option Write) (text : List ℕ) (status : ℕ) : Type 0 where
  pub bytes : List ℕ
  pub net : List ℕ
  pub answers_are : answers ≡ held bytes ∷ held net ∷ []
  pub no_write : write ≡ None
  pub program : Parts
  pub network : Network
  pub level : ℕ
  pub admitted : IsAdmitted (size_of call) (level_of call) bytes net program network level
  pub terms : Terms
  pub terms_are : AreTerms call terms
  pub rows : List Row
  pub halt : Halt
  pub served : HasServed terms (running program network (room_of call) []) history rows halt l l'
  pub text_is : text ≡ accepted_text (yes_text level) rows history (is_fault halt)
  pub status_is : status ≡ status_of halt

-- ---- both

-- nobody was served: the listener tells what it told, and nothing was entered
pub record IsIdle (l l' : ListenerView) (history : List Entry) : Type 0 where
  pub same : l' ≡ l
  pub none : history ≡ []

-- `run PROGRAM NET`, by what the listener tells before and after, and the history
pub data RunOutput (l l' : ListenerView) (history : List Entry) (call : Call) (answers : List Answer) (write : Option Write) (text : List ℕ) (status : ℕ) : Type 0 where
  is_unserved : IsIdle l l' history → Unserved call answers write text status → RunOutput l l' history call answers write text status
  is_served : Served l l' history call answers write text status → RunOutput l l' history call answers write text status
