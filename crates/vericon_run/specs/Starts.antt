-- What is prepared before the listener is used.
use Rattle.std.specs.Prelude.{◌≡◌, ℕ, List, [], ◌∷◌, Option, Some, None}
use Rattle.csdn_core.specs.declared.program.Parts.{Parts}
use Rattle.csdn_core.specs.Network.{IsNetwork, Network}
use Rattle.csdn_read.specs.Programs.{Spells}
use Rattle.csdn_run.specs.Histories.{running}
use Rattle.vericon_decide.specs.declared.verdict.Proof.{Proof}
use Rattle.vericon_decide.specs.Answers.{IsYes}
use Rattle.answer_listing.specs.Words.{yes_text}
use Rattle.command_words.specs.Call.{Call}
use Rattle.file_loads.specs.declared.read.FileKind.TheVariants as kind
use Rattle.file_loads.specs.declared.outcome.Outcome.{Outcome}
use Rattle.file_loads.specs.Status.{code_of}
use Rattle.file_loads.specs.Views.{Change}
use Rattle.file_loads.specs.Answers.{File}
use Rattle.file_loads.specs.Explained.{IsExplained}
use Rattle.file_loads.specs.Gives.{IsValueOf}
use Rattle.file_loads.specs.Networks.{IsOpenNetwork}
use Rattle.vericon_app.specs.Calls.{file_name, file_of, level_of, size_of}
use Rattle.vericon_app.specs.Output.{MayPrint}
use Rattle.vericon_run.specs.declared.order.Order.{Order}
use Rattle.vericon_run.specs.declared.prepared.Start.{Start}
use Rattle.vericon_run.specs.declared.prepared.Prepared.{Prepared}
use Rattle.vericon_run.specs.declared.prepared.Prepared.TheVariants.{Ready, Told}
use Rattle.vericon_run.specs.Words.{AreTerms, room_of}
use Rattle.vericon_run.specs.Outputs.{IsBroken, first_broken}

-- what a call of `run` asks for
pub record IsOrder (call : Call) (order : Order) : Type 0 where
  pub size : order.size ≡ size_of call
  pub most : order.most ≡ level_of call
  pub room : order.room ≡ room_of call
  pub terms : AreTerms call order.terms

-- a topology invariant that is false is told of, where there is one
abbrev pub IsBreach : Parts → List ℕ → Network → Option Outcome → Type 0
IsBreach P net N None = first_broken P N ≡ None
IsBreach P net N (Some outcome) = IsBroken P net N outcome.text.items (code_of outcome.status)

-- The start of a run of a program at this level, over a network that breaks no topology invariant: its runtime, and the yes.
pub record IsStartOver (order : Order) (P : Parts) (N : Network) (level : ℕ) (start : Start) : Type 0 where
  pub of_program : IsNetwork P N
  pub unbroken : first_broken P N ≡ None
  pub runtime : start.runtime ≡ running P N order.room []
  pub first : start.first.items ≡ yes_text level
  pub terms : start.terms ≡ order.terms

-- .. over the network of a file
pub record IsStartOf (change : Change) (order : Order) (P : Parts) (net : List ℕ) (level : ℕ) (start : Start) : Type 0 where
  pub network : Network
  pub of_file : IsValueOf change kind.Network net (IsOpenNetwork P) network
  pub over : IsStartOver order P network level start

-- .. of a program that is proven at some level
pub record IsProvenStart (change : Change) (order : Order) (P : Parts) (net : List ℕ) (start : Start) : Type 0 where
  pub level : ℕ
  pub proofs : List Proof
  pub proven : IsYes P order.size order.most level proofs
  pub by : IsStartOf change order P net level start

-- .. which is the program of a file
pub record IsStartFrom (change : Change) (order : Order) (name net : List ℕ) (start : Start) : Type 0 where
  pub program : Parts
  pub of_file : IsValueOf change kind.Program name Spells program
  pub by : IsProvenStart change order program net start

-- .. which the call names
pub record IsStartFor (change : Change) (call : Call) (start : Start) : Type 0 where
  pub order : Order
  pub order_is : IsOrder call order
  pub by : IsStartFrom change order (file_name call 0) (file_name call 1) start

-- .. which the words name
pub record IsStartAsked (change : Change) (asked : Option Call) (start : Start) : Type 0 where
  pub call : Call
  pub asked_is : asked ≡ Some call
  pub by : IsStartFor change call start

-- the start of a run of a program over a network; or why there is none
abbrev pub IsPreparedOver : Order → Parts → List ℕ → Network → ℕ → Prepared → Type 0
IsPreparedOver order P net N level (Ready start) = IsStartOver order P N level start
IsPreparedOver order P net N level (Told outcome) = IsBroken P net N outcome.text.items (code_of outcome.status)

-- a start; or what is told where nobody is served
abbrev pub IsPrepared : Change → List File → MayPrint → (Start → Type 0) → Prepared → Type 0
IsPrepared change files told is_start (Ready start) = is_start start
IsPrepared change files told is_start (Told outcome) = IsExplained change files told outcome.text.items (code_of outcome.status)

-- the files that a call of `run` reads
abbrev pub run_files : Call → List File
run_files call = file_of kind.Program call 0 ∷ file_of kind.Network call 1 ∷ []
