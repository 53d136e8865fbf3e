-- From step to step of what is prepared before the listener is used.
use Rattle.std.proofs.Common.{◌≡◌, ℕ, ◌≤◌, List, [], ◌∷◌, length, subst}
use Rattle.csdn_core.specs.declared.program.Parts.{Parts}
use Rattle.csdn_core.specs.Network.{Network}
use Rattle.csdn_read.specs.Programs.{Spells}
use Rattle.vericon_decide.specs.declared.verdict.Proof.{Proof}
use Rattle.vericon_decide.specs.Answers.{IsYes}
use Rattle.vericon_edge.specs.Told.{Told, MayHold}
use Rattle.command_words.specs.Call.{Call}
use Rattle.file_loads.specs.declared.read.FileKind.{FileKind}
use Rattle.file_loads.specs.declared.read.FileKind.TheVariants as kind
use Rattle.file_loads.specs.Status.{code_of}
use Rattle.file_loads.specs.Views.{View, Change, OnlyReads}
use Rattle.file_loads.specs.Answers.{File, longest}
use Rattle.file_loads.specs.Explained.{IsExplained}
use Rattle.file_loads.specs.Gives.{IsValueOf}
use Rattle.file_loads.specs.Loads.{IsNotProgram, WithProgram}
use Rattle.file_loads.specs.Networks.{IsOpenNetwork, IsNoOpenNetwork}
use Rattle.file_loads.proofs.Explaining.{at_last, behind, said_so}
use Rattle.vericon_app.specs.Calls.{file_name, level_of, size_of}
use Rattle.vericon_run.specs.declared.order.Order.{Order}
use Rattle.vericon_run.specs.declared.prepared.Prepared.{Prepared}
use Rattle.vericon_run.specs.declared.prepared.Prepared.TheVariants.{Ready, Told as Telling}
use Rattle.vericon_run.specs.declared.prepared.Start.{Start}
use Rattle.vericon_run.specs.Outputs.{IsBroken, Unserved, UnservedNetwork, UnservedProgram, is_proven}
use Rattle.vericon_run.specs.Starts.{IsOrder, IsPrepared, IsPreparedOver, IsProvenStart, IsStartFor, IsStartFrom, IsStartOf, run_files}

abbrev pub program_file : List ℕ → File
program_file name = record { kind = kind.Program; name = name }

abbrev pub network_file : List ℕ → File
network_file name = record { kind = kind.Network; name = name }

-- a network that was read is the one of the file
pub over_file : (change : Change) (order : Order) (P : Parts) (net : List ℕ) (N : Network) (level : ℕ) → OnlyReads 1 change → IsValueOf change kind.Network net (IsOpenNetwork P) N → (p : Prepared) → IsPreparedOver order P net N level p
    → IsPrepared change (network_file net ∷ []) (UnservedNetwork P net) (IsStartOf change order P net level) p
over_file change order P net N level reads value (Ready start) is = record { network = N; of_file = value; over = is }
over_file change order P net N level reads value (Telling outcome) is =
    at_last kind.Network net (IsOpenNetwork P) (IsNoOpenNetwork P net) (IsBroken P net) change N outcome.text.items (code_of outcome.status) reads value is

-- a program that is proven
pub proven_so : (change : Change) (files : List File) (order : Order) (P : Parts) (net : List ℕ) (level : ℕ) (proofs : List Proof) → IsYes P order.size order.most level proofs → (p : Prepared)
    → IsPrepared change files (UnservedNetwork P net) (IsStartOf change order P net level) p → IsPrepared change files (UnservedProgram order.size order.most net P) (IsProvenStart change order P net) p
proven_so change files order P net level proofs proven (Ready start) is = record { level = level; proofs = proofs; proven = proven; by = is }
proven_so change files order P net level proofs proven (Telling outcome) is =
    said_so change files (UnservedNetwork P net) (UnservedProgram order.size order.most net P) outcome.text.items (code_of outcome.status) (λ answers write said. is_proven level proofs proven said) is

-- ---- a program is read, and then a network
module _ (before middle after : View) where
  abbrev first : Change
  first = record { before = before; after = middle }

  abbrev second : Change
  second = record { before = middle; after = after }

  abbrev whole : Change
  whole = record { before = before; after = after }

  -- bytes that a file answered are such whatever was read behind it
  value_first : {X : Type 0} (kind : FileKind) (name : List ℕ) (is_value : List ℕ → X → Type 0) (x : X) → IsValueOf first kind name is_value x → IsValueOf whole kind name is_value x
  value_first kind name is_value x value = record { bytes = value.bytes; answered = value.answered; is = value.is }

  -- .. and before it
  value_second : {X : Type 0} (kind : FileKind) (name : List ℕ) (is_value : List ℕ → X → Type 0) (x : X) → middle.told ≡ before.told → IsValueOf second kind name is_value x → IsValueOf whole kind name is_value x
  value_second kind name is_value x same value =
      record { bytes = value.bytes; answered = subst (λ (told : List ℕ → Told). MayHold (told name) value.bytes × (length value.bytes ≤ longest kind)) same value.answered; is = value.is }

  proven_behind : (order : Order) (P : Parts) (net : List ℕ) (start : Start) → middle.told ≡ before.told → IsProvenStart second order P net start → IsProvenStart whole order P net start
  proven_behind order P net start same is =
      let s = is.by in
      record {
        level = is.level;
        proofs = is.proofs;
        proven = is.proven;
        by = record { network = s.network; of_file = value_second kind.Network net (IsOpenNetwork P) s.network same s.of_file; over = s.over };
      }

  pub from_file : (order : Order) (name net : List ℕ) (P : Parts) → OnlyReads 1 first → IsValueOf first kind.Program name Spells P → middle.read_faults ≤ after.read_faults → (p : Prepared)
      → IsPrepared second (network_file net ∷ []) (UnservedProgram order.size order.most net P) (IsProvenStart second order P net) p
      → IsPrepared whole (program_file name ∷ network_file net ∷ []) (WithProgram name (UnservedProgram order.size order.most net)) (IsStartFrom whole order name net) p
  from_file order name net P reads value later (Ready start) is =
      record { program = P; of_file = value_first kind.Program name Spells P value; by = proven_behind order P net start reads.told is }
  from_file order name net P reads value later (Telling outcome) is =
      behind before middle after kind.Program name Spells (IsNotProgram name) (UnservedProgram order.size order.most net) (network_file net ∷ []) P outcome.text.items (code_of outcome.status) reads value later is

-- ---- what the call asks for

module _ (change : Change) (call : Call) (order : Order) (name net : List ℕ) (order_is : IsOrder call order) (name_is : name ≡ file_name call 0) (net_is : net ≡ file_name call 1) where
  start_named : (start : Start) → IsStartFrom change order name net start → IsStartFrom change order (file_name call 0) (file_name call 1) start
  start_named start is =
      let here : IsStartFrom change order (file_name call 0) net start = subst (λ (n : List ℕ). IsStartFrom change order n net start) name_is is in
      subst (λ (n : List ℕ). IsStartFrom change order (file_name call 0) n start) net_is here

  abbrev Tells : List ℕ → List ℕ → ℕ → ℕ → List ℕ → ℕ → Type 0
  Tells n m size most text status = IsExplained change (program_file n ∷ network_file m ∷ []) (WithProgram n (UnservedProgram size most m)) text status

  told_named : (text : List ℕ) (status : ℕ) → Tells name net order.size order.most text status → Tells (file_name call 0) (file_name call 1) (size_of call) (level_of call) text status
  told_named text status is =
      let a : Tells (file_name call 0) net order.size order.most text status = subst (λ (n : List ℕ). Tells n net order.size order.most text status) name_is is in
      let b : Tells (file_name call 0) (file_name call 1) order.size order.most text status = subst (λ (n : List ℕ). Tells (file_name call 0) n order.size order.most text status) net_is a in
      let c : Tells (file_name call 0) (file_name call 1) (size_of call) order.most text status = subst (λ (k : ℕ). Tells (file_name call 0) (file_name call 1) k order.most text status) order_is.size b in
      subst (λ (k : ℕ). Tells (file_name call 0) (file_name call 1) (size_of call) k text status) order_is.most c

  pub for_call : (p : Prepared) → IsPrepared change (program_file name ∷ network_file net ∷ []) (WithProgram name (UnservedProgram order.size order.most net)) (IsStartFrom change order name net) p
      → IsPrepared change (run_files call) (Unserved call) (IsStartFor change call) p
  for_call (Ready start) is = record { order = order; order_is = order_is; by = start_named start is }
  for_call (Telling outcome) is = told_named outcome.text.items (code_of outcome.status) is
