-- Runs that no fault disturbs.
use Rattle.std.specs.Prelude.{◌≡◌, ℕ, ◌<◌, List, Option, length}
use Rattle.csdn_core.specs.declared.program.Parts.{Parts}
use Rattle.csdn_core.specs.Network.{Network}
use Rattle.csdn_core.specs.Holds.{IsTopology}
use Rattle.csdn_read.specs.Programs.{Spells}
use Rattle.vericon_decide.specs.declared.verdict.Proof.{Proof}
use Rattle.vericon_decide.specs.Answers.{IsYes}
use Rattle.vericon_edge.specs.Written.{GrownByFront}
use Rattle.command_words.specs.Call.{Call}
use Rattle.file_loads.specs.declared.read.FileKind.TheVariants.{Network as NetworkFile}
use Rattle.file_loads.specs.Answers.{longest}
use Rattle.file_loads.specs.Views.{Change, calm}
use Rattle.file_loads.specs.Explained.{IsExplained}
use Rattle.file_loads.specs.Networks.{IsOpenNetwork}
use Rattle.vericon_app.specs.Calls.{files_named}
use Rattle.vericon_app.specs.Output.{MayPrint, Output}
use Rattle.vericon_app.specs.Quiet.{IsAnswered}
use Rattle.vericon_app.specs.Decided.{IsDecided}

-- the call answered as any call; or, for want of memory, a front of an output that the files explain without a fault was written
pub data IsRunAnswered (run : Call → MayPrint) (asked : Option Call) (change : Change) (old new : Option (List ℕ)) (status : ℕ) : Type 0 where
  is_answered : IsAnswered run asked change old new status → IsRunAnswered run asked change old new status
  is_short : (text : List ℕ) (other : ℕ) → IsExplained (calm change) (files_named asked) (Output run asked) text other → status ≡ 7 → GrownByFront old new text → IsRunAnswered run asked change old new status

-- the bytes spell a program that is decided with a yes
pub record IsYesOf (size most : ℕ) (bytes : List ℕ) (P : Parts) : Type 0 where
  pub spells : Spells bytes P
  pub level : ℕ
  pub proofs : List Proof
  pub decided : IsYes P size most level proofs

-- The status of a run over the bytes of a program and of a network, by what they are. The cases exclude one another.
pub data IsRunDecided (size most : ℕ) (bytes net : List ℕ) (status : ℕ) : Type 0 where
  is_no_yes : IsDecided size most bytes status → (status ≡ 0 → ⊥) → IsRunDecided size most bytes net status
  is_no_network : (P : Parts) → IsYesOf size most bytes P → ((N : Network) → IsOpenNetwork P net N → ⊥) → status ≡ 3 → IsRunDecided size most bytes net status
  is_too_long : (P : Parts) → IsYesOf size most bytes P → longest NetworkFile < length net → status ≡ 3 → IsRunDecided size most bytes net status
  breaks_topology : (P : Parts) (N : Network) → IsYesOf size most bytes P → IsOpenNetwork P net N → (IsTopology P N → ⊥) → status ≡ 3 → IsRunDecided size most bytes net status
  is_served : (P : Parts) (N : Network) → IsYesOf size most bytes P → IsOpenNetwork P net N → IsTopology P N → status ≡ 0 → IsRunDecided size most bytes net status
