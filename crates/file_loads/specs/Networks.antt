-- Files that are read as a network over which sessions are served.
use Rattle.std.specs.Prelude.{◌≡◌, ℕ, List, ◌++◌, Option, Some, None, Ok, codes}
use Rattle.text_lines.specs.Machine.{reading}
use Rattle.csdn_core.specs.declared.program.Parts.{Parts}
use Rattle.csdn_core.specs.Network.{Network}
use Rattle.net_structs.specs.declared.case.Case.{Case}
use Rattle.net_structs.specs.declared.row.Row.{Row}
use Rattle.net_structs.specs.Networks.{IsServable}
use Rattle.net_text.specs.NetText.{net_format}
use Rattle.file_loads.specs.declared.read.FileKind.TheVariants.{Network as NetworkFile}
use Rattle.file_loads.specs.declared.read.Load.{Load}
use Rattle.file_loads.specs.declared.read.Load.TheVariants.{Loaded, Refused}
use Rattle.file_loads.specs.Status.{code_of}
use Rattle.file_loads.specs.Answers.{Answer}
use Rattle.file_loads.specs.Writes.{Write}
use Rattle.file_loads.specs.Outputs.{With}
use Rattle.file_loads.specs.Loads.{IsNotCase}

abbrev pub has_state_text : List ℕ → List ℕ
has_state_text name = name ++ codes " refused: state\n"

abbrev pub not_servable_text : List ℕ → List ℕ
not_servable_text name = name ++ codes " refused: not servable\n"

-- the bytes are the network, without a state, and OpenFlow can name its elements
pub record IsOpenNetwork (P : Parts) (bytes : List ℕ) (N : Network) : Type 0 where
  pub case : Case
  pub reads : reading (net_format P) bytes ≡ Ok case
  pub no_state : case.state ≡ None
  pub network : N ≡ case.network
  pub servable : IsServable N

-- A case has a state; or OpenFlow can't name its elements.
pub data IsClosed (name : List ℕ) (case : Case) (text : List ℕ) : Type 0 where
  by_state : (rows : List Row) → case.state ≡ Some rows → text ≡ has_state_text name → IsClosed name case text
  by_elements : case.state ≡ None → (IsServable case.network → ⊥) → text ≡ not_servable_text name → IsClosed name case text

-- Bytes have a bad line; or they are such a case.
pub data IsNoOpenNetwork (P : Parts) (name bytes text : List ℕ) : Type 0 where
  has_bad_line : IsNotCase P name bytes text → IsNoOpenNetwork P name bytes text
  is_closed : (case : Case) → reading (net_format P) bytes ≡ Ok case → IsClosed name case text → IsNoOpenNetwork P name bytes text

-- a call that needs a network over which sessions are served
abbrev pub WithNetwork : Parts → List ℕ → (Network → List Answer → Option Write → List ℕ → ℕ → Type 0) → List Answer → Option Write → List ℕ → ℕ → Type 0
WithNetwork P name next = With NetworkFile name (IsOpenNetwork P) (IsNoOpenNetwork P name) next

-- of a case: its network, where that has no state and OpenFlow can name its elements; or the line that refuses it
abbrev pub IsOpened : List ℕ → Case → Load Network → Type 0
IsOpened name case (Loaded N) = (case.state ≡ None) × (N ≡ case.network) × IsServable N
IsOpened name case (Refused outcome) = IsClosed name case outcome.text.items × (code_of outcome.status ≡ 3)
