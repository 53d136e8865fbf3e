-- Networks over which sessions are served, from the cases that bytes are.
use Rattle.std.proofs.Common.{◌≡◌, List, ℕ, Option, Some, None, Ok, IsTrue, refl}
use Rattle.std.specs.Prelude.{is_some}
use Rattle.text_lines.specs.Machine.{reading}
use Rattle.csdn_core.specs.declared.program.Parts.{Parts}
use Rattle.csdn_core.specs.Network.{Network}
use Rattle.net_structs.specs.declared.case.Case.{Case}
use Rattle.net_structs.specs.declared.row.Row.{Row}
use Rattle.net_text.specs.NetText.{net_format}
use Rattle.file_loads.specs.declared.outcome.Outcome.{Outcome}
use Rattle.file_loads.specs.declared.read.Load.{Load}
use Rattle.file_loads.specs.declared.read.Load.TheVariants.{Loaded, Refused}
use Rattle.file_loads.specs.Loads.{IsCase, IsNotCase}
use Rattle.file_loads.specs.Gives.{Reads}
use Rattle.file_loads.specs.Networks.{IsOpenNetwork, IsNoOpenNetwork, has_bad_line, is_closed, IsClosed, by_state, IsOpened, has_state_text}

pub opened_reads : (P : Parts) (name bytes : List ℕ) (case : Case) → reading (net_format P) bytes ≡ Ok case → (l : Load Network) → IsOpened name case l → Reads bytes (IsOpenNetwork P) (IsNoOpenNetwork P name) l
opened_reads P name bytes case reads (Loaded N) is = record { case = case; reads = reads; no_state = is.0; network = is.1; servable = is.2 }
opened_reads P name bytes case reads (Refused outcome) is = (is_closed case reads is.0, is.1)

pub refused_reads : (P : Parts) (name bytes : List ℕ) (outcome : Outcome) → Reads bytes (IsCase P) (IsNotCase P name) (Refused outcome) → Reads bytes (IsOpenNetwork P) (IsNoOpenNetwork P name) (Refused outcome)
refused_reads P name bytes outcome is = (has_bad_line is.0, is.1)

-- a case that has some state
pub closed_by_state : (name : List ℕ) (case : Case) (text : List ℕ) → IsTrue (is_some case.state) → text ≡ has_state_text name → IsClosed name case text
closed_by_state name case text some is = by case.state refl some
  where
    by : (state : Option (List Row)) → case.state ≡ state → IsTrue (is_some state) → IsClosed name case text
    by (Some rows) same there = by_state rows same is
    by None same there = absurd cc
