-- What networks and states keep in order.
use Rattle.std.proofs.Common.{◌≡◌, ℕ, List, [], ◌∷◌, subst, sym, All, Ok, Option, Some, None}
use Rattle.std.specs.List.{AllByRecursion}
use Rattle.std.specs.List.Sorted.{IsStrictlySortedBy}
use Rattle.std.specs.declared.cmp.Ordering.TheVariants.{Less}
use Rattle.csdn_core.specs.declared.event.Packet.{Packet}
use Rattle.csdn_core.specs.declared.event.Packet.TheVariants.{Nothing}
use Rattle.csdn_core.specs.declared.program.Parts.{Parts}
use Rattle.csdn_core.specs.declared.terms.Pred.TheVariants.{Stored}
use Rattle.csdn_core.specs.Network.{Network, StaticRow}
use Rattle.csdn_core.specs.WellSorted.{IsWellSorted}
use Rattle.net_structs.specs.declared.row.Row.{Row}
use Rattle.net_structs.specs.declared.case.Case.{Case}
use Rattle.net_structs.specs.Rows.{row_cmp}
use Rattle.net_structs.specs.Networks.{as_stored, static_cmp}
use Rattle.net_structs.specs.StateTuples.{IsStateTuple}
use Rattle.class_networks.specs.Cases.{HasState}
use Rattle.text_lines.specs.Machine.{reading}
use Rattle.net_text.specs.NetText.{net_format, net_text}
use Rattle.net_facts.specs.Cases.{IsState, IsPacket, IsInOrder}
use Rattle.net_facts.proofs.ReadBack.{read_back}
use Rattle.csdn_conditions.specs.declared.sentence.Condition.{Condition}
use Rattle.csdn_conditions.specs.Answers.{OfCondition}
use Rattle.vericon_decide.specs.Verdicts.{IsCaseOf}

below : (q : StaticRow) (rows : List StaticRow) → AllByRecursion (λ row. row_cmp (record { pred = Stored (record { 0 = q.rel }); cells = q.cells }) row ≡ Less) (as_stored rows) → AllByRecursion (λ row. static_cmp q row ≡ Less) rows
below q [] all = tt
below q (row ∷ rows) all = (all.0, below q rows all.1)

pub rows_rise : (rows : List StaticRow) → IsStrictlySortedBy row_cmp (as_stored rows) → IsStrictlySortedBy static_cmp rows
unfolding IsStrictlySortedBy
rows_rise [] rising = tt
rows_rise (row ∷ rows) rising = (below row rows rising.0, rows_rise rows rising.1)

state_there : (P : Parts) (N : Network) (state : Option (List Row)) → HasState state (All (IsStateTuple P N)) → IsState P N state
state_there P N None is = tt
state_there P N (Some rows) is = is

no_packet : (N : Network) (state : Option (List Row)) (packet : Packet) → packet ≡ Nothing → IsPacket N state packet
no_packet N state packet is = subst (IsPacket N state) (sym is) tt

-- what is printed of a case of a condition reads as that case
pub case_again : (P : Parts) (n i : ℕ) (case : Case) → IsWellSorted P → OfCondition P n i (λ (c : Condition). IsCaseOf P c case) → IsInOrder case → reading (net_format P) (net_text P case) ≡ Ok case
case_again P n i case well broken order =
    let is = broken.holds in
    read_back P case well (record { network = is.network; state = state_there P case.network case.state is.tuples; packet = no_packet case.network case.state case.packet is.packet }) order
