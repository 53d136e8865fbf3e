-- A state that is being changed.
use Rattle.std.specs.Prelude.{ℕ, List, [], ◌∷◌}
use Rattle.std.specs.BTreeMap.{is_at}
use Rattle.std.specs.Set.{remove_key}
use Rattle.csdn_core.specs.declared.terms.Pred.TheVariants.{Ft}
use Rattle.csdn_core.specs.declared.event.Match.{Match}
use Rattle.csdn_core.specs.Network.{State}
use Rattle.csdn_core.specs.Execution.{take_out}
use Rattle.net_structs.specs.declared.row.Row.{Row}
use Rattle.net_structs.specs.Rows.{held, row_cmp}
use Rattle.net_structs.specs.Views.{but}
use Rattle.csdn_step.specs.declared.draft.StateDraft.{StateDraft}

-- the state as it stands: what is gone counts as taken out
abbrev pub standing : StateDraft → State
standing draft = but (held draft.state) (held draft.gone)

-- rows taken out of others, the last first
abbrev pub without : List Row → List Row → List Row
without [] rows = rows
without (row ∷ added) rows = remove_key (is_at (row_cmp row)) (without added rows)

-- the rows from which the changes began
abbrev pub start_of : StateDraft → List Row
start_of draft = without draft.added draft.state

-- the flow rules of a match that send from these ports taken out, one after another
abbrev pub taken_each : Match → List ℕ → State → State
taken_each m [] x = x
taken_each m (o ∷ ports) x = taken_each m ports (take_out x Ft (m.s ∷ m.a ∷ m.b ∷ m.i ∷ o ∷ []))
