use Rattle.std.proofs.Common.{◌∙◌, ap, ap₂, not, refl}
use Rattle.std.specs.BTreeSet.{insert_key}
use Rattle.net_structs.specs.Rows.{row_cmp}
use Rattle.net_structs.proofs.Tied.{has_is, put_is}
use Rattle.net_structs.proofs.state.State.insert.Goals as goal

pub returns-clause-is_new : goal.returns-clause-is_new
returns-clause-is_new c = c.in_ok-is_new.ensures.added ∙ ap not (has_is _ _ _ _ _ _ refl c.self.view_is c.copy.ensures)

pub returns-clause-put : goal.returns-clause-put
returns-clause-put c = put_is _ _ _ _ _ _ c.in_ok-is_new.ensures.updates.0 c.self.view_is c.copy.ensures

pub returns-clause-rows : goal.returns-clause-rows
returns-clause-rows c = c.in_ok-is_new.ensures.keys ∙ ap₂ (λ rows cells. insert_key row_cmp rows (record { pred = c.args.pred; cells = cells })) c.self.view_is c.copy.ensures
