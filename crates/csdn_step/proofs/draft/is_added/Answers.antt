use Rattle.std.proofs.Common.{◌∙◌, ap, List}
use Rattle.std.specs.List.{list_any}
use Rattle.std.specs.Ordering.{eq_by_cmp}
use Rattle.net_structs.specs.declared.row.Row.{Row}
use Rattle.net_structs.specs.Rows.{row_cmp}
use Rattle.csdn_step.proofs.Outputs.{listed}
use Rattle.csdn_step.proofs.draft.is_added.Goals as goal

pub returns : goal.returns
returns c =
    c.contains.ensures.value ∙ ap (λ (rows : List Row). list_any (λ row. eq_by_cmp row_cmp row c.args.row.now) rows) c.as_slice.ensures
    ∙ listed c.args.row.now c.args.draft.now.added
