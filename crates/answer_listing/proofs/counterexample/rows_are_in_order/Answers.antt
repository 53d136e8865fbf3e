use Rattle.std.proofs.Common.{List, subst}
use Rattle.std.specs.List.Sorted.{IsStrictlySortedBy}
use Rattle.net_structs.specs.declared.row.Row.{Row}
use Rattle.net_structs.specs.Rows.{row_cmp}
use Rattle.answer_listing.proofs.InOrder.{rows_rise}
use Rattle.answer_listing.proofs.counterexample.rows_are_in_order.Goals as goal

pub returns : goal.returns
returns c = rows_rise c.args.network.now.rows (subst (λ (rows : List Row). IsStrictlySortedBy row_cmp rows) c.in_ok-_rows.ensures.rows c.in_ok-_rows.ensures.rising)
