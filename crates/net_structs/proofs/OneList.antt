-- A state has one list of rows that rises.
use Rattle.std.proofs.Common.{List, ap, ap₂, sym, ◌∙◌, ◌≡◌}
use Rattle.std.specs.Ordering.{is_eq}
use Rattle.std.specs.declared.cmp.Ordering.TheVariants.{Equal}
use Rattle.std.specs.List.Sorted.{IsStrictlySortedBy}
use Rattle.std.specs.BTreeSet.{BTreeSet}
use Rattle.std.proofs.lemmas.Bool.{and_parts}
use Rattle.std.proofs.lemmas.Map.Lookups.{btree_set_from_contains}
use Rattle.csdn_core.specs.Network.{same_pred, same_cells}
use Rattle.csdn_core.proofs.Same.{same_pred-is, same_cells-is}
use Rattle.net_structs.specs.declared.row.Row.{Row}
use Rattle.net_structs.specs.Rows.{row_cmp, row_total, held}
use Rattle.net_structs.proofs.Tied.{row_is, held_tied}

-- rows that compare equal are the same
pub equal_rows : (q row : Row) → row_cmp q row ≡ Equal → q ≡ row
equal_rows q row equal =
    let parts = and_parts (same_pred q.pred row.pred) (same_cells q.cells row.cells) (sym (row_is q row) ∙ ap is_eq equal) in
    ap₂ (λ r cells. record { pred = r; cells = cells }) (same_pred-is q.pred row.pred parts.0) (same_cells-is q.cells row.cells parts.1)

abbrev set_of : List Row → BTreeSet Row
set_of rows = record { keys = rows }

pub one_list : (xs ys : List Row) → IsStrictlySortedBy row_cmp xs → IsStrictlySortedBy row_cmp ys → held xs ≡ held ys → xs ≡ ys
one_list xs ys rising also same =
    btree_set_from_contains row_total (set_of xs) (set_of ys) rising also
    (λ q. held_tied q xs ∙ ap (λ x. x q.pred q.cells) same ∙ sym (held_tied q ys)) equal_rows
