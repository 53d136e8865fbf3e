-- The rows of a network as rows of declared relations.
use Rattle.std.proofs.Common.{ℕ, ◌≡◌, ◌∙◌, ap, ap₂, sym, subst, refl, List, [], ◌∷◌, ◌++◌, map}
use Rattle.std.specs.List.{AllByRecursion}
use Rattle.std.specs.declared.cmp.Ordering.TheVariants.{Less, Equal, Greater}
use Rattle.csdn_core.specs.declared.terms.Pred.TheVariants.{Stored}
use Rattle.std.specs.BTreeSet.{insert_key}
use Rattle.std.specs.Ordering.{match_ordering}
use Rattle.csdn_core.specs.declared.terms.RelId.{RelId}
use Rattle.std.specs.List.Sorted.{IsStrictlySortedBy}
use Rattle.std.proofs.lemmas.List.{append-nil}
use Rattle.csdn_core.specs.Network.{Network, StaticRow}
use Rattle.net_structs.specs.declared.row.Row.{Row}
use Rattle.net_structs.specs.declared.network.FixedRow.{FixedRow}
use Rattle.net_structs.specs.Rows.{row_cmp}
use Rattle.net_structs.specs.Networks.{fixed_cmp, static_cmp, static_of, as_stored, with_static}

below : (q : FixedRow) (rows : List FixedRow) → AllByRecursion (λ row. fixed_cmp q row ≡ Less) rows → AllByRecursion (λ row. row_cmp (record { pred = Stored q.rel; cells = q.cells }) row ≡ Less) (as_stored (map static_of rows))
below q [] all = tt
below q (row ∷ rows) all = (all.0, below q rows all.1)

in_order : (rows : List FixedRow) → IsStrictlySortedBy fixed_cmp rows → IsStrictlySortedBy row_cmp (as_stored (map static_of rows))
unfolding IsStrictlySortedBy
in_order [] sorted = tt
in_order (row ∷ rows) sorted = (below row rows sorted.0, in_order rows sorted.1)

pub stored_sorted : (done : List Row) (left keys : List FixedRow) (seen : List StaticRow) → done ++ as_stored (map static_of left) ≡ as_stored seen → left ≡ [] → map static_of keys ≡ seen → IsStrictlySortedBy fixed_cmp keys → IsStrictlySortedBy row_cmp done
stored_sorted done left keys seen goes none view sorted =
    let all : done ≡ as_stored (map static_of keys) = sym (append-nil done) ∙ ap (λ rows. done ++ as_stored (map static_of rows)) (sym none) ∙ goes ∙ ap as_stored (sym view) in
    subst (IsStrictlySortedBy row_cmp) (sym all) (in_order keys sorted)

static_insert : (keys : List FixedRow) (row : FixedRow) → map static_of (insert_key fixed_cmp keys row) ≡ insert_key static_cmp (map static_of keys) (static_of row)
static_insert [] row = refl
static_insert (key ∷ keys) row = elim (fixed_cmp row key) as (λ r. map static_of (match_ordering r (row ∷ key ∷ keys) (key ∷ keys) (key ∷ insert_key fixed_cmp keys row)) ≡ match_ordering r (static_of row ∷ static_of key ∷ map static_of keys) (static_of key ∷ map static_of keys) (static_of key ∷ insert_key static_cmp (map static_of keys) (static_of row))) [
  | Less ↦ refl
  | Equal ↦ refl
  | Greater ↦ ap (λ rows. static_of key ∷ rows) (static_insert keys row)
]

-- the network with one tuple more
pub insert_is : (sw ho pr consts : List ℕ) (keys : List FixedRow) (seen : Network) (r : RelId) (copied cells : List ℕ) (new : List FixedRow) → record { switches = sw; hosts = ho; ports = pr; constants = consts; rows = map static_of keys } ≡ seen → copied ≡ cells → new ≡ insert_key fixed_cmp keys (record { rel = r; cells = copied }) → record { switches = sw; hosts = ho; ports = pr; constants = consts; rows = map static_of new } ≡ with_static seen r.0 cells
insert_is sw ho pr consts keys seen r copied cells new view copy is =
    ap (λ rows. record { switches = sw; hosts = ho; ports = pr; constants = consts; rows = rows }) (ap (map static_of) is ∙ static_insert keys (record { rel = r; cells = copied }))
    ∙ ap₂ (λ n c. with_static n r.0 c) view copy
