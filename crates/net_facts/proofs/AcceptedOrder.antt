-- Networks that are accepted are in order.
use Rattle.std.proofs.Common.{◌≡◌, sym, subst, List, [], ◌∷◌, map, Ok}
use Rattle.std.specs.Ordering.{nat_cmp}
use Rattle.std.specs.Cmp.{nat_cmp_total}
use Rattle.std.specs.List.{AllByRecursion}
use Rattle.std.specs.List.Sorted.{IsStrictlySortedBy}
use Rattle.std.specs.declared.cmp.Ordering.TheVariants.{Less}
use Rattle.csdn_core.specs.declared.terms.Sort.{Sort}
use Rattle.csdn_core.specs.declared.terms.Sort.TheVariants.{Sw, Ho, Pr}
use Rattle.csdn_core.specs.declared.program.Parts.{Parts}
use Rattle.csdn_core.specs.Network.{Network, elements}
use Rattle.net_structs.specs.declared.network.FixedRow.{FixedRow}
use Rattle.net_structs.specs.declared.read.NetParts.{NetParts}
use Rattle.net_structs.specs.Networks.{fixed_cmp, fixed_total, fixed_rows, static_cmp, static_of, network_of}
use Rattle.net_structs.specs.Refusals.{IsAnswer}
use Rattle.net_structs.proofs.Ordered.{sorted-in_order}

below : (q : FixedRow) (rows : List FixedRow) → AllByRecursion (λ row. fixed_cmp q row ≡ Less) rows → AllByRecursion (λ row. static_cmp (static_of q) row ≡ Less) (map static_of rows)
below q [] all = tt
below q (row ∷ rows) all = (all.0, below q rows all.1)

rows_rise : (rows : List FixedRow) → IsStrictlySortedBy fixed_cmp rows → IsStrictlySortedBy static_cmp (map static_of rows)
unfolding IsStrictlySortedBy
rows_rise [] rising = tt
rows_rise (row ∷ rows) rising = (below row rows rising.0, rows_rise rows rising.1)

made_elements : (parts : NetParts) (s : Sort) → IsStrictlySortedBy nat_cmp (elements (network_of parts) s)
made_elements parts Sw = sorted-in_order nat_cmp_total parts.sw
made_elements parts Ho = sorted-in_order nat_cmp_total parts.ho
made_elements parts Pr = sorted-in_order nat_cmp_total parts.pr

pub accepted_elements : (P : Parts) (parts : NetParts) (N : Network) → IsAnswer P parts (Ok N) → (s : Sort) → IsStrictlySortedBy nat_cmp (elements N s)
accepted_elements P parts N (none, is) s = subst (λ (M : Network). IsStrictlySortedBy nat_cmp (elements M s)) (sym is) (made_elements parts s)

pub accepted_rows : (P : Parts) (parts : NetParts) (N : Network) → IsAnswer P parts (Ok N) → IsStrictlySortedBy static_cmp N.rows
accepted_rows P parts N (none, is) = subst (λ (M : Network). IsStrictlySortedBy static_cmp M.rows) (sym is) (rows_rise _ (sorted-in_order fixed_total (fixed_rows parts.rows)))
