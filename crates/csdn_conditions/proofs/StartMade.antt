-- The parts of `start`, as the code makes them.
use Rattle.std.proofs.Common.{◌≡◌, ◌∙◌, sym, ap, subst, refl, ℕ, suc, ◌+◌, ◌-◌, ◌<◌, List, [], ◌∷◌, ◌++◌, length, get_or, take, drop, Result, IfOk, append_assoc, arith, take_all, All, length-drop}
use Rattle.std.proofs.lemmas.List.Elements.{All-drop}
use Rattle.std.specs.declared.alloc.AllocError.{AllocError}
use Rattle.csdn_core.specs.declared.terms.Sort.{Sort}
use Rattle.csdn_core.specs.declared.terms.Pred.TheVariants.{Ft, Sent}
use Rattle.csdn_core.specs.declared.syntax.Formula.{Formula}
use Rattle.csdn_core.specs.declared.program.Parts.{Parts}
use Rattle.csdn_core.specs.declared.program.Relation.{Relation}
use Rattle.csdn_core.specs.declared.program.StartRow.{StartRow}
use Rattle.csdn_core.specs.Sorted.{flow_sorts}
use Rattle.csdn_conditions.specs.Lists.{conjunction_of}
use Rattle.csdn_conditions.specs.Start.{binds_from, holds_rows, stored_at, stored_from, start}

pub length-binds_from : (k : ℕ) (sorts : List Sort) → length (binds_from k sorts) ≡ length sorts
length-binds_from k [] = refl
length-binds_from k (s ∷ ss) = ap suc (length-binds_from (k + 1) ss)

pub start_made : (P : Parts) (rows : List StartRow) (relations : List Relation) (stored more all : List Formula) (result : Result Formula AllocError)
    → rows ≡ P.start → relations ≡ P.relations → stored ≡ stored_from rows 0 relations
    → more ≡ stored ++ holds_rows rows Ft flow_sorts ∷ [] → all ≡ more ++ holds_rows rows Sent flow_sorts ∷ []
    → IfOk result (λ p. p ≡ conjunction_of all) → IfOk result (λ p. p ≡ start P)
start_made P rows relations stored more all result its_rows its_relations is_stored with_ft with_sent made =
    let first : List Formula = stored_from P.start 0 P.relations in
    let ft : Formula = holds_rows P.start Ft flow_sorts in
    let sent : Formula = holds_rows P.start Sent flow_sorts in
    let is_first : stored ≡ first = is_stored ∙ ap (λ (z : List StartRow). stored_from z 0 relations) its_rows ∙ ap (stored_from P.start 0) its_relations in
    let is_more : more ≡ first ++ ft ∷ [] =
    with_ft ∙ ap (λ (z : List StartRow). stored ++ holds_rows z Ft flow_sorts ∷ []) its_rows ∙ ap (λ (z : List Formula). z ++ ft ∷ []) is_first in
    let is_all : all ≡ (first ++ ft ∷ []) ++ sent ∷ [] =
    with_sent ∙ ap (λ (z : List StartRow). more ++ holds_rows z Sent flow_sorts ∷ []) its_rows ∙ ap (λ (z : List Formula). z ++ sent ∷ []) is_more in
    subst (λ (z : List Formula). IfOk result (λ p. p ≡ conjunction_of z)) (is_all ∙ append_assoc first (ft ∷ []) (sent ∷ [])) made

-- one relation further
pub stored_next : (rows : List StartRow) (k : ℕ) (rest : List Relation) (r : Relation) (members whole : List Formula) → 0 < length rest
    → members ++ stored_from rows k rest ≡ whole
    → (members ++ stored_at rows k (get_or rest 0 r)) ++ stored_from rows (k + 1) (take (length rest - 1) (drop 1 rest)) ≡ whole
stored_next rows k [] r members whole some is = absurd (omega arith)
stored_next rows k (q ∷ rest) r members whole some is =
    let all : take (length (q ∷ rest) - 1) rest ≡ rest = take_all (length (q ∷ rest) - 1) rest (omega arith) in
    ap (λ (z : List Relation). (members ++ stored_at rows k q) ++ stored_from rows (k + 1) z) all
    ∙ append_assoc members (stored_at rows k q) (stored_from rows (k + 1) rest) ∙ is

pub rest_has : (P : Relation → Type 0) (rest : List Relation) → All P rest → All P (take (length rest - 1) (drop 1 rest))
rest_has P rest all = subst (All P) (sym (take_all (length rest - 1) (drop 1 rest) (omega (arith, length-drop 1 rest)))) (All-drop P 1 rest all)
