-- What is true in the initial state alone.
use Rattle.std.specs.Prelude.{ℕ, ◌+◌, List, [], ◌∷◌, ◌++◌, map, filter, if◌then◌else◌}
use Rattle.csdn_core.specs.declared.terms.Sort.{Sort}
use Rattle.csdn_core.specs.declared.terms.Term.{Term}
use Rattle.csdn_core.specs.declared.terms.Term.TheVariants.{Var}
use Rattle.csdn_core.specs.declared.terms.Pred.{Pred}
use Rattle.csdn_core.specs.declared.terms.Pred.TheVariants.{Stored, Ft, Sent}
use Rattle.csdn_core.specs.declared.syntax.Formula.{Formula}
use Rattle.csdn_core.specs.declared.syntax.Formula.TheVariants.{Atom}
use Rattle.csdn_core.specs.declared.program.Parts.{Parts}
use Rattle.csdn_core.specs.declared.program.Relation.{Relation}
use Rattle.csdn_core.specs.declared.program.StartRow.{StartRow}
use Rattle.csdn_core.specs.Tree.{equivalence}
use Rattle.csdn_core.specs.Network.{same_pred}
use Rattle.csdn_core.specs.Sorted.{flow_sorts}
use Rattle.fol_forms.specs.declared.close.Bind.{Bind}
use Rattle.fol_forms.specs.Closed.{closed}
use Rattle.fol_forms.specs.Replace.{same}
use Rattle.csdn_conditions.specs.Lists.{conjunction_of, disjunction_of}

-- the variables k, k + 1, .. of these sorts
abbrev pub binds_from : ℕ → List Sort → List Bind
binds_from k [] = []
binds_from k (s ∷ ss) = record { var = record { 0 = k }; sort = s } ∷ binds_from (k + 1) ss

abbrev pub terms_of : List Bind → List Term
terms_of bs = map (λ b. Var b.var) bs

-- the rows of a relation among these
abbrev pub rows_among : List StartRow → Pred → List (List Term)
rows_among rows r = map (λ row. row.terms) (filter (λ row. same_pred (Stored row.rel) r) rows)

-- the terms are one of the rows
abbrev pub is_one_of : List Term → List (List Term) → Formula
is_one_of xs rows = disjunction_of (map (same xs) rows)

-- under these binds, their tuple is in the relation exactly where it is one of its rows
abbrev pub holds_rows_under : List Bind → List StartRow → Pred → Formula
holds_rows_under bs rows r = closed bs (equivalence (Atom r (terms_of bs)) (is_one_of (terms_of bs) (rows_among rows r)))

-- the relation holds exactly its rows
abbrev pub holds_rows : List StartRow → Pred → List Sort → Formula
holds_rows rows r sorts = holds_rows_under (binds_from 0 sorts) rows r

-- what is said of the k-th relation, if it is a `rel`
abbrev pub stored_at : List StartRow → ℕ → Relation → List Formula
stored_at rows k r = if r.fixed then [] else (holds_rows rows (Stored (record { 0 = k })) r.sorts ∷ [])

-- .. of each from the k-th on
abbrev pub stored_from : List StartRow → ℕ → List Relation → List Formula
stored_from rows k [] = []
stored_from rows k (r ∷ rs) = stored_at rows k r ++ stored_from rows (k + 1) rs

-- each `rel`, `ft` and `sent` holds exactly the initial tuples
abbrev pub start : Parts → Formula
start P = conjunction_of (stored_from P.start 0 P.relations ++ (holds_rows P.start Ft flow_sorts ∷ holds_rows P.start Sent flow_sorts ∷ []))
