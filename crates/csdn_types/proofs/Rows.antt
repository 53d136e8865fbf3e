-- Small programs, by computing.
use Rattle.std.proofs.Common.{◌≡◌, ℕ, List, [], ◌∷◌, false, refl}
use Rattle.csdn_core.specs.declared.terms.Sort.TheVariants.{Sw, Ho}
use Rattle.csdn_tree.specs.declared.names.RawName.{RawName}
use Rattle.csdn_tree.specs.declared.names.RawTerm.TheVariants.{Name}
use Rattle.csdn_types.specs.declared.refusal.SortRefusal.TheVariants.{Duplicate, WrongArity, WrongSort, NotAllowed}
use Rattle.csdn_tree.specs.declared.syntax.Quantifier.TheVariants.{All}
use Rattle.csdn_tree.specs.declared.syntax.RawFormula.TheVariants as f
use Rattle.csdn_tree.specs.declared.syntax.RawItem.{RawItem}
use Rattle.csdn_tree.specs.declared.syntax.RawProgram.{RawProgram}
use Rattle.csdn_tree.specs.declared.syntax.RawItem.TheVariants.{Relation, Invariant}
use Rattle.csdn_tree.specs.declared.syntax.InvariantKind.TheVariants.{Topology, Safety}
use Rattle.csdn_tree.specs.RawTree.{raw_not, raw_bind}
use Rattle.csdn_types.specs.Faults.{faults, terms_faults}
use Rattle.csdn_types.specs.Items.{rows_faults}
use Rattle.csdn_types.specs.Programs.{items_faults}
use Rattle.csdn_types.specs.Resolved.{broken_rules}

abbrev program : List RawItem → RawProgram
program items = record { items = items }

abbrev name : ℕ → ℕ → RawName
name at letter = record { at = at; text = letter ∷ [] }

-- `rel p(); rel p();`
twice : broken_rules (program (Relation (record { name = name 4 112; sorts = []; fixed = false; rows = [] }) ∷ Relation (record { name = name 13 112; sorts = []; fixed = false; rows = [] }) ∷ [])) ≡ Duplicate 13 ∷ []
unfolding items_faults rows_faults
twice = refl

abbrev unary : RawItem
unary = Relation (record { name = name 4 114; sorts = Ho ∷ []; fixed = false; rows = [] })

-- `rel r(HO); topology A: forall X:SW. not r(X);`: the relation and the term break a rule
sorts_and_places : broken_rules (program (unary ∷ Invariant Topology (name 20 65) (raw_bind All (name 30 88) Sw (raw_not (f.Atom (name 40 114) (Name (name 42 88) ∷ [])))) ∷ [])) ≡ NotAllowed 40 ∷ WrongSort 42 ∷ []
unfolding items_faults rows_faults faults terms_faults
sorts_and_places = refl

-- `rel r(HO); safety A: forall X:HO. r(X, Y);`
arity : broken_rules (program (unary ∷ Invariant Safety (name 20 65) (raw_bind All (name 30 88) Ho (f.Atom (name 40 114) (Name (name 42 88) ∷ Name (name 45 89) ∷ []))) ∷ [])) ≡ WrongArity 40 ∷ []
unfolding items_faults rows_faults faults terms_faults
arity = refl
