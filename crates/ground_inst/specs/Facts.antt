-- The facts that are kept of a sentence, and their numbers.
use Rattle.std.specs.Prelude.{◌≡◌, ℕ, suc, ◌+◌, ◌*◌, ◌<◌, ◌^◌, min, max, Bool, true, false, List, [], ◌∷◌, ◌++◌, map, length, if◌then◌else◌}
use Rattle.csdn_core.specs.declared.terms.Sort.{Sort}
use Rattle.csdn_core.specs.declared.terms.Sort.TheVariants.{Sw, Ho, Pr}
use Rattle.csdn_core.specs.declared.terms.Pred.{Pred}
use Rattle.csdn_core.specs.declared.terms.Pred.TheVariants.{Stored}
use Rattle.csdn_core.specs.declared.program.Parts.{Parts}
use Rattle.csdn_core.specs.declared.syntax.Formula.{Formula}
use Rattle.csdn_core.specs.Network.{same_pred}
use Rattle.fol_forms.specs.Counts.{count_of}
use Rattle.fol_forms.specs.Constants.{counts, names_of}
use Rattle.decision_laws.specs.Vocabulary.{Vocabulary, sort_of_constant, places_from}
use Rattle.decision_laws.specs.Copies.{Fact, Tuple, Equation}
use Rattle.decision_laws.specs.Numbers.{fact_count, tuple_count, tuple_number}
use Rattle.decision_laws.specs.Laws.{words}
use Rattle.ground_inst.specs.declared.facts.Facts.{Facts}
use Rattle.ground_inst.specs.declared.facts.UsedRelation.{UsedRelation}

-- the sorts of a relation among these
abbrev pub sorts_in : List UsedRelation → Pred → List Sort
sorts_in [] r = []
sorts_in (u ∷ us) r = if same_pred u.relation r then u.sorts else sorts_in us r

-- the names of the program, and the relations that are kept
abbrev pub vocabulary_of : Parts → Facts → Vocabulary
vocabulary_of P facts = record {
  names = names_of P;
  constant_sort = sort_of_constant P;
  numerals = P.numerals;
  relations = map (λ u. u.relation) facts.relations;
  columns = sorts_in facts.relations;
}

module _ (n : Sort → ℕ) where
  -- how many equations of other sorts stand before those of a sort
  abbrev pub equations_before : Sort → ℕ
  equations_before Sw = 0
  equations_before Ho = n Sw * n Sw
  equations_before Pr = n Sw * n Sw + n Ho * n Ho

  -- how many equations there are
  abbrev pub equation_count : ℕ
  equation_count = n Sw * n Sw + n Ho * n Ho + n Pr * n Pr

  -- the place of a tuple of one of these relations, or of none
  abbrev pub tuple_place : List UsedRelation → ℕ → Pred → List ℕ → ℕ
  tuple_place [] none r xs = none
  tuple_place (u ∷ us) none r xs = if same_pred u.relation r then u.before + tuple_number n u.sorts xs else tuple_place us none r xs

  -- relations with their sorts, and how many facts are numbered before the tuples of each, where so many are before the first
  abbrev pub numbered : (Pred → List Sort) → ℕ → List Pred → List UsedRelation
  numbered columns before [] = []
  numbered columns before (r ∷ rs) =
      record { relation = r; sorts = columns r; before = before } ∷ numbered columns (before + tuple_count n (columns r)) rs

-- the number of the atom of a fact
unfoldable pub num_of : Facts → Fact → ℕ
num_of facts (Equation s a b) = suc (equations_before (count_of facts.counts) s + (max a b * count_of facts.counts s + min a b))
num_of facts (Tuple r xs) = suc (tuple_place (count_of facts.counts) facts.relations facts.count r xs)

-- these are the constants and the relations of a sentence, and its facts have the numbers of its atoms, which are few
pub record AreFactsOf (P : Parts) (F : Formula) (facts : Facts) : Type 0 where
  pub constants : (s : Sort) → count_of facts.counts s ≡ counts P F s
  pub relations : facts.relations ≡ numbered (counts P F) (words P F).columns (equation_count (counts P F)) (words P F).relations
  pub count : facts.count ≡ fact_count (counts P F) (words P F)
  pub few : facts.count < 2 ^ 62

-- a relation put behind the others, where it is used
abbrev pub with_relation : Bool → Facts → Pred → List Sort → Facts
with_relation true facts r ss = record {
  counts = facts.counts;
  relations = facts.relations ++ (record { relation = r; sorts = ss; before = facts.count }) ∷ [];
  count = facts.count + tuple_count (count_of facts.counts) ss;
}
with_relation false facts r ss = facts

-- those of these relations that are used
abbrev pub with_relations : (Pred → Bool) → (Pred → List Sort) → Facts → List Pred → Facts
with_relations used columns facts [] = facts
with_relations used columns facts (r ∷ rs) = with_relations used columns (with_relation (used r) facts r (columns r)) rs

-- the relations that a program declares
abbrev pub declared : Parts → List Pred
declared P = map (λ k. Stored (record { 0 = k })) (places_from 0 (length P.relations))
