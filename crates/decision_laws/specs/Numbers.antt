-- Numbers for facts that need no table: the equations of each sort come first, and then the tuples of each relation.
use Rattle.std.specs.Prelude.{ℕ, ◌+◌, ◌-◌, ◌*◌, ◌/◌, ◌%◌, min, max, Bool, false, List, [], ◌∷◌, map, nat_lt, if◌then◌else◌}
use Rattle.csdn_core.specs.Same.{same_sort}
use Rattle.csdn_core.specs.declared.terms.Sort.{Sort}
use Rattle.csdn_core.specs.declared.terms.Sort.TheVariants.{Sw, Ho, Pr}
use Rattle.csdn_core.specs.declared.terms.Pred.{Pred}
use Rattle.csdn_core.specs.declared.terms.Pred.TheVariants.{Ft}
use Rattle.csdn_core.specs.Network.{same_pred}
use Rattle.decision_laws.specs.Vocabulary.{Vocabulary}
use Rattle.decision_laws.specs.Copies.{Fact, Tuple, Equation}

module _ (n : Sort → ℕ) where
  -- how many tuples of constants of these sorts there are
  abbrev pub tuple_count : List Sort → ℕ
  tuple_count [] = 1
  tuple_count (s ∷ ss) = tuple_count ss * n s

  -- the number of a tuple
  abbrev pub tuple_number : List Sort → List ℕ → ℕ
  tuple_number [] as' = 0
  tuple_number (s ∷ ss) [] = 0
  tuple_number (s ∷ ss) (a ∷ as') = tuple_number ss as' * n s + a

  -- the tuple of a number
  abbrev pub tuple_of : List Sort → ℕ → List ℕ
  tuple_of [] k = []
  tuple_of (s ∷ ss) k = k % n s ∷ tuple_of ss (k / n s)

-- the facts of one kind
pub data Block : Type 0 where
  Equations : (s : Sort) → Block
  Tuples : (r : Pred) → Block

abbrev pub columns_of : Vocabulary → Block → List Sort
columns_of voc (Equations s) = s ∷ s ∷ []
columns_of voc (Tuples r) = voc.columns r

abbrev pub is_of : Block → Fact → Bool
is_of (Equations s) (Equation t a b) = same_sort s t
is_of (Equations s) (Tuple r as') = false
is_of (Tuples r) (Equation t a b) = false
is_of (Tuples r) (Tuple q as') = same_pred r q

-- an equation and its mirror have one number
abbrev pub arguments : Fact → List ℕ
arguments (Tuple r as') = as'
arguments (Equation s a b) = min a b ∷ max a b ∷ []

abbrev pub first_or : ℕ → List ℕ → ℕ
first_or d [] = d
first_or d (a ∷ as') = a

abbrev pub second_or : ℕ → List ℕ → ℕ
second_or d [] = d
second_or d (a ∷ as') = first_or d as'

abbrev pub fact_of : Block → List ℕ → Fact
fact_of (Equations s) as' = Equation s (first_or 0 as') (second_or 0 as')
fact_of (Tuples r) as' = Tuple r as'

abbrev pub blocks_of : Vocabulary → List Block
blocks_of voc = Equations Sw ∷ Equations Ho ∷ Equations Pr ∷ map (λ r. Tuples r) voc.relations

module _ (n : Sort → ℕ) (voc : Vocabulary) where
  -- the number of a fact: its number within its block, after all facts of the blocks before
  abbrev pub number_in : List Block → Fact → ℕ
  number_in [] f = 0
  number_in (b ∷ bs) f =
      if is_of b f then tuple_number n (columns_of voc b) (arguments f) else tuple_count n (columns_of voc b) + number_in bs f

  -- how many numbers there are
  abbrev pub total : List Block → ℕ
  total [] = 0
  total (b ∷ bs) = tuple_count n (columns_of voc b) + total bs

  -- the fact of a number
  abbrev pub fact_in : List Block → ℕ → Fact
  fact_in [] k = Tuple Ft []
  fact_in (b ∷ bs) k =
      if nat_lt k (tuple_count n (columns_of voc b)) then fact_of b (tuple_of n (columns_of voc b) k) else fact_in bs (k - tuple_count n (columns_of voc b))

  abbrev pub fact_number : Fact → ℕ
  fact_number = number_in (blocks_of voc)

  abbrev pub fact_count : ℕ
  fact_count = total (blocks_of voc)

  abbrev pub numbered_fact : ℕ → Fact
  numbered_fact = fact_in (blocks_of voc)
