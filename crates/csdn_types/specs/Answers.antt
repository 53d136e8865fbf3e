-- Answers of calls that refuse at the first broken rule.
use Rattle.std.specs.Prelude.{◌≡◌, ◌⊎◌, List, [], ◌∷◌, Option, Some, None, Result, MatchResult}
use Rattle.csdn_types.specs.declared.refusal.SortRefusal.{SortRefusal}
use Rattle.csdn_types.specs.declared.refusal.SortRefusal.TheVariants.{Memory}

abbrev pub head : List SortRefusal → Option SortRefusal
head [] = None
head (fault ∷ faults) = Some fault

-- the first of the faults, or want of memory
pub record IsFirst (faults : List SortRefusal) (e : SortRefusal) : Type 0 where
  pub is : (e ≡ Memory) ⊎ (head faults ≡ Some e)

-- no rule is broken, and this is what stands for the tree
pub record IsTyped (A : Type 0) (faults : List SortRefusal) (value : A) (v : A) : Type 0 where
  pub free : faults ≡ []
  pub is : v ≡ value

-- the value where no rule is broken, and else the first of those that are
abbrev pub Answers : {A : Type 0} → List SortRefusal → A → Result A SortRefusal → Type 0
Answers {A} faults value result = MatchResult result (IsTyped A faults value) (IsFirst faults)
