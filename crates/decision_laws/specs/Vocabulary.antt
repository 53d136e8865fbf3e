-- What a sentence is written with: the names of each sort, and the relations that it uses.
use Rattle.std.specs.Prelude.{ℕ, zero, suc, ◌==◌, Bool, false, ◌||◌, List, [], ◌∷◌, ◌++◌, map, length, filter, if◌then◌else◌, Option, Some, None, slice_get}
use Rattle.std.specs.List.{list_any}
use Rattle.csdn_core.specs.Same.{same_term}
use Rattle.csdn_core.specs.declared.terms.Sort.{Sort}
use Rattle.csdn_core.specs.declared.terms.Sort.TheVariants.{Sw}
use Rattle.csdn_core.specs.declared.terms.Term.{Term}
use Rattle.csdn_core.specs.declared.terms.Pred.{Pred}
use Rattle.csdn_core.specs.declared.terms.Pred.TheVariants.{Stored, Ft, Sent}
use Rattle.csdn_core.specs.declared.program.Parts.{Parts}
use Rattle.csdn_core.specs.declared.program.Constant.{Constant}
use Rattle.csdn_core.specs.Network.{same_pred}
use Rattle.csdn_core.specs.Sorted.{sorts_of}
use Rattle.csdn_core.specs.WellSorted.{signature}
use Rattle.fol_forms.specs.Forms.{Form, Fixed, Atom, Same, And, Or, ForAll, ForSome}
use Rattle.fol_forms.specs.Constants.{names_of}

abbrev pub has_term : Term → List Term → Bool
has_term t ts = list_any (same_term t) ts

pub record Vocabulary : Type 0 where
  -- the declared constants of each sort in order, and for the ports the numerals after them
  pub names : Sort → List Term
  -- the sort of each declared constant, by its number
  pub constant_sort : ℕ → Sort
  pub numerals : List ℕ
  -- the relations of which facts are spoken, and their sorts
  pub relations : List Pred
  pub columns : Pred → List Sort

-- whether a relation stands in a normal form
abbrev pub uses : Form → Pred → Bool
uses (Fixed b) r = false
uses (Atom sign q ts) r = same_pred q r
uses (Same sign t u) r = false
uses (And p q) r = uses p r || uses q r
uses (Or p q) r = uses p r || uses q r
uses (ForAll v s p) r = uses p r
uses (ForSome v s p) r = uses p r

abbrev pub sort_or : Option Constant → Sort
sort_or None = Sw
sort_or (Some c) = c.sort

abbrev pub sorts_or : Option (List Sort) → List Sort
sorts_or None = []
sorts_or (Some ss) = ss

-- n numbers from i on
abbrev pub places_from : ℕ → ℕ → List ℕ
places_from i zero = []
places_from i (suc n) = i ∷ places_from (suc i) n

-- all relations that a state or a network has: the declared ones in order, then `ft` and `sent`
abbrev pub all_relations : Parts → List Pred
all_relations P = map (λ k. Stored (record { 0 = k })) (places_from 0 (length P.relations)) ++ Ft ∷ Sent ∷ []

-- the sort of a declared constant, by its number
abbrev pub sort_of_constant : Parts → ℕ → Sort
sort_of_constant P k = sort_or (slice_get P.constants k)

-- the vocabulary of a sentence of a program
abbrev pub vocabulary : Parts → Form → Vocabulary
vocabulary P f = record {
  names = names_of P;
  constant_sort = sort_of_constant P;
  numerals = P.numerals;
  relations = filter (uses f) (all_relations P);
  columns = λ r. sorts_or (sorts_of (signature P) r);
}

-- what the first pair with this number gives
abbrev pub find_or : {X : Type 0} → X → List (ℕ × X) → ℕ → X
find_or x [] v = x
find_or x (p ∷ ps) v = if v == p.0 then p.1 else find_or x ps v
