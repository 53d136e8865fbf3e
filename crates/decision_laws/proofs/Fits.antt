-- A form that is well-sorted in a vocabulary, as a test.
use Rattle.std.specs.Prelude.{ℕ, ◌==◌, Bool, true, false, ◌&&◌, List, [], ◌∷◌, if◌then◌else◌}
use Rattle.std.specs.List.{list_any}
use Rattle.csdn_core.specs.Same.{same_sort}
use Rattle.csdn_core.specs.declared.terms.Sort.{Sort}
use Rattle.csdn_core.specs.declared.terms.Sort.TheVariants.{Sw, Pr}
use Rattle.csdn_core.specs.declared.terms.Term.{Term}
use Rattle.csdn_core.specs.declared.terms.Term.TheVariants.{Var, Const, Port}
use Rattle.csdn_core.specs.Network.{same_pred}
use Rattle.decision_laws.specs.Vocabulary.{Vocabulary, find_or, has_term}
use Rattle.fol_forms.specs.Forms.{Form, Fixed, Atom, Same, And, Or, ForAll, ForSome}

-- the sort of a variable in scope, the innermost first
abbrev pub is_bound : List (ℕ × Sort) → ℕ → Sort → Bool
is_bound [] v s = false
is_bound (p ∷ ps) v s = if v == p.0 then same_sort p.1 s else is_bound ps v s

module _ (voc : Vocabulary) where
  -- a term of this sort: a variable in scope, a declared constant or a numeral
  abbrev pub term_fits : List (ℕ × Sort) → Sort → Term → Bool
  term_fits bound s (Var v) = is_bound bound v.0 s
  term_fits bound s (Const c) = same_sort (voc.constant_sort c.0) s && has_term (Const c) (voc.names s)
  term_fits bound s (Port k) = same_sort Pr s && has_term (Port k) (voc.names s)

  -- one after another, and as many
  abbrev pub terms_fit : List (ℕ × Sort) → List Sort → List Term → Bool
  terms_fit bound [] [] = true
  terms_fit bound [] (t ∷ ts) = false
  terms_fit bound (s ∷ ss) [] = false
  terms_fit bound (s ∷ ss) (t ∷ ts) = term_fits bound s t && terms_fit bound ss ts

  -- the sort of a term
  abbrev pub term_sort : List (ℕ × Sort) → Term → Sort
  term_sort bound (Var v) = find_or Sw bound v.0
  term_sort bound (Const c) = voc.constant_sort c.0
  term_sort bound (Port k) = Pr

  -- well-sorted, its variables among those in scope and its relations among the vocabulary's
  abbrev pub fits : List (ℕ × Sort) → Form → Bool
  fits bound (Fixed b) = true
  fits bound (Atom sign r ts) = list_any (same_pred r) voc.relations && terms_fit bound (voc.columns r) ts
  fits bound (Same sign t u) = term_fits bound (term_sort bound t) t && term_fits bound (term_sort bound t) u
  fits bound (And p q) = fits bound p && fits bound q
  fits bound (Or p q) = fits bound p && fits bound q
  fits bound (ForAll v s p) = fits ((v.0, s) ∷ bound) p
  fits bound (ForSome v s p) = fits ((v.0, s) ∷ bound) p
