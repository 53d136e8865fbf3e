-- What copies of a `forall` are.
use Rattle.std.proofs.Common.{◌≡◌, ◌∙◌, ℕ, ◌+◌, ◌<◌, Bool, true, false, List, ◌∷◌, sym, ap, ap₂, subst, arith, inl, inr}
use Rattle.std.proofs.lemmas.Bool.{cases_Bool, cases_eq, false≢true}
use Rattle.std.specs.List.{list_all}
use Rattle.csdn_core.specs.declared.terms.Sort.{Sort}
use Rattle.csdn_core.specs.declared.terms.VarId.{VarId}
use Rattle.fol_forms.specs.Forms.{Form, ForAll}
use Rattle.decision_laws.specs.Copies.{Scope, copies}
use Rattle.decision_laws.specs.Vocabulary.{places_from}
use Rattle.decision_laws.proofs.Basics.{all_at, all_from, in_place, place_in, judge-each}
use Rattle.ground_inst.specs.Walk.{scope, ways_of}
use Rattle.ground_inst.specs.declared.places.Binding.{Binding}
use Rattle.copy_truth.specs.declared.reading.Reading.{Reading}
use Rattle.copy_truth.specs.Judged.{judged_bound, judged_copies}
use Rattle.copy_truth.specs.Said.{said_by}

module _ (r : Reading) (f : Form) (v : VarId) (s : Sort) (env : Scope) (base : Sort → ℕ) where
  abbrev here : ℕ → Bool
  here a = judged_bound r f (record { var = v; sort = s; place = a }) env base

  whole : judged_copies r (ForAll v s f) env base ≡ list_all here (places_from 0 ((ways_of r.names).count s))
  whole = judge-each (said_by r) ((ways_of r.names).count s) (λ a. copies (ways_of r.names).voc (ways_of r.names).count f ((v.0, (s, a)) ∷ env) base)

  pub all_judged : (i : ℕ) → i ≡ (ways_of r.names).count s → list_all here (places_from 0 i) ≡ true → true ≡ judged_copies r (ForAll v s f) env base
  all_judged i e h = sym (whole ∙ subst (λ k. list_all here (places_from 0 k) ≡ true) e h)

  pub one_judged : (i : ℕ) (b : Bool) → i < (ways_of r.names).count s → b ≡ here i → b ≡ false → false ≡ judged_copies r (ForAll v s f) env base
  one_judged i b l e is =
      elim (cases_Bool (judged_copies r (ForAll v s f) env base)) [
        | inl t ↦ absurd (false≢true (sym is ∙ e ∙ all_at here (places_from 0 ((ways_of r.names).count s)) i (place_in 0 ((ways_of r.names).count s) i (omega arith) (omega (arith, l))) (sym whole ∙ t)))
        | inr t ↦ sym t
      ]

  pub more_judged : (i : ℕ) (b : Bool) → list_all here (places_from 0 i) ≡ true → b ≡ here i → b ≡ true → list_all here (places_from 0 (i + 1)) ≡ true
  more_judged i b h e is =
      all_from here (places_from 0 (i + 1)) (λ x o.
      elim (cases_eq x i) [
        | inl q ↦ ap here q ∙ sym e ∙ is
        | inr ne ↦ all_at here (places_from 0 i) x (place_in 0 i x (omega arith) (omega (arith, (in_place 0 (i + 1) x o).1, ne))) h
      ])

-- a member of it, by what its call was given
pub member_judged : (r : Reading) (f : Form) (base : Sort → ℕ) (given member : Binding) (bs env : List Binding) (b : Bool) → given ≡ member → bs ≡ env → b ≡ judged_bound r f given (scope bs) base → b ≡ judged_bound r f member (scope env) base
member_judged r f base given member bs env b d k e = e ∙ ap₂ (λ x xs. judged_bound r f x (scope xs) base) d k
