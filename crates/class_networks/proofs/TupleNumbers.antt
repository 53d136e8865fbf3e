-- The numbers of tuples, and the relations whose tuples are numbered.
use Rattle.std.proofs.Common.{◌≡◌, ◌∙◌, ap, ap₂, sym, refl, subst, inl, inr, cond, ℕ, ◌+◌, ◌*◌, ◌/◌, ◌%◌, ◌<◌, Bool, true, false, List, [], ◌∷◌}
use Rattle.std.proofs.lemmas.Nat.{div-add-mod', div-mul-add, mod-mul-add}
use Rattle.std.proofs.Math.Nat.{mod-lt}
use Rattle.csdn_core.specs.Members.{AreDistinct, IsIn}
use Rattle.csdn_core.specs.Network.{same_pred}
use Rattle.csdn_core.proofs.Same.{same_pred-is, same_pred-refl}
use Rattle.csdn_core.specs.declared.terms.Pred.{Pred}
use Rattle.csdn_core.specs.declared.terms.Sort.{Sort}
use Rattle.decision_laws.specs.Copies.{AreBelow}
use Rattle.decision_laws.specs.Numbers.{tuple_count, tuple_number, tuple_of}
use Rattle.ground_inst.specs.Facts.{numbered, tuple_place}
use Rattle.ground_inst.specs.declared.facts.UsedRelation.{UsedRelation}
use Rattle.class_networks.specs.Made.{left_over}

module _ (n : Sort → ℕ) where
  -- a number of which nothing is left is that of its tuple, which is one of constants
  pub record NumbersTuple (ss : List Sort) (k : ℕ) : Type 0 where
    pub below : AreBelow n ss (tuple_of n ss k)
    pub number : tuple_number n ss (tuple_of n ss k) ≡ k

  pub number_of_tuple : ((s : Sort) → 0 < n s) → (ss : List Sort) (k : ℕ) → left_over n ss k ≡ 0 → NumbersTuple ss k
  number_of_tuple some [] k e = record { below = tt; number = sym e }
  number_of_tuple some (s ∷ ss) k e =
      let deep = number_of_tuple some ss (k / n s) e in
      record {
        below = (mod-lt k (some s), deep.below);
        number = ap (λ m. m * n s + k % n s) deep.number ∙ div-add-mod' k (n s);
      }

  -- a tuple of constants is that of its number, of which nothing is left
  pub record IsTupleOf (ss : List Sort) (xs : List ℕ) : Type 0 where
    pub tuple : tuple_of n ss (tuple_number n ss xs) ≡ xs
    pub nothing_left : left_over n ss (tuple_number n ss xs) ≡ 0

  pub tuple_of_number : (ss : List Sort) (xs : List ℕ) → AreBelow n ss xs → IsTupleOf ss xs
  tuple_of_number [] [] h = record { tuple = refl; nothing_left = refl }
  tuple_of_number [] (x ∷ xs) h = elim h [ ]
  tuple_of_number (s ∷ ss) [] h = elim h [ ]
  tuple_of_number (s ∷ ss) (x ∷ xs) h =
      let deep = tuple_of_number ss xs h.1 in
      let first : (tuple_number n ss xs * n s + x) % n s ≡ x = mod-mul-add (tuple_number n ss xs) (n s) x h.0 in
      let rest : (tuple_number n ss xs * n s + x) / n s ≡ tuple_number n ss xs = div-mul-add (tuple_number n ss xs) (n s) x h.0 in
      record {
        tuple = ap₂ (λ y ys. y ∷ ys) first (ap (tuple_of n ss) rest ∙ deep.tuple);
        nothing_left = ap (left_over n ss) rest ∙ deep.nothing_left;
      }

  module _ (columns : Pred → List Sort) where
    -- what is known of a relation that is numbered among others
    pub record IsUsed (rs : List Pred) (before : ℕ) (u : UsedRelation) : Type 0 where
      pub one : IsIn u.relation rs
      pub sorts : u.sorts ≡ columns u.relation
      pub place : (none : ℕ) (xs : List ℕ) → tuple_place n (numbered n columns before rs) none u.relation xs ≡ u.before + tuple_number n u.sorts xs

    skipped : (q r : Pred) (rs : List Pred) (here later : ℕ) → (IsIn q rs → ⊥) → IsIn r rs → (b : Bool) → same_pred q r ≡ b → cond b here later ≡ later
    skipped q r rs here later apart i true e = absurd (apart (subst (λ z. IsIn z rs) (sym (same_pred-is q r e)) i))
    skipped q r rs here later apart i false e = refl

    found : (q : Pred) (here later : ℕ) → cond (same_pred q q) here later ≡ here
    found q here later = ap (λ b. cond b here later) (same_pred-refl q)

    pub used_is : (rs : List Pred) (before : ℕ) (u : UsedRelation) → AreDistinct rs → IsIn u (numbered n columns before rs) → IsUsed rs before u
    used_is [] before u distinct i = elim i [ ]
    used_is (q ∷ rs) before u distinct i =
        let more = before + tuple_count n (columns q) in
        let first : UsedRelation = record { relation = q; sorts = columns q; before = before } in
        elim i [
          | inl e ↦ subst (IsUsed (q ∷ rs) before) (sym e)
              (let whole : IsUsed (q ∷ rs) before first = record {
                one = inl refl;
                sorts = refl;
                place = λ none xs. found q (before + tuple_number n (columns q) xs) (tuple_place n (numbered n columns more rs) none q xs);
              } in
              whole)
          | inr later ↦ (
              let deep = used_is rs more u distinct.1 later in
              record {
                one = inr deep.one;
                sorts = deep.sorts;
                place = λ none xs.
                    skipped q u.relation rs (before + tuple_number n (columns q) xs) (tuple_place n (numbered n columns more rs) none u.relation xs) distinct.0 deep.one (same_pred q u.relation) refl
                    ∙ deep.place none xs;
              })
        ]

    -- each of the relations is numbered
    pub relation_used : (rs : List Pred) (before : ℕ) (r : Pred) → IsIn r rs → (u : UsedRelation) × IsIn u (numbered n columns before rs) × (u.relation ≡ r)
    relation_used [] before r i = elim i [ ]
    relation_used (q ∷ rs) before r i =
        elim i [
          | inl e ↦ (record { relation = q; sorts = columns q; before = before }, inl refl, sym e)
          | inr later ↦ (let w = relation_used rs (before + tuple_count n (columns q)) r later in (w.0, inr w.1, w.2))
        ]
