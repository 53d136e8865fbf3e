-- Seats that are made, and seats that end.
use Rattle.std.proofs.Common.{◌≡◌, ℕ, ◌+◌, ◌-◌, ◌<◌, List, [], ◌∷◌, ◌++◌, length, refl, sym, ap, ◌∙◌, subst, inl, inr, ⊎_elim, arith, zero-add}
use Rattle.std.specs.Prelude.{Option, Some}
use Rattle.std.proofs.lemmas.List.FromFn.{map-range_with_len_more}
use mathlib.Core.Option.{some, some-injective}
use lib.ListN.{get_elem?}
use Rattle.atomic_table.specs.Table.{Splits, Final, Seen}
use Rattle.csdn_history.specs.declared.entry.Entry.{Entry}
use Rattle.csdn_run.specs.Histories.{Running, with_history}
use Rattle.shared_hall.specs.declared.view.Account.{Account}
use Rattle.shared_hall.specs.declared.view.Setting.{Setting}
use Rattle.shared_hall.specs.Views.{entries_by, kept_part, given_part, dealing, joined}
use Rattle.shared_hall.specs.Rules.{Kept, IsTold}
use Rattle.shared_hall.specs.Plays.{Mine}
use Rattle.shared_hall.specs.Turns.{IsDealing, IsFresh, IsKeeper, TakesIn, EndsWith}
use Rattle.shared_hall.specs.Halls.{HallView, SeatView, fresh, fresh_seats}
use Rattle.shared_hall.proofs.Cuts.{splits}
use Rattle.shared_hall.proofs.Joins.{ends, joined_kept, joined_new}

-- ---- seats are made

pub deals : (k : Setting) (i : ℕ) (r : Running) (seats n : ℕ) (me : Mine) → IsDealing r seats n me → n + 1 < seats → Splits (Kept k) i me.0 (kept_part me.0) (given_part me.0)
deals k i r seats n me is lt =
    let P : Mine → Type 0 = λ m. Splits (Kept k) i m.0 (kept_part m.0) (given_part m.0) in
    subst P (sym is) (splits k i (dealing r seats n (seats - n)) refl refl refl (omega arith) lt)

pub deals_on : (r : Running) (seats n : ℕ) (me now : Mine) → IsDealing r seats n me → now ≡ (kept_part me.0, me.1) → IsDealing r seats (n + 1) now
deals_on r seats n me now is e =
    let p : (seats - n) - 1 ≡ seats - (n + 1) = omega arith in
    e ∙ ((λ z. (kept_part (is z).0, (is z).1)) ∙ λ z. (dealing r seats (n + 1) (p z), []))

pub given_fresh : (r : Running) (seats n : ℕ) (me new : Mine) → IsDealing r seats n me → new ≡ (given_part me.0, []) → IsFresh r seats n new
given_fresh r seats n me new is e =
    let P : Mine → Type 0 = λ m. IsFresh r seats n m in
    let x : new ≡ (given_part (dealing r seats n (seats - n)), []) = e ∙ λ z. (given_part (is z).0, []) in
    subst P (sym x) (record { slots = refl; idle = refl; one = refl; alone = refl; own = refl; opening_is = refl; seats_is = refl })

pub last_fresh : (r : Running) (seats n : ℕ) (me : Mine) → IsDealing r seats n me → n + 1 ≡ seats → IsFresh r seats n me
last_fresh r seats n me is e =
    let P : Mine → Type 0 = λ m. IsFresh r seats n m in
    subst P (sym is) (record { slots = refl; idle = refl; one = omega arith; alone = refl; own = refl; opening_is = refl; seats_is = refl })

pub one_more : (hall : HallView) (n : ℕ) (row now : List SeatView) (seat : SeatView) → row ≡ fresh_seats hall n → seat ≡ fresh hall n → now ≡ row ++ seat ∷ [] → now ≡ fresh_seats hall (n + 1)
one_more hall n row now seat is made pushed = pushed ∙ ((λ z. is z ++ made z ∷ []) ∙ sym (map-range_with_len_more (fresh hall) 0 n n (zero-add n)))

-- ---- seats end

pub takes_in : (old new u : Mine) (a : Account) → IsKeeper old → u.0.parts ≡ 1 → u.0.own ≡ a → new ≡ (joined old.0 u.0, old.1) → TakesIn old new a
takes_in old new u a keeper one own is =
    let P : Mine → Type 0 = λ m. TakesIn old m a in
    subst P (sym is) (record {
      keeper = record { slots = keeper.slots; idle = keeper.idle; some_part = let k = keeper.some_part in omega arith };
      parts = ap (λ n. old.0.parts + n) one;
      kept = λ b k. ⊎_elim (λ same. inl same) (λ c. inr (c.0, joined_kept old.0 u.0 c.0 b c.1)) k;
      taken = inr (length old.0.ended, joined_new old.0 u.0 ∙ ap (λ (x : Account). some x) own);
    })

pub ends_with : (k : Setting) (r0 : Running) (seats i : ℕ) (me : Mine) (words : List ℕ) (slots : List (Option Running)) (r : Running) → k.opening.value ≡ r0 → k.seats ≡ seats
    → IsKeeper me → me.0.parts ≡ seats → Final (Seen (Kept k) i me.0) words slots → get_elem? slots 0 ≡ some (Some r) → EndsWith r0 seats me.0 r
ends_with k r0 seats i me words slots r opening is_seats keeper all f at =
    let x = ends k i me.0 words slots keeper.idle (all ∙ sym is_seats) keeper.some_part f in
    let past = x.0 in
    let e = x.1 in
    let is : r ≡ with_history k.opening.value past = same_runtime r (with_history k.opening.value past) (some-injective (Some r) (Some (with_history k.opening.value past)) (sym at ∙ e.slot)) in
    let h : past ≡ r.history = ap (λ (y : Running). y.history) (sym is) in
    record {
      runtime = is ∙ λ z. with_history (opening z) (h z);
      told = λ a kept. subst (λ (l : List Entry). IsTold l a) h (e.told a kept);
      below = λ b le. ap (entries_by b) (sym h) ∙ e.below b (omega arith);
    }
  where
    same_runtime : (a b : Running) → Some a ≡ Some b → a ≡ b
    same_runtime a b e = cc

pub never_empty : (k : Setting) (i : ℕ) (me : Mine) (words : List ℕ) (slots : List (Option Running)) (x : Option Running)
    → IsKeeper me → me.0.parts ≡ k.seats → Final (Seen (Kept k) i me.0) words slots → get_elem? slots 0 ≡ some x → ((r : Running) → x ≡ Some r → ⊥) → ⊥
never_empty k i me words slots x keeper all f at never =
    let e = ends k i me.0 words slots keeper.idle all keeper.some_part f in
    never (with_history k.opening.value e.0) (some-injective x (Some (with_history k.opening.value e.0)) (sym at ∙ e.1.slot))
