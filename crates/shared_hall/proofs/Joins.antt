-- The step in which a seat ends keeps the rule; and what the last seat knows.
use Rattle.std.proofs.Common.{◌≡◌, ◌≢◌, ℕ, ◌+◌, ◌<◌, ◌≤◌, List, [], ◌∷◌, ◌++◌, length, set, Bool, true, false, refl, sym, ap, ◌∙◌, subst, inl, inr, ⊎_elim, arith}
use Rattle.std.proofs.lemmas.List.{append-nil}
use Rattle.std.specs.Prelude.{Option, Some, sum_by}
use Rattle.std.proofs.lemmas.List.Sums.{sum_by-append}
use mathlib.Core.Option.{some, some-injective}
use mathlib.Core.Logic.{dite}
use native.Mathlib.Decide.{ℕ_discrete}
use lib.ListN.{get_elem?}
use Rattle.atomic_table.specs.Table.{State, Joins, Final, Seen}
use Rattle.atomic_table.proofs.Lists.{at_set, set_else, at_longer, at_last}
use Rattle.csdn_history.specs.declared.entry.Entry.{Entry}
use Rattle.csdn_run.specs.Histories.{Running, with_history}
use Rattle.shared_hall.specs.declared.view.Account.{Account}
use Rattle.shared_hall.specs.declared.view.View.{View}
use Rattle.shared_hall.specs.declared.view.Setting.{Setting}
use Rattle.shared_hall.specs.declared.view.Stage.{Stage}
use Rattle.shared_hall.specs.declared.view.Stage.TheVariants.{Idle, Waiting, Serving}
use Rattle.shared_hall.specs.Views.{entries_by, acts_of, tickets_of, joined, spent}
use Rattle.shared_hall.specs.Rules.{Place, ended, SawAll, IsLongest, World, StageFits, IsTold, HasEnded, Sits, Fits, SlotFits, IsKept, Kept}
use Rattle.shared_hall.specs.Turns.{Keeps}
use Rattle.shared_hall.proofs.Words.{total_set, total_two, updated, updated_here, at_snoc_is}
use Rattle.shared_hall.proofs.Keeping.{Homes, fits_set, slot_stays, at_here, serving_idle, no_ticket}
use Rattle.shared_hall.proofs.Cuts.{sits_cut, saw_alone}

abbrev left_world : World → ℕ → Place → World
left_world w b to = record { drawn = w.drawn; served = w.served; past = w.past; owner = w.owner; place = updated w.place b to; out = w.out }

stage_left : (w : World) (b j : ℕ) (to : Place) (st : Stage) → StageFits w j st → StageFits (left_world w b to) j st
stage_left w b j to Idle h = tt
stage_left w b j to (Waiting t) h = h
stage_left w b j to (Serving t l) h = h

-- what was kept as ended stays at its place, and the other's account comes behind it
pub joined_kept : (v u : View) (n : ℕ) (a : Account) → get_elem? v.ended n ≡ some a → get_elem? (joined v u).ended n ≡ some a
joined_kept v u n a at = at_longer (v.ended ++ u.own ∷ []) u.ended n a (at_longer v.ended (u.own ∷ []) n a at)

pub joined_new : (v u : View) → get_elem? (joined v u).ended (length v.ended) ≡ some u.own
joined_new v u = at_longer (v.ended ++ u.own ∷ []) u.ended (length v.ended) u.own (at_last v.ended u.own (length v.ended) refl)

-- the view that took in another has seen all that either has
longest_join : (views : List View) (past : List Entry) (i o : ℕ) (v u : View) → u.ended ≡ [] → get_elem? views i ≡ some v → get_elem? views o ≡ some u → o ≢ i → IsLongest views past → IsLongest (set (set views i (joined v u)) o spent) past
longest_join views past i o v u alone at there ne x =
    dite (ℕ_discrete x.0 i)
    (λ (e : x.0 ≡ i).
    let same : x.1 ≡ v = some-injective x.1 v (sym x.2 ∙ (ap (get_elem? views) e ∙ at)) in
    (i, joined v u, here, ⊎_elim (λ own. inl own) (λ a. inr (a.0, a.1, joined_kept v u a.0 a.1 a.2, a.3)) (subst (SawAll past) same x.3)))
    (λ ni. dite (ℕ_discrete x.0 o)
    (λ (e : x.0 ≡ o).
    let same : x.1 ≡ u = some-injective x.1 u (sym x.2 ∙ (ap (get_elem? views) e ∙ there)) in
    (i, joined v u, here, inr (length v.ended, u.own, joined_new v u, saw_alone past u alone (subst (SawAll past) same x.3))))
    (λ no'. (x.0, x.1, set_else (set views i (joined v u)) o x.0 spent no' ∙ (set_else views i x.0 (joined v u) ni ∙ x.2), x.3)))
  where
    here : get_elem? (set (set views i (joined v u)) o spent) i ≡ some (joined v u)
    here = set_else (set views i (joined v u)) o i spent (λ e. ne (sym e)) ∙ at_here views i v (joined v u) at

-- the view that took in another sits where it sat, and keeps the other's account
sits_joined : (k : Setting) (place : ℕ → Place) (past : List Entry) (i o : ℕ) (v u : View) → i ≢ o → u.ended ≡ [] → Sits k place past i v → Sits k place past o u
    → Sits k (updated place u.own.number (ended i (length v.ended))) past i (joined v u)
sits_joined k place past i o v u ne alone m t =
    let b = u.own.number in
    let to = ended i (length v.ended) in
    let m' = sits_cut k place past b o i to v ne t.here m in
    let new : HasEnded k (updated place b to) past i (length v.ended) u.own =
    record { number = let x = t.number in let y = t.next in omega arith; acts = t.acts; here = updated_here place b to; told = t.told } in
    let whole : (joined v u).ended ≡ v.ended ++ u.own ∷ [] = ap (λ (l : List Account). (v.ended ++ u.own ∷ []) ++ l) alone ∙ append-nil (v.ended ++ u.own ∷ []) in record {
      opening = m'.opening;
      seats = m'.seats;
      number = m'.number;
      next = m'.next;
      acts = m'.acts;
      here = m'.here;
      rights = m'.rights;
      unborn = m'.unborn;
      told = m'.told;
      ended = λ n a at. ⊎_elim
          (λ old. m'.ended n a old)
          (λ is. subst (λ (y : ℕ × Account). HasEnded k (updated place b to) past i y.0 y.1) (λ z. (sym is.0 z, is.1 z)) new)
          (at_snoc_is v.ended u.own a n (ap (λ (l : List Account). get_elem? l n) (sym whole) ∙ at));
    }

acts_joined : (n : ℕ) (xs : List Account) (a : Account) (ys : List Account) → n + sum_by (λ (x : Account). x.acts) ((xs ++ a ∷ []) ++ ys) ≡ (n + sum_by (λ (x : Account). x.acts) xs) + (a.acts + sum_by (λ (x : Account). x.acts) ys)
acts_joined n xs a ys = omega (arith, sum_by-append (λ (x : Account). x.acts) (xs ++ a ∷ []) ys, sum_by-append (λ (x : Account). x.acts) xs (a ∷ []))

-- an idle seat takes in another, whose account has ended
pub joins : (k : Setting) (i : ℕ) (v : View) (o : ℕ) (u : View) → v.stage ≡ Idle → 0 < v.parts → u.stage ≡ Idle → 0 < u.parts → u.ended ≡ [] → Joins (Kept k) i v o u (joined v u) spent
joins k i v o u is some_v is_u some_u alone s (w, kept) at ne there' =
    let l = joined v u in
    let there : get_elem? s.views o ≡ some u = sym (set_else s.views i o l ne) ∙ there' in
    let mine = kept.views i v at in
    let theirs = kept.views o u there in
    let m = mine.sits some_v in
    let t = theirs.sits some_u in
    let b = u.own.number in
    let to = ended i (length v.ended) in
    let w' = left_world w b to in
    let gone : Fits k w' o spent = record { acts = omega arith; stage = tt; idle = λ p. refl; sits = λ p. absurd (omega arith) } in
    let sum : acts_of l ≡ acts_of v + acts_of u = acts_joined v.own.acts v.ended u.own u.ended in
    let own : Fits k w' i l = record {
      acts = let a = mine.acts in let c = theirs.acts in omega arith;
      stage = stage_left w b i to v.stage mine.stage;
      idle = λ p. is;
      sits = λ p. sits_joined k w.place w.past i o v u (λ e. ne (sym e)) alone m t;
    } in
    let others : (j : ℕ) (x : View) → j ≢ i → j ≢ o → get_elem? s.views j ≡ some x → Fits k w' j x = λ j x ni no' e.
    let q = kept.views j x e in record { acts = q.acts; stage = stage_left w b j to x.stage q.stage; idle = q.idle; sits = λ p. sits_cut k w.place w.past b o j to x no' t.here (q.sits p) } in (
      w',
      record {
        words = kept.words;
        few = kept.few;
        parts = let e = total_set (λ (y : View). y.parts) s.views i v l at in let f = total_set (λ (y : View). y.parts) (set s.views i l) o u spent there' in let a = kept.parts in omega arith;
        acts = let e = total_set acts_of s.views i v l at in let f = total_set acts_of (set s.views i l) o u spent there' in let a = kept.acts in omega arith;
        tickets = let e = total_set tickets_of s.views i v l at in let f = total_set tickets_of (set s.views i l) o u spent there' in let a = kept.tickets in let z = no_ticket u is_u in omega arith;
        slot = slot_stays k.opening.value w.past (w.owner w.served) o (set s.views i l) u spent w.out s.homes there' (λ t h e. absurd (serving_idle t h (sym is_u ∙ e)))
            (slot_stays k.opening.value w.past (w.owner w.served) i s.views v l w.out s.homes at (λ t h e. absurd (serving_idle t h (sym is ∙ e))) kept.slot);
        room = kept.room;
        longest = longest_join s.views w.past i o v u alone at there ne kept.longest;
        views = fits_set k w' (set s.views i l) o spent
            (λ j x no' e. ⊎_elim
            (λ (y : (j ≡ i) × (l ≡ x)). subst (λ (z : ℕ × View). Fits k w' z.0 z.1) (λ n. (sym y.0 n, y.1 n)) own)
            (λ (y : (j ≢ i) × (get_elem? s.views j ≡ some x)). others j x y.0 no' y.1)
            (at_set s.views i j l x e))
            gone;
      },
    )

-- ---- the close

-- where one idle view stands for all seats, the slot is at home
home_of : (k : Setting) (s : State (Option Running) View) (w : World) (out : Bool) (homes : Homes) → IsKept k s w → (i : ℕ) (v : View) → get_elem? s.views i ≡ some v → v.stage ≡ Idle → v.parts ≡ k.seats
    → SlotFits k.opening.value w.past (w.owner w.served) s.views out homes → homes ≡ some (Some (with_history k.opening.value w.past)) ∷ []
home_of k s w false homes kept i v at is all slot = slot
home_of k s w true homes kept i v at is all slot = absurd (dite (ℕ_discrete i (w.owner w.served)) same other)
  where
    x : View
    x = slot.1.0

    same : i ≡ w.owner w.served → ⊥
    same e = serving_idle slot.1.2.0 slot.1.2.1 (sym is ∙ (ap (λ (y : View). y.stage) (some-injective v x (sym at ∙ (ap (get_elem? s.views) e ∙ slot.1.1))) ∙ slot.1.2.2))

    other : i ≢ w.owner w.served → ⊥
    other ne =
        let two = total_two (λ (y : View). y.parts) s.views i (w.owner w.served) v x ne at slot.1.1 in
        let sum = kept.parts in
        serving_idle slot.1.2.0 slot.1.2.1 (sym ((kept.views (w.owner w.served) x slot.1.1).idle (omega arith)) ∙ slot.1.2.2)

-- what the last seat knows, once it stands for all seats: the slot has the runtime of one past, which is as each account says
pub record Ends (k : Setting) (v : View) (slots : List (Option Running)) (past : List Entry) : Type 0 where
  pub slot : get_elem? slots 0 ≡ some (Some (with_history k.opening.value past))
  pub told : (a : Account) → Keeps v a → IsTold past a
  pub below : (b : ℕ) → k.seats ≤ b → entries_by b past ≡ []

pub ends : (k : Setting) (i : ℕ) (v : View) (words : List ℕ) (slots : List (Option Running)) → v.stage ≡ Idle → v.parts ≡ k.seats → 0 < v.parts → Final (Seen (Kept k) i v) words slots
    → (past : List Entry) × Ends k v slots past
ends k i v words slots is all some_part f =
    let s = f.0 in
    let w = f.1.0.0 in
    let kept = f.1.0.1 in
    let m = (kept.views i v f.1.1).sits some_part in
    let home = home_of k s w w.out s.homes kept i v f.1.1 is all kept.slot in (
      w.past,
      record {
        slot = f.4 0 (Some (with_history k.opening.value w.past)) (ap (λ (hs : Homes). get_elem? hs 0) home);
        told = λ a x. ⊎_elim (λ own. subst (IsTold w.past) own m.told) (λ e. (m.ended e.0 a e.1).told) x;
        below = λ b le. m.unborn b (let x = m.next in omega arith);
      },
    )
