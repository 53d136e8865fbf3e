-- The opening meets the rule, and the step that cuts a seat keeps it.
use Rattle.std.proofs.Common.{◌≡◌, ◌≢◌, ℕ, zero, suc, ◌<◌, ◌≤◌, List, [], ◌∷◌, ◌++◌, length, set, Bool, true, false, refl, sym, ap, ◌∙◌, subst, inl, ⊎_elim, arith}
use Rattle.std.specs.Prelude.{Some}
use mathlib.Core.Option.{some, some-ne-none, some-injective}
use mathlib.Core.Logic.{dite}
use native.Mathlib.Decide.{ℕ_discrete}
use lib.ListN.{get_elem?}
use Rattle.atomic_table.specs.Table.{Splits, opening}
use Rattle.atomic_table.proofs.Lists.{set_else, at_longer, at_last}
use Rattle.csdn_history.specs.declared.entry.Entry.{Entry}
use Rattle.csdn_run.specs.Histories.{Running, with_history}
use Rattle.shared_hall.specs.declared.view.Account.{Account}
use Rattle.shared_hall.specs.declared.view.View.{View}
use Rattle.shared_hall.specs.declared.view.Setting.{Setting}
use Rattle.shared_hall.specs.declared.view.Stage.{Stage}
use Rattle.shared_hall.specs.declared.view.Stage.TheVariants.{Idle, Waiting, Serving}
use Rattle.shared_hall.specs.Views.{acts_of, tickets_of, opened, kept_part, given_part}
use Rattle.shared_hall.specs.Rules.{Place, sits, SawAll, IsLongest, World, StageFits, Sits, Fits, SlotFits, Kept}
use Rattle.shared_hall.proofs.Words.{total_set, total_snoc, updated, updated_here, updated_else, at_snoc_is}
use Rattle.shared_hall.proofs.Keeping.{Homes, fits_set, slot_stays, serving_idle, no_ticket, sits_apart, ended_apart}

pub opens : (k : Setting) (r : Running) → k.opening.value ≡ r → r.history ≡ [] → 0 < k.seats → k.seats ≤ 64 → Kept k (opening (0 ∷ 0 ∷ []) (Some r ∷ []) (opened k.opening.value k.seats))
opens k r is new some_seat few =
    let w : World = record { drawn = 0; served = 0; past = []; owner = λ t. 0; place = λ b. sits 0; out = false } in
    let v = opened k.opening.value k.seats in (
      w,
      record {
        words = refl;
        few = few;
        parts = omega arith;
        acts = omega arith;
        tickets = omega arith;
        slot = ap (λ (x : Running). some (Some x) ∷ []) (with_same r [] new ∙ ap (λ (x : Running). with_history x []) (sym is));
        room = omega arith;
        longest = (0, v, refl, inl refl);
        views = one v w (record {
          acts = omega arith;
          stage = tt;
          idle = λ p. refl;
          sits = λ p. record {
            opening = refl;
            seats = refl;
            number = omega arith;
            next = omega arith;
            acts = omega arith;
            here = refl;
            rights = λ b le lt. refl;
            unborn = λ b le. refl;
            told = record { seen = ([], refl); mine = refl };
            ended = λ n a at. absurd (some-ne-none a (sym at));
          };
        });
      },
    )
  where
    with_same : (r : Running) (h : List Entry) → r.history ≡ h → r ≡ with_history r h
    with_same r h e = λ i. with_history r (e i)

    one : (v : View) (w : World) → Fits k w 0 v → (i : ℕ) (u : View) → get_elem? (v ∷ []) i ≡ some u → Fits k w i u
    one v w f zero u e = subst (Fits k w 0) (some-injective v u e) f
    one v w f (suc i) u e = absurd (some-ne-none u (sym e))

-- another view keeps its numbers where one number goes elsewhere from the view i
pub sits_cut : (k : Setting) (place : ℕ → Place) (past : List Entry) (b i j : ℕ) (to : Place) (x : View) → j ≢ i → place b ≡ sits i → Sits k place past j x → Sits k (updated place b to) past j x
sits_cut k place past b i j to x ne here m =
    let apart : (c : ℕ) → place c ≡ sits j → c ≢ b = λ c p e. ne (sits_apart j i (sym p ∙ (ap place e ∙ here))) in record {
      opening = m.opening;
      seats = m.seats;
      number = m.number;
      next = m.next;
      acts = m.acts;
      here = updated_else place b to x.own.number (apart x.own.number m.here) ∙ m.here;
      rights = λ c le lt. updated_else place b to c (apart c (m.rights c le lt)) ∙ m.rights c le lt;
      unborn = m.unborn;
      told = m.told;
      ended = λ n a at. let h = m.ended n a at in record {
        number = h.number;
        acts = h.acts;
        here = updated_else place b to a.number (λ e. ended_apart i j n (place a.number) h.here (ap place e ∙ here)) ∙ h.here;
        told = h.told;
      };
    }

-- ---- a cut

abbrev cut_world : World → ℕ → ℕ → World
cut_world w b n = record { drawn = w.drawn; served = w.served; past = w.past; owner = w.owner; place = updated w.place b (sits n); out = w.out }

slot_longer : (r : Running) (past : List Entry) (j : ℕ) (views : List View) (u : View) (out : Bool) (homes : Homes)
    → SlotFits r past j views out homes → SlotFits r past j (views ++ u ∷ []) out homes
slot_longer r past j views u false homes slot = slot
slot_longer r past j views u true homes slot = (slot.0, (slot.1.0, at_longer views (u ∷ []) j slot.1.0 slot.1.1, slot.1.2))

longest_cut : (views : List View) (past : List Entry) (i : ℕ) (v l r : View) → get_elem? views i ≡ some v → (SawAll past v → SawAll past r) → IsLongest views past → IsLongest (set views i l ++ r ∷ []) past
longest_cut views past i v l r at keep x =
    dite (ℕ_discrete x.0 i)
    (λ (e : x.0 ≡ i).
    let same : x.1 ≡ v = some-injective x.1 v (sym x.2 ∙ (ap (get_elem? views) e ∙ at)) in
    (length (set views i l), r, at_last (set views i l) r (length (set views i l)) refl, keep (subst (SawAll past) same x.3)))
    (λ ne. (x.0, x.1, at_longer (set views i l) (r ∷ []) x.0 x.1 (set_else views i x.0 l ne ∙ x.2), x.3))

-- a view that keeps no account as ended has seen all itself
pub saw_alone : (past : List Entry) (v : View) → v.ended ≡ [] → SawAll past v → v.own.seen ≡ past
saw_alone past v alone x = ⊎_elim (λ own. own) (λ e. absurd (some-ne-none e.1 (sym (ap (λ (l : List Account). get_elem? l e.0) (sym alone) ∙ e.2)))) x

-- the first seat, which never acted, gives the next one away
pub splits : (k : Setting) (i : ℕ) (v : View) → v.stage ≡ Idle → v.own.acts ≡ 0 → v.ended ≡ [] → 1 < v.parts → v.next < v.seats → Splits (Kept k) i v (kept_part v) (given_part v)
splits k i v is new alone many more s (w, kept) at =
    let mine = kept.views i v at in
    let m = mine.sits (omega arith) in
    let l = kept_part v in
    let r = given_part v in
    let n = length (set s.views i l) in
    let w' = cut_world w v.own.number n in
    let seats = m.seats in
    let below = m.number in
    let next_is : w.place v.next ≡ sits i = m.rights v.next (omega arith) (omega arith) in
    let own : Fits k w' i l = record {
      acts = omega arith;
      stage = tt;
      idle = λ p. refl;
      sits = λ p. record {
        opening = m.opening;
        seats = m.seats;
        number = omega arith;
        next = omega arith;
        acts = omega arith;
        here = updated_else w.place v.own.number (sits n) v.next (λ e. omega arith) ∙ next_is;
        rights = λ b le lt. updated_else w.place v.own.number (sits n) b (λ e. omega arith) ∙ m.rights b (omega arith) lt;
        unborn = λ b le. m.unborn b (omega arith);
        told = record { seen = (w.past, refl); mine = m.unborn v.next (omega arith) };
        ended = λ q a e. absurd (some-ne-none a (sym e));
      };
    } in
    let other : Fits k w' n r = record {
      acts = omega arith;
      stage = tt;
      idle = λ p. refl;
      sits = λ p. record {
        opening = m.opening;
        seats = m.seats;
        number = omega arith;
        next = omega arith;
        acts = m.acts;
        here = updated_here w.place v.own.number (sits n);
        rights = λ b le lt. absurd (omega arith);
        unborn = λ b le. m.unborn b (omega arith);
        told = m.told;
        ended = λ q a e. absurd (some-ne-none a (sym e));
      };
    } in
    let others : (j : ℕ) (x : View) → j ≢ i → get_elem? s.views j ≡ some x → Fits k w' j x = λ j x ne e.
    let q = kept.views j x e in record { acts = q.acts; stage = stage_cut w v.own.number n j x.stage q.stage; idle = q.idle; sits = λ p. sits_cut k w.place w.past v.own.number i j (sits n) x ne m.here (q.sits p) } in (
      w',
      record {
        words = kept.words;
        few = kept.few;
        parts = let e = total_set (λ (y : View). y.parts) s.views i v l at in let f = total_snoc (λ (y : View). y.parts) (set s.views i l) r in let a = kept.parts in omega arith;
        acts = let e = total_set acts_of s.views i v l at in let f = total_snoc acts_of (set s.views i l) r in let a = kept.acts in let z : acts_of v ≡ 0 = rw (new, alone) refl in omega arith;
        tickets = let e = total_set tickets_of s.views i v l at in let f = total_snoc tickets_of (set s.views i l) r in let a = kept.tickets in let z = no_ticket v is in omega arith;
        slot = slot_longer k.opening.value w.past (w.owner w.served) (set s.views i l) r w.out s.homes
            (slot_stays k.opening.value w.past (w.owner w.served) i s.views v l w.out s.homes at (λ t h e. absurd (serving_idle t h (sym is ∙ e))) kept.slot);
        room = kept.room;
        longest = longest_cut s.views w.past i v l r at (λ x. inl (saw_alone w.past v alone x)) kept.longest;
        views = λ j x e. ⊎_elim (λ old. fits_set k w' s.views i l others own j x old) (λ new. subst (λ (y : ℕ × View). Fits k w' y.0 y.1) (λ z. (sym new.0 z, new.1 z)) other) (at_snoc_is (set s.views i l) r x j e);
      },
    )
  where
    stage_cut : (w : World) (b n j : ℕ) (st : Stage) → StageFits w j st → StageFits (cut_world w b n) j st
    stage_cut w b n j Idle h = tt
    stage_cut w b n j (Waiting t) h = h
    stage_cut w b n j (Serving t l) h = h
