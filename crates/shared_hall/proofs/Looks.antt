-- The step that looks whether a ticket is served keeps the rule.
use Rattle.std.proofs.Common.{◌≡◌, ◌≢◌, ℕ, ◌+◌, ◌<◌, ◌≤◌, List, [], ◌∷◌, length, Bool, true, false, refl, sym, ap, ◌∙◌, subst, eq-eqb, ne_eqb, set, arith}
use Rattle.std.specs.Prelude.{Option, Some, slice_index, slice_set}
use mathlib.Core.Option.{some, none, some-injective}
use mathlib.Core.Logic.{dite}
use native.Mathlib.Decide.{ℕ_discrete}
use lib.ListN.{get_elem?}
use Rattle.atomic_table.specs.Table.{State, Act, Step, Allows, Valid, stepped, carried_after, keeps, takes}
use Rattle.atomic_table.proofs.Lists.{set_again}
use Rattle.csdn_history.specs.declared.entry.Entry.{Entry}
use Rattle.csdn_run.specs.Histories.{Running, with_history}
use Rattle.shared_hall.specs.declared.view.View.{View}
use Rattle.shared_hall.specs.declared.view.Setting.{Setting}
use Rattle.shared_hall.specs.declared.view.Stage.{Stage}
use Rattle.shared_hall.specs.declared.view.Stage.TheVariants.{Idle, Waiting, Serving}
use Rattle.shared_hall.specs.Views.{acts_of, tickets_of, total, with_stage}
use Rattle.shared_hall.specs.Rules.{World, StageFits, Fits, SlotFits, IsLongest, IsKept, Kept}
use Rattle.shared_hall.specs.Plays.{Looks, Starts}
use Rattle.shared_hall.proofs.Words.{total_set}
use Rattle.shared_hall.proofs.Keeping.{Homes, fits_set, at_here, longest_set, serving_waiting, one_ticket}

abbrev started_world : World → World
started_world w = record { drawn = w.drawn; served = w.served; past = w.past; owner = w.owner; place = w.place; out = true }

stage_start : (w : World) (j : ℕ) (st : Stage) → StageFits w j st → StageFits (started_world w) j st
stage_start w j Idle h = tt
stage_start w j (Waiting t) h = h
stage_start w j (Serving t l) h = (h.0, h.1, h.2, h.3, refl)

-- while the owner of the ticket that is served waits, the slot is at home
at_home : (r : Running) (past : List Entry) (j : ℕ) (views : List View) (v : View) (t : ℕ) (out : Bool) (homes : Homes)
    → get_elem? views j ≡ some v → v.stage ≡ Waiting t → SlotFits r past j views out homes → homes ≡ some (Some (with_history r past)) ∷ []
at_home r past j views v t false homes at is slot = slot
at_home r past j views v t true homes at is slot =
    absurd (serving_waiting slot.1.2.0 t slot.1.2.1 (sym is ∙ (ap (λ (y : View). y.stage) (some-injective v slot.1.0 (sym at ∙ slot.1.1)) ∙ slot.1.2.2)))

-- the ticket is served
starts : (k : Setting) (i : ℕ) (v : View) (t : ℕ) → v.stage ≡ Waiting t → 0 < v.parts → (s : State (Option Running) View) (w : World) → IsKept k s w → get_elem? s.views i ≡ some v → w.served ≡ t
    → (u : View) × (a : Act (Option Running)) × Valid s.homes [] a
    × Kept k (stepped s 1 (slice_index s.words 1) i [] u a) × Starts (v, []) t (u, carried_after [] a)
starts k i v t is some_part s w kept at now =
    let mine = kept.views i v at in
    let m = mine.sits some_part in
    let wait : StageFits w i (Waiting t) = subst (StageFits w i) is mine.stage in
    let j : w.owner w.served ≡ i = ap w.owner now ∙ wait.2 in
    let home = at_home k.opening.value w.past (w.owner w.served) s.views v t w.out s.homes (ap (get_elem? s.views) j ∙ at) is kept.slot in
    let r = with_history k.opening.value w.past in
    let r' = with_history v.opening w.past in
    let same : r ≡ r' = ap (λ (x : Running). with_history x w.past) (sym m.opening) in
    let u = with_stage v (Serving t w.past) in
    let w' = started_world w in
    let own : Fits k w' i u = record {
      acts = mine.acts;
      stage = (sym now, wait.1, wait.2, refl, refl);
      idle = λ p. absurd (omega arith);
      sits = λ p. record { opening = m.opening; seats = m.seats; number = m.number; next = m.next; acts = m.acts; here = m.here; rights = m.rights; unborn = m.unborn; told = record { seen = m.told.seen; mine = m.told.mine }; ended = m.ended };
    } in
    let others : (j : ℕ) (x : View) → j ≢ i → get_elem? s.views j ≡ some x → Fits k w' j x = λ j x ne e.
    let q = kept.views j x e in record { acts = q.acts; stage = stage_start w j x.stage q.stage; idle = q.idle; sits = q.sits } in
    let new : get_elem? (set s.views i u) (w.owner w.served) ≡ some u = ap (get_elem? (set s.views i u)) j ∙ at_here s.views i v u at in (
      u,
      takes 0 (Some r'),
      ap (λ (hs : Homes). get_elem? hs 0) home ∙ ap (λ (x : Running). some (some (Some x))) same,
      (
        w',
        record {
          words = rw kept.words refl;
          few = kept.few;
          parts = let e = total_set (λ (y : View). y.parts) s.views i v u at in let a = kept.parts in omega arith;
          acts = let e = total_set acts_of s.views i v u at in let a = kept.acts in omega arith;
          tickets = let e = total_set tickets_of s.views i v u at in let z = one_ticket v t is in let a = kept.tickets in omega arith;
          slot = (ap (λ (hs : Homes). slice_set hs 0 none) home, (u, new, (t, w.past, refl)));
          room = kept.room;
          longest = longest_set s.views w.past i v u at (λ x. x) kept.longest;
          views = fits_set k w' s.views i u others own;
        },
      ),
      record {
        history = w.past;
        now = refl;
        begins = m.told.seen;
        mine = m.told.mine;
        room = subst (λ (x : Running). length w.past ≤ x.room) (sym m.opening) kept.room;
      },
    )

-- a waiting seat looks whether its ticket is served
pub looks : (k : Setting) (slots i : ℕ) (v : View) (t : ℕ) (st : Step (Option Running)) → v.stage ≡ Waiting t → 0 < v.parts
    → Allows (Kept k) slots i (v, []) 1 (λ n. n) (Looks st (v, []))
looks k slots i v t st is some_part s (w, kept) len at fits = dite (ℕ_discrete (slice_index s.words 1) t) hit miss
  where
    n : slice_index s.words 1 ≡ w.served
    n = ap (λ (ws : List ℕ). slice_index ws 1) kept.words

    Goal : Type 0
    Goal = (u : View) × (a : Act (Option Running)) × Valid s.homes [] a
        × Kept k (stepped s 1 (slice_index s.words 1) i [] u a) × Looks st (v, []) (slice_index s.words 1) (u, carried_after [] a)

    hit : slice_index s.words 1 ≡ t → Goal
    hit e =
        let x = starts k i v t is some_part s w kept at (sym n ∙ e) in
        (x.0, x.1, x.2, x.3, (t, is, rw (eq-eqb (slice_index s.words 1) t e) x.4))

    miss : slice_index s.words 1 ≢ t → Goal
    miss ne =
        let same = set_again s.views i v at in (
          v,
          keeps,
          tt,
          (
            w,
            record {
              words = rw kept.words refl;
              few = kept.few;
              parts = ap (total (λ (y : View). y.parts)) same ∙ kept.parts;
              acts = ap (total acts_of) same ∙ kept.acts;
              tickets = ap (λ (l : List View). w.served + total tickets_of l) same ∙ kept.tickets;
              slot = subst (λ (l : List View). SlotFits k.opening.value w.past (w.owner w.served) l w.out s.homes) (sym same) kept.slot;
              room = kept.room;
              longest = subst (λ (l : List View). IsLongest l w.past) (sym same) kept.longest;
              views = λ j y e. kept.views j y (ap (λ (l : List View). get_elem? l j) (sym same) ∙ e);
            },
          ),
          (t, is, rw (ne_eqb (slice_index s.words 1) t ne) refl),
        )
