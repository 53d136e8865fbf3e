-- The step that draws a ticket keeps the rule.
use Rattle.std.proofs.Common.{◌≡◌, ◌≢◌, ℕ, ◌+◌, ◌%◌, ◌^◌, ◌<◌, List, [], Bool, true, false, sym, ap, ◌∙◌, subst, arith}
use Rattle.std.specs.Prelude.{Option, slice_index, slice_set}
use Rattle.std.proofs.Math.Nat.{mod-eq_of_lt}
use mathlib.Core.Option.{some}
use lib.ListN.{get_elem?}
use Rattle.atomic_table.specs.Table.{Step, Allows, keeps}
use Rattle.csdn_history.specs.declared.entry.Entry.{Entry}
use Rattle.csdn_run.specs.Histories.{Running}
use Rattle.shared_hall.specs.declared.view.View.{View}
use Rattle.shared_hall.specs.declared.view.Setting.{Setting}
use Rattle.shared_hall.specs.declared.view.Stage.{Stage}
use Rattle.shared_hall.specs.declared.view.Stage.TheVariants.{Idle, Waiting, Serving}
use Rattle.shared_hall.specs.Views.{acts_of, tickets_of, drawn_by}
use Rattle.shared_hall.specs.Rules.{World, StageFits, Fits, SlotFits, Kept}
use Rattle.shared_hall.specs.Plays.{Draws}
use Rattle.shared_hall.proofs.Words.{total_set, updated, updated_here, updated_else}
use Rattle.shared_hall.proofs.Keeping.{Homes, fits_set, few_tickets, slot_stays, longest_set, serving_idle, no_ticket}

abbrev drawn_world : World → ℕ → World
drawn_world w i = record { drawn = w.drawn + 1; served = w.served; past = w.past; owner = updated w.owner w.drawn i; place = w.place; out = w.out }

stage_draw : (w : World) (i j : ℕ) (st : Stage) → StageFits w j st → StageFits (drawn_world w i) j st
stage_draw w i j Idle h = tt
stage_draw w i j (Waiting t) h = (h.0, omega arith, updated_else w.owner w.drawn i t (λ e. omega arith) ∙ h.2)
stage_draw w i j (Serving t l) h = (h.0, omega arith, updated_else w.owner w.drawn i t (λ e. omega arith) ∙ h.2, h.3, h.4)

-- a stage of its turn is the ticket that is served, and that was drawn
serving_drawn : (w : World) (i : ℕ) (st : Stage) (t : ℕ) (h : List Entry) → StageFits w i st → st ≡ Serving t h → w.served < w.drawn
serving_drawn w i st t h fits is = let f : StageFits w i (Serving t h) = subst (StageFits w i) is fits in let a = f.0 in let b = f.1 in omega arith

slot_draw : (k : Setting) (w : World) (i : ℕ) (views : List View) (out : Bool) (homes : Homes)
    → ((j : ℕ) (u : View) → get_elem? views j ≡ some u → Fits k w j u)
    → SlotFits k.opening.value w.past (w.owner w.served) views out homes → SlotFits k.opening.value w.past (updated w.owner w.drawn i w.served) views out homes
slot_draw k w i views false homes fits slot = slot
slot_draw k w i views true homes fits slot =
    let lt = serving_drawn w (w.owner w.served) slot.1.0.stage slot.1.2.0 slot.1.2.1 (fits (w.owner w.served) slot.1.0 slot.1.1).stage slot.1.2.2 in
    (slot.0, (slot.1.0, ap (get_elem? views) (updated_else w.owner w.drawn i w.served (λ e. omega arith)) ∙ slot.1.1, slot.1.2))

-- an idle seat draws a ticket
pub draws : (k : Setting) (slots i : ℕ) (v : View) (st : Step (Option Running)) → v.stage ≡ Idle → v.parts ≡ 1 → v.ended ≡ [] → v.own.acts < 2 ^ 56
    → Allows (Kept k) slots i (v, []) 0 (λ n. (n + 1) % 2 ^ 64) (Draws st (v, []))
draws k slots i v st idle one alone acts s (w, kept) len at fits =
    let n : slice_index s.words 0 ≡ w.drawn = ap (λ (ws : List ℕ). slice_index ws 0) kept.words in
    let few = few_tickets k s w kept in
    let fit : (w.drawn + 1) % 2 ^ 64 ≡ w.drawn + 1 = mod-eq_of_lt (omega arith) in
    let mine = kept.views i v at in
    let order = kept.tickets in
    let u = drawn_by v w.drawn in
    let w' = drawn_world w i in
    let own : Fits k w' i u = record {
      acts = let e : acts_of u ≡ v.own.acts + 1 = rw alone (omega arith) in let p = one in omega arith;
      stage = (omega arith, omega arith, updated_here w.owner w.drawn i);
      idle = λ p. absurd (omega arith);
      sits = λ p. let m = mine.sits p in record { opening = m.opening; seats = m.seats; number = m.number; next = m.next; acts = omega arith; here = m.here; rights = m.rights; unborn = m.unborn; told = record { seen = m.told.seen; mine = m.told.mine }; ended = m.ended };
    } in
    let others : (j : ℕ) (x : View) → j ≢ i → get_elem? s.views j ≡ some x → Fits k w' j x = λ j x ne e.
    let m = kept.views j x e in record { acts = m.acts; stage = stage_draw w i j x.stage m.stage; idle = m.idle; sits = m.sits } in (
      u,
      keeps,
      tt,
      (
        w',
        record {
          words = rw (n, fit) (ap (λ (ws : List ℕ). slice_set ws 0 (w.drawn + 1)) kept.words);
          few = kept.few;
          parts = let e = total_set (λ (y : View). y.parts) s.views i v u at in let a = kept.parts in omega arith;
          acts = let e = total_set acts_of s.views i v u at in let a = kept.acts in omega arith;
          tickets = let e = total_set tickets_of s.views i v u at in let z = no_ticket v idle in let a = kept.tickets in omega arith;
          slot = slot_stays k.opening.value w.past (updated w.owner w.drawn i w.served) i s.views v u w.out s.homes at (λ t h e. absurd (serving_idle t h (sym idle ∙ e))) (slot_draw k w i s.views w.out s.homes kept.views kept.slot);
          room = kept.room;
          longest = longest_set s.views w.past i v u at (λ x. x) kept.longest;
          views = fits_set k w' s.views i u others own;
        },
      ),
      ap (λ (m : ℕ). (drawn_by v m, [])) (sym n),
    )
