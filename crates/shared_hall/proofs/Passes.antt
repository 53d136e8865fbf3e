-- The step that ends a turn keeps the rule.
use Rattle.std.proofs.Common.{◌≡◌, ◌≢◌, ℕ, ◌+◌, ◌%◌, ◌^◌, ◌<◌, ◌≤◌, List, [], ◌∷◌, ◌++◌, length, Bool, true, false, true≢false, refl, sym, ap, ◌∙◌, subst, inl, ⊎_elim, arith}
use Rattle.std.proofs.lemmas.List.{append-nil}
use Rattle.std.proofs.lemmas.Bool.{cases_lt}
use Rattle.std.specs.Prelude.{Option, Some, slice_index, slice_set}
use Rattle.std.proofs.Math.Nat.{mod-eq_of_lt}
use mathlib.Core.Option.{some, none}
use lib.ListN.{get_elem?}
use Rattle.atomic_table.specs.Table.{Step, Allows, gives}
use Rattle.csdn_history.specs.declared.entry.Entry.{Entry}
use Rattle.csdn_run.specs.Histories.{Running, with_history}
use Rattle.shared_hall.specs.declared.view.Account.{Account}
use Rattle.shared_hall.specs.declared.view.View.{View}
use Rattle.shared_hall.specs.declared.view.Setting.{Setting}
use Rattle.shared_hall.specs.declared.view.Stage.{Stage}
use Rattle.shared_hall.specs.declared.view.Stage.TheVariants.{Idle, Waiting, Serving}
use Rattle.shared_hall.specs.Views.{seat_of, acts_of, tickets_of, passed_with}
use Rattle.shared_hall.specs.Rules.{World, Place, sits, StageFits, IsTold, HasEnded, Sits, Fits, SlotFits, Kept}
use Rattle.shared_hall.specs.Turns.{Grows}
use Rattle.shared_hall.specs.Plays.{Passes}
use Rattle.shared_hall.proofs.Words.{total_set, entries_other}
use Rattle.shared_hall.proofs.Keeping.{Homes, fits_set, few_tickets, at_here, its_ticket, sits_apart, ended_apart, starts_on}

pub grows_not : (past : List Entry) (q : ℕ) → Grows past past q
grows_not past q = record { begins = ([], sym (append-nil past)); others = λ b ne. refl }

pub grows_by : (past : List Entry) (q : ℕ) (e : Entry) → seat_of e ≡ q → Grows past (past ++ e ∷ []) q
grows_by past q e is = record { begins = (e ∷ [], refl); others = λ b ne. entries_other q b past e is ne }

told_on : (past now : List Entry) (q : ℕ) (a : Account) → Grows past now q → a.number ≢ q → IsTold past a → IsTold now a
told_on past now q a g ne told = record { seen = starts_on past now a.seen g.begins told.seen; mine = g.others a.number ne ∙ told.mine }

-- an account that has ended has another number
ended_on : (k : Setting) (place : ℕ → Place) (past now : List Entry) (q i j n : ℕ) (a : Account) → place q ≡ sits i → Grows past now q → HasEnded k place past j n a → HasEnded k place now j n a
ended_on k place past now q i j n a here g h = record {
  number = h.number;
  acts = h.acts;
  here = h.here;
  told = told_on past now q a g (λ e. ended_apart i j n (place a.number) h.here (ap place e ∙ here)) h.told;
}

-- the views of other seats have other numbers
sits_on : (k : Setting) (place : ℕ → Place) (past now : List Entry) (q i j : ℕ) (x : View) → j ≢ i → place q ≡ sits i → q < k.seats → Grows past now q → Sits k place past j x → Sits k place now j x
sits_on k place past now q i j x ne here low g m =
    let apart : (b : ℕ) → place b ≡ sits j → b ≢ q = λ b p e. ne (sits_apart j i (sym p ∙ (ap place e ∙ here))) in record {
      opening = m.opening;
      seats = m.seats;
      number = m.number;
      next = m.next;
      acts = m.acts;
      here = m.here;
      rights = m.rights;
      unborn = λ b le. g.others b (λ e. either_way b k.seats (λ lt. apart b (m.rights b le lt) e) (λ ge. omega arith)) ∙ m.unborn b le;
      told = told_on past now q x.own g (apart x.own.number m.here) m.told;
      ended = λ n a at. ended_on k place past now q i j n a here g (m.ended n a at);
    }
  where
    either_way : (b c : ℕ) → (b < c → ⊥) → (c ≤ b → ⊥) → ⊥
    either_way b c f g = ⊎_elim f g (cases_lt b c)

abbrev passed_world : World → List Entry → World
passed_world w now = record { drawn = w.drawn; served = w.served + 1; past = now; owner = w.owner; place = w.place; out = false }

stage_pass : (w : World) (now : List Entry) (i j : ℕ) (st : Stage) → j ≢ i → w.owner w.served ≡ i → StageFits w j st → StageFits (passed_world w now) j st
stage_pass w now i j Idle ne o h = tt
stage_pass w now i j (Waiting t) ne o h =
    let apart : t ≢ w.served = λ e. ne (sym h.2 ∙ (ap w.owner e ∙ o)) in (let a = h.0 in omega arith, h.1, h.2)
stage_pass w now i j (Serving t l) ne o h = absurd (ne (sym h.2 ∙ (ap w.owner h.0 ∙ o)))

-- a seat in its turn, which holds the runtime, ends its turn
pub passes : (k : Setting) (slots i : ℕ) (v : View) (t : ℕ) (h now : List Entry) (st : Step (Option Running)) → v.stage ≡ Serving t h → 0 < v.parts → Grows h now v.own.number → length now ≤ v.opening.room
    → Allows (Kept k) slots i (v, (0, Some (with_history v.opening now)) ∷ []) 1 (λ n. (n + 1) % 2 ^ 64) (Passes st (v, (0, Some (with_history v.opening now)) ∷ []))
passes k slots i v t h now st is some_part g room s (w, kept) len at fits =
    let n : slice_index s.words 1 ≡ w.served = ap (λ (ws : List ℕ). slice_index ws 1) kept.words in
    let few = few_tickets k s w kept in
    let order = kept.tickets in
    let fit : (w.served + 1) % 2 ^ 64 ≡ w.served + 1 = mod-eq_of_lt (omega arith) in
    let mine = kept.views i v at in
    let m = mine.sits some_part in
    let serve : StageFits w i (Serving t h) = subst (StageFits w i) is mine.stage in
    let j : w.owner w.served ≡ i = ap w.owner (sym serve.0) ∙ serve.2 in
    let g' : Grows w.past now v.own.number = subst (λ (l : List Entry). Grows l now v.own.number) serve.3 g in
    let u = passed_with v now in
    let w' = passed_world w now in
    let below = m.number in let under = m.next in
    let own : Fits k w' i u = record {
      acts = mine.acts;
      stage = tt;
      idle = λ p. refl;
      sits = λ p. record {
        opening = m.opening;
        seats = m.seats;
        number = m.number;
        next = m.next;
        acts = m.acts;
        here = m.here;
        rights = m.rights;
        unborn = λ b le. g'.others b (λ e. omega arith) ∙ m.unborn b le;
        told = record { seen = ([], sym (append-nil now)); mine = refl };
        ended = λ n a at'. ended_on k w.place w.past now v.own.number i i n a m.here g' (m.ended n a at');
      };
    } in
    let others : (j : ℕ) (x : View) → j ≢ i → get_elem? s.views j ≡ some x → Fits k w' j x = λ j' x ne e.
    let q = kept.views j' x e in record { acts = q.acts; stage = stage_pass w now i j' x.stage ne j q.stage; idle = q.idle; sits = λ p. sits_on k w.place w.past now v.own.number i j' x ne m.here (omega arith) g' (q.sits p) } in
    let home : s.homes ≡ none ∷ [] = out_of (w.owner w.served) k.opening.value w.past s.views w.out s.homes serve.4 kept.slot in (
      u,
      gives,
      tt,
      (
        w',
        record {
          words = rw (n, fit) (ap (λ (ws : List ℕ). slice_set ws 1 (w.served + 1)) kept.words);
          few = kept.few;
          parts = let e = total_set (λ (y : View). y.parts) s.views i v u at in let a = kept.parts in omega arith;
          acts = let e = total_set acts_of s.views i v u at in let a = kept.acts in omega arith;
          tickets = let e = total_set tickets_of s.views i v u at in let z = its_ticket v t h is in let a = kept.tickets in omega arith;
          slot = ap (λ (hs : Homes). slice_set hs 0 (some (Some (with_history v.opening now)))) home ∙ ap (λ (x : Running). some (Some (with_history x now)) ∷ []) m.opening;
          room = subst (λ (x : Running). length now ≤ x.room) m.opening room;
          longest = (i, u, at_here s.views i v u at, inl refl);
          views = fits_set k w' s.views i u others own;
        },
      ),
      refl,
    )
  where
    out_of : (j : ℕ) (r : Running) (past : List Entry) (views : List View) (out : Bool) (homes : Homes) → out ≡ true → SlotFits r past j views out homes → homes ≡ none ∷ []
    out_of j r past views false homes e slot = absurd (true≢false (sym e))
    out_of j r past views true homes e slot = slot.0
