-- The loop in which all seats of a hall end.
use Rattle.std.proofs.Common.{◌≡◌, ℕ, suc, ◌+◌, List, [], ◌∷◌, ◌++◌, length, sym, ap, ◌∙◌, subst, inl, arith, append_assoc, length-append}
use Rattle.std.specs.Prelude.{Option, All, take, ◌-◌}
use Rattle.std.proofs.lemmas.List.{append-nil}
use Rattle.std.proofs.lemmas.List.Elements.{All-cons}
use Rattle.atomic_table.specs.declared.shared.Seat.{Seat}
use Rattle.csdn_run.specs.Histories.{Running}
use Rattle.shared_hall.specs.declared.view.View.{View}
use Rattle.shared_hall.specs.Rules.{IsTold}
use Rattle.shared_hall.specs.Turns.{IsKeeper, Keeps, TakesIn, EndsWith}
use Rattle.shared_hall.specs.Halls.{HallView, SeatView, Closes}
use Rattle.shared_hall.proofs.Words.{numbers_below}

-- the seats that are left, and the others, whose accounts the keeper has
pub record IsClosing (hall : HallView) (all left : List SeatView) (keeper : Seat (Option Running) View) : Type 0 where
  pub table : keeper.table_id ≡ hall.id
  pub idle : IsKeeper keeper.me
  pub parts : keeper.me.0.parts + length left ≡ hall.seats
  pub taken : List SeatView
  pub are : all ≡ left ++ taken
  pub known : All (λ (s : SeatView). Keeps keeper.me.0 s.account) taken
  pub here : All (λ (s : SeatView). s.hall ≡ hall) left

-- the last of a list
last_of : (P : SeatView → Type 0) (xs : List SeatView) (x : SeatView) → All P (xs ++ x ∷ []) → P x
last_of P [] x h = h 0 x (omega arith)
last_of P (y ∷ ys) x h = last_of P ys x (λ k d lt. h (suc k) d (omega arith))

front_of : (P : SeatView → Type 0) (xs : List SeatView) (x : SeatView) → All P (xs ++ x ∷ []) → All P xs
front_of P [] x h = λ k d lt. absurd (omega arith)
front_of P (y ∷ ys) x h = All-cons P y ys (h 0 y (omega arith)) (front_of P ys x (λ k d lt. h (suc k) d (omega arith)))

all_as : (P Q : SeatView → Type 0) (xs : List SeatView) → ((x : SeatView) → P x → Q x) → All P xs → All Q xs
all_as P Q xs f h = λ k d lt. f _ (h k d lt)

pub begins_closing : (hall : HallView) (all left : List SeatView) (first : SeatView) (keeper : Seat (Option Running) View) → all ≡ left ++ first ∷ [] → length all ≡ hall.seats → All (λ (s : SeatView). s.hall ≡ hall) all
    → keeper.table_id ≡ first.hall.id → IsKeeper keeper.me → keeper.me.0.parts ≡ 1 → keeper.me.0.own ≡ first.account → IsClosing hall all left keeper
begins_closing hall all left first keeper are len here table idle one own =
    let P : SeatView → Type 0 = λ s. s.hall ≡ hall in
    let split = subst (λ (l : List SeatView). All P l) are here in
    record {
      table = table ∙ ap (λ (h : HallView). h.id) (last_of P left first split);
      idle = idle;
      parts = let n = ap (λ (l : List SeatView). length l) are in omega (arith, length-append left (first ∷ []));
      taken = first ∷ [];
      are = are;
      known = All-cons (λ (s : SeatView). Keeps keeper.me.0 s.account) first [] (inl own) (λ k d lt. absurd (omega arith));
      here = front_of P left first split;
    }

pub goes_on_closing : (hall : HallView) (all left now : List SeatView) (other : SeatView) (keeper next : Seat (Option Running) View) → IsClosing hall all left keeper → left ≡ now ++ other ∷ []
    → next.table_id ≡ keeper.table_id → TakesIn keeper.me next.me other.account → IsClosing hall all now next
goes_on_closing hall all left now other keeper next c is table took =
    let P : SeatView → Type 0 = λ s. s.hall ≡ hall in
    let split = subst (λ (l : List SeatView). All P l) is c.here in
    record {
      table = table ∙ c.table;
      idle = took.keeper;
      parts = let n = ap (λ (l : List SeatView). length l) is in let p = took.parts in let q = c.parts in omega (arith, length-append now (other ∷ []));
      taken = other ∷ c.taken;
      are = c.are ∙ (ap (λ (l : List SeatView). l ++ c.taken) is ∙ append_assoc now (other ∷ []) c.taken);
      known = All-cons (λ (s : SeatView). Keeps next.me.0 s.account) other c.taken took.taken
          (all_as (λ (s : SeatView). Keeps keeper.me.0 s.account) (λ (s : SeatView). Keeps next.me.0 s.account) c.taken (λ s h. took.kept s.account h) c.known);
      here = front_of P now other split;
    }

pub closes : (hall : HallView) (all left : List SeatView) (keeper : Seat (Option Running) View) (r : Running) → IsClosing hall all left keeper → left ≡ [] → EndsWith hall.opening hall.seats keeper.me.0 r → Closes hall all r
closes hall all left keeper r c gone e =
    let are : all ≡ c.taken = c.are ∙ ap (λ (l : List SeatView). l ++ c.taken) gone in
    record {
      runtime = e.runtime;
      told = subst (λ (l : List SeatView). All (λ (s : SeatView). IsTold r.history s.account) l) (sym are)
          (all_as (λ (s : SeatView). Keeps keeper.me.0 s.account) (λ (s : SeatView). IsTold r.history s.account) c.taken (λ s h. e.told s.account h) c.known);
      numbers = numbers_below hall.seats r.history e.below;
    }

-- a list from which nothing was popped
pub nothing_left : (old now : List SeatView) (n : ℕ) → old ≡ now ++ [] → now ≡ take (n - 1) old → n ≡ 0 → old ≡ []
nothing_left old now n is kept none_there =
    let k : n - 1 ≡ 0 = omega arith in
    let e : now ≡ [] = kept ∙ (λ z. take (k z) old) in
    is ∙ (append-nil now ∙ e)
