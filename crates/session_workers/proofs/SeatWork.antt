-- A seat with one session more, and all seats with one more.
use Rattle.std.proofs.Common.{◌≡◌, ℕ, suc, ◌+◌, ◌*◌, ◌^◌, ◌<◌, ◌≤◌, List, [], ◌∷◌, ◌++◌, length, refl, sym, ap, ◌∙◌, subst, arith, length-append, zero-add}
use Rattle.std.specs.Prelude.{All}
use Rattle.std.proofs.lemmas.List.FromFn.{map-range_with_len_more}
use Rattle.std.proofs.lemmas.List.Elements.{All-cons, All-nil}
use Rattle.csdn_run.specs.Histories.{Running}
use Rattle.shared_hall.specs.declared.view.Account.{Account}
use Rattle.shared_hall.specs.Views.{fresh_account}
use Rattle.shared_hall.specs.Halls.{HallView, SeatView, fresh, fresh_seats}
use Rattle.link_sessions.specs.declared.ends.Ended.{Ended}
use Rattle.link_sessions.specs.Links.{LinkView}
use Rattle.session_workers.specs.declared.row.Row.{Row}
use Rattle.session_workers.specs.declared.terms.Terms.{Terms}
use Rattle.session_workers.specs.Courses.{Course, HasServed, HasWorked, IsWorker, session_number}
use Rattle.session_workers.specs.Teams.{AreDone}
use Rattle.session_workers.specs.Endings.{longest}
use Rattle.session_workers.proofs.Numbers.{first_number, later_number}
use Rattle.session_workers.proofs.Spans.{IsOf, Spans, of_first, of_next, spans_both, spans_none, spans_served}

-- one session more
course_more : (r : Running) (t : Terms) (q : ℕ) (a b c : Account) (ends : List Ended) (links : List LinkView) (e : Ended) (k : LinkView) → Course r t q a ends links b
    → HasServed r (q + t.workers * length ends) t.most b c k e → Course r t q a (ends ++ e ∷ []) (links ++ k ∷ []) c
course_more r t q a b c [] [] e k is h =
    (c, subst (λ (n : ℕ). HasServed r n t.most a c k e) (first_number t.workers q) (subst (λ (x : Account). HasServed r (q + t.workers * 0) t.most x c k e) is h), refl)
course_more r t q a b c [] (l ∷ links) e k none h = absurd none
course_more r t q a b c (x ∷ ends) [] e k none h = absurd none
course_more r t q a b c (x ∷ ends) (l ∷ links) e k (d, served, rest) h =
    (d, served, course_more r t (q + t.workers) d b c ends links e k rest (subst (λ (n : ℕ). HasServed r n t.most b c k e) (later_number t.workers q (length ends)) h))

-- the entries that the sessions of a row bring are theirs
pub course_spans : (r : Running) (t : Terms) (q : ℕ) (a b : Account) (ends : List Ended) (links : List LinkView) → Course r t q a ends links b → Spans (IsOf t.workers q (length ends)) a b
course_spans r t q a b [] [] is = spans_none (IsOf t.workers q 0) a b is
course_spans r t q a b [] (k ∷ links) none = absurd none
course_spans r t q a b (e ∷ ends) [] none = absurd none
course_spans r t q a b (e ∷ ends) (k ∷ links) (c, served, rest) =
    spans_both (λ n. n ≡ q) (IsOf t.workers (q + t.workers) (length ends)) (IsOf t.workers q (length (e ∷ ends))) a c b
    (λ n is. of_first t.workers q (length ends) n is)
    (λ n is. of_next t.workers q (length ends) n is)
    (spans_served r q t.most a c k e served)
    (course_spans r t (q + t.workers) c b ends links rest)

pub worked_more : (hall : HallView) (t : Terms) (old new : SeatView) (ends : List Ended) (links : List LinkView) (e : Ended) (k : LinkView) → HasWorked hall t old ends links → new.hall ≡ hall → t.most ≤ 2 ^ 39 → length ends < 2 ^ 20
    → HasServed hall.opening (session_number t.workers old.account.number (length ends)) t.most old.account new.account k e → HasWorked hall t new (ends ++ e ∷ []) (links ++ k ∷ [])
worked_more hall t old new ends links e k w here few room h =
    let same : new.account.number ≡ old.account.number = h.served.seat.number in
    let C : ℕ → Type 0 = λ b. Course hall.opening t (1 + b) (fresh_account b) (ends ++ e ∷ []) (links ++ k ∷ []) new.account in record {
      here = here;
      number = let n = w.number in omega arith;
      course = subst C (sym same) (course_more hall.opening t (1 + old.account.number) (fresh_account old.account.number) old.account new.account ends links e k w.course h);
      acts = let a = w.acts in let s = h.served.acts in let taken = h.served.said.few in let n = length-append ends (e ∷ []) in omega arith;
      bound = let n = length-append ends (e ∷ []) in omega arith;
    }

pub worker_fresh : (hall : HallView) (t : Terms) (n : ℕ) (seat : SeatView) (parts amount : ℕ) → seat ≡ fresh hall n → n < t.workers → parts ≡ 1 → amount ≡ 0 → IsWorker hall t seat [] [] parts amount
worker_fresh hall t n seat parts amount is few one none_yet =
    let P : SeatView → Type 0 = λ s. IsWorker hall t s [] [] parts amount in
    subst P (sym is) (record {
      worked = record { here = refl; number = few; course = refl; acts = omega arith; bound = omega arith };
      counted = none_yet;
      part = one;
    })

-- one seat more
pub done_more : (hall : HallView) (t : Terms) (n : ℕ) (seats : List SeatView) (rows : List Row) (links : List (List LinkView)) (s : SeatView) (row : Row) (left : List LinkView) → AreDone hall t n seats rows links
    → HasWorked hall t s row.ends.items left → s.account.number ≡ n + length rows → AreDone hall t n (seats ++ s ∷ []) (rows ++ row ∷ []) (links ++ left ∷ [])
done_more hall t n [] [] [] s row left h w is = (w, is ∙ (let z : n + 0 ≡ n = omega arith in z), tt)
done_more hall t n (x ∷ seats) (y ∷ rows) (z ∷ links) s row left (a, b, rest) w is =
    (a, b, done_more hall t (n + 1) seats rows links s row left rest w (let m = is in omega arith))
done_more hall t n seats rows links s row left h w is = absurd h

-- as many ends as links
pub course_length : (r : Running) (t : Terms) (q : ℕ) (a b : Account) (ends : List Ended) (links : List LinkView) → Course r t q a ends links b → length ends ≡ length links
course_length r t q a b [] [] is = refl
course_length r t q a b [] (k ∷ links) none = absurd none
course_length r t q a b (e ∷ ends) [] none = absurd none
course_length r t q a b (e ∷ ends) (k ∷ links) (c, served, rest) = ap suc (course_length r t (q + t.workers) c b ends links rest)

-- all seats are of the hall
pub done_here : (hall : HallView) (t : Terms) (n : ℕ) (seats : List SeatView) (rows : List Row) (links : List (List LinkView)) → AreDone hall t n seats rows links → All (λ s. s.hall ≡ hall) seats
done_here hall t n [] [] [] done = All-nil (λ (s : SeatView). s.hall ≡ hall)
done_here hall t n (s ∷ seats) (row ∷ rows) (left ∷ links) (w, is, rest) = All-cons (λ (x : SeatView). x.hall ≡ hall) s seats w.here (done_here hall t (n + 1) seats rows links rest)
done_here hall t n seats rows links done = absurd done

pub done_few : (hall : HallView) (t : Terms) (n : ℕ) (seats : List SeatView) (rows : List Row) (links : List (List LinkView)) → AreDone hall t n seats rows links → longest rows ≤ 2 ^ 20
done_few hall t n [] [] [] done = omega arith
done_few hall t n (s ∷ seats) (row ∷ rows) (left ∷ links) (w, is, rest) = let a = w.bound in let b = done_few hall t (n + 1) seats rows links rest in omega arith
done_few hall t n seats rows links done = absurd done

pub done_length : (hall : HallView) (t : Terms) (n : ℕ) (seats : List SeatView) (rows : List Row) (links : List (List LinkView)) → AreDone hall t n seats rows links → (length rows ≡ length seats) × (length links ≡ length seats)
done_length hall t n [] [] [] done = (refl, refl)
done_length hall t n (s ∷ seats) (row ∷ rows) (left ∷ links) (w, is, rest) = let r = done_length hall t (n + 1) seats rows links rest in let a = r.0 in let b = r.1 in (omega arith, omega arith)
done_length hall t n seats rows links done = absurd done

-- the last of the seats is popped
snoc_front : {X : Type 0} (xs ys : List X) (x y : X) → xs ++ x ∷ [] ≡ ys ++ y ∷ [] → (xs ≡ ys) × (x ≡ y)
snoc_front {X = X} [] [] x y h = (refl, cc)
snoc_front {X = X} [] (z ∷ zs) x y h = let n = ap (λ (l : List X). length l) h in absurd (omega (arith, length-append zs (y ∷ [])))
snoc_front {X = X} (z ∷ zs) [] x y h = let n = ap (λ (l : List X). length l) h in absurd (omega (arith, length-append zs (x ∷ [])))
snoc_front {X = X} (a ∷ xs) (b ∷ ys) x y h =
    let e : a ≡ b = cc in
    let t : xs ++ x ∷ [] ≡ ys ++ y ∷ [] = cc in
    let r = snoc_front xs ys x y t in
    ((λ i. e i ∷ r.0 i), r.1)

pub popped : (hall : HallView) (n : ℕ) (old now : List SeatView) (seat : SeatView) → old ≡ fresh_seats hall (n + 1) → old ≡ now ++ seat ∷ [] → (now ≡ fresh_seats hall n) × (seat ≡ fresh hall n)
popped hall n old now seat is pop =
    snoc_front now (fresh_seats hall n) seat (fresh hall n) (sym pop ∙ (is ∙ map-range_with_len_more (fresh hall) 0 n n (zero-add n)))
