-- What is known of all sessions along the whole history, from what each seat did and what the hall tells at its end.
use Rattle.std.proofs.Common.{◌≡◌, ℕ, zero, suc, ◌+◌, ◌*◌, ◌==◌, ◌<◌, ◌≤◌, List, [], ◌∷◌, ◌++◌, length, get_or, true, false, refl, sym, ap, ◌∙◌, subst, arith}
use Rattle.std.specs.Prelude.{All, Option}
use Rattle.std.proofs.lemmas.Bool.{eqb-true, eq-eqb, ne_eqb}
use Rattle.std.proofs.lemmas.List.{append-nil}
use Rattle.std.proofs.lemmas.List.Elements.{All-append, All-head, All-nil, All-tail, All-weaker, filter-append}
use Rattle.csdn_history.specs.declared.entry.Entry.{Entry}
use Rattle.csdn_run.specs.Histories.{Running}
use Rattle.csdn_run.specs.Sessions.{entries_of, session_of}
use Rattle.shared_hall.specs.declared.view.Account.{Account}
use Rattle.shared_hall.specs.Views.{entries_by, fresh_account, mine, seat_of, StartsWith}
use Rattle.shared_hall.specs.Rules.{IsTold}
use Rattle.shared_hall.specs.Halls.{HallView, SeatView}
use Rattle.link_sessions.specs.declared.ends.Ended.{Ended}
use Rattle.link_sessions.specs.Links.{LinkView}
use Rattle.session_workers.specs.declared.row.Row.{Row}
use Rattle.session_workers.specs.declared.terms.Terms.{Terms}
use Rattle.session_workers.specs.Courses.{Course, HasWorked, session_number}
use Rattle.session_workers.specs.Teams.{AreDone}
use Rattle.session_workers.specs.Endings.{AreRowsIn, AreSessionsIn, HasSession, IsRunOf}
use Rattle.session_workers.proofs.Members.{all_beginning, filter_all, filter_none, filter_twice}
use Rattle.session_workers.proofs.Numbers.{next_number, same_seat}
use Rattle.session_workers.proofs.Spans.{IsOf, of_later, spans_served, starts_both}
use Rattle.session_workers.proofs.SeatWork.{course_spans}
use Rattle.session_workers.proofs.Given.{given_none}

-- where the entries of a session are a seat's, they are found among the seat's own
own_entries : (b q : ℕ) (xs : List Entry) → All (λ e. session_of e ≡ q → seat_of e ≡ b) xs → entries_of q xs ≡ entries_of q (entries_by b xs)
own_entries b q xs own =
    filter_twice (λ (e : Entry). session_of e == q) (λ (e : Entry). seat_of e == b) xs
    (All-weaker (λ e. session_of e ≡ q → seat_of e ≡ b) (λ e. (session_of e == q) ≡ true → (seat_of e == b) ≡ true)
    (λ e f is. eq-eqb (seat_of e) b (f (eqb-true (session_of e) q is))) xs own)

-- entries of other sessions are none of this one
other_entries : (q : ℕ) (xs : List Entry) → All (λ e. session_of e ≡ q → ⊥) xs → entries_of q xs ≡ []
other_entries q xs others =
    filter_none (λ (e : Entry). session_of e == q) xs (All-weaker (λ e. session_of e ≡ q → ⊥) (λ e. (session_of e == q) ≡ false) (λ e ne. ne_eqb (session_of e) q ne) xs others)

along : (P : Entry → Type 0) (history seen : List Entry) → StartsWith history seen → All P history → All P seen
along P history seen begins all = all_beginning P seen begins.0 (subst (All P) begins.1 all)

-- of a seat's entries, in terms of its number
of_seat : (b : ℕ) (a : Account) → a.number ≡ b → entries_by b a.seen ≡ mine a
of_seat b a is = ap (λ (n : ℕ). entries_by n a.seen) (sym is)

-- each session of a seat, along the history of which the seat was told at its end
row_in : (r : Running) (h : List Entry) (t : Terms) (b : ℕ) (final : Account) → IsTold h final → final.number ≡ b → 0 < t.workers
    → ((j : ℕ) → All (λ e. session_of e ≡ session_number t.workers b j → seat_of e ≡ b) h) → (j : ℕ) (q : ℕ) → q ≡ session_number t.workers b j → (a : Account) (ends : List Ended) (links : List LinkView) → a.number ≡ b
    → All (λ e. session_of e < q) (mine a) → Course r t q a ends links final → AreSessionsIn r h t b q ends links
row_in r h t b final told final_is some_worker own j q q_is a [] [] a_is below course = tt
row_in r h t b final told final_is some_worker own j q q_is a [] (k ∷ links) a_is below none = none
row_in r h t b final told final_is some_worker own j q q_is a (e ∷ ends) [] a_is below none = none
row_in r h t b final told final_is some_worker own j q q_is a (e ∷ ends) (k ∷ links) a_is below (c, served, rest) =
    let s = spans_served r q t.most a c k e served in
    let later = course_spans r t (q + t.workers) c final ends links rest in
    let begins : StartsWith h c.seen = starts_both c.seen final.seen h later.seen told.seen in
    let earlier : StartsWith h a.seen = starts_both a.seen c.seen h s.seen begins in
    let c_is : c.number ≡ b = s.number ∙ a_is in
    let ours : All (λ x. session_of x ≡ q → seat_of x ≡ b) h = subst (λ (n : ℕ). All (λ x. session_of x ≡ n → seat_of x ≡ b) h) (sym q_is) (own j) in
    let behind : entries_of q later.added ≡ [] =
    other_entries q later.added (All-weaker (λ x. IsOf t.workers (q + t.workers) (length ends) (session_of x)) (λ x. session_of x ≡ q → ⊥)
    (λ x of is. let f = of_later t.workers (q + t.workers) (length ends) (session_of x) of in omega arith) later.added later.sessions) in
    let all_of_it : entries_of q h ≡ entries_of q c.seen =
    own_entries b q h ours
    ∙ (ap (entries_of q) (ap (λ (n : ℕ). entries_by n h) (sym final_is) ∙ (told.mine ∙ later.mine_is))
    ∙ (filter-append (λ (x : Entry). session_of x == q) (mine c) later.added
    ∙ (ap (λ (l : List Entry). entries_of q (mine c) ++ l) behind
    ∙ (append-nil (entries_of q (mine c))
    ∙ (ap (entries_of q) (sym (of_seat b c c_is)) ∙ sym (own_entries b q c.seen (along (λ x. session_of x ≡ q → seat_of x ≡ b) h c.seen begins ours))))))) in
    let none_yet : entries_of q a.seen ≡ [] =
    own_entries b q a.seen (along (λ x. session_of x ≡ q → seat_of x ≡ b) h a.seen earlier ours)
    ∙ (ap (entries_of q) (of_seat b a a_is)
    ∙ other_entries q (mine a) (All-weaker (λ x. session_of x < q) (λ x. session_of x ≡ q → ⊥) (λ x less is. omega arith) (mine a) below)) in
    let now_below : All (λ x. session_of x < q + t.workers) (mine c) =
    subst (All (λ x. session_of x < q + t.workers)) (sym s.mine_is) (All-append (λ x. session_of x < q + t.workers) (mine a) s.added
    (All-weaker (λ x. session_of x < q) (λ x. session_of x < q + t.workers) (λ x less. omega arith) (mine a) below)
    (All-weaker (λ x. session_of x ≡ q) (λ x. session_of x < q + t.workers) (λ x is. omega arith) s.added s.sessions)) in (
      record { before = a; after = c; number = a_is; served = served; none_before = none_yet; begins = begins; whole = all_of_it },
      row_in r h t b final told final_is some_worker own (j + 1) (q + t.workers)
          (ap (λ (n : ℕ). n + t.workers) q_is ∙ (let m = next_number t.workers (1 + b) j in let z : (1 + b) + t.workers * (j + 1) ≡ (1 + b) + t.workers * j + t.workers = grind arith in sym z))
          c ends links c_is now_below rest,
    )

-- a seat, with what it did and what it was told
pub record Found (hall : HallView) (t : Terms) (h : List Entry) (number : ℕ) (rows : List Row) (k : ℕ) : Type 0 where
  pub seat : SeatView
  pub row : Row
  pub left : List LinkView
  pub worked : HasWorked hall t seat row.ends.items left
  pub number_is : seat.account.number ≡ number
  pub told : IsTold h seat.account
  pub row_is : row ≡ get_or rows k row

found_at : (hall : HallView) (t : Terms) (h : List Entry) (n : ℕ) (seats : List SeatView) (rows : List Row) (links : List (List LinkView)) → AreDone hall t n seats rows links → All (λ s. IsTold h s.account) seats
    → (k : ℕ) → k < length rows → Found hall t h (n + k) rows k
found_at hall t h n [] [] [] done told k less = absurd (omega arith)
found_at hall t h n (s ∷ seats) (row ∷ rows) (left ∷ links) (w, is, rest) told zero less = record {
  seat = s;
  row = row;
  left = left;
  worked = w;
  number_is = is ∙ (let z : n ≡ n + 0 = omega arith in z);
  told = All-head (λ (x : SeatView). IsTold h x.account) s seats told;
  row_is = refl;
}
found_at hall t h n (s ∷ seats) (row ∷ rows) (left ∷ links) (w, is, rest) told (suc k) less =
    let f = found_at hall t h (n + 1) seats rows links rest (All-tail (λ (x : SeatView). IsTold h x.account) s seats told) k (omega arith) in
    let z : (n + 1) + k ≡ n + suc k = omega arith in
    record { seat = f.seat; row = f.row; left = f.left; worked = f.worked; number_is = f.number_is ∙ z; told = f.told; row_is = f.row_is }
found_at hall t h n seats rows links done told k less = absurd done

-- the entries of a seat are of its sessions
seat_entries : (hall : HallView) (t : Terms) (h : List Entry) (b : ℕ) (rows : List Row) (k : ℕ) → (f : Found hall t h b rows k) → All (λ e. seat_of e ≡ b → IsOf t.workers (1 + b) (length f.row.ends.items) (session_of e)) h
seat_entries hall t h b rows k f =
    let a = f.seat.account in
    let s = course_spans hall.opening t (1 + a.number) (fresh_account a.number) a f.row.ends.items f.left f.worked.course in
    let P : ℕ → Entry → Type 0 = λ n e. IsOf t.workers (1 + n) (length f.row.ends.items) (session_of e) in
    let all : All (P a.number) (entries_by a.number h) = subst (All (P a.number)) (sym (f.told.mine ∙ s.mine_is)) s.sessions in
    let here : All (P b) (entries_by b h) = subst (λ (n : ℕ). All (P n) (entries_by n h)) f.number_is all in
    All-weaker (λ e. (seat_of e == b) ≡ true → P b e) (λ e. seat_of e ≡ b → P b e) (λ e g is. g (eq-eqb (seat_of e) b is)) h (filter_all (P b) (λ (e : Entry). seat_of e == b) h here)

pub sessions_had : (hall : HallView) (t : Terms) (h : List Entry) (seats : List SeatView) (rows : List Row) (links : List (List LinkView)) → AreDone hall t 0 seats rows links → All (λ s. IsTold h s.account) seats
    → All (λ e. seat_of e < length rows) h → All (HasSession t rows) h
sessions_had hall t h seats rows links done told numbers k d less =
    let e = get_or h k d in
    let below = numbers k d less in
    let f = found_at hall t h 0 seats rows links done told (seat_of e) below in
    let z : 0 + seat_of e ≡ seat_of e = omega arith in
    let of = seat_entries hall t h (0 + seat_of e) rows (seat_of e) f k d less (sym z) in record {
      row = f.row;
      row_is = f.row_is;
      seat = below;
      before = of.0;
      session = of.1;
      number = of.2 ∙ (let m = z in omega arith);
    }

-- entries with a number of a seat's sessions are the seat's
own_numbers : (t : Terms) (h : List Entry) (rows : List Row) (b : ℕ) → b < t.workers → length rows ≤ t.workers → All (HasSession t rows) h → (j : ℕ) → All (λ e. session_of e ≡ session_number t.workers b j → seat_of e ≡ b) h
own_numbers t h rows b few wide had j =
    All-weaker (HasSession t rows) (λ e. session_of e ≡ session_number t.workers b j → seat_of e ≡ b)
    (λ e x is. sym (same_seat t.workers b (seat_of e) j x.before few (let s = x.seat in omega arith) (sym is ∙ x.number))) h had

pub rows_in : (hall : HallView) (t : Terms) (h : List Entry) (all : List Row) → length all ≤ t.workers → All (HasSession t all) h → (n : ℕ) (seats : List SeatView) (rows : List Row) (links : List (List LinkView))
    → AreDone hall t n seats rows links → All (λ s. IsTold h s.account) seats → AreRowsIn hall.opening h t n rows links
rows_in hall t h all wide had n [] [] [] done told = tt
rows_in hall t h all wide had n (s ∷ seats) (row ∷ rows) (left ∷ links) (w, is, rest) told =
    let few : n < t.workers = let m = w.number in omega arith in
    let C : ℕ → Type 0 = λ b. Course hall.opening t (1 + b) (fresh_account b) row.ends.items left s.account in
    let course : C n = subst C is w.course in
    let start : 1 + n ≡ session_number t.workers n 0 = grind arith in (
      row_in hall.opening h t n s.account (All-head (λ (x : SeatView). IsTold h x.account) s seats told) is (omega arith) (own_numbers t h all n few wide had) 0 (1 + n) start
          (fresh_account n) row.ends.items left refl (λ k d less. absurd (omega arith)) course,
      rows_in hall t h all wide had (n + 1) seats rows links rest (All-tail (λ (x : SeatView). IsTold h x.account) s seats told),
    )
rows_in hall t h all wide had n seats rows links done told = absurd done

-- no session of a history without entries
pub none_ran : (t : Terms) (r : Running) (h : List Entry) (rows : List Row) (given : Option (List (ℕ × LinkView))) (came : ℕ) → h ≡ [] → rows ≡ [] → came ≡ 0 → IsRunOf t r h rows given given came
none_ran t r h rows given came empty no_row none_came =
    let R : List Row × List Entry → Type 0 = λ x. AreRowsIn r x.1 t 0 x.0 [] × All (HasSession t x.0) x.1 in
    let x : R (rows, h) = subst R (λ i. (sym no_row i, sym empty i)) (tt, All-nil (HasSession t [])) in
    record { links = []; sessions = x.0; given_back = given_none given; distinct = tt; count = none_came; entries = x.1 }
