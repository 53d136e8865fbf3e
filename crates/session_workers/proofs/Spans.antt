-- What sessions do to the account of their seat.
use Rattle.std.proofs.Common.{◌≡◌, ℕ, suc, ◌+◌, ◌*◌, ◌<◌, ◌≤◌, List, [], ◌++◌, refl, sym, ap, ◌∙◌, subst, arith, append_assoc}
use Rattle.std.specs.Prelude.{All}
use Rattle.std.proofs.lemmas.List.{append-nil}
use Rattle.std.proofs.lemmas.List.Elements.{All-append, All-nil, All-weaker}
use Rattle.csdn_history.specs.declared.entry.Entry.{Entry}
use Rattle.csdn_run.specs.Histories.{Running}
use Rattle.csdn_run.specs.Sessions.{session_of}
use Rattle.shared_hall.specs.declared.view.Account.{Account}
use Rattle.shared_hall.specs.Views.{mine, StartsWith}
use Rattle.link_sessions.specs.declared.ends.Ended.{Ended}
use Rattle.link_sessions.specs.Links.{LinkView}
use Rattle.session_workers.specs.Courses.{HasServed}
use Rattle.session_workers.proofs.Numbers.{first_number, next_number}

-- the account goes on: it has seen no less, and this holds of the sessions of its new entries
pub record Spans (P : ℕ → Type 0) (a b : Account) : Type 0 where
  pub number : b.number ≡ a.number
  pub seen : StartsWith b.seen a.seen
  pub added : List Entry
  pub mine_is : mine b ≡ mine a ++ added
  pub sessions : All (λ e. P (session_of e)) added

pub spans_none : (P : ℕ → Type 0) (a b : Account) → b ≡ a → Spans P a b
spans_none P a b is =
    subst (Spans P a) (sym is) (record {
      number = refl;
      seen = ([], sym (append-nil a.seen));
      added = [];
      mine_is = sym (append-nil (mine a));
      sessions = All-nil (λ e. P (session_of e));
    })

pub starts_both : (xs ys zs : List Entry) → StartsWith ys xs → StartsWith zs ys → StartsWith zs xs
starts_both xs ys zs f g = (f.0 ++ g.0, g.1 ∙ (ap (λ (l : List Entry). l ++ g.0) f.1 ∙ append_assoc xs f.0 g.0))

pub spans_both : (P Q S : ℕ → Type 0) (a b c : Account) → ((n : ℕ) → P n → S n) → ((n : ℕ) → Q n → S n) → Spans P a b → Spans Q b c → Spans S a c
spans_both P Q S a b c left right f g = record {
  number = g.number ∙ f.number;
  seen = starts_both a.seen b.seen c.seen f.seen g.seen;
  added = f.added ++ g.added;
  mine_is = g.mine_is ∙ (ap (λ (l : List Entry). l ++ g.added) f.mine_is ∙ append_assoc (mine a) f.added g.added);
  sessions = All-append (λ e. S (session_of e)) f.added g.added
      (All-weaker (λ e. P (session_of e)) (λ e. S (session_of e)) (λ e p. left (session_of e) p) f.added f.sessions)
      (All-weaker (λ e. Q (session_of e)) (λ e. S (session_of e)) (λ e p. right (session_of e) p) g.added g.sessions);
}

spans_of : (P : ℕ → Type 0) (a b : Account) (new : List Entry) → b.number ≡ a.number → StartsWith b.seen a.seen → mine b ≡ mine a ++ new → All (λ e. P (session_of e)) new → Spans P a b
spans_of P a b new number seen mine_is sessions = record { number = number; seen = seen; added = new; mine_is = mine_is; sessions = sessions }

pub spans_served : (r : Running) (q most : ℕ) (a b : Account) (now : LinkView) (ended : Ended) → HasServed r q most a b now ended → Spans (λ n. n ≡ q) a b
spans_served r q most a b now ended h = let s = h.served.seat in spans_of (λ n. n ≡ q) a b _ s.number s.seen s.mine s.own

-- one of so many sessions of a row from q on
abbrev pub IsOf : ℕ → ℕ → ℕ → ℕ → Type 0
IsOf w q count n = (j : ℕ) × (j < count) × (n ≡ q + w * j)

pub of_first : (w q count n : ℕ) → n ≡ q → IsOf w q (suc count) n
of_first w q count n is = (0, omega arith, is ∙ sym (first_number w q))

pub of_next : (w q count n : ℕ) → IsOf w (q + w) count n → IsOf w q (suc count) n
of_next w q count n (j, less, is) = (j + 1, omega arith, is ∙ sym (next_number w q j))

pub of_later : (w q count n : ℕ) → IsOf w q count n → q ≤ n
of_later w q count n (j, less, is) = omega arith
