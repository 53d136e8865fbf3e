-- What a session was told stays, whatever its seat adds for others.
use Rattle.std.proofs.Common.{◌≡◌, ◌≢◌, ◌∙◌, ap, sym, refl, subst, ℕ, suc, ◌==◌, Bool, true, false, ◌&&◌, if◌then◌else◌, List, [], ◌∷◌, ◌++◌, All, arith, append_assoc, eqb-true}
use Rattle.std.specs.Prelude.{fold}
use Rattle.std.proofs.lemmas.Bool.{false_from_ne_true}
use Rattle.std.proofs.lemmas.List.{append-nil, append_cancel_left}
use Rattle.std.proofs.lemmas.List.Elements.{filter-append}
use Rattle.csdn_core.specs.declared.program.Parts.{Parts}
use Rattle.csdn_core.specs.Network.{Network}
use Rattle.csdn_history.specs.declared.entry.Entry.{Entry}
use Rattle.csdn_history.specs.declared.reply.Reply.{Reply}
use Rattle.csdn_run.specs.Histories.{Running}
use Rattle.csdn_run.specs.Replies.{reply_in}
use Rattle.csdn_run.specs.Sessions.{session_of}
use Rattle.csdn_run.specs.Standings.{Standing, opening, taken}
use Rattle.shared_hall.specs.declared.view.Account.{Account}
use Rattle.shared_hall.specs.Rules.{IsTold}
use Rattle.shared_hall.specs.Told.{replies_from, replies_to}
use Rattle.shared_hall.specs.Views.{entries_by, mine, seat_of}
use Rattle.shared_hall.proofs.Replied.{closed_told}
use Rattle.session_entries.specs.Additions.{AddsFor, added, is_of, replies_given}
use Rattle.session_entries.proofs.Adding.{own_picks}

-- none of the entries is of the session
abbrev NoneOf : ℕ → List Entry → Type 0
NoneOf q es = All (λ (e : Entry). session_of e ≢ q) es

module _ (seat q : ℕ) (P : Parts) (N : Network) where
  none_by : (w : Standing) (e : Entry) (es : List Entry) (here : Bool) → (seat_of e == seat) ≡ here → NoneOf q (if here then e ∷ entries_by seat es else entries_by seat es)
      → (NoneOf q (entries_by seat es) → replies_from (is_of seat q) P N (taken P N w e) es ≡ []) → replies_from (is_of seat q) P N w (e ∷ es) ≡ []
  none_by w e es true is h rest =
      let off : (session_of e == q) ≡ false = false_from_ne_true (session_of e == q) (λ same. h 0 e (omega arith) (eqb-true (session_of e) q same)) in
      ap (λ (b : Bool). (if b then reply_in P N w e ∷ [] else []) ++ replies_from (is_of seat q) P N (taken P N w e) es) (ap (λ (b : Bool). b && (session_of e == q)) is ∙ off)
      ∙ rest (λ k d within. h (suc k) d (omega (arith, within)))
  none_by w e es false is h rest =
      ap (λ (b : Bool). (if b then reply_in P N w e ∷ [] else []) ++ replies_from (is_of seat q) P N (taken P N w e) es) (ap (λ (b : Bool). b && (session_of e == q)) is) ∙ rest h

  none_told : (w : Standing) (es : List Entry) → NoneOf q (entries_by seat es) → replies_from (is_of seat q) P N w es ≡ []
  none_told w [] h = refl
  none_told w (e ∷ es) h = none_by w e es (seat_of e == seat) refl h (λ later. none_told (taken P N w e) es later)

  more_told : (w : Standing) (es fs : List Entry) → replies_from (is_of seat q) P N w (es ++ fs) ≡ replies_from (is_of seat q) P N w es ++ replies_from (is_of seat q) P N (fold (taken P N) w es) fs
  more_told w [] fs = refl
  more_told w (e ∷ es) fs =
      let own : List Reply = if is_of seat q e then reply_in P N w e ∷ [] else [] in
      ap (λ (l : List Reply). own ++ l) (more_told (taken P N w e) es fs)
      ∙ sym (append_assoc own (replies_from (is_of seat q) P N (taken P N w e) es) (replies_from (is_of seat q) P N (fold (taken P N) (taken P N w e) es) fs))

-- a seat without entries of the session gave it no reply
pub nothing_told : (r : Running) (q : ℕ) (a : Account) → All (λ e. session_of e ≢ q) (mine a) → replies_given r q a ≡ []
unfolding replies_given
nothing_told r q a none = none_told a.number q r.program r.network (opening r.program r.network) a.seen none

-- another session changes nothing
pub others_told : (r : Running) (q p : ℕ) (old new : Account) → AddsFor r p old new → p ≢ q → replies_given r q new ≡ replies_given r q old
unfolding replies_given
others_told r q p old new adds apart =
    let rest : List Entry = adds.seen.0 in
    let picks = is_of old.number q in
    let whole : entries_by old.number new.seen ≡ mine old ++ added old new = ap (λ (n : ℕ). entries_by n new.seen) (sym adds.number) ∙ adds.mine in
    let split : entries_by old.number new.seen ≡ mine old ++ entries_by old.number rest = ap (entries_by old.number) adds.seen.1 ∙ filter-append (λ (e : Entry). seat_of e == old.number) old.seen rest in
    let rest_is : entries_by old.number rest ≡ added old new = append_cancel_left (mine old) (entries_by old.number rest) (added old new) (sym split ∙ whole) in
    let none : NoneOf q (entries_by old.number rest) = subst (NoneOf q) (sym rest_is) (λ k d within same. apart (sym (adds.own k d within) ∙ same)) in
    ap (λ (n : ℕ). replies_to (is_of n q) r new.seen) adds.number
    ∙ (ap (replies_to picks r) adds.seen.1
    ∙ (more_told old.number q r.program r.network (opening r.program r.network) old.seen rest
    ∙ (ap (λ (l : List Reply). replies_to picks r old.seen ++ l) (none_told old.number q r.program r.network (fold (taken r.program r.network) (opening r.program r.network) old.seen) rest none)
    ∙ append-nil (replies_to picks r old.seen))))

-- at the end the whole history tells the same
pub history_told : (r : Running) (q : ℕ) (a : Account) (history : List Entry) → IsTold history a → replies_to (is_of a.number q) r history ≡ replies_given r q a
unfolding replies_given
history_told r q a history told = closed_told r (is_of a.number q) a history (own_picks a.number q) told
