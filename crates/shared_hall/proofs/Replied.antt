-- What is answered to a seat's entries, where a history goes on.
use Rattle.std.proofs.Common.{◌≡◌, ◌∙◌, ◌==◌, ap, sym, refl, ℕ, if◌then◌else◌, Bool, true, false, List, [], ◌∷◌, ◌++◌, append_assoc}
use Rattle.std.specs.Prelude.{fold}
use Rattle.std.proofs.lemmas.List.{append-nil, append_cancel_left, append_cancel_right}
use Rattle.std.proofs.lemmas.List.Elements.{filter-append}
use Rattle.csdn_core.specs.declared.program.Parts.{Parts}
use Rattle.csdn_core.specs.Network.{Network}
use Rattle.csdn_history.specs.declared.entry.Entry.{Entry}
use Rattle.csdn_history.specs.declared.reply.Reply.{Reply}
use Rattle.csdn_run.specs.declared.runtime.RunRefusal.{RunRefusal}
use Rattle.csdn_run.specs.Histories.{Running}
use Rattle.csdn_run.specs.Standings.{Standing, opening, taken}
use Rattle.csdn_run.specs.Replies.{reply, reply_in}
use Rattle.shared_hall.specs.declared.view.Account.{Account}
use Rattle.shared_hall.specs.Views.{seat_of, entries_by, StartsWith, mine}
use Rattle.shared_hall.specs.Rules.{IsTold}
use Rattle.shared_hall.specs.Halls.{Enters, IsTurnedAway}
use Rattle.shared_hall.specs.Told.{PicksOf, replies_from, replies_to}
use Rattle.shared_hall.proofs.Words.{entries_own, entries_later, entries_first}

entries_first_of : (number : ℕ) (e : Entry) (es : List Entry) → seat_of e ≡ number → entries_by number (e ∷ es) ≡ [] → ⊥
entries_first_of number e es is whole = entries_first e es (ap (λ (n : ℕ). entries_by n (e ∷ es)) is ∙ whole)

module _ (picks : Entry → Bool) (P : Parts) (N : Network) where
  replies-append : (w : Standing) (es fs : List Entry) → replies_from picks P N w (es ++ fs) ≡ replies_from picks P N w es ++ replies_from picks P N (fold (taken P N) w es) fs
  replies-append w [] fs = refl
  replies-append w (e ∷ es) fs =
      let own : List Reply = if picks e then reply_in P N w e ∷ [] else [] in
      ap (λ (l : List Reply). own ++ l) (replies-append (taken P N w e) es fs)
      ∙ sym (append_assoc own (replies_from picks P N (taken P N w e) es) (replies_from picks P N (fold (taken P N) (taken P N w e) es) fs))

  not_picked : (w : Standing) (e : Entry) (es : List Entry) (b : Bool) → picks e ≡ b → (b ≡ true → ⊥) → replies_from picks P N (taken P N w e) es ≡ [] → replies_from picks P N w (e ∷ es) ≡ []
  not_picked w e es true is never rest = absurd (never refl)
  not_picked w e es false is never rest = rw is rest

  -- entries of which none is picked are answered nothing
  replies_none : (number : ℕ) → PicksOf number picks → (w : Standing) (es : List Entry) → entries_by number es ≡ [] → replies_from picks P N w es ≡ []
  replies_none number own w [] none_there = refl
  replies_none number own w (e ∷ es) none_there =
      not_picked w e es (picks e) refl (λ is. entries_first_of number e es (own e is) none_there)
      (replies_none number own (taken P N w e) es (entries_later (seat_of e == number) number e es refl none_there))

  -- a history that has no further entry of the seat has no further reply
  replies_same : (number : ℕ) (seen history : List Entry) → PicksOf number picks → StartsWith history seen → entries_by number history ≡ entries_by number seen
      → replies_from picks P N (opening P N) history ≡ replies_from picks P N (opening P N) seen
  replies_same number seen history own begins same =
      let rest = begins.0 in
      let is = begins.1 in
      let split : entries_by number history ≡ entries_by number seen ++ entries_by number rest = ap (entries_by number) is ∙ filter-append (λ (x : Entry). seat_of x == number) seen rest in
      let none_there : entries_by number rest ≡ [] =
      append_cancel_left (entries_by number seen) (entries_by number rest) [] (sym split ∙ (same ∙ sym (append-nil (entries_by number seen)))) in
      ap (replies_from picks P N (opening P N)) is
      ∙ (replies-append (opening P N) seen rest
      ∙ (ap (λ (l : List Reply). replies_from picks P N (opening P N) seen ++ l) (replies_none number own (fold (taken P N) (opening P N) seen) rest none_there)
      ∙ append-nil (replies_from picks P N (opening P N) seen)))

  replies_next : (history : List Entry) (e : Entry) → replies_from picks P N (opening P N) (history ++ e ∷ []) ≡ replies_from picks P N (opening P N) history ++ (if picks e then reply P N history e ∷ [] else [])
  replies_next history e =
      replies-append (opening P N) history (e ∷ [])
      ∙ ap (λ (l : List Reply). replies_from picks P N (opening P N) history ++ l) (append-nil (if picks e then reply P N history e ∷ [] else []))

pub closed_told : (r : Running) (picks : Entry → Bool) (a : Account) (history : List Entry) → PicksOf a.number picks → IsTold history a → replies_to picks r history ≡ replies_to picks r a.seen
closed_told r picks a history own told = replies_same picks r.program r.network a.number a.seen history own told.seen told.mine

pub turned_away_told : (r : Running) (picks : Entry → Bool) (old new : Account) (why : RunRefusal) → PicksOf old.number picks → IsTurnedAway r old new why → new.number ≡ old.number → replies_to picks r new.seen ≡ replies_to picks r old.seen
turned_away_told r picks old new why own x number =
    replies_same picks r.program r.network old.number old.seen new.seen own x.begins (ap (λ (n : ℕ). entries_by n new.seen) (sym number) ∙ x.mine)

pub entered_told : (r : Running) (picks : Entry → Bool) (old new : Account) (entry : Entry) (y : Reply) → PicksOf old.number picks → Enters r old new entry y → new.number ≡ old.number → seat_of entry ≡ old.number
    → replies_to picks r new.seen ≡ replies_to picks r old.seen ++ (if picks entry then y ∷ [] else [])
entered_told r picks old new entry y own x number is =
    let n = old.number in
    let grown : entries_by n (x.past ++ entry ∷ []) ≡ mine old ++ entry ∷ [] = (λ z. entries_by (sym number z) (sym x.seen z)) ∙ x.mine in
    let same : entries_by n x.past ≡ mine old = append_cancel_right (entries_by n x.past) (mine old) (entry ∷ []) (sym (entries_own n x.past entry is) ∙ grown) in
    let told : List Reply = if picks entry then y ∷ [] else [] in
    ap (replies_to picks r) x.seen
    ∙ (replies_next picks r.program r.network x.past entry
    ∙ ((λ z. replies_same picks r.program r.network n old.seen x.past own x.begins same z ++ (if picks entry then sym x.answer z ∷ [] else []))))
