-- Notes that are taken.
use Rattle.std.proofs.Common.{◌≡◌, ◌≢◌, ◌∙◌, ap, ap₂, sym, ℕ, ◌==◌, Bool, true, false, if◌then◌else◌, List, [], ◌∷◌, ◌++◌, Option, Some, None, Result, Ok, Err, IfOk, append_assoc}
use Rattle.std.specs.Prelude.{OnErr}
use Rattle.std.proofs.lemmas.Bool.{eqb-true, false_from_ne_true}
use Rattle.std.proofs.lemmas.List.{append-nil}
use Rattle.general_facts.proofs.Numbers.{self_equal}
use Rattle.csdn_history.specs.declared.entry.Entry.{Entry}
use Rattle.csdn_history.specs.declared.reply.Reply.{Reply}
use Rattle.csdn_run.specs.Histories.{Running, running}
use Rattle.csdn_run.specs.Replies.{reply}
use Rattle.csdn_run.specs.Sessions.{replies, session_of}
use Rattle.csdn_run.proofs.SessionReplies.{replies-next}
use Rattle.of10_session.specs.declared.turn.Ask.{Ask}
use Rattle.of10_session.specs.Replies.{IsServable}
use Rattle.of10_speech.specs.declared.answers.Unanswered.{Unanswered}
use Rattle.of10_speech.specs.declared.answers.Unanswered.TheVariants.{Stranger, NoEntry, Full, Memory}
use Rattle.replay_listing.specs.declared.journal.Journal.{Journal}
use Rattle.replay_listing.specs.Journals.{IsTaken, Passes, Source, asked_of, given_by, listed, noted, source_of}
use Rattle.session_asks.specs.Told.{ask_of, asks_of}
use Rattle.session_asks.proofs.SameAsks.{asks-next}

pub same_number : (m n : ℕ) → m ≡ n → (m == n) ≡ true
same_number m n e = ap (λ (k : ℕ). k == n) e ∙ self_equal n

pub other_number : (m n : ℕ) → (m ≡ n → ⊥) → (m == n) ≡ false
other_number m n apart = false_from_ne_true (m == n) (λ e. apart (eqb-true m n e))

abbrev given_at : Running → ℕ → List Reply
given_at r q = replies r.program r.network q r.history

abbrev asked_at : Running → ℕ → Option Ask → List Ask
asked_at r q missing = asks_of q r.history ++ listed missing

abbrev pub source_at : Running → ℕ → List Entry → Source
source_at r q left = record { program = r.program; network = r.network; session = q; entries = r.history ++ left }

abbrev with_entry : Running → Entry → Running
with_entry r e = running r.program r.network r.room (r.history ++ e ∷ [])

-- nothing was entered
pub passes_nothing : (old new : Journal) → new.runtime ≡ old.runtime → new.session ≡ old.session → new.missing ≡ old.missing → noted new.rest.now ≡ noted old.rest.now → Passes old new
passes_nothing old new r q m left = record {
  source = (λ i. source_at (r i) (q i) (left i));
  given = ap₂ given_at r q;
  asked = (λ i. asked_at (r i) (q i) (m i));
  missing = m;
}

-- an entry more
source_entered : (old new : Journal) (e : Entry) → new.runtime ≡ with_entry old.runtime e → new.session ≡ old.session → noted old.rest.now ≡ e ∷ noted new.rest.now → source_of new ≡ source_of old
source_entered old new e r q left =
    (λ i. source_at (r i) (q i) (noted new.rest.now))
    ∙ ap (λ (es : List Entry). record { program = old.runtime.program; network = old.runtime.network; session = old.session; entries = es })
    (append_assoc old.runtime.history (e ∷ []) (noted new.rest.now) ∙ ap (λ (l : List Entry). old.runtime.history ++ l) (sym left))

given_entered : (old new : Journal) (e : Entry) → new.runtime ≡ with_entry old.runtime e → new.session ≡ old.session
    → given_by new ≡ given_by old ++ (if session_of e == old.session then reply old.runtime.program old.runtime.network old.runtime.history e ∷ [] else [])
given_entered old new e r q = ap₂ given_at r q ∙ replies-next old.runtime.program old.runtime.network old.session old.runtime.history e

-- .. of another session
pub passes_entry : (old new : Journal) (e : Entry) → new.runtime ≡ with_entry old.runtime e → new.session ≡ old.session → new.missing ≡ old.missing → noted old.rest.now ≡ e ∷ noted new.rest.now → (session_of e == old.session) ≡ false → Passes old new
passes_entry old new e r q m left other = record {
  source = source_entered old new e r q left;
  given = given_entered old new e r q ∙ ap (λ (b : Bool). given_by old ++ (if b then reply old.runtime.program old.runtime.network old.runtime.history e ∷ [] else [])) other ∙ append-nil (given_by old);
  asked =
      (λ i. asked_at (r i) (q i) (m i))
      ∙ ap (λ (l : List Ask). l ++ listed old.missing) (asks-next old.session old.runtime.history e
      ∙ ap (λ (b : Bool). asks_of old.session old.runtime.history ++ (if b then ask_of e ∷ [] else [])) other ∙ append-nil (asks_of old.session old.runtime.history));
  missing = m;
}

pub passes_later : (a b c : Journal) → Passes a b → Passes b c → Passes a c
passes_later a b c p q = record { source = q.source ∙ p.source; given = q.given ∙ p.given; asked = q.asked ∙ p.asked; missing = q.missing ∙ p.missing }

-- .. of the session
pub takes_entry : (old new : Journal) (e : Entry) (ask : Ask) (answer : Reply) → IsServable answer → new.runtime ≡ with_entry old.runtime e → new.session ≡ old.session → new.missing ≡ old.missing → old.missing ≡ None → noted old.rest.now ≡ e ∷ noted new.rest.now
    → (session_of e == old.session) ≡ true → ask ≡ ask_of e → answer ≡ reply old.runtime.program old.runtime.network old.runtime.history e → IsTaken old new ask (Ok answer)
takes_entry old new e ask answer servable r q m none left own asked_is answer_is = (
  servable,
  source_entered old new e r q left,
  given_entered old new e r q ∙ ap (λ (b : Bool). given_by old ++ (if b then reply old.runtime.program old.runtime.network old.runtime.history e ∷ [] else [])) own
      ∙ ap (λ (a : Reply). given_by old ++ a ∷ []) (sym answer_is),
  (λ i. asked_at (r i) (q i) ((m ∙ none) i))
      ∙ append-nil (asks_of old.session (old.runtime.history ++ e ∷ []))
      ∙ asks-next old.session old.runtime.history e
      ∙ ap (λ (b : Bool). asks_of old.session old.runtime.history ++ (if b then ask_of e ∷ [] else [])) own
      ∙ ap (λ (a : Ask). asks_of old.session old.runtime.history ++ a ∷ []) (sym asked_is)
      ∙ ap (λ (l : List Ask). l ++ ask ∷ []) (sym (append-nil (asks_of old.session old.runtime.history)) ∙ ap (λ (o : Option Ask). asks_of old.session old.runtime.history ++ listed o) (sym none)),
)

-- an ask that is no entry
pub asked_missing : (old new : Journal) (ask : Ask) → new.runtime ≡ old.runtime → new.session ≡ old.session → new.missing ≡ Some ask → old.missing ≡ None → asked_of new ≡ asked_of old ++ ask ∷ []
asked_missing old new ask r q m none =
    (λ i. asked_at (r i) (q i) (m i))
    ∙ ap (λ (l : List Ask). l ++ ask ∷ []) (sym (append-nil (asks_of old.session old.runtime.history)) ∙ ap (λ (o : Option Ask). asks_of old.session old.runtime.history ++ listed o) (sym none))

pub misses : (old new : Journal) (ask : Ask) → new.runtime ≡ old.runtime → new.session ≡ old.session → noted new.rest.now ≡ noted old.rest.now → new.missing ≡ Some ask → old.missing ≡ None → IsTaken old new ask (Err NoEntry)
misses old new ask r q left m none = ((λ i. source_at (r i) (q i) (left i)), ap₂ given_at r q, asked_missing old new ask r q m none)

-- ---- what came of an ask

pub taken_source : (old new : Journal) (ask : Ask) (r : Result Reply Unanswered) → IsTaken old new ask r → source_of new ≡ source_of old
taken_source old new ask (Ok reply) h = h.1
taken_source old new ask (Err NoEntry) h = h.0
taken_source old new ask (Err Memory) h = h.0
taken_source old new ask (Err Stranger) h = absurd h
taken_source old new ask (Err Full) h = absurd h

pub taken_reply : (old new : Journal) (ask : Ask) (r : Result Reply Unanswered) → IsTaken old new ask r → IfOk r (λ reply. IsServable reply × (given_by new ≡ given_by old ++ reply ∷ []))
taken_reply old new ask (Ok reply) h = (h.0, h.2)
taken_reply old new ask (Err e) h = tt

pub taken_asked : (old new : Journal) (ask : Ask) (r : Result Reply Unanswered) → IsTaken old new ask r → IfOk r (λ reply. asked_of new ≡ asked_of old ++ ask ∷ [])
taken_asked old new ask (Ok reply) h = h.3
taken_asked old new ask (Err e) h = tt

pub taken_err : (old new : Journal) (ask : Ask) (r : Result Reply Unanswered) → IsTaken old new ask r → OnErr r (given_by new ≡ given_by old)
taken_err old new ask (Ok reply) h = tt
taken_err old new ask (Err NoEntry) h = h.1
taken_err old new ask (Err Memory) h = h.1
taken_err old new ask (Err Stranger) h = absurd h
taken_err old new ask (Err Full) h = absurd h

pub taken_known : (old new : Journal) (ask : Ask) (r : Result Reply Unanswered) → IsTaken old new ask r → r ≢ Err Stranger
taken_known old new ask (Ok reply) h e = cc
taken_known old new ask (Err NoEntry) h e = cc
taken_known old new ask (Err Memory) h e = cc
taken_known old new ask (Err Stranger) h e = absurd h
taken_known old new ask (Err Full) h e = absurd h

pub taken_waits : (old new : Journal) (ask : Ask) (r : Result Reply Unanswered) → IsTaken old new ask r → r ≡ Err NoEntry → asked_of new ≡ asked_of old ++ ask ∷ []
taken_waits old new ask (Ok reply) h e = h.3
taken_waits old new ask (Err NoEntry) h e = h.2
taken_waits old new ask (Err Memory) h e = absurd cc
taken_waits old new ask (Err Stranger) h e = absurd h
taken_waits old new ask (Err Full) h e = absurd h
