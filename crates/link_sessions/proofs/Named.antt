-- A session never ends at bytes for want of memory.
use Rattle.std.proofs.Common.{◌≡◌, ◌≢◌, ℕ, ◌+◌, List, [], ◌∷◌, length, Option, Some, None, Bool, true, false, refl, ap, sym, subst, ◌∙◌, inl, inr}
use Rattle.std.specs.Prelude.{slice_get, if◌then◌else◌}
use Rattle.csdn_history.specs.declared.reply.Reply.{Reply}
use Rattle.of10_wire.specs.declared.refusal.WireRefusal.{WireRefusal}
use Rattle.of10_wire.specs.declared.refusal.WireWhy.{WireWhy}
use Rattle.of10_wire.specs.declared.refusal.WireWhy.TheVariants.{Memory}
use Rattle.of10_wire.proofs.Openings.{refused_near}
use Rattle.of10_msgs.specs.declared.message.Message.{Message}
use Rattle.of10_msgs.proofs.Readings.{refused-place}
use Rattle.of10_stream.specs.declared.tail.Tail.{Tail}
use Rattle.of10_stream.specs.declared.tail.Tail.TheVariants.{Cut, Broken}
use Rattle.of10_stream.specs.Streams.{IsTail}
use Rattle.of10_session.specs.declared.turn.Ask.{Ask}
use Rattle.of10_session.specs.declared.turn.Ask.TheVariants.{Join, Packet, Expire}
use Rattle.of10_session.specs.declared.turn.Turn.{Turn}
use Rattle.of10_session.specs.declared.turn.Turn.TheVariants.{Go, Ask as AskFor, End}
use Rattle.of10_session.specs.declared.turn.TurnEnd.TheVariants as end
use Rattle.of10_session.specs.Progresses.{Progress}
use Rattle.of10_session.specs.Sessions.{turn}
use Rattle.of10_session.specs.Replies.{answered}
use Rattle.of10_speech.specs.declared.stops.SpeechStop.{SpeechStop}
use Rattle.of10_speech.specs.declared.stops.SpeechStop.TheVariants.{Goes, Waits, Ends}
use Rattle.of10_speech.specs.declared.stops.SpokenEnd.TheVariants.{Wire}
use Rattle.of10_speech.specs.Speeches.{Told, Speech, on_ask, on_entry, on_stranger, on_turn, hear, hear_all, heard, speech, opening, ended_by, IsSpoken}

-- no end by bytes that are no message
abbrev NoWire : SpeechStop → Type 0
NoWire stop = (at : ℕ) (why : WireWhy) → stop ≡ Ends (Wire at why) → ⊥

entry_says : (o : Option Reply) (s : Progress) (ask : Ask) → NoWire (on_entry o s ask).stop
unfolding answered
entry_says None s ask at why e = cc
entry_says (Some r) s ask at why e = cc

stranger_says : (s : Progress) (ask : Ask) → NoWire (on_stranger ask s).stop
stranger_says s (Join switch) at why e = cc
stranger_says s (Packet switch a b i) at why e = cc
stranger_says s (Expire switch a b i cookie) at why e = cc

ask_says : (t : Told) (k : ℕ) (s : Progress) (ask : Ask) (b : Bool) → NoWire (if b then on_entry (slice_get t.replies k) s ask else on_stranger ask s).stop
ask_says t k s ask true = entry_says (slice_get t.replies k) s ask
ask_says t k s ask false = stranger_says s ask

asked_says : (t : Told) (k : ℕ) (s : Progress) (ask : Ask) → NoWire (on_ask t k s ask).stop
unfolding on_ask
asked_says t k s ask = ask_says t k s ask (t.declares ask)

turn_says : (t : Told) (place k : ℕ) (s : Progress) (sent : List Message) (r : Turn) → NoWire (on_turn t place k s sent r).stop
turn_says t place k s sent Go at why e = cc
turn_says t place k s sent (AskFor ask) at why e = asked_says t k s ask at why e
turn_says t place k s sent (End end.Incompatible) at why e = cc
turn_says t place k s sent (End end.OutOfTurn) at why e = cc

hear_says : (t : Told) (x : Speech) (m : Message) (stop : SpeechStop) → x.stop ≡ stop → NoWire x.stop → NoWire (heard stop t x m).stop
hear_says t x m Goes is none = turn_says t x.place (length x.asks) (turn x.session m).session (turn x.session m).sent (turn x.session m).turn
hear_says t x m Waits is none = none
hear_says t x m (Ends e) is none = none

all_say : (t : Told) (x : Speech) (ms : List Message) → NoWire x.stop → NoWire (hear_all t x ms).stop
all_say t x [] none = none
all_say t x (m ∷ ms) none = all_say t (hear t x m) ms (hear_says t x m x.stop refl none)

opening_says : (number : ℕ) → NoWire (opening number).stop
opening_says number at why e = cc

tail_named : (rest : List ℕ) (e : WireRefusal) → IsTail rest (Broken e) → e.why ≢ Memory
tail_named rest e (inl refused) = (refused_near rest e refused).0.named
tail_named rest e (inr bad) = (refused-place _ e bad.refused).named

ended_says : (x : Speech) (tail : Tail) (stop : SpeechStop) → NoWire x.stop → ((e : WireRefusal) → tail ≡ Broken e → e.why ≢ Memory) → (at : ℕ) (why : WireWhy) → (ended_by stop tail x).stop ≡ Ends (Wire at why) → why ≢ Memory
ended_says x (Cut n) Goes none named at why is = absurd (none at why is)
ended_says x (Broken e) Goes none named at why is = λ h. named e refl (same (x.place + e.at) at e.why why is ∙ h)
  where
    same : (a b : ℕ) (v w : WireWhy) → ◌≡◌ {A = SpeechStop} (Ends (Wire a v)) (Ends (Wire b w)) → v ≡ w
    same a b v w e = cc
ended_says x tail Waits none named at why is = absurd (none at why is)
ended_says x tail (Ends end) none named at why is = absurd (none at why is)

-- where an answer ends at bytes, it says why
pub spoken_named : (t : Told) (number : ℕ) (bytes : List ℕ) (x : Speech) (at : ℕ) (why : WireWhy) → IsSpoken t number bytes x → x.stop ≡ Ends (Wire at why) → why ≢ Memory
spoken_named t number bytes x at why h is =
    let said : Speech = speech t number h.messages in
    let rest = h.stream.0 in
    ended_says said h.tail said.stop (all_say t (opening number) h.messages (opening_says number))
    (λ e broken. tail_named rest e (subst (λ (tail : Tail). IsTail rest tail) broken h.stream.2)) at why (ap (λ (y : Speech). y.stop) (sym h.said) ∙ is)
