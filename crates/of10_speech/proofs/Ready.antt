-- A session that goes on listens again, and ignores at most one message at a time.
use Rattle.std.proofs.Common.{◌≡◌, ℕ, ◌+◌, ◌≤◌, List, refl, Bool, true, false, Option, Some, None, arith}
use Rattle.std.specs.Prelude.{slice_get, if◌then◌else◌}
use Rattle.csdn_history.specs.declared.reply.Reply.{Reply}
use Rattle.of10_msgs.specs.declared.message.Message.{Message}
use Rattle.of10_session.specs.declared.turn.Ask.{Ask}
use Rattle.of10_session.specs.declared.turn.Ask.TheVariants.{Join, Packet, Expire}
use Rattle.of10_session.specs.declared.turn.Turn.{Turn}
use Rattle.of10_session.specs.declared.turn.Turn.TheVariants.{Go, Ask as AskFor, End}
use Rattle.of10_session.specs.declared.turn.TurnEnd.TheVariants.{Incompatible, OutOfTurn}
use Rattle.of10_session.specs.Progresses.{Progress, IsListening, IsTalking}
use Rattle.of10_session.specs.Sessions.{turn}
use Rattle.of10_session.specs.Replies.{answered}
use Rattle.of10_session.proofs.Turns.{turn_orderly, answered_listens, passed_listens}
use Rattle.of10_speech.specs.declared.stops.SpeechStop.TheVariants.{Goes}
use Rattle.of10_speech.specs.Speeches.{Told, Said, on_ask, on_entry, on_stranger, on_turn, said_to}

pub record IsReady (k : ℕ) (y : Said) : Type 0 where
  pub listens : y.stop ≡ Goes → IsListening y.session
  pub later : k ≤ y.session.ignored
  pub count : y.session.ignored ≤ k + 1

entry_ready : (o : Option Reply) (s : Progress) (ask : Ask) → IsTalking s.phase → IsReady s.ignored (on_entry o s ask)
unfolding answered
entry_ready None s ask h = record { listens = λ e. absurd cc; later = omega arith; count = omega arith }
entry_ready (Some r) s ask h = record { listens = λ e. answered_listens s r h; later = omega arith; count = omega arith }

stranger_ready : (s : Progress) (ask : Ask) → IsTalking s.phase → IsReady s.ignored (on_stranger ask s)
stranger_ready s (Join switch) h = record { listens = λ e. absurd cc; later = omega arith; count = omega arith }
stranger_ready s (Packet switch a b i) h = record { listens = λ e. passed_listens s h; later = omega arith; count = omega arith }
stranger_ready s (Expire switch a b i cookie) h = record { listens = λ e. passed_listens s h; later = omega arith; count = omega arith }

ask_ready : (t : Told) (k : ℕ) (s : Progress) (ask : Ask) (b : Bool) → IsTalking s.phase → IsReady s.ignored (if b then on_entry (slice_get t.replies k) s ask else on_stranger ask s)
ask_ready t k s ask true h = entry_ready (slice_get t.replies k) s ask h
ask_ready t k s ask false h = stranger_ready s ask h

asked_ready : (t : Told) (k : ℕ) (s : Progress) (ask : Ask) → IsTalking s.phase → IsReady s.ignored (on_ask t k s ask)
unfolding on_ask
asked_ready t k s ask h = ask_ready t k s ask (t.declares ask) h

turned_ready : (t : Told) (place k : ℕ) (old s : Progress) (sent : List Message) (r : Turn) → (r ≡ Go → IsListening s) → ((a : Ask) → r ≡ AskFor a → IsTalking s.phase × (s.ignored ≡ old.ignored)) → old.ignored ≤ s.ignored → s.ignored ≤ old.ignored + 1 → IsReady old.ignored (on_turn t place k s sent r)
turned_ready t place k old s sent Go g a l c = record { listens = λ e. g refl; later = l; count = c }
turned_ready t place k old s sent (AskFor ask) g a l c =
    let y = asked_ready t k s ask (a ask refl).0 in
    record { listens = y.listens; later = omega (arith, y.later, (a ask refl).1); count = omega (arith, y.count, (a ask refl).1) }
turned_ready t place k old s sent (End Incompatible) g a l c = record { listens = λ e. absurd cc; later = l; count = c }
turned_ready t place k old s sent (End OutOfTurn) g a l c = record { listens = λ e. absurd cc; later = l; count = c }

pub said_ready : (t : Told) (place k : ℕ) (s : Progress) (m : Message) → IsListening s → IsReady s.ignored (said_to t place k s m)
said_ready t place k s m h =
    let o = turn_orderly s m h in
    turned_ready t place k s (turn s m).session (turn s m).sent (turn s m).turn o.goes (λ a e. ((o.asks a e).talks, (o.asks a e).ignored)) o.later o.count
