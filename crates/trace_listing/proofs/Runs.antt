-- Where all notes happen, their events are a run.
use Rattle.std.proofs.Common.{◌≡◌, refl, sym, ℕ, ◌+◌, ◌==◌, Bool, true, false, ◌&&◌, if◌then◌else◌, List, [], ◌∷◌, ◌++◌, Some, None, is_some}
use Rattle.std.proofs.lemmas.Bool.{and_parts}
use Rattle.std.proofs.lemmas.Option.{same_Some}
use Rattle.csdn_core.specs.declared.event.Event.{Event}
use Rattle.csdn_core.specs.declared.event.Event.TheVariants.{PktIn, PktFlow, Expire as Expiring}
use Rattle.csdn_core.specs.declared.program.Parts.{Parts}
use Rattle.csdn_core.specs.Network.{Network, State}
use Rattle.csdn_core.specs.Run.{Run}
use Rattle.csdn_history.specs.declared.entry.Entry.{Entry}
use Rattle.csdn_history.specs.declared.entry.Entry.TheVariants.{Join, Packet as PacketIn, Expire}
use Rattle.csdn_step.specs.declared.setting.Sending.TheVariants.{Kept as WithSent}
use Rattle.csdn_step.specs.Answers.{is_of_network, is_enabled}
use Rattle.csdn_step.specs.Courses.{fired, from_state}
use Rattle.csdn_step.proofs.Steps.{steps}
use Rattle.csdn_run.specs.Standings.{Standing, is_declared, is_packet_of}
use Rattle.journal_text.specs.declared.note.Note.{Note}
use Rattle.journal_text.specs.declared.note.Note.TheVariants.{Kept, Flow}
use Rattle.trace_listing.specs.declared.progress.Refusal.TheVariants.{Stranger, NotEnabled}
use Rattle.trace_listing.specs.Traces.{Traced, traced, unless_refused, with_note, refusal_of, after, after_event, done, match_of, first_broken, looked_at, event_of, events_of}

module _ (P : Parts) (N : Network) where
  -- an event that is not refused is a step
  event_run : (event : Event) (j : ℕ) (x y : State) (events : List Event) (later : Traced) (known enabled : Bool) → is_of_network N event ≡ known → is_enabled P N x event ≡ enabled
      → (later.last ≡ Some y → Run P N (after_event P N x event) events y)
      → (unless_refused j (if known then (if enabled then None else Some NotEnabled) else Some Stranger) later).last ≡ Some y → Run P N x (event ∷ events) y
  event_run event j x y events later true true known_is enabled_is goes_on is = (after_event P N x event, steps P N event x known_is enabled_is, goes_on is)
  event_run event j x y events later true false known_is enabled_is goes_on is = absurd cc
  event_run event j x y events later false enabled known_is enabled_is goes_on is = absurd cc

  -- an end of rules is a step where it acts, and else nothing
  expire_run : (event : Event) (x y : State) (events : List Event) (is_mark enabled : Bool) → is_of_network N event ≡ true → is_enabled P N x event ≡ enabled
      → Run P N (if is_mark then (if enabled then fired P N WithSent event (from_state x) else from_state x) else from_state x).state events y
      → Run P N x ((if is_mark && enabled then event ∷ [] else []) ++ events) y
  expire_run event x y events true true known enabled_is run = (after_event P N x event, steps P N event x known enabled_is, run)
  expire_run event x y events true false known enabled_is run = run
  expire_run event x y events false enabled known enabled_is run = run

  -- what a declared entry does is its event
  entry_run : (entry : Entry) (w : Standing) (y : State) (events : List Event) → is_declared P N entry ≡ true → Run P N (done P N w entry).state events y → Run P N w.state (event_of P N w entry ++ events) y
  entry_run (Join seat session s) w y events known run = run
  entry_run (PacketIn seat session s a b i) w y events known run = (after_event P N w.state (PktIn s a b i), steps P N (PktIn s a b i) w.state known refl, run)
  entry_run (Expire seat session s a b i cookie) w y events known run =
      let event = Expiring s a b i in
      expire_run event w.state y events (w.marks (match_of s a b i) == cookie) (is_enabled P N w.state event) (and_parts (is_packet_of N s a b i) (is_some P.timeout) known).0 refl run

  -- an entry that is not refused
  kept_run : (entry : Entry) (j : ℕ) (w : Standing) (y : State) (events : List Event) (later : Traced) (declared : Bool) → is_declared P N entry ≡ declared
      → (later.last ≡ Some y → Run P N (done P N w entry).state events y)
      → (unless_refused j (if declared then None else Some Stranger) later).last ≡ Some y → Run P N w.state (event_of P N w entry ++ events) y
  kept_run entry j w y events later true declared_is goes_on is = entry_run entry w y events declared_is (goes_on is)
  kept_run entry j w y events later false declared_is goes_on is = absurd cc

  pub runs : (j : ℕ) (w : Standing) (y : State) (notes : List Note) → (traced P N j w notes).last ≡ Some y → Run P N w.state (events_of P N w notes) y
  unfolding refusal_of after
  runs j w y [] is = sym (same_Some w.state y is)
  runs j w y (Kept entry ∷ notes) is =
      let z = after P N w (Kept entry) in
      kept_run entry j w y (events_of P N z notes) (with_note j (first_broken P N z.state (looked_at P N w (Kept entry))) (traced P N (j + 1) z notes)) (is_declared P N entry) refl (λ e. runs (j + 1) z y notes e) is
  runs j w y (Flow s a b i o ∷ notes) is =
      let event = PktFlow s a b i o in
      let z = after P N w (Flow s a b i o) in
      event_run event j w.state y (events_of P N z notes) (with_note j (first_broken P N z.state (looked_at P N w (Flow s a b i o))) (traced P N (j + 1) z notes)) (is_of_network N event) (is_enabled P N w.state event) refl refl
      (λ e. runs (j + 1) z y notes e) is
