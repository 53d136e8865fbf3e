-- What is printed is the session's answer.
use Rattle.std.proofs.Common.{◌≡◌, ◌≢◌, ◌∙◌, ap, ap₂, sym, refl, subst, ℕ, ◌+◌, Bool, if◌then◌else◌, List, [], ◌∷◌, ◌++◌, length, Option, Some, None, append_assoc}
use Rattle.csdn_core.specs.declared.program.Parts.{Parts}
use Rattle.csdn_core.specs.Network.{Network}
use Rattle.csdn_history.specs.declared.entry.Entry.{Entry}
use Rattle.csdn_run.specs.Histories.{running}
use Rattle.csdn_run.specs.Sessions.{replies_from}
use Rattle.journal_text.specs.declared.note.Note.{Note}
use Rattle.csdn_run.specs.Standings.{after}
use Rattle.csdn_run.proofs.SessionReplies.{replies-append}
use Rattle.of10_session.specs.declared.turn.Ask.{Ask}
use Rattle.of10_speech.specs.declared.speaking.Spoken.{Spoken}
use Rattle.of10_speech.specs.declared.stops.SpeechStop.{SpeechStop}
use Rattle.of10_speech.specs.declared.stops.SpeechStop.TheVariants.{Waits}
use Rattle.of10_speech.specs.Speeches.{Told, Further, Speech, IsSpoken, IsBeginning, HasOneAnswer}
use Rattle.of10_speech.specs.Hearings.{IsAnswer}
use Rattle.of10_speech.proofs.Beginnings.{spoken_begins}
use Rattle.of10_speech.proofs.Ends.{one_spoken, spoken_further}
use Rattle.replay_listing.specs.declared.journal.Journal.{Journal}
use Rattle.replay_listing.specs.declared.listing.Ending.{Ending}
use Rattle.replay_listing.specs.Journals.{Source, asked_of, given_by, listed, noted, source_of}
use Rattle.replay_listing.specs.Replays.{AreOutLines, IsListed, IsReplay, IsTold, end_line, ending_of, first_difference}
use Rattle.replay_listing.specs.Tellings.{AreLines, AreOver, IsDifference, IsOther, IsTelling, Tell, first_of, next_of}
use Rattle.session_asks.specs.Told.{asks_of, declares, told_by}
use Rattle.replay_listing.proofs.Taking.{source_at}
use Rattle.session_asks.proofs.SameAsks.{asks-append}
use Rattle.replay_listing.proofs.SameAsks.{differ_later}

abbrev pub IsReplayOf : Source → (bytes text : List ℕ) → Ending → Type 0
IsReplayOf s bytes text ending = IsReplay s.program s.network s.entries s.session bytes text ending

-- what the session was told so far
abbrev pub told_of : Journal → Told
told_of j = record { declares = declares j.runtime.program j.runtime.network; replies = given_by j; asks = asked_of j }

other_here : (n : ℕ) (ask : Ask) (more left : List Ask) (stop : SpeechStop) → IsOther (Some ask) (first_of left) stop → first_difference n (ask ∷ more) left ≡ Some n
other_here n ask more [] stop h = refl
other_here n ask more (next ∷ left) stop h = ap (λ (b : Bool). if b then first_difference (n + 1) more left else Some n) h

left_here : (n : ℕ) (left : List Ask) (stop : SpeechStop) → IsOther None (first_of left) stop → (first_difference n [] left ≡ Some n) × (stop ≢ Waits)
left_here n [] stop h = absurd h
left_here n (next ∷ left) stop h = (refl, h)

none_left : (left : List Ask) → first_of left ≡ None → left ≡ []
none_left [] e = refl
none_left (next ∷ left) e = absurd cc

module _ (j : Journal) (bytes said text : List ℕ) (spoken : Spoken) (ending : Ending) (a : IsAnswer (told_of j) j.session bytes [] said spoken) where
  abbrev P : Parts
  P = j.runtime.program

  abbrev N : Network
  N = j.runtime.network

  abbrev q : ℕ
  q = j.session

  abbrev own : List Ask
  own = asks_of q j.runtime.history

  abbrev left : List Ask
  left = asks_of q (noted j.rest.now)

  abbrev all : List Entry
  all = j.runtime.history ++ noted j.rest.now

  abbrev x : Speech
  x = a.speech_is

  further : Further (told_of j) (told_by P N all q)
  further = record { declares = refl; more = replies_from P N (after P N j.runtime.history) q (noted j.rest.now); replies = replies-append P N q j.runtime.history (noted j.rest.now) }

  all_asks : asks_of q all ≡ own ++ left
  all_asks = asks-append q j.runtime.history (noted j.rest.now)

  differ : (asks behind : List Ask) → asks ≡ own ++ behind → first_difference 1 asks (asks_of q all) ≡ first_difference (length own + 1) behind left
  differ asks behind is = ap₂ (first_difference 1) is all_asks ∙ differ_later 1 own behind left

  -- an ask was no entry: the answer goes on to it
  missed : (ask : Ask) → j.missing ≡ Some ask → IsOther (Some ask) (first_of left) spoken.stop → (k : ℕ) → k ≡ length own + 1 → Tell (Some k) spoken said text ending → IsReplay P N all q bytes text ending
  missed ask is other k at tells =
      let y : HasOneAnswer (told_by P N all q) q bytes = one_spoken (told_by P N all q) q bytes in
      let begins : IsBeginning x y.answer = spoken_begins (told_of j) (told_by P N all q) q bytes x y.answer further a.spoken y.is in
      let asks : y.answer.asks ≡ own ++ (ask ∷ begins.asks_behind) =
      begins.asks ∙ ap (λ (l : List Ask). l ++ begins.asks_behind) (a.asked ∙ ap (λ (o : Option Ask). own ++ listed o) is) ∙ append_assoc own (ask ∷ []) begins.asks_behind in
      let here : first_difference 1 y.answer.asks (asks_of q all) ≡ Some k =
      differ y.answer.asks (ask ∷ begins.asks_behind) asks ∙ other_here (length own + 1) ask begins.asks_behind left spoken.stop other ∙ ap (λ (n : ℕ). Some n) (sym at) in
      record { answer = y.answer; said = y.is; text_is = subst (λ (d : Option ℕ). IsListed d y.answer text ending) (sym here) tells }

  -- where no ask waited the answer is what was said
  answers : spoken.stop ≢ Waits → IsSpoken (told_by P N all q) q bytes x
  answers goes = spoken_further (told_of j) (told_by P N all q) q bytes x further a.spoken (λ w. goes (a.stop ∙ w))

  asks_are : j.missing ≡ None → x.asks ≡ own ++ []
  asks_are is = a.asked ∙ ap (λ (o : Option Ask). own ++ listed o) is

  left_over : j.missing ≡ None → IsOther None (first_of left) spoken.stop → (k : ℕ) → k ≡ length own + 1 → Tell (Some k) spoken said text ending → IsReplay P N all q bytes text ending
  left_over is other k at tells =
      let both = left_here (length own + 1) left spoken.stop other in
      let here : first_difference 1 x.asks (asks_of q all) ≡ Some k = differ x.asks [] (asks_are is) ∙ both.0 ∙ ap (λ (n : ℕ). Some n) (sym at) in
      record { answer = x; said = answers both.1; text_is = subst (λ (d : Option ℕ). IsListed d x text ending) (sym here) tells }

  is_told : AreLines spoken said text ending → IsTold x text ending
  is_told lines = record {
    outs = lines.outs;
    sent = subst (λ (l : List ℕ). AreOutLines l lines.outs) a.written lines.sent;
    text_is = lines.text_is ∙ ap₂ (λ (stop : SpeechStop) (n : ℕ). lines.outs ++ end_line stop n) a.stop a.ignored;
    ends = lines.ends ∙ ap ending_of a.stop;
  }

  over : AreOver j.missing (next_of j) spoken.stop → AreLines spoken said text ending → IsReplay P N all q bytes text ending
  over h lines =
      let here : first_difference 1 x.asks (asks_of q all) ≡ None = differ x.asks [] (asks_are h.answered) ∙ ap (first_difference (length own + 1) []) (none_left left h.last) in
      record { answer = x; said = answers h.goes; text_is = subst (λ (d : Option ℕ). IsListed d x text ending) (sym here) (is_told lines) }

  by_missing : (missing : Option Ask) → j.missing ≡ missing → (k : ℕ) → k ≡ length own + 1 → IsOther missing (first_of left) spoken.stop → Tell (Some k) spoken said text ending → IsReplay P N all q bytes text ending
  by_missing (Some ask) is k at other tells = missed ask is other k at tells
  by_missing None is k at other tells = left_over is other k at tells

  by_place : (place : Option ℕ) → IsDifference j spoken.stop place → Tell place spoken said text ending → IsReplay P N all q bytes text ending
  by_place (Some k) h tells = by_missing j.missing refl k h.0 h.1 tells
  by_place None h tells = over h tells

  pub replayed : IsTelling j spoken said text ending → IsReplayOf (source_of j) bytes text ending
  replayed t = by_place t.place t.difference t.tell

-- .. from the first note on
pub listed_session : (P : Parts) (N : Network) (room : ℕ) (notes : List Note) (q : ℕ) (first j : Journal) (bytes none said : List ℕ) (spoken : Spoken) (text : List ℕ) (ending : Ending) → first.runtime ≡ running P N room [] → first.session ≡ q → first.rest.now ≡ notes
    → source_of j ≡ source_of first → none ≡ [] → IsAnswer (told_of j) q bytes none said spoken → IsTelling j spoken said text ending → IsReplay P N (noted notes) q bytes text ending
listed_session P N room notes q first j bytes none said spoken text ending r s left same nothing a t =
    let whole : source_of j ≡ record { program = P; network = N; session = q; entries = noted notes } = same ∙ (λ i. source_at (r i) (s i) (noted (left i))) in
    let number : q ≡ j.session = sym (ap (λ (x : Source). x.session) whole) in
    let mine : IsAnswer (told_of j) j.session bytes [] said spoken =
    subst (λ (l : List ℕ). IsAnswer (told_of j) j.session bytes l said spoken) nothing (subst (λ (n : ℕ). IsAnswer (told_of j) n bytes none said spoken) number a) in
    subst (λ (x : Source). IsReplayOf x bytes text ending) whole (replayed j bytes said text spoken ending mine t)
