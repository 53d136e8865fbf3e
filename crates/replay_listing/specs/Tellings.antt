-- How a session and the rest of its journal are told of.
use Rattle.std.specs.Prelude.{◌≡◌, ◌≢◌, ℕ, ◌+◌, Bool, true, false, List, [], ◌∷◌, ◌++◌, length, Option, Some, None}
use Rattle.of10_session.specs.declared.turn.Ask.{Ask}
use Rattle.of10_speech.specs.declared.speaking.Spoken.{Spoken}
use Rattle.of10_speech.specs.declared.stops.SpeechStop.{SpeechStop}
use Rattle.of10_speech.specs.declared.stops.SpeechStop.TheVariants.{Waits}
use Rattle.replay_listing.specs.declared.journal.Journal.{Journal}
use Rattle.replay_listing.specs.declared.listing.Ending.{Ending}
use Rattle.replay_listing.specs.declared.listing.Ending.TheVariants.{Differs}
use Rattle.replay_listing.specs.Journals.{noted}
use Rattle.replay_listing.specs.Replays.{AreOutLines, differs_text, end_line, ending_of}
use Rattle.session_asks.specs.Told.{asks_of, same_ask}

abbrev pub first_of : List Ask → Option Ask
first_of [] = None
first_of (ask ∷ asks) = Some ask

-- behind those that were answered, an ask isn't the next entry, or an entry is left
abbrev pub IsOther : Option Ask → Option Ask → SpeechStop → Type 0
IsOther (Some ask) None stop = Unit {0}
IsOther (Some ask) (Some next) stop = same_ask ask next ≡ false
IsOther None (Some next) stop = stop ≢ Waits
IsOther None None stop = ⊥

-- there is neither
pub record AreOver (missing next : Option Ask) (stop : SpeechStop) : Type 0 where
  pub answered : missing ≡ None
  pub last : next ≡ None
  pub goes : stop ≢ Waits

abbrev pub Tells : Bool → Type 0 → Type 0 → Type 0
Tells true A B = A
Tells false A B = B

-- the ask of the session's next entry
abbrev pub next_of : Journal → Option Ask
next_of j = first_of (asks_of j.session (noted j.rest.now))

abbrev pub IsDifference : Journal → SpeechStop → Option ℕ → Type 0
IsDifference j stop (Some k) = (k ≡ length (asks_of j.session j.runtime.history) + 1) × IsOther j.missing (next_of j) stop
IsDifference j stop None = AreOver j.missing (next_of j) stop

-- the lines of a session that has spoken
pub record AreLines (spoken : Spoken) (said text : List ℕ) (ending : Ending) : Type 0 where
  pub outs : List ℕ
  pub sent : AreOutLines said outs
  pub text_is : text ≡ outs ++ end_line spoken.stop spoken.ignored
  pub ends : ending ≡ ending_of spoken.stop

abbrev pub Tell : Option ℕ → Spoken → (said text : List ℕ) → Ending → Type 0
Tell (Some k) spoken said text ending = (text ≡ differs_text k) × (ending ≡ Differs)
Tell None spoken said text ending = AreLines spoken said text ending

pub record IsTelling (j : Journal) (spoken : Spoken) (said text : List ℕ) (ending : Ending) : Type 0 where
  pub place : Option ℕ
  pub difference : IsDifference j spoken.stop place
  pub tell : Tell place spoken said text ending
