-- What is printed of a session.
use Rattle.std.specs.Prelude.{ℕ, ◌≡◌, ◌+◌, ◌/◌, ◌%◌, nat_lt, if◌then◌else◌, List, [], ◌∷◌, ◌++◌, Option, Some, None, codes, decimal}
use Rattle.std.specs.List.{AllByRecursion, flat_map}
use Rattle.csdn_core.specs.declared.program.Parts.{Parts}
use Rattle.csdn_core.specs.Network.{Network}
use Rattle.csdn_history.specs.declared.entry.Entry.{Entry}
use Rattle.of10_listing.specs.Lines.{why_name}
use Rattle.of10_session.specs.declared.turn.Ask.{Ask}
use Rattle.of10_session.specs.Sessions.{spelled}
use Rattle.of10_speech.specs.declared.stops.SpeechStop.{SpeechStop}
use Rattle.of10_speech.specs.declared.stops.SpeechStop.TheVariants.{Goes, Waits, Ends}
use Rattle.of10_speech.specs.declared.stops.SpokenEnd.{SpokenEnd}
use Rattle.of10_speech.specs.declared.stops.SpokenEnd.TheVariants.{Incompatible, OutOfTurn, UnknownSwitch, Wire}
use Rattle.of10_speech.specs.Speeches.{Speech}
use Rattle.of10_stream.specs.Cuttings.{Cuts, joined}
use Rattle.of10_stream.specs.Framings.{IsFrame}
use Rattle.replay_listing.specs.declared.listing.Ending.{Ending}
use Rattle.replay_listing.specs.declared.listing.Ending.TheVariants.{Closed, Ended, Differs}
use Rattle.session_asks.specs.Told.{IsSessionAnswer, asks_of, same_ask}

-- ---- what was sent

-- digits are 0 to 9 and then a to f
abbrev pub digit : ℕ → ℕ
digit n = if nat_lt n 10 then n + 48 else n + 87

-- two digits a byte
abbrev pub hex : List ℕ → List ℕ
hex bytes = flat_map (λ b. digit (b / 16) ∷ digit (b % 16) ∷ []) bytes

-- `out HEX`
abbrev pub out_line : List ℕ → List ℕ
out_line message = codes "out " ++ (hex message ++ codes "\n")

-- what is left of no message has no line
abbrev pub rest_line : List ℕ → List ℕ
rest_line [] = []
rest_line (b ∷ bs) = out_line (b ∷ bs)

-- the bytes that were sent, cut into messages by the lengths in their headers, have a line for each
pub record AreOutLines (bytes text : List ℕ) : Type 0 where
  pub messages : List (List ℕ)
  pub rest : List ℕ
  pub cut : Cuts bytes messages rest
  pub lines : text ≡ flat_map out_line messages ++ rest_line rest

-- ---- how it ended

abbrev pub end_words : SpokenEnd → List ℕ
end_words Incompatible = codes "incompatible"
end_words (OutOfTurn at) = codes "out of turn " ++ decimal at
end_words (UnknownSwitch s) = codes "unknown switch " ++ decimal s
end_words (Wire at why) = codes "wire " ++ decimal at ++ codes " " ++ why_name why

-- a session that waits has an ask more than it has entries, so that no end of it is printed
abbrev pub stop_words : SpeechStop → List ℕ
stop_words Goes = codes "closed"
stop_words (Ends end) = end_words end
stop_words Waits = []

-- `end END ignored M`
abbrev pub end_line : SpeechStop → ℕ → List ℕ
end_line stop ignored = codes "end " ++ stop_words stop ++ codes " ignored " ++ decimal ignored ++ codes "\n"

abbrev pub ending_of : SpeechStop → Ending
ending_of Goes = Closed
ending_of (Ends end) = Ended
ending_of Waits = Differs

-- ---- all of it

-- the first place, the first of these being numbered k, at which two lists of asks differ, or one is over
abbrev pub first_difference : ℕ → (asks entered : List Ask) → Option ℕ
first_difference k [] [] = None
first_difference k (a ∷ later) [] = Some k
first_difference k [] (b ∷ others) = Some k
first_difference k (a ∷ later) (b ∷ others) = if same_ask a b then first_difference (k + 1) later others else Some k

-- `ask K: differs`
abbrev pub differs_text : ℕ → List ℕ
differs_text k = codes "ask " ++ decimal k ++ codes ": differs\n"

-- what was said, where nothing differs
pub record IsTold (x : Speech) (text : List ℕ) (ending : Ending) : Type 0 where
  pub outs : List ℕ
  pub sent : AreOutLines (spelled x.sent) outs
  pub text_is : text ≡ outs ++ end_line x.stop x.session.ignored
  pub ends : ending ≡ ending_of x.stop

abbrev pub IsListed : Option ℕ → Speech → (text : List ℕ) → Ending → Type 0
IsListed (Some k) x text ending = (text ≡ differs_text k) × (ending ≡ Differs)
IsListed None x text ending = IsTold x text ending

-- The text of a session is of its answer to the bytes; or it says where its asks differ from its entries.
pub record IsReplay (P : Parts) (N : Network) (entries : List Entry) (q : ℕ) (bytes text : List ℕ) (ending : Ending) : Type 0 where
  pub answer : Speech
  pub said : IsSessionAnswer P N bytes q entries answer
  pub text_is : IsListed (first_difference 1 answer.asks (asks_of q entries)) answer text ending

-- a text was appended of which this holds
pub record IsBehind (before after : List ℕ) (P : List ℕ → Type 0) : Type 0 where
  pub more : List ℕ
  pub appended : after ≡ before ++ more
  pub holds : P more

-- some messages of the bytes that were sent have their lines, and the rest has none yet
pub record AreListed (bytes rest before text : List ℕ) : Type 0 where
  pub messages : List (List ℕ)
  pub whole : bytes ≡ joined messages ++ rest
  pub each : AllByRecursion IsFrame messages
  pub lines : text ≡ before ++ flat_map out_line messages
