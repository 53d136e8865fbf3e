-- A journal that answers the asks of a session.
use Rattle.std.specs.Prelude.{◌≡◌, ℕ, List, [], ◌∷◌, ◌++◌, Option, Some, None, Result, Ok, Err}
use Rattle.csdn_core.specs.declared.program.Parts.{Parts}
use Rattle.csdn_core.specs.Network.{Network}
use Rattle.csdn_history.specs.declared.entry.Entry.{Entry}
use Rattle.csdn_history.specs.declared.reply.Reply.{Reply}
use Rattle.csdn_run.specs.Sessions.{replies}
use Rattle.journal_text.specs.declared.note.Note.{Note}
use Rattle.journal_text.specs.declared.note.Note.TheVariants.{Kept, Flow}
use Rattle.of10_session.specs.declared.turn.Ask.{Ask}
use Rattle.of10_session.specs.Replies.{IsServable}
use Rattle.of10_speech.specs.declared.answers.Unanswered.{Unanswered}
use Rattle.of10_speech.specs.declared.answers.Unanswered.TheVariants.{NoEntry, Memory}
use Rattle.replay_listing.specs.declared.journal.Journal.{Journal}
use Rattle.session_asks.specs.Told.{asks_of}

-- the entries that notes are; a packet that a rule sent is none
abbrev pub noted : List Note → List Entry
noted [] = []
noted (Kept entry ∷ notes) = entry ∷ noted notes
noted (Flow s a b i o ∷ notes) = noted notes

abbrev pub listed : {X : Type 0} → Option X → List X
listed None = []
listed (Some x) = x ∷ []

-- what a journal's answers come from
pub record Source : Type 0 where
  pub program : Parts
  pub network : Network
  pub session : ℕ
  -- all entries, those that were taken and those that are left
  pub entries : List Entry

abbrev pub source_of : Journal → Source
source_of j = record { program = j.runtime.program; network = j.runtime.network; session = j.session; entries = j.runtime.history ++ noted j.rest.now }

-- the replies that its session was given so far
abbrev pub given_by : Journal → List Reply
given_by j = replies j.runtime.program j.runtime.network j.session j.runtime.history

-- the declared asks of its session so far
abbrev pub asked_of : Journal → List Ask
asked_of j = asks_of j.session j.runtime.history ++ listed j.missing

-- some notes that are no entries of its session were taken
pub record Passes (old new : Journal) : Type 0 where
  pub source : source_of new ≡ source_of old
  pub given : given_by new ≡ given_by old
  pub asked : asked_of new ≡ asked_of old
  pub missing : new.missing ≡ old.missing

-- what came of an ask that is declared: the reply to the session's next entry, or that there is none
abbrev pub IsTaken : (old new : Journal) → Ask → Result Reply Unanswered → Type 0
IsTaken old new ask (Ok reply) = IsServable reply × (source_of new ≡ source_of old) × (given_by new ≡ given_by old ++ reply ∷ []) × (asked_of new ≡ asked_of old ++ ask ∷ [])
IsTaken old new ask (Err NoEntry) = (source_of new ≡ source_of old) × (given_by new ≡ given_by old) × (asked_of new ≡ asked_of old ++ ask ∷ [])
IsTaken old new ask (Err Memory) = (source_of new ≡ source_of old) × (given_by new ≡ given_by old) × (asked_of new ≡ asked_of old)
IsTaken old new ask (Err why) = ⊥
