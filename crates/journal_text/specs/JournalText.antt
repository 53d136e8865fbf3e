-- Texts of journals: the machine over their lines, how notes are spelled, and which notes have a text.
use Rattle.std.specs.Prelude.{ℕ, Bool, true, false, ◌&&◌, nat_le, if◌then◌else◌, List, [], ◌∷◌, ◌++◌, Result, Ok, Err, codes, decimal, map}
use Rattle.std.specs.List.{flat_map, list_all, list_any}
use Rattle.text_lines.specs.Text.{words}
use Rattle.text_lines.specs.Machine.{Format, goes_to}
use Rattle.text_lines.specs.Printed.{line_text}
use Rattle.csdn_history.specs.declared.entry.Entry.{Entry}
use Rattle.csdn_history.specs.declared.entry.Entry.TheVariants.{Join, Packet, Expire}
use Rattle.journal_text.specs.declared.note.Note.{Note}
use Rattle.journal_text.specs.declared.note.Note.TheVariants.{Kept, Flow}
use Rattle.journal_text.specs.declared.note.Version.{Version}
use Rattle.journal_text.specs.declared.note.Version.TheVariants.{First, Second}
use Rattle.journal_text.specs.declared.read.JournalPlace.{JournalPlace}
use Rattle.journal_text.specs.declared.read.JournalPlace.TheVariants as place
use Rattle.journal_text.specs.Notes.{most, most_seat, header_of, note_of, is_end}

-- ---- the machine

-- the header, then a line for each note, then `end`
abbrev pub step : JournalPlace → List (List ℕ) → Result JournalPlace (Unit {0})
step place.Header ws = goes_to (header_of ws) (λ version. place.Inside version [])
step (place.Inside version notes) ws =
    if is_end ws then Ok (place.Ended notes)
    else goes_to (note_of version ws) (λ note. place.Inside version (notes ++ note ∷ []))
step (place.Ended notes) ws = Err tt

abbrev pub finish : JournalPlace → Result (List Note) (Unit {0})
finish place.Header = Err tt
finish (place.Inside version notes) = Err tt
finish (place.Ended notes) = Ok notes

abbrev pub journal_format : Format JournalPlace (List Note) (Unit {0})
journal_format = record {
  start = place.Header;
  step = λ place line. step place (words line);
  finish = finish;
}

-- ---- spelling

abbrev pub entry_words : Entry → List (List ℕ)
entry_words (Join seat session s) = codes "join" ∷ map decimal (seat ∷ session ∷ s ∷ [])
entry_words (Packet seat session s a b i) = codes "packet" ∷ map decimal (seat ∷ session ∷ s ∷ a ∷ b ∷ i ∷ [])
entry_words (Expire seat session s a b i cookie) = codes "expire" ∷ map decimal (seat ∷ session ∷ s ∷ a ∷ b ∷ i ∷ cookie ∷ [])

abbrev pub note_words : Note → List (List ℕ)
note_words (Kept entry) = entry_words entry
note_words (Flow s a b i o) = codes "flow" ∷ map decimal (s ∷ a ∷ b ∷ i ∷ o ∷ [])

-- whether a note says that flow rules ended
abbrev pub is_end_of_rules : Note → Bool
is_end_of_rules (Kept (Expire seat session s a b i cookie)) = true
is_end_of_rules _ = false

-- the version of the text of notes: the second where one says that flow rules ended, and else the first
abbrev pub version_of : List Note → Version
version_of notes = if list_any is_end_of_rules notes then Second else First

abbrev pub version_word : Version → List ℕ
version_word First = codes "1"
version_word Second = codes "2"

abbrev pub header : Version → List (List ℕ)
header version = codes "vericon-journal" ∷ version_word version ∷ []

abbrev pub end : List (List ℕ)
end = codes "end" ∷ []

-- the words of each line
abbrev pub journal_lines : List Note → List (List (List ℕ))
journal_lines notes = header (version_of notes) ∷ (map note_words notes ++ end ∷ [])

abbrev pub journal_text : List Note → List ℕ
journal_text notes = flat_map line_text (journal_lines notes)

-- ---- which notes have a text

abbrev pub are_elements : List ℕ → Bool
are_elements es = list_all (λ e. nat_le e most) es

-- a seat and a session below 2 ^ 32, and elements and cookies below 2 ^ 64
abbrev pub is_entry : Entry → Bool
is_entry (Join seat session s) = nat_le seat most_seat && (nat_le session most_seat && are_elements (s ∷ []))
is_entry (Packet seat session s a b i) = nat_le seat most_seat && (nat_le session most_seat && are_elements (s ∷ a ∷ b ∷ i ∷ []))
is_entry (Expire seat session s a b i cookie) = nat_le seat most_seat && (nat_le session most_seat && are_elements (s ∷ a ∷ b ∷ i ∷ cookie ∷ []))

abbrev pub is_note : Note → Bool
is_note (Kept entry) = is_entry entry
is_note (Flow s a b i o) = are_elements (s ∷ a ∷ b ∷ i ∷ o ∷ [])

abbrev pub are_notes : List Note → Bool
are_notes notes = list_all is_note notes
