-- What is printed of notes reads as these notes.
use Rattle.std.proofs.Common.{◌≡◌, ℕ, ◌+◌, ◌≤◌, ◌<◌, ◌^◌, Bool, true, false, not, leb, ◌&&◌, ◌||◌, if◌then◌else◌, List, [], ◌∷◌, ◌++◌, map, Some, Ok, refl, sym, ap, subst, ◌∙◌, arith, append_assoc, append-nil}
use Rattle.std.specs.Prelude.{decimal}
use Rattle.std.specs.List.{list_all, list_any}
use Rattle.std.proofs.lemmas.Bool.{and_parts, and_from, leb-true}
use Rattle.std.proofs.Math.Bool.{or-true}
use Rattle.text_lines.specs.Text.{lines_left}
use Rattle.text_lines.specs.Machine.{goes_to, run, after_step, reading}
use Rattle.text_lines.specs.Printed.{is_word, is_line, are_lines, numbered}
use Rattle.text_lines.proofs.PrintedLaws.{words_joined, lines_printed, word_decimal, number_again}
use Rattle.csdn_history.specs.declared.entry.Entry.{Entry}
use Rattle.csdn_history.specs.declared.entry.Entry.TheVariants.{Join, Packet, Expire}
use Rattle.journal_text.specs.declared.note.Note.{Note}
use Rattle.journal_text.specs.declared.note.Note.TheVariants.{Kept, Flow}
use Rattle.journal_text.specs.declared.note.Version.{Version}
use Rattle.journal_text.specs.declared.note.Version.TheVariants.{First, Second}
use Rattle.journal_text.specs.declared.read.JournalPlace.{JournalPlace}
use Rattle.journal_text.specs.declared.read.JournalPlace.TheVariants as place
use Rattle.journal_text.specs.Notes.{most, most_seat, header_of, has_ends, join_of, packet_of, expire_of, flow_of, note_of}
use Rattle.journal_text.specs.JournalText.{journal_format, step, entry_words, note_words, is_end_of_rules, version_of, header, end, journal_lines, journal_text, are_elements, is_entry, is_note, are_notes}

element : (n : ℕ) → leb n most ≡ true → n ≤ most
element n h = leb-true n most h

seat_is : (n : ℕ) → leb n most_seat ≡ true → n ≤ most_seat
seat_is n h = leb-true n most_seat h

word_of : (n : ℕ) → n ≤ most → is_word (decimal n) ≡ true
word_of n h = word_decimal n (omega (arith, h))

small_word : (n : ℕ) → n ≤ most_seat → is_word (decimal n) ≡ true
small_word n h = word_decimal n (omega (arith, h))

wide : most < 2 ^ 64
wide = omega arith

narrow : most_seat < 2 ^ 64
narrow = omega arith

-- elements have words
all_words : (es : List ℕ) → are_elements es ≡ true → list_all is_word (map decimal es) ≡ true
all_words [] h = refl
all_words (e ∷ es) h =
    let p = and_parts (leb e most) (are_elements es) h in
    and_from (is_word (decimal e)) (list_all is_word (map decimal es)) (word_of e (element e p.0)) (all_words es p.1)

seat_words : (seat session : ℕ) (es : List ℕ) → (leb seat most_seat && (leb session most_seat && are_elements es)) ≡ true → list_all is_word (map decimal (seat ∷ session ∷ es)) ≡ true
seat_words seat session es h =
    let p = and_parts (leb seat most_seat) (leb session most_seat && are_elements es) h in
    let q = and_parts (leb session most_seat) (are_elements es) p.1 in
    and_from (is_word (decimal seat)) (list_all is_word (map decimal (session ∷ es))) (small_word seat (seat_is seat p.0))
    (and_from (is_word (decimal session)) (list_all is_word (map decimal es)) (small_word session (seat_is session q.0)) (all_words es q.1))

entry_line : (entry : Entry) → is_entry entry ≡ true → is_line (entry_words entry) ≡ true
entry_line (Join seat session s) h = seat_words seat session (s ∷ []) h
entry_line (Packet seat session s a b i) h = seat_words seat session (s ∷ a ∷ b ∷ i ∷ []) h
entry_line (Expire seat session s a b i cookie) h = seat_words seat session (s ∷ a ∷ b ∷ i ∷ cookie ∷ []) h

note_line : (note : Note) → is_note note ≡ true → is_line (note_words note) ≡ true
note_line (Kept entry) h = entry_line entry h
note_line (Flow s a b i o) h = all_words (s ∷ a ∷ b ∷ i ∷ o ∷ []) h

-- ---- each line is read again

pub record Five (s a b i o : ℕ) : Type 0 where
  pub s_is : s ≤ most
  pub a_is : a ≤ most
  pub b_is : b ≤ most
  pub i_is : i ≤ most
  pub o_is : o ≤ most

pub record Four (s a b i : ℕ) : Type 0 where
  pub s_is : s ≤ most
  pub a_is : a ≤ most
  pub b_is : b ≤ most
  pub i_is : i ≤ most

four_of : (s a b i : ℕ) → are_elements (s ∷ a ∷ b ∷ i ∷ []) ≡ true → Four s a b i
four_of s a b i h =
    let p = and_parts (leb s most) (are_elements (a ∷ b ∷ i ∷ [])) h in
    let q = and_parts (leb a most) (are_elements (b ∷ i ∷ [])) p.1 in
    let r = and_parts (leb b most) (are_elements (i ∷ [])) q.1 in
    let t = and_parts (leb i most) (are_elements []) r.1 in
    record { s_is = element s p.0; a_is = element a q.0; b_is = element b r.0; i_is = element i t.0 }

five_of : (s a b i o : ℕ) → are_elements (s ∷ a ∷ b ∷ i ∷ o ∷ []) ≡ true → Five s a b i o
five_of s a b i o h =
    let p = and_parts (leb s most) (are_elements (a ∷ b ∷ i ∷ o ∷ [])) h in
    let f = four_of a b i o p.1 in
    record { s_is = element s p.0; a_is = f.s_is; b_is = f.a_is; i_is = f.b_is; o_is = f.i_is }

flow_again : (s a b i o : ℕ) → Five s a b i o → flow_of (map decimal (s ∷ a ∷ b ∷ i ∷ o ∷ [])) ≡ Some (Flow s a b i o)
unfolding flow_of
flow_again s a b i o h =
    rw (
      number_again most s (map decimal (a ∷ b ∷ i ∷ o ∷ [])) wide h.s_is,
      number_again most a (map decimal (b ∷ i ∷ o ∷ [])) wide h.a_is,
      number_again most b (map decimal (i ∷ o ∷ [])) wide h.b_is,
      number_again most i (map decimal (o ∷ [])) wide h.i_is,
      number_again most o [] wide h.o_is,
    ) refl

packet_again : (seat session s a b i : ℕ) → seat ≤ most_seat → session ≤ most_seat → Four s a b i → packet_of (map decimal (seat ∷ session ∷ s ∷ a ∷ b ∷ i ∷ [])) ≡ Some (Kept (Packet seat session s a b i))
unfolding packet_of
packet_again seat session s a b i first second h =
    rw (
      number_again most_seat seat (map decimal (session ∷ s ∷ a ∷ b ∷ i ∷ [])) narrow first,
      number_again most_seat session (map decimal (s ∷ a ∷ b ∷ i ∷ [])) narrow second,
      number_again most s (map decimal (a ∷ b ∷ i ∷ [])) wide h.s_is,
      number_again most a (map decimal (b ∷ i ∷ [])) wide h.a_is,
      number_again most b (map decimal (i ∷ [])) wide h.b_is,
      number_again most i [] wide h.i_is,
    ) refl

expire_again : (seat session s a b i cookie : ℕ) → seat ≤ most_seat → session ≤ most_seat → Five s a b i cookie
    → expire_of (map decimal (seat ∷ session ∷ s ∷ a ∷ b ∷ i ∷ cookie ∷ [])) ≡ Some (Kept (Expire seat session s a b i cookie))
unfolding expire_of
expire_again seat session s a b i cookie first second h =
    rw (
      number_again most_seat seat (map decimal (session ∷ s ∷ a ∷ b ∷ i ∷ cookie ∷ [])) narrow first,
      number_again most_seat session (map decimal (s ∷ a ∷ b ∷ i ∷ cookie ∷ [])) narrow second,
      number_again most s (map decimal (a ∷ b ∷ i ∷ cookie ∷ [])) wide h.s_is,
      number_again most a (map decimal (b ∷ i ∷ cookie ∷ [])) wide h.a_is,
      number_again most b (map decimal (i ∷ cookie ∷ [])) wide h.b_is,
      number_again most i (map decimal (cookie ∷ [])) wide h.i_is,
      number_again most cookie [] wide h.o_is,
    ) refl

join_again : (seat session s : ℕ) → seat ≤ most_seat → session ≤ most_seat → s ≤ most → join_of (map decimal (seat ∷ session ∷ s ∷ [])) ≡ Some (Kept (Join seat session s))
unfolding join_of
join_again seat session s first second third =
    rw (number_again most_seat seat (map decimal (session ∷ s ∷ [])) narrow first, number_again most_seat session (map decimal (s ∷ [])) narrow second, number_again most s [] wide third) refl

-- an entry's seat and session, and its other numbers
pub record Seated (seat session : ℕ) (es : List ℕ) : Type 0 where
  pub seat_is : seat ≤ most_seat
  pub session_is : session ≤ most_seat
  pub elements : are_elements es ≡ true

seated : (seat session : ℕ) (es : List ℕ) → (leb seat most_seat && (leb session most_seat && are_elements es)) ≡ true → Seated seat session es
seated seat session es h =
    let p = and_parts (leb seat most_seat) (leb session most_seat && are_elements es) h in
    let q = and_parts (leb session most_seat) (are_elements es) p.1 in
    record { seat_is = seat_is seat p.0; session_is = seat_is session q.0; elements = q.1 }

-- flow rules are said to have ended in texts of the second version alone
abbrev fits : Version → Note → Bool
fits version note = has_ends version || not (is_end_of_rules note)

note_again : (version : Version) (note : Note) → fits version note ≡ true → is_note note ≡ true → note_of version (note_words note) ≡ Some note
unfolding note_of
note_again version (Kept (Join seat session s)) f h =
    let p = seated seat session (s ∷ []) h in
    join_again seat session s p.seat_is p.session_is (element s (and_parts (leb s most) true p.elements).0)
note_again version (Kept (Packet seat session s a b i)) f h =
    let p = seated seat session (s ∷ a ∷ b ∷ i ∷ []) h in
    packet_again seat session s a b i p.seat_is p.session_is (four_of s a b i p.elements)
note_again Second (Kept (Expire seat session s a b i cookie)) f h =
    let p = seated seat session (s ∷ a ∷ b ∷ i ∷ cookie ∷ []) h in
    expire_again seat session s a b i cookie p.seat_is p.session_is (five_of s a b i cookie p.elements)
note_again First (Kept (Expire seat session s a b i cookie)) f h = absurd cc
note_again version (Flow s a b i o) f h = flow_again s a b i o (five_of s a b i o h)

header_again : (version : Version) → header_of (header version) ≡ Some version
unfolding header_of
header_again First = refl
header_again Second = refl

header_line : (version : Version) → is_line (header version) ≡ true
header_line First = refl
header_line Second = refl

neither : (a b : Bool) → (a || b) ≡ false → (a ≡ false) × (b ≡ false)
neither false false e = (refl, refl)
neither false true e = absurd cc
neither true b e = absurd cc

one_fits : (version : Version) (note : Note) → is_end_of_rules note ≡ false → fits version note ≡ true
one_fits version note off = ap (λ b. has_ends version || not b) off ∙ or-true (has_ends version)

-- the version of the text fits each note
all_fit : (notes : List Note) (version : Version) → list_any is_end_of_rules notes ≡ false → list_all (fits version) notes ≡ true
all_fit [] version none = refl
all_fit (note ∷ notes) version none =
    let p = neither (is_end_of_rules note) (list_any is_end_of_rules notes) none in
    and_from (fits version note) (list_all (fits version) notes) (one_fits version note p.0) (all_fit notes version p.1)

all_fit_second : (notes : List Note) → list_all (fits Second) notes ≡ true
all_fit_second [] = refl
all_fit_second (note ∷ notes) = all_fit_second notes

fitting : (notes : List Note) → list_all (fits (version_of notes)) notes ≡ true
fitting notes = by (list_any is_end_of_rules notes) refl
  where
    by : (some : Bool) → list_any is_end_of_rules notes ≡ some → list_all (fits (if some then Second else First)) notes ≡ true
    by true e = all_fit_second notes
    by false e = all_fit notes First e

-- ---- and all of them

-- reading the lines from a state gives v, whatever their numbers
abbrev Ends : ℕ → List Note → List (List (List ℕ)) → JournalPlace → Type 0
Ends past v ls s = (at : ℕ) → run journal_format past (numbered at ls) s ≡ Ok v

-- one line of which the step is known
line_ends : (past : ℕ) (v : List Note) (ws : List (List ℕ)) (ls : List (List (List ℕ))) (s t : JournalPlace) → is_line ws ≡ true → step s ws ≡ Ok t → Ends past v ls t → Ends past v (ws ∷ ls) s
line_ends past v ws ls s t line e k at =
    ap (λ xs. after_step at (step s xs) (run journal_format past (numbered (at + 1) ls))) (words_joined ws line)
    ∙ ap (λ r. after_step at r (run journal_format past (numbered (at + 1) ls))) e ∙ k (at + 1)

note_step : (version : Version) (done : List Note) (note : Note) → step (place.Inside version done) (note_words note) ≡ goes_to (note_of version (note_words note)) (λ x. place.Inside version (done ++ x ∷ []))
note_step version done (Kept (Join seat session s)) = refl
note_step version done (Kept (Packet seat session s a b i)) = refl
note_step version done (Kept (Expire seat session s a b i cookie)) = refl
note_step version done (Flow s a b i o) = refl

module _ (version : Version) where
  notes_end : (past : ℕ) (done notes : List Note) → list_all (fits version) notes ≡ true → are_notes notes ≡ true → Ends past (done ++ notes) (map note_words notes ++ end ∷ []) (place.Inside version done)
  notes_end past done [] f h = line_ends past (done ++ []) end [] (place.Inside version done) (place.Ended done) refl refl (λ at. ap Ok (sym (append-nil done)))
  notes_end past done (note ∷ notes) f h =
      let p = and_parts (is_note note) (are_notes notes) h in
      let q = and_parts (fits version note) (list_all (fits version) notes) f in
      line_ends past (done ++ note ∷ notes) (note_words note) (map note_words notes ++ end ∷ []) (place.Inside version done) (place.Inside version (done ++ note ∷ [])) (note_line note p.0)
      (note_step version done note ∙ ap (λ o. goes_to o (λ x. place.Inside version (done ++ x ∷ []))) (note_again version note q.0 p.0))
      (subst (λ v. Ends past v (map note_words notes ++ end ∷ []) (place.Inside version (done ++ note ∷ []))) (append_assoc done (note ∷ []) notes) (notes_end past (done ++ note ∷ []) notes q.1 p.1))

note_lines : (notes : List Note) → are_notes notes ≡ true → are_lines (map note_words notes ++ end ∷ []) ≡ true
note_lines [] h = refl
note_lines (note ∷ notes) h =
    let p = and_parts (is_note note) (are_notes notes) h in
    and_from (is_line (note_words note)) (are_lines (map note_words notes ++ end ∷ [])) (note_line note p.0) (note_lines notes p.1)

all_lines : (notes : List Note) → are_notes notes ≡ true → are_lines (journal_lines notes) ≡ true
all_lines notes h = and_from (is_line (header (version_of notes))) (are_lines (map note_words notes ++ end ∷ [])) (header_line (version_of notes)) (note_lines notes h)

pub journal_again : (notes : List Note) → are_notes notes ≡ true → reading journal_format (journal_text notes) ≡ Ok notes
journal_again notes h =
    let past = (lines_left 1 (journal_text notes)).past in
    let version = version_of notes in
    let first : step place.Header (header version) ≡ Ok (place.Inside version []) = ap (λ o. goes_to o (λ v. place.Inside v [])) (header_again version) in
    ap (λ ls. run journal_format past ls journal_format.start) (lines_printed 1 (journal_lines notes) (all_lines notes h))
    ∙ line_ends past notes (header version) (map note_words notes ++ end ∷ []) journal_format.start (place.Inside version []) (header_line version) first (notes_end version past [] notes (fitting notes) h) 1
