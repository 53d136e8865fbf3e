-- What the words of a journal's lines say.
use Rattle.std.specs.Prelude.{ℕ, Bool, true, false, ◌&&◌, if◌then◌else◌, List, [], ◌∷◌, Option, Some, None, is_some, codes}
use Rattle.std.specs.Str.{bytes_eq}
use Rattle.text_lines.specs.Text.{next, ended}
use Rattle.text_lines.specs.Numbers.{◌>>=◌, number_at}
use Rattle.csdn_history.specs.declared.entry.Entry.TheVariants.{Join, Packet, Expire}
use Rattle.journal_text.specs.declared.note.Note.{Note}
use Rattle.journal_text.specs.declared.note.Note.TheVariants.{Kept, Flow}
use Rattle.journal_text.specs.declared.note.Version.{Version}
use Rattle.journal_text.specs.declared.note.Version.TheVariants.{First, Second}

-- 2 ^ 32 - 1
abbrev pub most_seat : ℕ
most_seat = 4294967295

-- 2 ^ 64 - 1
abbrev pub most : ℕ
most = 18446744073709551615

-- the version that a word names
abbrev pub version_named : List ℕ → Option Version
version_named word =
    if bytes_eq word (codes "1") then Some First
    else (if bytes_eq word (codes "2") then Some Second else None)

-- the words `vericon-journal 1` or `vericon-journal 2`
unfoldable pub header_of : List (List ℕ) → Option Version
header_of ws = do
  name ← next ws
  word ← next name.1
  end ← ended word.1
  if bytes_eq name.0 (codes "vericon-journal") then version_named word.0 else None

-- whether flow rules may be said to have ended
abbrev pub has_ends : Version → Bool
has_ends First = false
has_ends Second = true

-- `join SEAT SESSION S`, from the words behind its first
unfoldable pub join_of : List (List ℕ) → Option Note
join_of ws = do
  seat ← number_at most_seat ws
  session ← number_at most_seat seat.1
  s ← number_at most session.1
  end ← ended s.1
  Some (Kept (Join seat.0 session.0 s.0))

-- `packet SEAT SESSION S A B I`
unfoldable pub packet_of : List (List ℕ) → Option Note
packet_of ws = do
  seat ← number_at most_seat ws
  session ← number_at most_seat seat.1
  s ← number_at most session.1
  a ← number_at most s.1
  b ← number_at most a.1
  i ← number_at most b.1
  end ← ended i.1
  Some (Kept (Packet seat.0 session.0 s.0 a.0 b.0 i.0))

-- `expire SEAT SESSION S A B I COOKIE`
unfoldable pub expire_of : List (List ℕ) → Option Note
expire_of ws = do
  seat ← number_at most_seat ws
  session ← number_at most_seat seat.1
  s ← number_at most session.1
  a ← number_at most s.1
  b ← number_at most a.1
  i ← number_at most b.1
  cookie ← number_at most i.1
  end ← ended cookie.1
  Some (Kept (Expire seat.0 session.0 s.0 a.0 b.0 i.0 cookie.0))

-- `flow S A B I O`
unfoldable pub flow_of : List (List ℕ) → Option Note
flow_of ws = do
  s ← number_at most ws
  a ← number_at most s.1
  b ← number_at most a.1
  i ← number_at most b.1
  o ← number_at most i.1
  end ← ended o.1
  Some (Flow s.0 a.0 b.0 i.0 o.0)

-- a note by the first word of its line, from the words behind it
abbrev pub by_key : Version → List ℕ → List (List ℕ) → Option Note
by_key version key ws =
    if bytes_eq key (codes "join") then join_of ws
    else (if bytes_eq key (codes "packet") then packet_of ws
    else (if bytes_eq key (codes "flow") then flow_of ws
    else (if bytes_eq key (codes "expire") && has_ends version then expire_of ws else None)))

-- the note of a line's words, in a text of this version
unfoldable pub note_of : Version → List (List ℕ) → Option Note
note_of version ws = do
  key ← next ws
  by_key version key.0 key.1

-- the word `end` alone
abbrev pub is_end : List (List ℕ) → Bool
is_end [] = false
is_end (w ∷ ws) = bytes_eq w (codes "end") && is_some (ended ws)
