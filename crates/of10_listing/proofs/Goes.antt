-- A listing goes on, frame by frame.
use Rattle.std.proofs.Common.{◌≡◌, ℕ, ◌+◌, ◌-◌, ◌<◌, ◌^◌, Bool, List, [], ◌∷◌, ◌++◌, length, take, drop, refl, sym, ap, subst, ◌∙◌, append_assoc, arith}
use Rattle.std.proofs.lemmas.List.{take_all, append-nil}
use Rattle.std.proofs.Common.{length-drop, length-take-le}
use Rattle.of10_wire.proofs.Openings.{framed}
use Rattle.of10_msgs.specs.declared.message.Message.{Message}
use Rattle.of10_msgs.specs.Messages.{kind_of, xid_of}
use Rattle.of10_stream.specs.declared.tail.Tail.{Tail}
use Rattle.of10_stream.specs.declared.tail.Tail.TheVariants.{Cut, Broken}
use Rattle.of10_stream.specs.Streams.{Begins, IsTail, IsRead, frame_width, widths}
use Rattle.of10_stream.proofs.Once.{refused_within, stream-one}
use Rattle.of10_stream.proofs.ReadLaws.{read-next, read-width, widths-next}
use Rattle.of10_listing.specs.declared.lines.Line.{Line}
use Rattle.of10_listing.specs.Lines.{frame_line, message_line, tail_line, IsNear}
use Rattle.of10_listing.specs.Listings.{lines, is_whole, IsListing, IsFirstLine, IsKept}

pub starts : (bytes : List ℕ) → IsKept bytes 0 bytes []
unfolding IsRead
starts bytes = record { messages = []; read = refl; place = refl; listed = refl }

lines-next : (at : ℕ) (ms : List Message) (m : Message) → lines at (ms ++ m ∷ []) ≡ lines at ms ++ message_line (at + widths ms) m
lines-next at [] m = append-nil (message_line at m) ∙ ap (λ (n : ℕ). message_line n m) (omega arith)
lines-next at (k ∷ ms) m = ap (λ (l : List ℕ). message_line at k ++ l) (lines-next (at + frame_width k) ms m) ∙ (sym (append_assoc (message_line at k) (lines (at + frame_width k) ms) _) ∙ ap (λ (n : ℕ). (message_line at k ++ lines (at + frame_width k) ms) ++ message_line n m) (omega arith))

-- ---- what is printed of the first message

pub first_is : (bytes : List ℕ) (m : Message) (line : Line) → Begins m line.length bytes → line.kind ≡ kind_of m → line.xid ≡ xid_of m → IsFirstLine bytes line
first_is bytes m line h kind xid =
    let f = framed bytes line.length h.frame in
    record { message = m; begins = h; kind = kind; xid = xid; long = f.long; within = f.within }

line_wide : (bytes : List ℕ) (line : Line) (h : IsFirstLine bytes line) → line.length ≡ frame_width h.message
line_wide bytes line h = sym (h.begins.spelled.whole ∙ length-take-le line.length bytes h.within)

line_told : (bytes : List ℕ) (line : Line) (at : ℕ) (h : IsFirstLine bytes line) → frame_line at line.kind line.length line.xid ≡ message_line at h.message
line_told bytes line at h = rw (h.kind, h.xid, line_wide bytes line h) refl

-- ---- what is left behind it

pub length_left : (n : ℕ) (bytes : List ℕ) → length (take (length bytes - n) (drop n bytes)) ≡ length bytes - n
length_left n bytes = length-take-le (length bytes - n) (drop n bytes) (omega (arith, length-drop n bytes))

left : (n : ℕ) (bytes : List ℕ) → drop n bytes ≡ take (length bytes - n) (drop n bytes)
left n bytes = sym (take_all (length bytes - n) (drop n bytes) (omega (arith, length-drop n bytes)))

pub kept : (bytes rest text new : List ℕ) (at : ℕ) (line : Line) → IsFirstLine rest line → new ≡ text ++ frame_line at line.kind line.length line.xid → IsKept bytes at rest text → IsKept bytes (at + line.length) (take (length rest - line.length) (drop line.length rest)) new
kept bytes rest text new at line h is inv = record {
  messages = inv.messages ++ h.message ∷ [];
  read = subst (λ (l : List ℕ). IsRead bytes (inv.messages ++ h.message ∷ []) l) (left line.length rest) (read-next inv.messages h.message line.length bytes rest inv.read h.begins);
  place = omega (arith, inv.place, widths-next inv.messages h.message, line_wide rest line h);
  listed = is ∙ (rw (line_told rest line at h, inv.place, inv.listed) (ap (λ (n : ℕ). lines 0 inv.messages ++ message_line n h.message) (omega arith) ∙ sym (lines-next 0 inv.messages h.message)));
}

-- the place and the rest are all bytes
pub place_is : (bytes rest text : List ℕ) (at : ℕ) → IsKept bytes at rest text → at + length rest ≡ length bytes
place_is bytes rest text at inv = omega (arith, inv.place, read-width inv.messages bytes rest inv.read)

pub near : (bytes rest text : List ℕ) (at : ℕ) (t : Tail) → length bytes < 2 ^ 64 → IsTail rest t → IsKept bytes at rest text → IsNear at t
near bytes rest text at (Cut len) short h inv = tt
near bytes rest text at (Broken e) short h inv = omega (arith, refused_within rest e h, place_is bytes rest text at inv, short)

pub ended : (bytes rest text new : List ℕ) (at : ℕ) (t : Tail) (whole : Bool) → IsKept bytes at rest text → IsTail rest t → new ≡ text ++ tail_line at t → whole ≡ is_whole t → IsListing bytes new whole
ended bytes rest text new at t whole inv h is w = record {
  messages = inv.messages;
  tail = t;
  stream = (rest, inv.read, h);
  listed = is ∙ rw (inv.listed, inv.place) refl;
  ends = w;
}

-- ---- one listing

text_by : (ms ns : List Message) (t u : Tail) → ms ≡ ns → t ≡ u → (lines 0 ms ++ tail_line (widths ms) t ≡ lines 0 ns ++ tail_line (widths ns) u) × (is_whole t ≡ is_whole u)
text_by ms ns t u e d = (λ i. lines 0 (e i) ++ tail_line (widths (e i)) (d i), ap is_whole d)

pub one_text : (bytes t u : List ℕ) (v w : Bool) → IsListing bytes t v → IsListing bytes u w → (t ≡ u) × (v ≡ w)
one_text bytes t u v w h k =
    let same = stream-one bytes h.messages k.messages h.tail k.tail h.stream k.stream in
    let both = text_by h.messages k.messages h.tail k.tail same.0 same.1 in
    (h.listed ∙ (both.0 ∙ sym k.listed), h.ends ∙ (both.1 ∙ sym k.ends))
