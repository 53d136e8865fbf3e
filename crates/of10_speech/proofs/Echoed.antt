-- A request for an echo and its reply have the same bytes but one.
use Rattle.std.proofs.Common.{◌≡◌, ℕ, ◌+◌, ◌*◌, ◌/◌, ◌%◌, ◌<◌, ◌≤◌, List, [], ◌∷◌, ◌++◌, length, drop, set, get_or, true, refl, sym, ap, ◌∙◌, inl, arith, length-drop, add-zero}
use Rattle.std.proofs.lemmas.Bool.{le-leb}
use Rattle.std.proofs.lemmas.List.{append-nil}
use Rattle.std.proofs.Math.Seq.{take-length}
use Rattle.of10_wire.specs.MessageTypes as types
use Rattle.of10_wire.specs.Layout.{number, part, Stand, bytes_of}
use Rattle.of10_wire.proofs.Openings.{framed}
use Rattle.of10_msgs.specs.declared.message.Message.TheVariants.{EchoReply}
use Rattle.of10_msgs.specs.Lengths.{allows_length}
use Rattle.of10_msgs.specs.Messages.{Opens, echoed, message_slots, spells}
use Rattle.of10_msgs.proofs.Frames.{frame_shown, opens}
use Rattle.of10_stream.specs.Framings.{framing, IsFrame}
use Rattle.of10_session.specs.Progresses.{Progress}
use Rattle.of10_session.specs.Sessions.{spelled, turn}
use Rattle.of10_speech.specs.declared.stops.SpeechStop.TheVariants.{Goes}
use Rattle.of10_speech.specs.Echoes.{request_in}
use Rattle.of10_speech.specs.Speeches.{Told}
use Rattle.of10_speech.specs.Hearings.{HearsFrame}

-- a whole frame of that type is a request for an echo
pub asks : (frame : List ℕ) → IsFrame frame → number 1 1 frame ≡ types.echo_request → Opens types.echo_request frame
asks frame whole kind =
    let f = framed frame (length frame) whole in
    let allowed : allows_length (number 1 1 frame) (length frame) ≡ true = rw kind (le-leb 8 (length frame) f.long) in
    opens types.echo_request frame (frame_shown frame (length frame) whole refl allowed) kind refl

-- what it spells
pub request_spelled : (frame : List ℕ) → Opens types.echo_request frame → 8 ≤ length frame → spells (request_in frame) frame
unfolding Stand message_slots part
request_spelled frame o long = record {
  stand = (o.version, (o.kind, (omega (arith, o.len, length-drop 8 frame, long), (refl, (take-length (drop 8 frame), tt)))));
  whole = omega (arith, length-drop 8 frame, long);
}

-- ---- the reply

-- two bytes are those of their number, and so are four
two_again : (a b : ℕ) → a < 256 → b < 256 → bytes_of 2 (a * 256 + (b * 1 + 0)) ≡ a ∷ b ∷ []
unfolding bytes_of
two_again a b a_fits b_fits =
    let high : (a * 256 + (b * 1 + 0)) / 256 % 256 ≡ a = omega (arith, a_fits, b_fits) in
    let low : (a * 256 + (b * 1 + 0)) % 256 ≡ b = omega (arith, a_fits, b_fits) in
    λ i. high i ∷ low i ∷ []

four_again : (a b c d : ℕ) → a < 256 → b < 256 → c < 256 → d < 256 → bytes_of 4 (a * 16777216 + (b * 65536 + (c * 256 + (d * 1 + 0)))) ≡ a ∷ b ∷ c ∷ d ∷ []
unfolding bytes_of
four_again a b c d a_fits b_fits c_fits d_fits =
    let n : ℕ = a * 16777216 + (b * 65536 + (c * 256 + (d * 1 + 0))) in
    let first : n / 16777216 % 256 ≡ a = omega (arith, a_fits, b_fits, c_fits, d_fits) in
    let second : n / 65536 % 256 ≡ b = omega (arith, a_fits, b_fits, c_fits, d_fits) in
    let third : n / 256 % 256 ≡ c = omega (arith, a_fits, b_fits, c_fits, d_fits) in
    let last : n % 256 ≡ d = omega (arith, a_fits, b_fits, c_fits, d_fits) in
    λ i. first i ∷ second i ∷ third i ∷ last i ∷ []

abbrev AreBytes : List ℕ → Type 0
AreBytes xs = (k : ℕ) → get_or xs k 0 < 256

-- the reply has the frame's bytes, with type 3
pub reply_again : (frame : List ℕ) → Opens types.echo_request frame → 8 ≤ length frame → AreBytes frame → spelled (EchoReply (number 4 4 frame) (drop 8 frame) ∷ []) ≡ set frame 1 3
unfolding message_slots number bytes_of
reply_again (a ∷ b ∷ c ∷ d ∷ e ∷ f ∷ g ∷ h ∷ body) o long fit =
    let version : 1 ≡ a = omega (arith, o.version) in
    let told : 8 + (length body + 0) ≡ c * 256 + (d * 1 + 0) = omega (arith, o.len) in
    let width : bytes_of 2 (8 + (length body + 0)) ≡ c ∷ d ∷ [] = ap (bytes_of 2) told ∙ two_again c d (fit 2) (fit 3) in
    let numbered : bytes_of 4 (number 4 4 (a ∷ b ∷ c ∷ d ∷ e ∷ f ∷ g ∷ h ∷ body)) ≡ e ∷ f ∷ g ∷ h ∷ [] = four_again e f g h (fit 4) (fit 5) (fit 6) (fit 7) in
    (λ i. ((((bytes_of 1 1 ++ bytes_of 1 3) ++ width i) ++ numbered i) ++ body) ++ []) ∙ (λ i. version i ∷ 3 ∷ c ∷ d ∷ e ∷ f ∷ g ∷ h ∷ append-nil body i)
reply_again frame o long fit = absurd (omega (arith, long))

-- ---- what a session says

-- it was heard, where the reply is appended
pub echo_heard : (t : Told) (place : ℕ) (frame : List ℕ) (s : Progress) (before after : List ℕ) → spells (request_in frame) frame → after ≡ before ++ spelled (echoed (request_in frame) ∷ []) → HearsFrame t t (framing place frame) s (framing (place + length frame) []) s Goes before after
unfolding turn
echo_heard t place frame s before after spelled_as bytes = inl (record {
  message = request_in frame;
  spelled_as = spelled_as;
  says = record { stops = refl; goes_on = refl; bytes = bytes };
  held = refl;
  counts = λ e. sym (add-zero (length t.replies));
  asked = sym (append-nil t.asks);
})
