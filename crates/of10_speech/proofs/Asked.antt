-- What is so where a session asks.
use Rattle.std.proofs.Common.{◌≡◌, ◌⊎◌, inl, inr, ℕ, List, [], ◌∷◌, ◌++◌, refl, sym, ap, subst, ◌∙◌, true, false, Some, None, arith, length-append}
use Rattle.std.specs.Prelude.{length, slice_get}
use Rattle.std.proofs.lemmas.Option.{slice_get_past, slice_get-get_or}
use Rattle.std.proofs.lemmas.List.{append-nil}
use Rattle.std.proofs.Math.Seq.{get_or-append_seam}
use Rattle.csdn_history.specs.declared.reply.Reply.{Reply}
use Rattle.of10_msgs.specs.declared.message.Message.{Message}
use Rattle.of10_session.specs.declared.turn.Ask.{Ask}
use Rattle.of10_session.specs.declared.turn.Ask.TheVariants.{Packet, Expire}
use Rattle.of10_session.specs.declared.turn.Turn.TheVariants.{Ask as AskFor}
use Rattle.of10_session.specs.Progresses.{Progress, IsListening}
use Rattle.of10_session.specs.Sessions.{turn, spelled}
use Rattle.of10_session.specs.Replies.{passed}
use Rattle.of10_session.proofs.Turns.{turn_orderly}
use Rattle.of10_speech.specs.declared.stops.SpeechStop.{SpeechStop}
use Rattle.of10_speech.specs.declared.stops.SpeechStop.TheVariants.{Goes}
use Rattle.of10_speech.specs.Speeches.{Told, Said, saying, on_ask, on_entry, on_stranger, on_turn, said_to}
use Rattle.of10_speech.specs.declared.stops.Broken.{Broken as Break}
use Rattle.of10_speech.specs.declared.stops.Broken.TheVariants.{Full, Memory}
use Rattle.of10_speech.specs.Hearings.{Says, BreaksOff}

pub says_at : (y z : Said) (stop : SpeechStop) (s : Progress) (before after : List ℕ) → y ≡ z → Says z stop s before after → Says y stop s before after
says_at y z stop s before after e h = subst (λ (w : Said). Says w stop s before after) (sym e) h

pub on_ask_reply : (t : Told) (gs : List Reply) (reply : Reply) (s : Progress) (ask : Ask) → t.declares ask ≡ true → t.replies ≡ gs ++ reply ∷ [] → on_ask t (length gs) s ask ≡ on_entry (Some reply) s ask
unfolding on_ask
on_ask_reply t gs reply s ask declared given =
    let here : slice_get t.replies (length gs) ≡ Some reply = rw given (slice_get-get_or (gs ++ reply ∷ []) (length gs) reply (omega (arith, length-append gs (reply ∷ []))) ∙ ap (λ (r : Reply). Some r) (get_or-append_seam gs reply [] reply)) in
    rw (declared, here) refl

pub on_ask_none : (t : Told) (gs : List Reply) (s : Progress) (ask : Ask) → t.declares ask ≡ true → t.replies ≡ gs → on_ask t (length gs) s ask ≡ on_entry None s ask
unfolding on_ask
on_ask_none t gs s ask declared given =
    let here : slice_get t.replies (length gs) ≡ None = rw given (slice_get_past gs (length gs) (omega arith)) in
    rw (declared, here) refl

pub on_ask_stranger : (t : Told) (k : ℕ) (s : Progress) (ask : Ask) → t.declares ask ≡ false → on_ask t k s ask ≡ on_stranger ask s
unfolding on_ask
on_ask_stranger t k s ask stranger = rw stranger refl

-- an ask that isn't declared and is no join
pub let_go : (s : Progress) (ask : Ask) → ((x a b i : ℕ) × (ask ≡ Packet x a b i)) ⊎ ((x a b i cookie : ℕ) × (ask ≡ Expire x a b i cookie)) → on_stranger ask s ≡ saying (passed s) [] [] Goes
let_go s ask (inl (x, a, b, i, is)) = ap (λ (r : Ask). on_stranger r s) is
let_go s ask (inr (x, a, b, i, cookie, is)) = ap (λ (r : Ask). on_stranger r s) is

pub hear_says : (t : Told) (place k : ℕ) (s : Progress) (m : Message) (ask : Ask) (mid new : Progress) (stop : SpeechStop) (out mid_out new_out : List ℕ) → IsListening s → (turn s m).turn ≡ AskFor ask → mid ≡ (turn s m).session → mid_out ≡ out ++ spelled (turn s m).sent
    → Says (on_ask t k mid ask) stop new mid_out new_out → Says (said_to t place k s m) stop new out new_out
hear_says t place k s m ask mid new stop out mid_out new_out listens asks mid_is out_is h =
    let same : said_to t place k s m ≡ on_ask t k mid ask = ap (on_turn t place k (turn s m).session (turn s m).sent) asks ∙ ap (λ (x : Progress). on_ask t k x ask) (sym mid_is) in
    let nothing : mid_out ≡ out = out_is ∙ (ap (λ (ms : List Message). out ++ spelled ms) ((turn_orderly s m listens).asks ask asks).sent ∙ append-nil out) in
    says_at (said_to t place k s m) (on_ask t k mid ask) stop new out new_out same (subst (λ (l : List ℕ). Says (on_ask t k mid ask) stop new l new_out) nothing h)

pub hear_same : (t : Told) (place k : ℕ) (s : Progress) (m : Message) (ask : Ask) (mid : Progress) → (turn s m).turn ≡ AskFor ask → mid ≡ (turn s m).session → said_to t place k s m ≡ on_ask t k mid ask
hear_same t place k s m ask mid asks mid_is = ap (on_turn t place k (turn s m).session (turn s m).sent) asks ∙ ap (λ (x : Progress). on_ask t k x ask) (sym mid_is)

-- ---- calls that break off

memory_full : Memory ≡ Full → ⊥
memory_full e = cc

-- the history is full
pub broke_full : (t o : Told) (gs : List Reply) (s : Progress) (ask : Ask) → t.declares ask ≡ true → t.replies ≡ gs → t.asks ≡ o.asks → BreaksOff (on_ask t (length gs) s ask) o t s Full
broke_full t o gs s ask declared given same =
    let e = on_ask_none t gs s ask declared given in
    record { asked = inl same; full = λ is. record { waits = ap (λ (y : Said). y.stop) e; nothing = ap (λ (y : Said). y.sent) e; ignored = ap (λ (y : Said). y.session.ignored) e; asked = same } }

-- the ask was not entered for want of memory
pub broke_short : (t o : Told) (gs : List Reply) (s : Progress) (ask : Ask) → t.declares ask ≡ true → t.replies ≡ gs → (t.asks ≡ o.asks) ⊎ (t.asks ≡ o.asks ++ ask ∷ []) → BreaksOff (on_ask t (length gs) s ask) o t s Memory
broke_short t o gs s ask declared given (inl same) = record { asked = inl same; full = λ is. absurd (memory_full is) }
broke_short t o gs s ask declared given (inr more) =
    record { asked = inr (more ∙ ap (λ (y : Said). o.asks ++ y.asks) (sym (on_ask_none t gs s ask declared given))); full = λ is. absurd (memory_full is) }

-- the ask was entered, but not answered for want of memory
pub broke_entered : (t o : Told) (gs : List Reply) (reply : Reply) (s : Progress) (ask : Ask) → t.declares ask ≡ true → t.replies ≡ gs ++ reply ∷ [] → t.asks ≡ o.asks ++ ask ∷ [] → BreaksOff (on_ask t (length gs) s ask) o t s Memory
broke_entered t o gs reply s ask declared given more =
    record { asked = inr (more ∙ ap (λ (y : Said). o.asks ++ y.asks) (sym (on_ask_reply t gs reply s ask declared given))); full = λ is. absurd (memory_full is) }

pub hear_breaks : (t o : Told) (place k : ℕ) (s : Progress) (m : Message) (ask : Ask) (mid : Progress) (why : Break) → IsListening s → (turn s m).turn ≡ AskFor ask → mid ≡ (turn s m).session → BreaksOff (on_ask t k mid ask) o t mid why → BreaksOff (said_to t place k s m) o t s why
hear_breaks t o place k s m ask mid why listens asks mid_is h =
    let same = hear_same t place k s m ask mid asks mid_is in
    let it = (turn_orderly s m listens).asks ask asks in
    let h' : BreaksOff (said_to t place k s m) o t mid why = subst (λ (y : Said). BreaksOff y o t mid why) (sym same) h in
    record {
      asked = h'.asked;
      full = λ is. (let f = h'.full is in record { waits = f.waits; nothing = f.nothing; ignored = f.ignored ∙ (ap (λ (x : Progress). x.ignored) mid_is ∙ it.ignored); asked = f.asked });
    }
