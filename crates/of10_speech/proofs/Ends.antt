-- How the tail of a stream ends what is said.
use Rattle.std.proofs.Common.{◌≡◌, ◌≢◌, ℕ, List, refl, sym, ap, ◌∙◌}
use Rattle.of10_wire.specs.declared.refusal.WireRefusal.{WireRefusal}
use Rattle.of10_stream.specs.declared.tail.Tail.{Tail}
use Rattle.of10_stream.specs.declared.tail.Tail.TheVariants.{Cut, Broken}
use Rattle.of10_stream.proofs.Once.{one}
use Rattle.of10_speech.specs.declared.stops.SpeechStop.{SpeechStop}
use Rattle.of10_speech.specs.declared.stops.SpeechStop.TheVariants.{Goes, Waits, Ends}
use Rattle.of10_speech.specs.Speeches.{Told, Further, Speech, opening, speech, refused_speech, ended_by, IsSpoken, HasOneAnswer}
use Rattle.of10_speech.proofs.HeardLater.{said-further}

-- a session that has stopped doesn't come to the tail
pub ended_stopped : (stop : SpeechStop) (tail : Tail) (x : Speech) → stop ≢ Goes → ended_by stop tail x ≡ x
ended_stopped Goes tail x off = absurd (off refl)
ended_stopped Waits tail x off = refl
ended_stopped (Ends e) tail x off = refl

pub ended_cut : (stop : SpeechStop) (n : ℕ) (x : Speech) → ended_by stop (Cut n) x ≡ x
ended_cut Goes n x = refl
ended_cut Waits n x = refl
ended_cut (Ends e) n x = refl

pub ended_broken : (stop : SpeechStop) (e : WireRefusal) (x : Speech) → stop ≡ Goes → ended_by stop (Broken e) x ≡ refused_speech x e
ended_broken Goes e x on = refl
ended_broken Waits e x on = absurd cc
ended_broken (Ends end) e x on = absurd cc

-- ---- exactly one answer

pub one_spoken : (t : Told) (number : ℕ) (bytes : List ℕ) → HasOneAnswer t number bytes
one_spoken t number bytes =
    let h = one bytes in
    let said : Speech = speech t number h.messages in
    record {
      answer = ended_by said.stop h.tail said;
      is = record { messages = h.messages; tail = h.tail; stream = h.is; said = refl };
      only = λ x s.
          let same = h.only s.messages s.tail s.stream in
          s.said ∙ (λ i. ended_by (speech t number (same.0 i)).stop (same.1 i) (speech t number (same.0 i)));
    }

-- ---- more entries

waits_goes : Waits ≢ Goes
waits_goes e = cc

pub spoken_further : (t u : Told) (number : ℕ) (bytes : List ℕ) (x : Speech) → Further t u → IsSpoken t number bytes x → x.stop ≢ Waits → IsSpoken u number bytes x
spoken_further t u number bytes x further s off =
    let said : Speech = speech t number s.messages in
    let goes_on : said.stop ≢ Waits = λ w. off (ap (λ (y : Speech). y.stop) (s.said ∙ ended_stopped said.stop s.tail said (λ g. waits_goes (sym w ∙ g))) ∙ w) in
    record {
      messages = s.messages;
      tail = s.tail;
      stream = s.stream;
      said = s.said ∙ ap (λ (y : Speech). ended_by y.stop s.tail y) (sym (said-further t u further (opening number) s.messages goes_on));
    }
