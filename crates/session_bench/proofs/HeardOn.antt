-- A session that goes on after a step.
use Rattle.std.proofs.Common.{◌≡◌, ℕ, ◌+◌, ◌<◌, ◌≤◌, List, [], ◌∷◌, ◌++◌, length, take, drop, false, refl, sym, ap, subst, ◌∙◌, inl, inr, arith, length-append}
use Rattle.std.proofs.lemmas.List.{length-take, length-drop}
use Rattle.of10_wire.specs.declared.rules.Opening.TheVariants.{Wants}
use Rattle.of10_wire.specs.Headers.{opening_of}
use Rattle.of10_stream.specs.Framings.{Framing, IsOpen, IsWanting}
use Rattle.of10_session.specs.Progresses.{Progress}
use Rattle.of10_speech.specs.declared.hearing.Hearing.{Hearing}
use Rattle.of10_speech.specs.declared.stops.SpeechStop.TheVariants.{Goes, Ends}
use Rattle.of10_speech.specs.declared.stops.SpokenEnd.TheVariants.{Wire}
use Rattle.of10_speech.specs.Speeches.{Told}
use Rattle.of10_speech.specs.Hearings.{Hears}

-- the framer is open again, and stands further by what was used, which is something where there was something
pub record HeardOn (f g : Framing) (room used : ℕ) : Type 0 where
  pub is_open : IsOpen g
  pub place : g.start + length g.held ≡ (f.start + length f.held) + used
  pub within : used ≤ room
  pub some : 0 < room → 0 < used

nothing_wants : opening_of [] ≡ Wants 8
unfolding opening_of
nothing_wants = refl

pub heard_on : (o t : Told) (f : Framing) (s : Progress) (piece : List ℕ) (g : Framing) (s' : Progress) (r : Hearing) (now after : List ℕ) → Hears o t f s piece g s' r now after → r.stop ≡ Goes → HeardOn f g (length piece) r.used
heard_on o t f s piece g s' r now after (inl h) on = record {
  is_open = h.framer;
  place = omega (arith, ap (λ (x : Framing). x.start) h.held, ap (λ (x : Framing). length x.held) h.held, length-append f.held piece, h.used);
  within = omega (arith, h.used);
  some = λ there. omega (arith, h.used, there);
}
heard_on o t f s piece g s' r now after (inr (inl h)) on = record {
  is_open = record { wanting = subst (λ (x : Framing). IsWanting x.held) (sym h.held) (8, nothing_wants); on = ap (λ (x : Framing). x.ended) h.held };
  place = omega (arith, ap (λ (x : Framing). x.start) h.held, ap (λ (x : Framing). length x.held) h.held, length-append f.held (take r.used piece), length-take r.used piece, h.used);
  within = h.used;
  some = λ there. h.some;
}
heard_on o t f s piece g s' r now after (inr (inr h)) on = absurd (ends_go (sym h.stop ∙ on))
  where
    ends_go : Ends (Wire (f.start + h.e.at) h.e.why) ≡ Goes → ⊥
    ends_go e = cc
