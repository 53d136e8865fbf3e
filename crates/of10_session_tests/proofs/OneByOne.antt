-- A session that is given its bytes one by one.
use Rattle.std.proofs.Common.{◌≡◌, ℕ, ◌+◌, List, [], ◌∷◌, ◌++◌, length, drop, ap, refl, sym, subst, ◌∙◌, inl, inr, arith, length-append}
use Rattle.std.proofs.lemmas.List.{drop_at}
use Rattle.of10_stream.specs.Framings.{Framing}
use Rattle.of10_session.specs.Progresses.{Progress}
use Rattle.of10_speech.specs.declared.hearing.Hearing.{Hearing}
use Rattle.of10_speech.specs.declared.stops.SpeechStop.TheVariants.{Goes, Ends}
use Rattle.of10_speech.specs.declared.stops.SpokenEnd.TheVariants.{Wire}
use Rattle.of10_speech.specs.Speeches.{Told, Further}
use Rattle.of10_speech.specs.Hearings.{Following, Hears}
use Rattle.of10_speech.proofs.Following.{following_next}
use Rattle.of10_speech.proofs.Beginnings.{following_more}

used_one : (o t : Told) (f : Framing) (s : Progress) (b : ℕ) (g : Framing) (s' : Progress) (r : Hearing) (now after : List ℕ) → Hears o t f s (b ∷ []) g s' r now after → r.stop ≡ Goes → r.used ≡ 1
used_one o t f s b g s' r now after (inl h) on = h.used
used_one o t f s b g s' r now after (inr (inl h)) on = omega (arith, h.used, h.some)
used_one o t f s b g s' r now after (inr (inr h)) on = absurd (ends_go (sym h.stop ∙ on))
  where
    ends_go : Ends (Wire (f.start + h.e.at) h.e.why) ≡ Goes → ⊥
    ends_go e = cc

pub one_byte : (t u : Told) (number : ℕ) (taken : List ℕ) (b : ℕ) (f : Framing) (s : Progress) (g : Framing) (s' : Progress) (r : Hearing) (before now after : List ℕ) → Further t u → Following t number taken (length taken) f s before now
    → Hears t u f s (b ∷ []) g s' r now after → r.stop ≡ Goes → Following u number (taken ++ b ∷ []) (length (taken ++ b ∷ [])) g s' before after
one_byte t u number taken b f s g s' r before now after further w h on =
    let whole : List ℕ = taken ++ b ∷ [] in
    let there : Hears t u f s (drop (length taken) whole) g s' r now after = subst (λ (l : List ℕ). Hears t u f s l g s' r now after) (sym (drop_at taken (b ∷ []) (length taken) refl)) h in
    let all : length taken + r.used ≡ length whole = omega (arith, length-append taken (b ∷ []), used_one t u f s b g s' r now after h on) in
    subst (λ (n : ℕ). Following u number whole n g s' before after) all (following_next t u number whole (length taken) f s g s' r before now after further (following_more t number taken (b ∷ []) f s before now w) there on)

-- one byte more has come
pub one_longer : (x : ℕ) (old new : List ℕ) → new ≡ old ++ x ∷ [] → length new ≡ length old + 1
one_longer x old new is = ap (λ (l : List ℕ). length l) is ∙ length-append old (x ∷ [])
