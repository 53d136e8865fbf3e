-- The loop over the pieces.
use Rattle.std.proofs.Common.{◌≡◌, ℕ, ◌+◌, ◌<◌, ◌≤◌, List, [], ◌∷◌, ◌++◌, length, take, drop, ◌-◌, refl, sym, subst, ap, ◌∙◌, append_assoc, arith, length-drop}
use Rattle.std.proofs.lemmas.List.{drop-drop, take_all}
use Rattle.csdn_tokens.specs.declared.Kind.{Kind}
use Rattle.csdn_tokens.specs.declared.Kind.TheVariants as k
use Rattle.csdn_tokens.specs.declared.Token.{Token}
use Rattle.csdn_tokens.specs.declared.Piece.TheVariants as p
use Rattle.csdn_tokens.specs.Lex.{piece, token_at, Lexes}
use Rattle.csdn_tokens.specs.Lex.Lexes.{end, fault, blank, one}

-- what the rest falls into, behind what is found, is what the whole falls into
pub record GoesOn (text : List ℕ) (at : ℕ) (found : List Token) : Type 0 where
  pub lexes : (ts : List Token) → Lexes at (drop at text) ts → Lexes 0 text (found ++ ts)
  pub within : at ≤ length text

to_blank : {at n : ℕ} {ts : List Token} (text : List ℕ) → 0 < length text → piece text ≡ p.Blank n → Lexes (at + n) (drop n text) ts → Lexes at text ts
to_blank [] some is more = absurd (omega arith)
to_blank (b ∷ text) some is more = blank is more

to_one : {at n v : ℕ} {kind : Kind} {ts : List Token} (text : List ℕ) → 0 < length text → piece text ≡ p.Token kind v n → Lexes (at + n) (drop n text) ts
    → Lexes at text (token_at kind at v (take n text) ∷ ts)
to_one [] some is more = absurd (omega arith)
to_one (b ∷ text) some is more = one is more

to_fault : {at : ℕ} {kind : Kind} (text : List ℕ) → 0 < length text → piece text ≡ p.Bad kind → Lexes at text (token_at kind at 0 [] ∷ [])
to_fault [] some is = absurd (omega arith)
to_fault (b ∷ text) some is = fault is

to_end : {at : ℕ} (text : List ℕ) → length text ≡ 0 → Lexes at text (token_at k.Stop at 0 [] ∷ [])
to_end [] none = end
to_end (b ∷ text) none = absurd (omega arith)

left : (text : List ℕ) (at : ℕ) → at < length text → 0 < length (drop at text)
left text at some = omega (arith, length-drop at text)

-- what `&text[at..]` is
whole : (text : List ℕ) (at : ℕ) → take (length text - at) (drop at text) ≡ drop at text
whole text at = take_all (length text - at) (drop at text) (omega (arith, length-drop at text))

pub go_blank : {text : List ℕ} {at n : ℕ} {found : List Token} → GoesOn text at found → at < length text
    → p.Blank n ≡ piece (take (length text - at) (drop at text)) → n ≤ length (take (length text - at) (drop at text)) → GoesOn text (at + n) found
go_blank {text} {at} {n} goes some is fits = record {
  lexes = λ ts more. goes.lexes ts (to_blank (drop at text) (left text at some) (ap piece (sym (whole text at)) ∙ sym is) (subst (λ xs. Lexes (at + n) xs ts) (sym (drop-drop n at text)) more));
  within = let h = goes.within in let fits' : n ≤ length (drop at text) = subst (λ xs. n ≤ length xs) (whole text at) fits in omega (arith, length-drop at text);
}

pub go_one : {text : List ℕ} {at n v : ℕ} {kind : Kind} {t : Token} {found : List Token} → GoesOn text at found → at < length text
    → p.Token kind v n ≡ piece (take (length text - at) (drop at text)) → n ≤ length (take (length text - at) (drop at text))
    → t ≡ token_at kind at v (take n (take (length text - at) (drop at text))) → GoesOn text (at + n) (found ++ t ∷ [])
go_one {text} {at} {n} {v} {kind} {t} {found} goes some is fits token_is =
    let same : token_at kind at v (take n (drop at text)) ≡ t = ap (λ xs. token_at kind at v (take n xs)) (sym (whole text at)) ∙ sym token_is in
    subst (λ x. GoesOn text (at + n) (found ++ x ∷ [])) same (record {
      lexes = λ ts more. subst (λ xs. Lexes 0 text xs) (sym (append_assoc found (token_at kind at v (take n (drop at text)) ∷ []) ts))
          (goes.lexes (token_at kind at v (take n (drop at text)) ∷ ts) (to_one (drop at text) (left text at some) (ap piece (sym (whole text at)) ∙ sym is) (subst (λ xs. Lexes (at + n) xs ts) (sym (drop-drop n at text)) more)));
      within = let h = goes.within in let fits' : n ≤ length (drop at text) = subst (λ xs. n ≤ length xs) (whole text at) fits in omega (arith, length-drop at text);
    })

pub go_fault : {text : List ℕ} {at : ℕ} {kind : Kind} {t : Token} {found : List Token} → GoesOn text at found → at < length text
    → p.Bad kind ≡ piece (take (length text - at) (drop at text)) → t ≡ token_at kind at 0 [] → Lexes 0 text (found ++ t ∷ [])
go_fault {text} {at} {found = found} goes some is token_is = subst (λ x. Lexes 0 text (found ++ x ∷ [])) (sym token_is)
    (goes.lexes _ (to_fault (drop at text) (left text at some) (ap piece (sym (whole text at)) ∙ sym is)))

pub go_end : {text : List ℕ} {at : ℕ} {t : Token} {found : List Token} → GoesOn text at found → length text ≤ at
    → t ≡ token_at k.Stop at 0 [] → Lexes 0 text (found ++ t ∷ [])
go_end {text} {at} {found = found} goes none token_is = subst (λ x. Lexes 0 text (found ++ x ∷ [])) (sym token_is)
    (goes.lexes _ (to_end (drop at text) (omega (arith, length-drop at text))))

-- a text falls into tokens in one way
pub lexes_one : {at : ℕ} {text : List ℕ} {ts ts' : List Token} → Lexes at text ts → Lexes at text ts' → ts ≡ ts'
lexes_one end end = refl
lexes_one (fault is) (fault is') = let same : p.Bad _ ≡ p.Bad _ = sym is ∙ is' in cc
lexes_one (fault is) (blank is' more) = let same : p.Bad _ ≡ p.Blank _ = sym is ∙ is' in cc
lexes_one (fault is) (one is' more) = let same : p.Bad _ ≡ p.Token _ _ _ = sym is ∙ is' in cc
lexes_one (blank is more) (fault is') = let same : p.Blank _ ≡ p.Bad _ = sym is ∙ is' in cc
lexes_one (blank {at} {b} {n} {text} is more) (blank {n = n'} {ts = ts'} is' more') =
    let same : n' ≡ n = (let e : p.Blank n' ≡ p.Blank n = sym is' ∙ is in cc) in
    lexes_one more (subst (λ m. Lexes (at + m) (drop m (b ∷ text)) ts') same more')
lexes_one (blank is more) (one is' more') = let same : p.Blank _ ≡ p.Token _ _ _ = sym is ∙ is' in cc
lexes_one (one is more) (fault is') = let same : p.Token _ _ _ ≡ p.Bad _ = sym is ∙ is' in cc
lexes_one (one is more) (blank is' more') = let same : p.Token _ _ _ ≡ p.Blank _ = sym is ∙ is' in cc
lexes_one (one {at} {b} {n} {v} {text} {kind} is more) (one {n = n'} {v = v'} {kind = kind'} {ts = ts'} is' more') =
    let same : p.Token kind' v' n' ≡ p.Token kind v n = sym is' ∙ is in
    let len : n' ≡ n = cc in
    let kinds : kind' ≡ kind = cc in
    let numbers : v' ≡ v = cc in
    let rest = lexes_one more (subst (λ m. Lexes (at + m) (drop m (b ∷ text)) ts') len more') in
    rw (kinds, numbers, len, rest) refl
