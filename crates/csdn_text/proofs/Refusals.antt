-- A text has one refusal.
use Rattle.std.proofs.Common.{◌≡◌, ℕ, ◌≤◌, ◌<◌, List, [], ◌∷◌, ◌++◌, true, cond, ◌&&◌, refl, sym, subst, ap, ◌∙◌, ◌⊎◌, inl, inr, append_assoc, append-nil, arith}
use Rattle.std.proofs.lemmas.Bool.{and_parts}
use Rattle.csdn_tokens.specs.declared.Kind.{Kind}
use Rattle.csdn_tokens.specs.declared.Kind.TheVariants as k
use Rattle.csdn_tokens.specs.declared.Token.{Token}
use Rattle.csdn_tokens.proofs.Runs.{lexes_one}
use Rattle.csdn_tree.specs.declared.syntax.RawProgram.{RawProgram}
use Rattle.csdn_text.specs.declared.TextRefusal.{TextRefusal}
use Rattle.csdn_text.specs.declared.TextRefusal.TheVariants.{TooDeep}
use Rattle.csdn_text.specs.Symbols.{depth_of, Symbol, Values, Rule, same}
use Rattle.csdn_text.specs.Derives.{Mark, tokens_of, Derives}
use Rattle.csdn_text.specs.Derives.Derives.{nothing, one, by_rule}
use Rattle.csdn_text.specs.Machine.{limit, next_is, next_in, choose, refused_at}
use Rattle.csdn_text.specs.Reading.{IsProgram, Within, Begins, Alike, IsMisfit, IsTooDeep, IsRefusedTokens, IsRefusedText}
use Rattle.csdn_text.specs.Reading.IsRefusedTokens.{misfits, nests}
use Rattle.csdn_text.specs.Reading.IsRefusedText.{long, within_limit}
use Rattle.csdn_text.proofs.Tables.{follow, starts, erasable, fine}
use Rattle.csdn_text.proofs.Sets.{within}
use Rattle.csdn_text.proofs.Theory.{tokens-append, regroup, first_of, next_follow, next_heads, fine_kept, choose-is}
use Rattle.csdn_text.proofs.Faults.{choose-alike}

-- tokens begin with these
data Starts : List Token → List Token → Type 0 where
  at_start : {ts : List Token} → Starts [] ts
  one_more : {t u : Token} {pre ts : List Token} → t ≡ u → Starts pre ts → Starts (t ∷ pre) (u ∷ ts)

-- two rows of marks have the same marks as far as these tokens go
data Agree : List Token → List Mark → List Mark → Type 0 where
  out : {ms ms' : List Mark} → Agree [] ms ms'
  ended : {pre : List Token} → Agree pre [] []
  also : {t : Token} {m m' : Mark} {pre : List Token} {ms ms' : List Mark} → t ≡ m.token → m ≡ m' → Agree pre ms ms' → Agree (t ∷ pre) (m ∷ ms) (m' ∷ ms')

Starts-alike : {t : Token} {pre ts ts' : List Token} → Starts (t ∷ pre) ts → Starts (t ∷ pre) ts' → Alike ts ts'
Starts-alike (one_more e h) (one_more e' h') = λ k. ap (λ (x : Token). same x.kind k) (sym e ∙ e')

Starts-drop : (a : List Token) {left x : List Token} → Starts (a ++ left) (a ++ x) → Starts left x
Starts-drop [] h = h
Starts-drop (t ∷ a) (one_more e h) = Starts-drop a h

Starts-front : (pre ts : List Token) → Starts pre (pre ++ ts)
Starts-front [] ts = at_start
Starts-front (t ∷ pre) ts = one_more refl (Starts-front pre ts)

-- either both end where the tokens still go on, or whatever follows they agree
Agree-or : {pre : List Token} {a a' : List Mark} → Agree pre a a'
    → ((left : List Token) × (a ≡ a') × (pre ≡ tokens_of a ++ left)) ⊎ ((b b' : List Mark) → Agree pre (a ++ b) (a' ++ b'))
Agree-or out = inr (λ b b'. out)
Agree-or (ended {pre}) = inl (pre, refl, refl)
Agree-or (also {t} {m} {m'} {pre} {ms} {ms'} named e h) = elim (Agree-or h) [
  | inl w ↦ inl (w.0, mark_ap e w.1, token_ap named w.2)
  | inr f ↦ inr (λ b b'. also named e (f b b'))
]
  where
    mark_ap : {xs ys : List Mark} → m ≡ m' → xs ≡ ys → m ∷ xs ≡ m' ∷ ys
    mark_ap e w = cc

    token_ap : {xs ys : List Token} → t ≡ m.token → xs ≡ ys → t ∷ xs ≡ m.token ∷ ys
    token_ap e w = cc

Agree-append : (a : List Mark) {left : List Token} {b b' : List Mark} → Agree left b b' → Agree (tokens_of a ++ left) (a ++ b) (a ++ b')
Agree-append [] h = h
Agree-append (m ∷ a) h = also refl refl (Agree-append a h)

-- what two derivations of one row of symbols have in common stands at the same depths
together : {d : ℕ} {ss : List Symbol} {ms ms' : List Mark} {vs vs' : Values ss} (after : List Kind) (rest rest' pre : List Token)
    → Derives d ss ms vs → Derives d ss ms' vs' → fine after ss ≡ true → next_in rest after ≡ true → next_in rest' after ≡ true
    → Starts pre (tokens_of ms ++ rest) → Starts pre (tokens_of ms' ++ rest') → Agree pre ms ms'
together after rest rest' pre nothing nothing good next next' h h' = ended
together after rest rest' [] (one is later) (one is' later') good next next' h h' = out
together after rest rest' (x ∷ pre) (one {d} {l} is later) (one is' later') good next next' (one_more e h) (one_more e' h') =
    also e (ap (λ t. record { token = t; depth = depth_of d l }) (sym e ∙ e')) (together after rest rest' pre later later' good next next' h h')
together after rest rest' [] (by_rule r is inner later) (by_rule r' is' inner' later') good next next' h h' = out
together {d} after rest rest' (x ∷ pre) (by_rule {l = l} {n = n} {ss = ss} {ms = a} {ms' = b} r is {us = us} inner later) (by_rule {ms = a'} {ms' = b'} r' is' {us = us'} inner' later') good next next' h h' =
    let here = and_parts (within (starts ss) (follow n) && cond (erasable ss) (within after (follow n)) true) (fine after ss) good in
    let tables = and_parts (within (starts ss) (follow n)) (cond (erasable ss) (within after (follow n)) true) here.0 in
    let mid : List Token = tokens_of b ++ rest in
    let mid' : List Token = tokens_of b' ++ rest' in
    let follows : next_in mid (follow n) ≡ true = next_follow b ss n after rest tables.0 tables.1 next (first_of later rest) in
    let follows' : next_in mid' (follow n) ≡ true = next_follow b' ss n after rest' tables.0 tables.1 next' (first_of later' rest') in
    let g : Starts (x ∷ pre) (tokens_of a ++ mid) = subst (Starts (x ∷ pre)) (regroup a b rest) h in
    let g' : Starts (x ∷ pre) (tokens_of a' ++ mid') = subst (Starts (x ∷ pre)) (regroup a' b' rest') h' in
    let which : choose n (tokens_of a ++ mid) ≡ r = choose-is n r (tokens_of a ++ mid) is (next_heads a r.parts (follow n) mid follows (first_of inner mid)) in
    let which' : choose n (tokens_of a' ++ mid') ≡ r' = choose-is n r' (tokens_of a' ++ mid') is' (next_heads a' r'.parts (follow n) mid' follows' (first_of inner' mid')) in
    let same_rule : r' ≡ r = sym which' ∙ sym (choose-alike n _ _ (Starts-alike g g')) ∙ which in
    let inner_agree : Agree (x ∷ pre) a a' =
    subst (λ (y : Rule n). (ws : Values y.parts) → Derives (depth_of d l) y.parts a' ws → Agree (x ∷ pre) a a') (sym same_rule)
    (λ ws other. together (follow n) mid mid' (x ∷ pre) inner other (fine_kept n r is) follows follows' g g') us' inner' in
    elim (Agree-or inner_agree) [
      | inl e ↦ joined e.0 e.1 e.2 (λ left h1 h2. together after rest rest' left later later' here.1 next next' h1 h2) g g'
      | inr f ↦ f b b'
    ]
  where
    joined : (left : List Token) → a ≡ a' → x ∷ pre ≡ tokens_of a ++ left
        → ((left : List Token) → Starts left (tokens_of b ++ rest) → Starts left (tokens_of b' ++ rest') → Agree left b b')
        → Starts (x ∷ pre) (tokens_of a ++ (tokens_of b ++ rest)) → Starts (x ∷ pre) (tokens_of a' ++ (tokens_of b' ++ rest')) → Agree (x ∷ pre) (a ++ b) (a' ++ b')
    joined left same is again g g' =
        let g2 : Starts (tokens_of a ++ left) (tokens_of a ++ (tokens_of b ++ rest)) = subst (λ ts. Starts ts (tokens_of a ++ (tokens_of b ++ rest))) is g in
        let g2' : Starts (tokens_of a ++ left) (tokens_of a ++ (tokens_of b' ++ rest')) =
        subst (λ ms. Starts (tokens_of a ++ left) (tokens_of ms ++ (tokens_of b' ++ rest'))) (sym same) (subst (λ ts. Starts ts (tokens_of a' ++ (tokens_of b' ++ rest'))) is g') in
        subst (λ ms. Agree (x ∷ pre) (a ++ b) (ms ++ b')) same
        (subst (λ ts. Agree ts (a ++ b) (a ++ b')) (sym is)
        (Agree-append a (again left (Starts-drop (tokens_of a) g2) (Starts-drop (tokens_of a) g2'))))

abbrev stop : Token
stop = record { kind = k.Stop; at = 0; number = 0; text = [] }

-- two programs have the same depths as far as they have the same tokens
programs_agree : {ms ms' : List Mark} {raw raw' : RawProgram} (pre : List Token) → IsProgram ms raw → IsProgram ms' raw'
    → Starts pre (tokens_of ms ++ stop ∷ []) → Starts pre (tokens_of ms' ++ stop ∷ []) → Agree pre ms ms'
programs_agree pre p p' h h' = together (k.Stop ∷ []) (stop ∷ []) (stop ∷ []) pre p.derives p'.derives refl refl refl h h'

-- where two rows of tokens part
data Parting : List Token → List Token → List Token → List Token → Type 0 where
  at_once : {a x : List Token} → Parting a x a x
  left_first : {a y : List Token} (t : Token) (c : List Token) → Parting a (t ∷ c ++ y) (a ++ t ∷ c) y
  right_first : {b x : List Token} (t : Token) (c : List Token) → Parting (b ++ t ∷ c) x b (t ∷ c ++ x)

parting : (a b x y : List Token) → a ++ x ≡ b ++ y → Parting a x b y
parting [] [] x y is = subst (λ ts. Parting [] x [] ts) is at_once
parting [] (t ∷ b) x y is = subst (λ ts. Parting [] ts (t ∷ b) y) (sym is) (left_first t b)
parting (t ∷ a) [] x y is = subst (λ ts. Parting (t ∷ a) x [] ts) is (right_first t a)
parting (t ∷ a) (u ∷ b) x y is =
    let first : t ≡ u = cc in
    let rest : a ++ x ≡ b ++ y = cc in
    subst (λ v. Parting (t ∷ a) x (v ∷ b) y) first (behind (parting a b x y rest))
  where
    behind : {a x b y : List Token} → Parting a x b y → Parting (t ∷ a) x (t ∷ b) y
    behind at_once = at_once
    behind (left_first t c) = left_first t c
    behind (right_first t c) = right_first t c

-- no program goes on from before a misfit with its token
no_further : {ts : List Token} {f : TextRefusal} (h : IsMisfit ts f) {ms : List Mark} {raw : RawProgram} (t : Token) (c c' : List Token)
    → IsProgram ms raw → tokens_of ms ≡ h.before ++ t ∷ c → h.rest ≡ t ∷ c' → ⊥
no_further h {ms} {raw} t c c' program spelled rest_is = h.none ms raw (t ∷ c) program (λ k. ap (λ xs. next_is xs k) rest_is) spelled

-- a program in which a token stands too deep, against one that goes on behind it within the limit
no_deeper : (a : List Mark) (m : Mark) (b marks further : List Mark) (t : Token) (c : List Token) → Agree (tokens_of a ++ m.token ∷ []) (a ++ m ∷ b) (marks ++ further)
    → tokens_of marks ≡ tokens_of a ++ t ∷ c → Within limit marks → limit < m.depth → ⊥
no_deeper [] m b [] further t c agree spelled bound deep = cc
no_deeper [] m b (x ∷ marks) further t c (also named e agree) spelled bound deep =
    let w : m.depth ≤ limit = subst (λ (y : Mark). y.depth ≤ limit) (sym e) bound.0 in omega arith
no_deeper (y ∷ a) m b [] further t c agree spelled bound deep = cc
no_deeper (y ∷ a) m b (x ∷ marks) further t c (also named e agree) spelled bound deep =
    no_deeper a m b marks further t c agree (let rest : tokens_of marks ≡ tokens_of a ++ t ∷ c = cc in rest) bound.1 deep

too_deep_first : {ts : List Token} {at : ℕ} (h : IsTooDeep ts at) (marks further : List Mark) {raw : RawProgram} (t : Token) (c : List Token)
    → IsProgram (marks ++ further) raw → Within limit marks → tokens_of marks ≡ tokens_of h.before ++ t ∷ c → t ≡ h.next.token → ⊥
too_deep_first h marks further t c program bound spelled is =
    let pre : List Token = tokens_of h.before ++ h.next.token ∷ [] in
    no_deeper h.before h.next h.more marks further t c
    (programs_agree pre h.program program
    (subst (Starts pre)
    (append_assoc (tokens_of h.before) (h.next.token ∷ []) (tokens_of h.more ++ stop ∷ []) ∙ sym (regroup h.before (h.next ∷ h.more) (stop ∷ [])))
    (Starts-front pre (tokens_of h.more ++ stop ∷ [])))
    (subst (Starts pre)
    (append_assoc (tokens_of h.before) (h.next.token ∷ []) (c ++ (tokens_of further ++ stop ∷ []))
    ∙ sym (append_assoc (tokens_of h.before) (h.next.token ∷ c) (tokens_of further ++ stop ∷ []))
    ∙ ap (λ u. (tokens_of h.before ++ u ∷ c) ++ (tokens_of further ++ stop ∷ [])) (sym is)
    ∙ ap (λ xs. xs ++ (tokens_of further ++ stop ∷ [])) (sym spelled)
    ∙ sym (regroup marks further (stop ∷ [])))
    (Starts-front pre (c ++ (tokens_of further ++ stop ∷ [])))))
    spelled bound h.deep

-- the tokens of a program that begins with these
begins_spelled : {ts : List Token} (b : Begins ts) → tokens_of (b.marks ++ b.more) ≡ ts ++ tokens_of b.more
begins_spelled b = tokens-append b.marks b.more ∙ ap (λ xs. xs ++ tokens_of b.more) b.spelled

two_misfits : {ts : List Token} {f f' : TextRefusal} → IsMisfit ts f → IsMisfit ts f' → f ≡ f'
two_misfits {ts} {f} {f'} h h' = by_parting h.before h.rest h'.before h'.rest (parting h.before h'.before h.rest h'.rest (sym h.split ∙ h'.split)) refl refl refl refl
  where
    by_parting : (a x b y : List Token) → Parting a x b y → h.before ≡ a → h.rest ≡ x → h'.before ≡ b → h'.rest ≡ y → f ≡ f'
    by_parting a x _ _ at_once b1 r1 b2 r2 = h.refusal_is ∙ ap refused_at (r1 ∙ sym r2) ∙ sym h'.refusal_is
    by_parting a _ _ y (left_first t c) b1 r1 b2 r2 = absurd (no_further h t (c ++ tokens_of h'.begins.more) (c ++ y) h'.begins.program
        (begins_spelled h'.begins ∙ ap (λ xs. xs ++ tokens_of h'.begins.more) b2 ∙ append_assoc a (t ∷ c) (tokens_of h'.begins.more) ∙ ap (λ xs. xs ++ (t ∷ c ++ tokens_of h'.begins.more)) (sym b1)) r1)
    by_parting _ x b _ (right_first t c) b1 r1 b2 r2 = absurd (no_further h' t (c ++ tokens_of h.begins.more) (c ++ x) h.begins.program
        (begins_spelled h.begins ∙ ap (λ xs. xs ++ tokens_of h.begins.more) b1 ∙ append_assoc b (t ∷ c) (tokens_of h.begins.more) ∙ ap (λ xs. xs ++ (t ∷ c ++ tokens_of h.begins.more)) (sym b2)) r2)

misfit_or_deep : {ts : List Token} {f : TextRefusal} {at : ℕ} → IsMisfit ts f → IsTooDeep ts at → ⊥
misfit_or_deep {ts} {f} {at} h g = by_parting h.before h.rest (tokens_of g.before) (g.next.token ∷ g.rest)
    (parting h.before (tokens_of g.before) h.rest (g.next.token ∷ g.rest) (sym h.split ∙ g.split)) refl refl refl refl
  where
    spelled : tokens_of (g.before ++ g.next ∷ g.more) ≡ tokens_of g.before ++ g.next.token ∷ tokens_of g.more
    spelled = tokens-append g.before (g.next ∷ g.more)

    by_parting : (a x b y : List Token) → Parting a x b y → h.before ≡ a → h.rest ≡ x → tokens_of g.before ≡ b → g.next.token ∷ g.rest ≡ y → ⊥
    by_parting a x _ _ at_once b1 r1 b2 r2 = no_further h g.next.token (tokens_of g.more) g.rest g.program
        (spelled ∙ ap (λ xs. xs ++ g.next.token ∷ tokens_of g.more) (b2 ∙ sym b1)) (r1 ∙ sym r2)
    by_parting a _ _ y (left_first t c) b1 r1 b2 r2 = no_further h t (c ++ g.next.token ∷ tokens_of g.more) (c ++ y) g.program
        (spelled ∙ ap (λ xs. xs ++ g.next.token ∷ tokens_of g.more) b2 ∙ append_assoc a (t ∷ c) (g.next.token ∷ tokens_of g.more) ∙ ap (λ xs. xs ++ (t ∷ c ++ g.next.token ∷ tokens_of g.more)) (sym b1)) r1
    by_parting _ x b _ (right_first t c) b1 r1 b2 r2 = too_deep_first g h.begins.marks h.begins.more t c h.begins.program h.begins.within
        (h.begins.spelled ∙ b1 ∙ ap (λ xs. xs ++ t ∷ c) (sym b2)) (let e : t ≡ g.next.token = cc in e)

two_deep : {ts : List Token} {at at' : ℕ} → IsTooDeep ts at → IsTooDeep ts at' → at ≡ at'
two_deep {ts} {at} {at'} h g = by_parting (tokens_of h.before) (h.next.token ∷ h.rest) (tokens_of g.before) (g.next.token ∷ g.rest)
    (parting (tokens_of h.before) (tokens_of g.before) (h.next.token ∷ h.rest) (g.next.token ∷ g.rest) (sym h.split ∙ g.split)) refl refl refl refl
  where
    by_parting : (a x b y : List Token) → Parting a x b y → tokens_of h.before ≡ a → h.next.token ∷ h.rest ≡ x → tokens_of g.before ≡ b → g.next.token ∷ g.rest ≡ y → at ≡ at'
    by_parting a x _ _ at_once b1 r1 b2 r2 = let e : h.next.token ≡ g.next.token = (let both = r1 ∙ sym r2 in cc) in h.place_is ∙ ap (λ (t : Token). t.at) e ∙ sym g.place_is
    by_parting a _ _ y (left_first t c) b1 r1 b2 r2 = absurd (too_deep_first h g.before (g.next ∷ g.more) t c g.program g.within
        (b2 ∙ ap (λ xs. xs ++ t ∷ c) (sym b1)) (let e : t ≡ h.next.token = cc in e))
    by_parting _ x b _ (right_first t c) b1 r1 b2 r2 = absurd (too_deep_first g h.before (h.next ∷ h.more) t c h.program h.within
        (b1 ∙ ap (λ xs. xs ++ t ∷ c) (sym b2)) (let e : t ≡ g.next.token = cc in e))

-- tokens that read as a program to the last have none that doesn't fit
reads_or_misfit : {ts : List Token} {raw : RawProgram} {f : TextRefusal} (marks : List Mark) → IsProgram marks raw → ts ≡ tokens_of marks ++ [] → IsMisfit ts f → ⊥
reads_or_misfit {ts} {raw} {f} marks program spelled h = by_parting (tokens_of marks) [] h.before h.rest (parting (tokens_of marks) h.before [] h.rest (sym spelled ∙ h.split)) refl refl refl refl
  where
    by_parting : (a x b y : List Token) → Parting a x b y → tokens_of marks ≡ a → [] ≡ x → h.before ≡ b → h.rest ≡ y → ⊥
    by_parting a x _ _ at_once b1 r1 b2 r2 = h.none marks raw [] program (λ k. ap (λ xs. next_is xs k) (r2 ∙ sym r1)) (b1 ∙ sym b2 ∙ sym (append-nil h.before))
    by_parting a _ _ y (left_first t c) b1 r1 b2 r2 = cc
    by_parting _ x b _ (right_first t c) b1 r1 b2 r2 = no_further h t c (c ++ x) program (b1 ∙ ap (λ xs. xs ++ t ∷ c) (sym b2)) r2

-- .. and none that stands too deep
reads_or_deep : {ts : List Token} {raw : RawProgram} {at : ℕ} (marks : List Mark) → IsProgram marks raw → Within limit marks → ts ≡ tokens_of marks ++ [] → IsTooDeep ts at → ⊥
reads_or_deep {ts} {raw} marks program within spelled g = by_parting (tokens_of marks) [] (tokens_of g.before) (g.next.token ∷ g.rest)
    (parting (tokens_of marks) (tokens_of g.before) [] (g.next.token ∷ g.rest) (sym spelled ∙ g.split)) refl refl refl refl
  where
    by_parting : (a x b y : List Token) → Parting a x b y → tokens_of marks ≡ a → [] ≡ x → tokens_of g.before ≡ b → g.next.token ∷ g.rest ≡ y → ⊥
    by_parting a x _ _ at_once b1 r1 b2 r2 = let clash : g.next.token ∷ g.rest ≡ [] = r2 ∙ sym r1 in cc
    by_parting a _ _ y (left_first t c) b1 r1 b2 r2 = cc
    by_parting _ x b _ (right_first t c) b1 r1 b2 r2 = too_deep_first g marks [] t c (subst (λ ms. IsProgram ms raw) (sym (append-nil marks)) program) within
        (b1 ∙ ap (λ xs. xs ++ t ∷ c) (sym b2)) (let e : t ≡ g.next.token = cc in e)

-- tokens that read as a program to the last are not refused
pub not_refused_tokens : {ts : List Token} {raw : RawProgram} {f : TextRefusal} (marks : List Mark) → IsProgram marks raw → Within limit marks → ts ≡ tokens_of marks ++ [] → IsRefusedTokens ts f → ⊥
not_refused_tokens marks program within spelled (misfits h) = reads_or_misfit marks program spelled h
not_refused_tokens marks program within spelled (nests g) = reads_or_deep marks program within spelled g

-- tokens have one refusal
refused_tokens_one : {ts : List Token} {f f' : TextRefusal} → IsRefusedTokens ts f → IsRefusedTokens ts f' → f ≡ f'
refused_tokens_one (misfits h) (misfits h') = two_misfits h h'
refused_tokens_one (misfits h) (nests g) = absurd (misfit_or_deep h g)
refused_tokens_one (nests g) (misfits h) = absurd (misfit_or_deep h g)
refused_tokens_one (nests g) (nests g') = ap TooDeep (two_deep g g')

-- a text has one refusal
pub refused_one : {text : List ℕ} {f f' : TextRefusal} → IsRefusedText text f → IsRefusedText text f' → f ≡ f'
refused_one (long many) (long many') = refl
refused_one (long many) (within_limit ts short lexes why) = absurd (omega (arith, many, short))
refused_one (within_limit ts short lexes why) (long many) = absurd (omega (arith, many, short))
refused_one {f' = f'} (within_limit ts short lexes why) (within_limit ts' short' lexes' why') =
    refused_tokens_one why (subst (λ xs. IsRefusedTokens xs f') (lexes_one lexes' lexes) why')
