-- Where the predictive parse meets a fault, no program begins so; and what was taken before begins one.
use Rattle.std.proofs.Common.{◌≡◌, ℕ, ◌≤◌, ◌<◌, List, [], ◌∷◌, ◌++◌, refl, sym, subst, ap, ◌∙◌, append_assoc, arith}
use Rattle.std.proofs.lemmas.Bool.{false≢true}
use Rattle.csdn_tokens.specs.declared.Kind.{Kind}
use Rattle.csdn_tokens.specs.declared.Kind.TheVariants as k
use Rattle.csdn_tokens.specs.declared.Token.{Token}
use Rattle.csdn_text.specs.declared.TextRefusal.{TextRefusal}
use Rattle.csdn_text.specs.declared.TextRefusal.TheVariants.{Memory, TooLong, BadByte, BadName, BadNumber, Unexpected, TooDeep}
use Rattle.csdn_text.specs.Symbols.{Nonterminal, Level, depth_of, Symbol, token, part, Values, made, Rule}
use Rattle.csdn_text.specs.Grammar.{rules}
use Rattle.csdn_text.specs.Derives.{Mark, tokens_of, Derives}
use Rattle.csdn_text.specs.Reading.{Within, Alike}
use Rattle.csdn_text.specs.Derives.Derives.{nothing, one, by_rule}
use Rattle.csdn_text.specs.Machine.{Takes, Fails, choose, pick, begins, next_is, next_in, has, first, refused, refused_at}
use Rattle.csdn_text.specs.Machine.Takes.{done, step, down}
use Rattle.csdn_text.specs.Machine.Fails.{memory, unexpected, deep, after_one, inside, after_rule}
use Rattle.csdn_text.proofs.Sets.{same_is, is_same}
use Rattle.csdn_text.proofs.Samples.{word}
use Rattle.csdn_text.proofs.Theory.{Within-append, regroup, choose-is_rule}
use Rattle.csdn_text.proofs.Steps.{down_by, inside_by}

-- a parse has one result
pub unique : {most most' d : ℕ} {ss : List Symbol} {ts rest rest' : List Token} {vs vs' : Values ss}
    → Takes most d ss ts vs rest → Takes most' d ss ts vs' rest' → (vs ≡ vs') × (rest ≡ rest')
unique done done = (refl, refl)
unique (step {t = t} is within later) (step is' within' later') =
    let same_later = unique later later' in
    (ap (λ ws. (t, ws)) same_later.0, same_later.1)
unique {most' = most'} (down {d = d} {n = n} {ss = ss} {ts = ts} inner later) (down {rest = rest'} {vs = vs'} inner' later') =
    let first = unique inner inner' in
    let then = unique later (subst (λ mid. Takes most' d ss mid vs' rest') (sym first.1) later') in
    (pair_is (ap (λ us. made (choose n ts).parts (choose n ts).gives us) first.0) then.0, then.1)
  where
    pair_is : {A B : Type 0} {a a' : A} {b b' : B} → a ≡ a' → b ≡ b' → ◌≡◌ {A = A × B} (a, b) (a', b')
    pair_is e e' = cc

abbrev pub Counts : TextRefusal → Type 0
Counts Memory = ⊥
Counts _ = Unit {0}

-- what is taken meets no fault
pub not_both : {most d : ℕ} {ss : List Symbol} {ts rest : List Token} {vs : Values ss} {f : TextRefusal}
    → Takes most d ss ts vs rest → Fails most d ss ts f → Counts f → ⊥
not_both done memory counts = counts
not_both (step is within later) memory counts = counts
not_both (step is within later) (unexpected differs) counts = cc
not_both (step is within later) (deep is' beyond) counts = omega arith
not_both (step is within later) (after_one is' within' later') counts = not_both later later' counts
not_both (down inner later) memory counts = counts
not_both (down inner later) (inside inner') counts = not_both inner inner' counts
not_both {most} {f = f} (down {d = d} {ss = ss} inner later) (after_rule inner' later') counts =
    not_both later (subst (λ mid. Fails most d ss mid f) (sym (unique inner inner').1) later') counts

Alike-next_in : (ts ts' : List Token) (ks : List Kind) → Alike ts ts' → next_in ts ks ≡ next_in ts' ks
Alike-next_in [] [] ks alike = refl
Alike-next_in [] (t ∷ ts) ks alike = absurd (false≢true (alike t.kind ∙ is_same t.kind t.kind refl))
Alike-next_in (t ∷ ts) [] ks alike = absurd (false≢true (sym (alike t.kind) ∙ is_same t.kind t.kind refl))
Alike-next_in (t ∷ ts) (t' ∷ ts') ks alike = ap (has ks) (sym (same_is t'.kind t.kind (sym (alike t.kind) ∙ is_same t.kind t.kind refl)))

begins-alike : (ss : List Symbol) (ts ts' : List Token) → Alike ts ts' → begins ss ts ≡ begins ss ts'
begins-alike [] ts ts' alike = refl
begins-alike (token k l ∷ ss) ts ts' alike = alike k
begins-alike (part n l ∷ ss) ts ts' alike = Alike-next_in ts ts' (first n) alike

pick-alike : {n : Nonterminal} (rs : List (Rule n)) (l : Rule n) (ts ts' : List Token) → Alike ts ts' → pick rs l ts ≡ pick rs l ts'
pick-alike [] l ts ts' alike = refl
pick-alike (r ∷ rs) l ts ts' alike = rw (begins-alike r.parts ts ts' alike, pick-alike rs l ts ts' alike) refl

pub choose-alike : (n : Nonterminal) (ts ts' : List Token) → Alike ts ts' → choose n ts ≡ choose n ts'
choose-alike n ts ts' alike = pick-alike (rules n).led (rules n).last ts ts' alike

Alike-front : (pre rest rest' : List Token) → Alike rest rest' → Alike (pre ++ rest) (pre ++ rest')
Alike-front [] rest rest' alike = alike
Alike-front (t ∷ pre) rest rest' alike = λ k. refl

Alike-from : {ts : List Token} (pre rest rest' : List Token) → ts ≡ pre ++ rest → Alike rest rest' → Alike ts (pre ++ rest')
Alike-from {ts} pre rest rest' split alike = λ k. ap (λ xs. next_is xs k) split ∙ Alike-front pre rest rest' alike k

-- A parse reads what it takes and one token more, and a greater depth changes nothing.
pub along : {most d : ℕ} {ss : List Symbol} {ts rest : List Token} {vs : Values ss} → Takes most d ss ts vs rest
    → (ms : List Mark) × (ts ≡ tokens_of ms ++ rest) × Within most ms × Derives d ss ms vs
    × ((most' : ℕ) → most ≤ most' → (rest' : List Token) → Alike rest rest' → Takes most' d ss (tokens_of ms ++ rest') vs rest')
along done = ([], refl, tt, nothing, λ most' up rest' alike. done)
along {most} {d} (step {l = l} {k = k} {t = t} is within later) =
    let more = along later in (
      record { token = t; depth = depth_of d l } ∷ more.0,
      ap (λ ts. t ∷ ts) more.1,
      (within, more.2),
      one (same_is t.kind k is) more.3,
      λ most' up rest' alike. step is (omega arith) (more.4 most' up rest' alike),
    )
along {most} (down {d} {l} {n} {ss} {ts} {mid} {rest} {vs} {us} inner later) =
    let a = along inner in
    let b = along later in
    let split : ts ≡ tokens_of (a.0 ++ b.0) ++ rest = a.1 ∙ ap (λ xs. tokens_of a.0 ++ xs) b.1 ∙ sym (regroup a.0 b.0 rest) in (
      a.0 ++ b.0,
      split,
      Within-append most a.0 b.0 a.2 b.2,
      by_rule (choose n ts) (choose-is_rule n ts) a.3 b.3,
      λ most' up rest' alike.
          down_by (choose-alike n _ _ (λ k. sym (Alike-from (tokens_of (a.0 ++ b.0)) rest rest' split alike k)))
          (subst (λ xs. Takes most' (depth_of d l) (choose n ts).parts xs us (tokens_of b.0 ++ rest')) (sym (regroup a.0 b.0 rest')) (a.4 most' up (tokens_of b.0 ++ rest') (Alike-from (tokens_of b.0) rest rest' b.1 alike)))
          (b.4 most' up rest' alike),
    )

after_by : {most d : ℕ} {l : Level} {n : Nonterminal} {r : Rule n} {ss : List Symbol} {ts mid : List Token} {us : Values r.parts} {f : TextRefusal}
    → choose n ts ≡ r → Takes most (depth_of d l) r.parts ts us mid → Fails most d ss mid f → Fails most d (part n l ∷ ss) ts f
after_by {most} {d} {l} {n} {r} {ss} {ts} {mid} {us} {f} which inner later =
    subst (λ (x : Rule n). (ws : Values x.parts) → Takes most (depth_of d l) x.parts ts ws mid → Fails most d (part n l ∷ ss) ts f)
    which (λ ws whole. after_rule whole later) us inner

-- a token that stands too deep
pub record Deep (most p : ℕ) (rest : List Token) (more : List Mark) : Type 0 where
  pub mark : Mark
  pub after : List Token
  pub others : List Mark
  pub rest_is : rest ≡ mark.token ∷ after
  pub more_is : more ≡ mark ∷ others
  pub place_is : p ≡ mark.token.at
  pub deep : most < mark.depth

abbrev pub Stands : ℕ → TextRefusal → List Token → List Mark → Type 0
Stands most Memory rest more = Unit {0}
Stands most (TooDeep p) rest more = Deep most p rest more
Stands most TooLong rest more = ⊥
Stands most (BadByte p) rest more = BadByte p ≡ refused_at rest
Stands most (BadName p) rest more = BadName p ≡ refused_at rest
Stands most (BadNumber p) rest more = BadNumber p ≡ refused_at rest
Stands most (Unexpected p) rest more = Unexpected p ≡ refused_at rest

Stands-append : (most : ℕ) (f : TextRefusal) (rest : List Token) (more w : List Mark) → Stands most f rest more → Stands most f rest (more ++ w)
Stands-append most (TooDeep p) rest more w h = record { mark = h.mark; after = h.after; others = h.others ++ w; rest_is = h.rest_is; more_is = ap (λ ms. ms ++ w) h.more_is; place_is = h.place_is; deep = h.deep }
Stands-append most Memory rest more w h = h
Stands-append most TooLong rest more w h = h
Stands-append most (BadByte p) rest more w h = h
Stands-append most (BadName p) rest more w h = h
Stands-append most (BadNumber p) rest more w h = h
Stands-append most (Unexpected p) rest more w h = h

refused-stands : (most : ℕ) (kind : Kind) (t : Token) (ts : List Token) (more : List Mark) → kind ≡ t.kind → Stands most (refused kind t.at) (t ∷ ts) more
refused-stands most k.BadByte t ts more is = ap (λ x. refused x t.at) is
refused-stands most k.BadName t ts more is = ap (λ x. refused x t.at) is
refused-stands most k.BadNumber t ts more is = ap (λ x. refused x t.at) is
refused-stands most _ t ts more is = ap (λ x. refused x t.at) is

refused-counts : (kind : Kind) (at : ℕ) → Counts (refused kind at)
refused-counts k.BadByte at = tt
refused-counts k.BadName at = tt
refused-counts k.BadNumber at = tt
refused-counts _ at = tt

pub refused_at-counts : (ts : List Token) → Counts (refused_at ts)
refused_at-counts [] = tt
refused_at-counts (t ∷ ts) = refused-counts t.kind t.at

stands_here : (most : ℕ) (ts : List Token) (more : List Mark) → Stands most (refused_at ts) ts more
stands_here most [] more = refl
stands_here most (t ∷ ts) more = refused-stands most t.kind t ts more refl

-- a refusal that names a token which doesn't fit
abbrev pub NamesMisfit : TextRefusal → Type 0
NamesMisfit (BadByte at) = Unit {0}
NamesMisfit (BadNumber at) = Unit {0}
NamesMisfit (BadName at) = Unit {0}
NamesMisfit (Unexpected at) = Unit {0}
NamesMisfit _ = ⊥

-- A derivation that begins with what stands before the fault. A token that doesn't fit is met again, whatever follows it and however deep one may go.
pub record Front (most d : ℕ) (ss : List Symbol) (ts : List Token) (f : TextRefusal) : Type 0 where
  pub taken : List Mark
  pub more : List Mark
  pub rest : List Token
  pub values : Values ss
  pub derives : Derives d ss (taken ++ more) values
  pub split : ts ≡ tokens_of taken ++ rest
  pub within : Within most taken
  pub stands : Stands most f rest more
  pub again : NamesMisfit f → (most' : ℕ) → most ≤ most' → (rest' : List Token) → Alike rest rest' → Fails most' d ss (tokens_of taken ++ rest') (refused_at rest')

along_marks : {d : ℕ} {ss : List Symbol} {vs : Values ss} (ms ms' : List Mark) → ms ≡ ms' → Derives d ss ms vs → Derives d ss ms' vs
along_marks {d} {ss} {vs} ms ms' e h = subst (λ xs. Derives d ss xs vs) e h

pub front : {most d : ℕ} {ss : List Symbol} {ts : List Token} {f : TextRefusal} → Fails most d ss ts f → Front most d ss ts f
front {most} {d} {ss} {ts} memory =
    let w = word d ss in
    record { taken = []; more = w.marks; rest = ts; values = w.values; derives = w.derives; split = refl; within = tt; stands = tt; again = λ h. absurd h }
front {most} (unexpected {d} {l} {k} {ss} {ts} differs) =
    let w = word d (token k l ∷ ss) in
    record {
      taken = [];
      more = w.marks;
      rest = ts;
      values = w.values;
      derives = w.derives;
      split = refl;
      within = tt;
      stands = stands_here most ts w.marks;
      again = λ h most' up rest' alike. unexpected (sym (alike k) ∙ differs);
    }
front (deep {d} {l} {k} {ss} {t} {ts} is beyond) =
    let w = word d ss in
    record {
      taken = [];
      more = record { token = t; depth = depth_of d l } ∷ w.marks;
      rest = t ∷ ts;
      values = (t, w.values);
      derives = one (same_is t.kind k is) w.derives;
      split = refl;
      within = tt;
      stands = record { mark = record { token = t; depth = depth_of d l }; after = ts; others = w.marks; rest_is = refl; more_is = refl; place_is = refl; deep = beyond };
      again = λ h. absurd h;
    }
front (after_one {d} {l} {k} {ss} {t} is within later) =
    let v = front later in
    record {
      taken = record { token = t; depth = depth_of d l } ∷ v.taken;
      more = v.more;
      rest = v.rest;
      values = (t, v.values);
      derives = one (same_is t.kind k is) v.derives;
      split = ap (λ xs. t ∷ xs) v.split;
      within = (within, v.within);
      stands = v.stands;
      again = λ h most' up rest' alike. after_one is (omega arith) (v.again h most' up rest' alike);
    }
front {most} {f = f} (inside {d} {l} {n} {ss} {ts} inner) =
    let v = front inner in
    let w = word d ss in
    record {
      taken = v.taken;
      more = v.more ++ w.marks;
      rest = v.rest;
      values = (made (choose n ts).parts (choose n ts).gives v.values, w.values);
      derives = along_marks ((v.taken ++ v.more) ++ w.marks) (v.taken ++ (v.more ++ w.marks)) (append_assoc v.taken v.more w.marks) (by_rule (choose n ts) (choose-is_rule n ts) v.derives w.derives);
      split = v.split;
      within = v.within;
      stands = Stands-append most f v.rest v.more w.marks v.stands;
      again = λ h most' up rest' alike. inside_by (choose-alike n _ _ (λ k. sym (Alike-from (tokens_of v.taken) v.rest rest' v.split alike k))) (v.again h most' up rest' alike);
    }
front {most} (after_rule {d} {l} {n} {ss} {ts} {mid} {us = us} inner later) =
    let a = along inner in
    let v = front later in
    let split : ts ≡ tokens_of (a.0 ++ v.taken) ++ v.rest = a.1 ∙ ap (λ xs. tokens_of a.0 ++ xs) v.split ∙ sym (regroup a.0 v.taken v.rest) in
    record {
      taken = a.0 ++ v.taken;
      more = v.more;
      rest = v.rest;
      values = (made (choose n ts).parts (choose n ts).gives us, v.values);
      derives = along_marks (a.0 ++ (v.taken ++ v.more)) ((a.0 ++ v.taken) ++ v.more) (sym (append_assoc a.0 v.taken v.more)) (by_rule (choose n ts) (choose-is_rule n ts) a.3 v.derives);
      split = split;
      within = Within-append most a.0 v.taken a.2 v.within;
      stands = v.stands;
      again = λ h most' up rest' alike.
          after_by (choose-alike n _ _ (λ k. sym (Alike-from (tokens_of (a.0 ++ v.taken)) v.rest rest' split alike k)))
          (subst (λ xs. Takes most' (depth_of d l) (choose n ts).parts xs us (tokens_of v.taken ++ rest')) (sym (regroup a.0 v.taken rest')) (a.4 most' up (tokens_of v.taken ++ rest') (Alike-from (tokens_of v.taken) v.rest rest' v.split alike)))
          (v.again h most' up rest' alike);
    }
