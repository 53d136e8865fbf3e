-- How the parse of a rule is put together from the parses of its parts.
use Rattle.std.proofs.Common.{◌≡◌, ℕ, ◌≤◌, ◌<◌, List, [], ◌∷◌, Bool, true, false, not, Result, Ok, Err, Some, length, refl, sym, subst, arith}
use Rattle.std.specs.Result.{IsErrAnd}
use Rattle.csdn_tokens.specs.declared.Kind.{Kind}
use Rattle.csdn_tokens.specs.declared.Token.{Token}
use Rattle.csdn_tree.specs.declared.syntax.Connective.{Connective}
use Rattle.csdn_tree.specs.declared.syntax.RawFormula.{RawFormula}
use Rattle.csdn_tree.specs.declared.tiers.Tier.{Tier}
use Rattle.csdn_tree.specs.Tiers.{right_of}
use Rattle.csdn_text.specs.declared.TextRefusal.{TextRefusal}
use Rattle.csdn_text.specs.declared.TextRefusal.TheVariants.{Memory, TooDeep}
use Rattle.csdn_text.specs.Symbols.{Nonterminal, tier, tail, Level, here, deeper, depth_of, Symbol, token, part, Value, ValueOf, Values, made, Rule, same}
use Rattle.csdn_text.specs.Grammar.{kind_of, rule, rules}
use Rattle.csdn_text.specs.Machine.{Takes, Fails, Parses, choose, pick, begins, limit, next_is, refused_at}
use Rattle.csdn_text.specs.Machine.Takes.{done, step, down}
use Rattle.csdn_text.specs.Machine.Fails.{memory, unexpected, deep, after_one, inside, after_rule}
use Rattle.csdn_text.specs.Machine.Parses.{reads, refuses}

-- which right side is taken
pub data Chosen {n : Nonterminal} : List (Rule n) → Rule n → List Token → Rule n → Type 0 where
  last : {r : Rule n} {ts : List Token} → Chosen [] r ts r
  this : {r l : Rule n} {rs : List (Rule n)} {ts : List Token} → begins r.parts ts ≡ true → Chosen (r ∷ rs) l ts r
  other : {r l x : Rule n} {rs : List (Rule n)} {ts : List Token} → begins r.parts ts ≡ false → Chosen rs l ts x → Chosen (r ∷ rs) l ts x

picked : {n : Nonterminal} {rs : List (Rule n)} {l x : Rule n} {ts : List Token} → Chosen rs l ts x → pick rs l ts ≡ x
picked last = refl
picked (this h) = rw h refl
picked (other h more) = rw h (picked more)

-- a nonterminal by the right side that is chosen
pub down_by : {most d : ℕ} {l : Level} {n : Nonterminal} {r : Rule n} {ss : List Symbol} {ts mid rest : List Token} {us : Values r.parts} {vs : Values ss}
    → choose n ts ≡ r → Takes most (depth_of d l) r.parts ts us mid → Takes most d ss mid vs rest
    → Takes most d (part n l ∷ ss) ts (made r.parts r.gives us, vs) rest
down_by {most} {d} {l} {n} {r} {ss} {ts} {mid} {rest} {us} {vs} which inner later =
    subst (λ (x : Rule n). (ws : Values x.parts) → Takes most (depth_of d l) x.parts ts ws mid → Takes most d (part n l ∷ ss) ts (made x.parts x.gives ws, vs) rest)
    which (λ ws whole. down whole later) us inner

pub inside_by : {most d : ℕ} {l : Level} {n : Nonterminal} {r : Rule n} {ss : List Symbol} {ts : List Token} {f : TextRefusal}
    → choose n ts ≡ r → Fails most (depth_of d l) r.parts ts f → Fails most d (part n l ∷ ss) ts f
inside_by {most} {d} {l} {n} {r} {ss} {ts} {f} which inner =
    subst (λ (x : Rule n). Fails most (depth_of d l) x.parts ts f → Fails most d (part n l ∷ ss) ts f) which inside inner

as_takes : {most d : ℕ} {l : Level} {n : Nonterminal} {r : Rule n} {ss : List Symbol} {ts mid rest : List Token} {us : Values r.parts} {vs : Values ss}
    → Chosen (rules n).led (rules n).last ts r → Takes most (depth_of d l) r.parts ts us mid → Takes most d ss mid vs rest
    → Takes most d (part n l ∷ ss) ts (made r.parts r.gives us, vs) rest
as_takes which inner later = down_by (picked which) inner later

as_fails : {most d : ℕ} {l : Level} {n : Nonterminal} {r : Rule n} {ss : List Symbol} {ts : List Token} {f : TextRefusal}
    → Chosen (rules n).led (rules n).last ts r → Fails most (depth_of d l) r.parts ts f → Fails most d (part n l ∷ ss) ts f
as_fails which inner = inside_by (picked which) inner

-- a nonterminal by one of its right sides
pub by : {d : ℕ} {n : Nonterminal} {r : Rule n} {ts rest : List Token} {us : Values r.parts} {v : Value n}
    → Chosen (rules n).led (rules n).last ts r → Takes limit d r.parts ts us rest → made r.parts r.gives us ≡ v
    → Parses d (part n here) ts rest (Ok v)
by {d} {n} {r} {ts} {rest} {us} {v} which inner is =
    reads (subst (λ w. Takes limit d (part n here ∷ []) ts (w, tt) rest) is (as_takes which inner done))

pub not_by : {d : ℕ} {n : Nonterminal} {r : Rule n} {ts rest : List Token} {f : TextRefusal}
    → Chosen (rules n).led (rules n).last ts r → Fails limit d r.parts ts f → Parses d (part n here) ts rest (Err f)
not_by which inner = refuses (as_fails which inner)

-- a token, and what follows it
pub then_token : {d : ℕ} {l : Level} {k : Kind} {ss : List Symbol} {ts mid rest : List Token} {t : Token} {vs : Values ss}
    → Parses (depth_of d l) (token k here) ts mid (Ok t) → Takes limit d ss mid vs rest → Takes limit d (token k l ∷ ss) ts (t, vs) rest
then_token (reads (step is within done)) later = step is within later

-- a nonterminal, and what follows it
pub then : {d : ℕ} {l : Level} {n : Nonterminal} {ss : List Symbol} {ts mid rest : List Token} {v : Value n} {vs : Values ss}
    → Parses (depth_of d l) (part n here) ts mid (Ok v) → Takes limit d ss mid vs rest → Takes limit d (part n l ∷ ss) ts (v, vs) rest
then (reads (down inner done)) later = down inner later

-- a nonterminal by a right side that is not parsed by a function of its own, and what follows it
pub then_by : {d : ℕ} {l : Level} {n : Nonterminal} {r : Rule n} {ss : List Symbol} {ts mid rest : List Token} {us : Values r.parts} {vs : Values ss}
    → Chosen (rules n).led (rules n).last ts r → Takes limit (depth_of d l) r.parts ts us mid → Takes limit d ss mid vs rest
    → Takes limit d (part n l ∷ ss) ts (made r.parts r.gives us, vs) rest
then_by = as_takes

pub no_token : {d : ℕ} {l : Level} {k : Kind} {ss : List Symbol} {ts rest : List Token} {f : TextRefusal}
    → Parses (depth_of d l) (token k here) ts rest (Err f) → Fails limit d (token k l ∷ ss) ts f
no_token (refuses memory) = memory
no_token (refuses (unexpected differs)) = unexpected differs
no_token (refuses (deep is beyond)) = deep is beyond
no_token (refuses (after_one is within memory)) = memory

pub no_part : {d : ℕ} {l : Level} {n : Nonterminal} {ss : List Symbol} {ts rest : List Token} {f : TextRefusal}
    → Parses (depth_of d l) (part n here) ts rest (Err f) → Fails limit d (part n l ∷ ss) ts f
no_part (refuses memory) = memory
no_part (refuses (inside inner)) = inside inner
no_part (refuses (after_rule whole memory)) = memory

pub no_part_by : {d : ℕ} {l : Level} {n : Nonterminal} {r : Rule n} {ss : List Symbol} {ts : List Token} {f : TextRefusal}
    → Chosen (rules n).led (rules n).last ts r → Fails limit (depth_of d l) r.parts ts f → Fails limit d (part n l ∷ ss) ts f
no_part_by = as_fails

pub after_token : {d : ℕ} {l : Level} {k : Kind} {ss : List Symbol} {ts mid : List Token} {t : Token} {f : TextRefusal}
    → Parses (depth_of d l) (token k here) ts mid (Ok t) → Fails limit d ss mid f → Fails limit d (token k l ∷ ss) ts f
after_token (reads (step is within done)) later = after_one is within later

pub after_part : {d : ℕ} {l : Level} {n : Nonterminal} {ss : List Symbol} {ts mid : List Token} {v : Value n} {f : TextRefusal}
    → Parses (depth_of d l) (part n here) ts mid (Ok v) → Fails limit d ss mid f → Fails limit d (part n l ∷ ss) ts f
after_part (reads (down inner done)) later = after_rule inner later

-- the exit of a `?` passes the refusal on
pub exit : {d : ℕ} {s : Symbol} {old new : List Token} {f : TextRefusal} (r : Result (ValueOf s) TextRefusal)
    → IsErrAnd r (λ e. e ≡ f) → Parses d s old new (Err f) → Parses d s old new r
exit {d} {s} {old} {new} (Ok v) is fault = elim is [ ]
exit {d} {s} {old} {new} (Err e) is fault = subst (λ x. Parses d s old new (Err x)) (sym is) fault

-- no token is taken where another stands
pub other_token : {d : ℕ} {k : Kind} {ts rest : List Token} {f : TextRefusal}
    → next_is ts k ≡ false → f ≡ refused_at ts → Parses d (token k here) ts rest (Err f)
other_token {d} {k} {ts} {rest} differs at = subst (λ x. Parses d (token k here) ts rest (Err x)) (sym at) (refuses (unexpected differs))

pub deep_token : {d : ℕ} {k : Kind} {ts more rest : List Token} {t : Token}
    → ts ≡ t ∷ more → same t.kind k ≡ true → limit < d → Parses d (token k here) ts rest (Err (TooDeep t.at))
deep_token {d} {k} {ts} {more} {rest} {t} split is beyond =
    subst (λ xs. Parses d (token k here) xs rest (Err (TooDeep t.at))) (sym split) (refuses (deep is beyond))

pub this_token : {d : ℕ} {k : Kind} {ts rest : List Token} {t : Token}
    → ts ≡ t ∷ rest → same t.kind k ≡ true → d ≤ limit → Parses d (token k here) ts rest (Ok t)
this_token {d} {k} {ts} {rest} {t} split is within =
    subst (λ xs. Parses d (token k here) xs rest (Ok t)) (sym split) (reads (step is within done))

pub no_next : (k : Kind) {ts : List Token} (xs : List Token) → xs ≡ ts → length xs ≡ 0 → next_is ts k ≡ false
no_next k {ts} [] is empty = subst (λ ys. next_is ys k ≡ false) is refl
no_next k {ts} (x ∷ xs) is empty = absurd (omega arith)

pub not_next : (k : Kind) {ts more : List Token} {t : Token} → ts ≡ t ∷ more → same t.kind k ≡ false → next_is ts k ≡ false
not_next k {ts} {more} {t} split differs = subst (λ xs. next_is xs k ≡ false) (sym split) differs

pub not_false : (a : Bool) {b : Bool} → b ≡ not a → b ≡ false → a ≡ true
not_false true is off = refl
not_false false is off = cc

pub not_true : (a : Bool) {b : Bool} → b ≡ not a → b ≡ true → a ≡ false
not_true true is on = cc
not_true false is on = refl

pub no_memory : {d : ℕ} {s : Symbol} {old new : List Token} {f : TextRefusal} → f ≡ Memory → Parses d s old new (Err f)
no_memory {d} {s} {old} {new} is = subst (λ x. Parses d s old new (Err x)) (sym is) (refuses memory)

-- what is parsed, under the name by which the grammar has it
pub at_tier : {d : ℕ} {t u : Tier} {old new : List Token} {r : Result RawFormula TextRefusal} → t ≡ u → Parses d (part (tier t) here) old new r → Parses d (part (tier u) here) old new r
at_tier {d} {t} {u} {old} {new} {r} is h = subst (λ x. Parses d (part (tier x) here) old new r) is h

pub at_kind : {d : ℕ} {k l : Kind} {old new : List Token} {r : Result Token TextRefusal} → k ≡ l → Parses d (token k here) old new r → Parses d (token l here) old new r
at_kind {d} {k} {l} {old} {new} {r} is h = subst (λ x. Parses d (token x here) old new r) is h

-- whether the word of a tail comes
pub tail_goes : {word : Connective} {k : Kind} {ts : List Token} → k ≡ kind_of word → next_is ts k ≡ true
    → Chosen {n = tail word} (rules (tail word)).led (rules (tail word)).last ts (rule (token (kind_of word) deeper ∷ part (tier (right_of word)) deeper ∷ []) (λ _ p. Some p))
tail_goes {word} {k} {ts} is h = this (subst (λ x. next_is ts x ≡ true) is h)

pub tail_ends : {word : Connective} {k : Kind} {ts : List Token} → k ≡ kind_of word → next_is ts k ≡ false
    → Chosen {n = tail word} (rules (tail word)).led (rules (tail word)).last ts (rules (tail word)).last
tail_ends {word} {k} {ts} is h = other (subst (λ x. next_is ts x ≡ false) is h) last
