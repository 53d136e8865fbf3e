-- Whole texts of tokens.
use Rattle.std.proofs.Common.{◌≡◌, ℕ, ◌+◌, ◌≤◌, inl, inr, List, [], ◌∷◌, ◌++◌, Result, Ok, Err, MatchResult, true, refl, sym, subst, ap, ◌∙◌, append-nil, length, arith}
use Rattle.csdn_tokens.specs.Lex.{Lexes}
use Rattle.csdn_tokens.proofs.Runs.{lexes_one}
use Rattle.std.specs.Result.{IsErrAnd}
use Rattle.csdn_tokens.specs.declared.Kind.TheVariants as k
use Rattle.csdn_tokens.specs.declared.Token.{Token}
use Rattle.csdn_tree.specs.declared.syntax.RawProgram.{RawProgram}
use Rattle.csdn_text.specs.declared.TextRefusal.{TextRefusal}
use Rattle.csdn_text.specs.declared.TextRefusal.TheVariants.{Memory, TooLong, BadByte, BadName, BadNumber, Unexpected, TooDeep}
use Rattle.csdn_text.specs.Symbols.{Nonterminal, Level, Value, Values, Symbol, part}
use Rattle.csdn_text.specs.Derives.{Mark, tokens_of, Derives}
use Rattle.csdn_text.specs.Derives.Derives.{nothing, one, by_rule}
use Rattle.csdn_text.specs.Machine.{Takes, Fails, limit, refused_at, next_in}
use Rattle.csdn_text.specs.Machine.Takes.{done, step, down}
use Rattle.csdn_text.specs.Reading.{whole, Within, ReadsTokens, IsMisfit, IsTooDeep, Reads, IsTextRefusal}
use Rattle.csdn_text.specs.Reading.IsRefusedTokens.{misfits, nests}
use Rattle.csdn_text.specs.Reading.IsRefusedText.{within_limit}
use Rattle.csdn_text.specs.Answers.{IsTokensRefusal}
use Rattle.csdn_text.proofs.Sets.{is_same}
use Rattle.csdn_text.proofs.Theory.{Within-append, Within-front, Within-back, regroup, complete, sound}
use Rattle.csdn_text.proofs.Faults.{unique, not_both, Counts, NamesMisfit, front, Front, refused_at-counts}

takes_then : {most d : ℕ} {l : Level} {n : Nonterminal} {ss : List Symbol} {ts mid rest : List Token} {v : Value n} {vs : Values ss}
    → Takes most d (part n l ∷ []) ts (v, tt) mid → Takes most d ss mid vs rest → Takes most d (part n l ∷ ss) ts (v, vs) rest
takes_then (down inner done) later = down inner later

-- a program is taken at every depth that it keeps
takes_whole : {most : ℕ} {ms : List Mark} {raw : RawProgram} {stop : Token} (rest : List Token) → Derives 1 whole ms (raw, (stop, tt))
    → Within most ms → Takes most 1 whole (tokens_of ms ++ rest) (raw, (stop, tt)) rest
takes_whole {most} {raw = raw} {stop = stop} rest (by_rule {ms = ms} {ms' = ms'} r is inner (one ends nothing)) deep =
    let alone : Within most (ms ++ []) = Within-append most ms [] (Within-front most ms ms' deep) tt in
    let next : next_in (stop ∷ rest) (k.Stop ∷ []) ≡ true = rw (is_same stop.kind k.Stop ends) refl in
    let first = complete (k.Stop ∷ []) (stop ∷ rest) (by_rule r is inner nothing) alone refl next in
    subst (λ ts. Takes most 1 whole ts (raw, (stop, tt)) rest)
    (regroup ms [] (stop ∷ rest) ∙ sym (regroup ms ms' rest))
    (takes_then first (step (is_same stop.kind k.Stop ends) (Within-back most ms ms' deep).0 done))

Within-up : (most most' : ℕ) (ms : List Mark) → most ≤ most' → Within most ms → Within most' ms
Within-up most most' [] up h = tt
Within-up most most' (m ∷ ms) up h = (omega (arith, h.0), Within-up most most' ms up h.1)

-- some depth that all keep
deepest : (ms : List Mark) → (most : ℕ) × (limit ≤ most) × Within most ms
deepest [] = (limit, omega arith, tt)
deepest (m ∷ ms) = let more = deepest ms in
    (m.depth + more.0, omega (arith, more.1), (omega arith, Within-up more.0 (m.depth + more.0) ms (omega arith) more.2))

-- where a text reads as a program, it is taken
taken : {ts : List Token} {raw : RawProgram} (h : ReadsTokens ts raw) → Takes limit 1 whole ts (raw, (h.program.stop, tt)) h.rest
taken {ts} {raw} h = subst (λ xs. Takes limit 1 whole xs (raw, (h.program.stop, tt)) h.rest) (sym h.spelled)
    (takes_whole h.rest h.program.derives h.within)

pub tokens_taken : {ts rest : List Token} {raw : RawProgram} {stop : Token} → Takes limit 1 whole ts (raw, (stop, tt)) rest → ReadsTokens ts raw
tokens_taken {rest = rest} {stop = stop} taken =
    let s = sound taken in
    record { marks = s.0; rest = rest; program = record { stop = stop; derives = s.3 }; spelled = s.1; within = s.2 }

misfit : {ts : List Token} (f : TextRefusal) → (h : Front limit 1 whole ts f) → NamesMisfit f → Counts f → f ≡ refused_at h.rest → IsMisfit ts f
misfit f h kept counts is = record {
  before = tokens_of h.taken;
  rest = h.rest;
  split = h.split;
  refusal_is = is;
  begins = record { marks = h.taken; more = h.more; raw = h.values.0; program = record { stop = h.values.1.0; derives = h.derives }; spelled = refl; within = h.within };
  none = λ ms raw rest' is alike spelled.
      let d = deepest ms in
      not_both (subst (λ xs. Takes d.0 1 whole xs (raw, (is.stop, tt)) []) (append-nil (tokens_of ms) ∙ spelled) (takes_whole [] is.derives d.2))
      (h.again kept d.0 d.1 rest' alike) (refused_at-counts rest');
}

too_deep : {ts : List Token} {at : ℕ} → Front limit 1 whole ts (TooDeep at) → IsTooDeep ts at
too_deep h = record {
  before = h.taken;
  next = h.stands.mark;
  more = h.stands.others;
  rest = h.stands.after;
  raw = h.values.0;
  program = record { stop = h.values.1.0; derives = subst (λ ms. Derives 1 whole (h.taken ++ ms) h.values) h.stands.more_is h.derives };
  split = h.split ∙ ap (λ xs. tokens_of h.taken ++ xs) h.stands.rest_is;
  place_is = h.stands.place_is;
  within = h.within;
  deep = h.stands.deep;
}

refused : {ts : List Token} (f : TextRefusal) → Front limit 1 whole ts f → IsTokensRefusal ts f
refused Memory h = inl refl
refused TooLong h = absurd h.stands
refused (BadByte p) h = inr (misfits (misfit (BadByte p) h tt tt h.stands))
refused (BadName p) h = inr (misfits (misfit (BadName p) h tt tt h.stands))
refused (BadNumber p) h = inr (misfits (misfit (BadNumber p) h tt tt h.stands))
refused (Unexpected p) h = inr (misfits (misfit (Unexpected p) h tt tt h.stands))
refused (TooDeep p) h = inr (nests (too_deep h))

-- tokens that fail are refused
pub tokens_failed : {ts : List Token} {f : TextRefusal} → Fails limit 1 whole ts f → IsTokensRefusal ts f
tokens_failed {f = f} fault = refused f (front fault)

-- the exit of a `?` passes the refusal on
pub exit : {A E : Type 0} (P : A → Type 0) (Q : E → Type 0) {e : E} (r : Result A E) → IsErrAnd r (λ x. x ≡ e) → Q e → MatchResult r P Q
exit P Q (Ok v) is why = elim is [ ]
exit P Q (Err x) is why = subst Q (sym is) why

-- what is answered of the tokens of a text is answered of the text
pub text_answer : {text : List ℕ} {ts : List Token} (r : Result RawProgram TextRefusal) → length text ≤ 65536 → Lexes 0 text ts
    → MatchResult r (ReadsTokens ts) (IsTokensRefusal ts) → MatchResult r (Reads text) (IsTextRefusal text)
text_answer {text} {ts} (Ok raw) short lexes reads = record { short = short; tokens = ts; lexes = lexes; reads = reads }
text_answer {text} {ts} (Err f) short lexes (inl memory) = inl memory
text_answer {text} {ts} (Err f) short lexes (inr why) = inr (within_limit ts short lexes why)

-- a text reads as one tree
pub reads_one : {text : List ℕ} {raw raw' : RawProgram} → Reads text raw → Reads text raw' → raw ≡ raw'
reads_one {text} {raw} {raw'} h h' =
    let reads : ReadsTokens h.tokens raw' = subst (λ ts. ReadsTokens ts raw') (lexes_one h'.lexes h.lexes) h'.reads in
    ap (λ vs. vs.0) (unique (taken h.reads) (taken reads)).0
