-- Formulas, as they are printed.
use Rattle.std.proofs.Common.{◌≡◌, ℕ, zero, suc, ◌+◌, ◌-◌, ◌≤◌, Bool, true, false, cond, ltb, List, ◌∷◌, ◌++◌, length, inl, inr, refl, subst, append-nil, arith}
use Rattle.std.specs.Prelude.{codes}
use Rattle.std.proofs.lemmas.Bool.{ltb-false}
use Rattle.csdn_tokens.specs.declared.Kind.TheVariants as k
use Rattle.csdn_tokens.specs.Lex.{word_kind}
use Rattle.csdn_tokens.specs.declared.Token.{Token}
use Rattle.csdn_tree.specs.declared.names.RawName.{RawName}
use Rattle.csdn_tree.specs.declared.syntax.Connective.{Connective}
use Rattle.csdn_tree.specs.declared.syntax.Connective.TheVariants as w
use Rattle.csdn_tree.specs.declared.tiers.Tier.{Tier}
use Rattle.csdn_tree.specs.declared.tiers.Tier.TheVariants.{Single, Joins}
use Rattle.csdn_tree.specs.Tiers.{left_of}
use Rattle.csdn_tree.specs.declared.syntax.RawFlow.{RawFlow}
use Rattle.csdn_tree.specs.declared.syntax.RawPacket.{RawPacket}
use Rattle.csdn_tree.specs.declared.syntax.RawFormula.{RawFormula}
use Rattle.csdn_text.specs.Symbols.{formula, tier, flow, packet, deeper, Values, Symbol, token}
use Rattle.csdn_text.specs.Grammar.{kind_of, flow_of, packet_of}
use Rattle.csdn_print.specs.Words.{term_text, flow_text, packet_text}
use Rattle.csdn_print.specs.Formulas.{tier_level, operand, connective_text}
use Rattle.csdn_print.specs.Placeless.{bare_flow, bare_packet, bare_formula}
use Rattle.csdn_print.proofs.Prints.{FlowPrints, PacketPrints, inside}
use Rattle.csdn_print.proofs.Lexing.{opens, IsWord, reserved, open_is, close_is, comma_is}
use Rattle.csdn_print.proofs.Lines.{Line, nil, gap, symbol, arrow, double_arrow, word, along, by, before, final}
use Rattle.csdn_print.proofs.WordLines.{Again, term_again}

-- the same formula, places aside
abbrev pub SameAs : RawFormula → RawFormula → Type 0
SameAs p v = bare_formula v ≡ bare_formula p

-- ---- reserved words

pub true_is : IsWord (codes "true") k.True
unfolding word_kind
true_is = reserved (codes "true") k.True refl (omega arith) refl

pub false_is : IsWord (codes "false") k.False
unfolding word_kind
false_is = reserved (codes "false") k.False refl (omega arith) refl

pub not_is : IsWord (codes "not") k.Not
unfolding word_kind
not_is = reserved (codes "not") k.Not refl (omega arith) refl

pub and_is : IsWord (codes "and") k.And
unfolding word_kind
and_is = reserved (codes "and") k.And refl (omega arith) refl

pub or_is : IsWord (codes "or") k.Or
unfolding word_kind
or_is = reserved (codes "or") k.Or refl (omega arith) refl

pub forall_is : IsWord (codes "forall") k.Forall
unfolding word_kind
forall_is = reserved (codes "forall") k.Forall refl (omega arith) refl

pub exists_is : IsWord (codes "exists") k.Exists
unfolding word_kind
exists_is = reserved (codes "exists") k.Exists refl (omega arith) refl

pub ft_is : IsWord (codes "ft") k.Ft
unfolding word_kind
ft_is = reserved (codes "ft") k.Ft refl (omega arith) refl

pub sent_is : IsWord (codes "sent") k.Sent
unfolding word_kind
sent_is = reserved (codes "sent") k.Sent refl (omega arith) refl

pub rcv_this_is : IsWord (codes "rcv_this") k.RcvThis
unfolding word_kind
rcv_this_is = reserved (codes "rcv_this") k.RcvThis refl (omega arith) refl

-- ---- flows and packets

pub flow_again : {most d : ℕ} (x : RawName) (w : RawFlow) → d ≤ most → FlowPrints w → (at : ℕ)
    → Again most d at flow (flow_text w) (λ v. bare_flow (flow_of x v) ≡ bare_flow (record w { switch = x }))
flow_again x w room is at =
    let a = term_again w.source room is.1.0 (at + 1) in
    let b = term_again w.target room is.1.1.0 (at + 1 + length (term_text w.source) + 2) in
    let i = term_again w.ingress room is.1.1.1.0 (at + 1 + length (term_text w.source) + 2 + length (term_text w.target) + 1 + 1) in
    let o = term_again w.egress room is.1.1.1.1 (at + 1 + length (term_text w.source) + 2 + length (term_text w.target) + 1 + 1 + length (term_text w.ingress) + 2) in
    record {
      value = _;
      line = by _ (inl refl) (symbol open_is room (before a.line refl (arrow room (before b.line refl (symbol comma_is room (gap 32 refl (before i.line refl (arrow room (before o.line refl (symbol close_is room nil))))))))));
      same = let e1 = a.same in let e2 = b.same in let e3 = i.same in let e4 = o.same in cc;
    }

pub packet_again : {most d : ℕ} (x : RawName) (w : RawPacket) → d ≤ most → PacketPrints w → (at : ℕ)
    → Again most d at packet (packet_text w) (λ v. bare_packet (packet_of x v) ≡ bare_packet (record w { switch = x }))
packet_again x w room is at =
    let a = term_again w.source room is.1.0 (at + 1) in
    let b = term_again w.target room is.1.1.0 (at + 1 + length (term_text w.source) + 2) in
    let i = term_again w.ingress room is.1.1.1 (at + 1 + length (term_text w.source) + 2 + length (term_text w.target) + 1 + 1) in
    record {
      value = _;
      line = by _ (inl refl) (symbol open_is room (before a.line refl (arrow room (before b.line refl (symbol comma_is room (gap 32 refl (before i.line refl (symbol close_is room nil))))))));
      same = let e1 = a.same in let e2 = b.same in let e3 = i.same in cc;
    }

-- ---- levels

-- where a formula of a level stands, of which one less is given
abbrev tier_at : ℕ → Tier
tier_at zero = Joins w.Iff
tier_at (suc zero) = Joins w.Implies
tier_at (suc (suc zero)) = Joins w.Or
tier_at (suc (suc (suc zero))) = Joins w.And
tier_at (suc (suc (suc (suc n)))) = Single

abbrev ReadAt : (most d at needed : ℕ) → List ℕ → RawFormula → Type 0
ReadAt most d at zero bytes p = Again most d at formula bytes (SameAs p)
ReadAt most d at (suc n) bytes p = Again most d at (tier (tier_at n)) bytes (SameAs p)

-- these bytes are read as a formula at a place that needs a level
pub record FormulaAt (most d at needed : ℕ) (bytes : List ℕ) (p : RawFormula) : Type 0 where
  pub again : ReadAt most d at needed bytes p

-- what may stand to the left of a word may stand without it
alone : {most d at : ℕ} {bytes : List ℕ} (word : Connective) (p : RawFormula) → Again most d at (tier (left_of word)) bytes (SameAs p) → Again most d at (tier (Joins word)) bytes (SameAs p)
alone {bytes = bytes} word p a = record { value = a.value; line = by _ (inl refl) (along (append-nil bytes) (before a.line refl (final (by _ (inr (inl refl)) nil)))); same = a.same }

-- a formula may stand where a level less is needed
lower : {most d at : ℕ} {bytes : List ℕ} {p : RawFormula} (n : ℕ) → FormulaAt most d at (suc n) bytes p → FormulaAt most d at n bytes p
lower zero a = record { again = record { value = a.again.value; line = by _ (inr (inr (inl refl))) (final a.again.line); same = a.again.same } }
lower {p = p} (suc zero) a = record { again = alone w.Iff p a.again }
lower {p = p} (suc (suc zero)) a = record { again = alone w.Implies p a.again }
lower {p = p} (suc (suc (suc zero))) a = record { again = alone w.Or p a.again }
lower {p = p} (suc (suc (suc (suc zero)))) a = record { again = alone w.And p a.again }
lower (suc (suc (suc (suc (suc n))))) a = record { again = a.again }

-- .. and where some levels less are
lower_by : {most d at : ℕ} {bytes : List ℕ} {p : RawFormula} (j n : ℕ) → FormulaAt most d at (j + n) bytes p → FormulaAt most d at n bytes p
lower_by {most} {d} {at} {bytes} {p} zero n a = subst (λ i. FormulaAt most d at i bytes p) (let e : 0 + n ≡ n = omega arith in e) a
lower_by {most} {d} {at} {bytes} {p} (suc j) n a = lower_by j n (lower (j + n) (subst (λ i. FormulaAt most d at i bytes p) (let e : suc j + n ≡ suc (j + n) = omega arith in e) a))

pub to_level : {most d at : ℕ} {bytes : List ℕ} {p : RawFormula} (own needed : ℕ) → needed ≤ own → FormulaAt most d at own bytes p → FormulaAt most d at needed bytes p
to_level {most} {d} {at} {bytes} {p} own needed le a =
    lower_by (own - needed) needed (subst (λ i. FormulaAt most d at i bytes p) (let e : own ≡ (own - needed) + needed = omega (arith, le) in e) a)

-- in parentheses
wrapped : {most d at : ℕ} {bytes : List ℕ} {p : RawFormula} → d + 1 ≤ most → FormulaAt most (d + 1) (at + 1) 0 bytes p → FormulaAt most d at 5 (codes "(" ++ (bytes ++ codes ")")) p
wrapped room a = record { again = record { value = a.again.value; line = by _ (inr (inl refl)) (final (by _ (inr (inr (inl refl))) (symbol open_is room (before a.again.line refl (symbol close_is room nil))))); same = a.again.same } }

-- what a formula needs so as to stand at a depth, where its own level is needed
pub record Own (most d own : ℕ) (bytes : List ℕ) (p : RawFormula) : Type 0 where
  pub room : d ≤ most
  pub line : (at : ℕ) → FormulaAt most d at own bytes p

-- an operand, where a level is needed
pub operand_at : {most : ℕ} {bytes : List ℕ} {p : RawFormula} (d needed own : ℕ) → needed ≤ 5 → Own most (inside needed own d) own bytes p → (at : ℕ)
    → FormulaAt most d at needed (operand needed own bytes) p
operand_at {most} {bytes} {p} d needed own few h at = go (ltb own needed) refl h
  where
    go : (b : Bool) → ltb own needed ≡ b → Own most (cond b (d + 1) d) own bytes p → FormulaAt most d at needed (cond b (codes "(" ++ (bytes ++ codes ")")) bytes) p
    go true is a = to_level 5 needed few (wrapped a.room (to_level own 0 (omega arith) (a.line (at + 1))))
    go false is a = to_level own needed (ltb-false own needed is) (a.line at)

-- ---- words between two formulas

pub tier_small : (t : Tier) → tier_level t ≤ 5
tier_small Single = omega arith
tier_small (Joins w.And) = omega arith
tier_small (Joins w.Or) = omega arith
tier_small (Joins w.Implies) = omega arith
tier_small (Joins w.Iff) = omega arith

pub at_tier : {most d at : ℕ} {bytes : List ℕ} {p : RawFormula} (t : Tier) → FormulaAt most d at (tier_level t) bytes p → Again most d at (tier t) bytes (SameAs p)
at_tier Single a = a.again
at_tier (Joins w.And) a = a.again
at_tier (Joins w.Or) a = a.again
at_tier (Joins w.Implies) a = a.again
at_tier (Joins w.Iff) a = a.again

pub by_word : {most d at : ℕ} {bytes : List ℕ} {p : RawFormula} (word : Connective) → Again most d at (tier (Joins word)) bytes (SameAs p) → FormulaAt most d at (tier_level (Joins word)) bytes p
by_word w.And a = record { again = a }
by_word w.Or a = record { again = a }
by_word w.Implies a = record { again = a }
by_word w.Iff a = record { again = a }

pub opens_between : (word : Connective) (bytes : List ℕ) → opens (connective_text word ++ bytes) ≡ true
opens_between w.And bytes = refl
opens_between w.Or bytes = refl
opens_between w.Implies bytes = refl
opens_between w.Iff bytes = refl

-- at a place that is the same
moved : {most d : ℕ} {ss : List Symbol} {bytes : List ℕ} {vs : Values ss} (a b : ℕ) → a ≡ b → Line most d a ss bytes vs → Line most d b ss bytes vs
moved {most} {d} {ss} {bytes} {vs} a b e h = subst (λ n. Line most d n ss bytes vs) e h

pub between : {most d at : ℕ} {ss : List Symbol} {bytes : List ℕ} {vs : Values ss} (word : Connective) → d + 1 ≤ most → Line most d (at + length (connective_text word)) ss bytes vs
    → (t : Token) × Line most d at (token (kind_of word) deeper ∷ ss) (connective_text word ++ bytes) (t, vs)
between {at = at} w.And room a = (_, gap 32 refl (word (codes "and") and_is room refl (gap 32 refl (moved (at + 5) (at + 1 + 3 + 1) (omega arith) a))))
between {at = at} w.Or room a = (_, gap 32 refl (word (codes "or") or_is room refl (gap 32 refl (moved (at + 4) (at + 1 + 2 + 1) (omega arith) a))))
between {at = at} w.Implies room a = (_, gap 32 refl (arrow room (gap 32 refl (moved (at + 4) (at + 1 + 2 + 1) (omega arith) a))))
between {at = at} w.Iff room a = (_, gap 32 refl (double_arrow room (gap 32 refl (moved (at + 5) (at + 1 + 3 + 1) (omega arith) a))))
