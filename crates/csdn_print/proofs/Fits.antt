-- Each tree that a text reads as prints, and no deeper than the text.
use Rattle.std.proofs.Common.{◌≡◌, ℕ, ◌+◌, ◌≤◌, Bool, true, false, cond, ltb, List, [], ◌∷◌, ◌++◌, Option, Some, None, inl, inr, refl, subst, arith}
use Rattle.csdn_core.specs.declared.terms.Sort.{Sort}
use Rattle.csdn_core.specs.WellSorted.{IsNumeral}
use Rattle.csdn_tree.specs.declared.names.RawName.{RawName}
use Rattle.csdn_tree.specs.declared.names.RawTerm.{RawTerm}
use Rattle.csdn_tree.specs.declared.names.RawTerm.TheVariants as t
use Rattle.csdn_tree.specs.declared.syntax.Connective.{Connective}
use Rattle.csdn_tree.specs.declared.syntax.Connective.TheVariants as word
use Rattle.csdn_tree.specs.declared.syntax.Quantifier.{Quantifier}
use Rattle.csdn_tree.specs.declared.syntax.RawFormula.{RawFormula}
use Rattle.csdn_tree.specs.declared.syntax.RawFormula.TheVariants as f
use Rattle.csdn_tree.specs.declared.syntax.RawCommand.{RawCommand}
use Rattle.csdn_tree.specs.declared.syntax.RawCommand.TheVariants as c
use Rattle.csdn_tree.specs.declared.syntax.RawItem.{RawItem}
use Rattle.csdn_tree.specs.RawTree.{raw_not, raw_two, raw_bind, Not-is, Two-is, Bind-is, Seq-is, If-is, Pick-is}
use Rattle.csdn_text.specs.declared.parts.Action.{Action}
use Rattle.csdn_text.specs.declared.parts.Action.TheVariants as a
use Rattle.csdn_text.specs.declared.parts.AtomRest.{AtomRest}
use Rattle.csdn_text.specs.declared.parts.AtomRest.TheVariants as r
use Rattle.csdn_text.specs.declared.parts.FlowTerms.{FlowTerms}
use Rattle.csdn_text.specs.declared.parts.PacketTerms.{PacketTerms}
use Rattle.csdn_tree.specs.declared.tiers.Tier.TheVariants.{Single, Joins}
use Rattle.csdn_tree.specs.Tiers.{left_of, right_of}
use Rattle.csdn_text.specs.Symbols.{Nonterminal, program, items, item, static_item, const_item, rel_item, invariant_item, invariant_kind, handler_item, handler_port, timeout_item, sorts, sort_list, more_sorts, sort, initial, rows, more_rows, row, terms, more_terms, name, term, port, formula, binds, more_binds, tier, tail, atom, atom_rest, fact, flow, packet, block, commands, more_commands, command, branch, choice, otherwise, action, depth_of, Symbol, token, part, Value, Values, made, Rule}
use Rattle.csdn_text.specs.Grammar.{joined, atom_of, command_of}
use Rattle.csdn_text.specs.Derives.{Mark, tokens_of, IsRule, Derives}
use Rattle.csdn_text.specs.Derives.Derives.{nothing, one, by_rule}
use Rattle.csdn_text.specs.Reading.{Within}
use Rattle.csdn_text.proofs.Theory.{Within-front, Within-back}
use Rattle.text_facts.proofs.Tokens.{IsFine, AreFine}
use Rattle.csdn_print.specs.Formulas.{tier_level, level}
use Rattle.csdn_print.specs.Commands.{is_skip}
use Rattle.csdn_print.proofs.Prints.{NamePrints, TermPrints, TermsPrint, inside, inside_least, Prints, is_single, CommandPrints, RowsPrint, PatternPrints, ItemPrints, ItemsPrint}

-- ---- less deep

inside_mono : (n m own d e : ℕ) → n ≤ m → d ≤ e → inside n own d ≤ inside m own e
inside_mono n m own d e le le' = go (ltb own n) (ltb own m) refl refl
  where
    go : (x y : Bool) → ltb own n ≡ x → ltb own m ≡ y → cond x (d + 1) d ≤ cond y (e + 1) e
    go true true h h' = omega (arith, le')
    go true false h h' = absurd (grind (arith, h, h', le))
    go false true h h' = omega (arith, le')
    go false false h h' = le'

inside_most : (n own d : ℕ) → inside n own d ≤ d + 1
inside_most n own d = go (ltb own n)
  where
    go : (x : Bool) → cond x (d + 1) d ≤ d + 1
    go true = omega arith
    go false = omega arith

lower : (most d e : ℕ) (p : RawFormula) → e ≤ d → Prints most d p → Prints most e p
unfolding Prints
lower most d e f.True le h = omega (arith, le, h)
lower most d e f.False le h = omega (arith, le, h)
lower most d e (f.Atom x us) le h = (omega (arith, le, h.0), h.1)
lower most d e (f.Same u v) le h = (omega (arith, le, h.0), h.1)
lower most d e (f.Flow at word ts) le h = (omega (arith, le, h.0), h.1)
lower most d e (f.RcvThis at ts) le h = (omega (arith, le, h.0), h.1)
lower most d e (raw_not p) le h = lower most (inside 5 (level p) (d + 1)) (inside 5 (level p) (e + 1)) p (inside_mono 5 5 (level p) (e + 1) (d + 1) (omega arith) (omega (arith, le))) h
lower most d e (raw_two word p r) le h =
    let left = tier_level (left_of word) in
    let right = tier_level (right_of word) in (
      lower most (inside left (level p) d) (inside left (level p) e) p (inside_mono left left (level p) e d (omega arith) le) h.0,
      lower most (inside right (level r) (d + 1)) (inside right (level r) (e + 1)) r (inside_mono right right (level r) (e + 1) (d + 1) (omega arith) (omega (arith, le))) h.1,
    )
lower most d e (raw_bind which x s p) le h = (h.0, lower most (d + 1) (e + 1) p (omega (arith, le)) h.1)

-- ---- what the shapes of values keep

-- what stands behind an operator, if anything does
abbrev Tail : (most needed d : ℕ) → Option RawFormula → Type 0
Tail most needed d None = Unit {0}
Tail most needed d (Some p) = Prints most (inside needed (level p) (d + 1)) p

two_prints : (most d : ℕ) (word : Connective) (p r : RawFormula) → Prints most (inside (tier_level (left_of word)) (level p) d) p → Prints most (inside (tier_level (right_of word)) (level r) (d + 1)) r
    → Prints most (inside (tier_level (Joins word)) (level (f.Two word p r)) d) (f.Two word p r)
unfolding Prints level
two_prints most d word.And p r h h' = rw Two-is (h, h')
two_prints most d word.Or p r h h' = rw Two-is (h, h')
two_prints most d word.Implies p r h h' = rw Two-is (h, h')
two_prints most d word.Iff p r h h' = rw Two-is (h, h')

left_above : (word : Connective) → tier_level (Joins word) ≤ tier_level (left_of word)
left_above word.And = omega arith
left_above word.Or = omega arith
left_above word.Implies = omega arith
left_above word.Iff = omega arith

joined_two : (most d : ℕ) (word : Connective) (p : RawFormula) (rest : Option RawFormula) → Prints most (inside (tier_level (left_of word)) (level p) d) p → Tail most (tier_level (right_of word)) d rest
    → Prints most (inside (tier_level (Joins word)) (level (joined (f.Two word) p rest)) d) (joined (f.Two word) p rest)
joined_two most d word p None h i =
    let own = tier_level (Joins word) in
    let left = tier_level (left_of word) in
    lower most (inside left (level p) d) (inside own (level p) d) p (inside_mono own left (level p) d d (left_above word) (omega arith)) h
joined_two most d word p (Some r) h i = two_prints most d word p r h i

not_prints : (most d : ℕ) (p : RawFormula) → Prints most (inside 5 (level p) (d + 1)) p → Prints most (inside 5 (level (f.Not p)) d) (f.Not p)
unfolding Prints level
not_prints most d p h = rw Not-is h

quantified_prints : (most d : ℕ) (which : Quantifier) (x : RawName) (s : Sort) (p : RawFormula) → NamePrints x → Prints most (d + 1) p → Prints most d (f.Bind which x s p)
unfolding Prints
quantified_prints most d which x s p h h' = rw Bind-is (h, h')

true_prints : (most d : ℕ) → d ≤ most → Prints most (inside 5 (level f.True) d) f.True
unfolding Prints level
true_prints most d h = h

false_prints : (most d : ℕ) → d ≤ most → Prints most (inside 5 (level f.False) d) f.False
unfolding Prints level
false_prints most d h = h

same_prints : (most d : ℕ) (u v : RawTerm) → d ≤ most → TermPrints u → TermPrints v → Prints most (inside 5 (level (f.Same u v)) d) (f.Same u v)
unfolding Prints level
same_prints most d u v h i j = (h, (i, j))

in_parentheses : (most d : ℕ) (p : RawFormula) → Prints most (d + 1) p → Prints most (inside 5 (level p) d) p
in_parentheses most d p h = lower most (d + 1) (inside 5 (level p) d) p (inside_most 5 (level p) d) h

bare_iff : (most d : ℕ) (p : RawFormula) → Prints most (inside 1 (level p) d) p → Prints most d p
bare_iff most d p h = lower most (inside 1 (level p) d) d p (inside_least 1 (level p) d) h

abbrev FlowTermsPrint : FlowTerms → Type 0
FlowTermsPrint ts = TermPrints ts.source × (TermPrints ts.target × (TermPrints ts.ingress × TermPrints ts.egress))

abbrev PacketTermsPrint : PacketTerms → Type 0
PacketTermsPrint ts = TermPrints ts.source × (TermPrints ts.target × TermPrints ts.ingress)

abbrev RestPrints : AtomRest → Type 0
RestPrints (r.Row ts) = TermsPrint ts
RestPrints (r.Same u) = TermPrints u
RestPrints (r.Flow at word ts) = FlowTermsPrint ts
RestPrints (r.RcvThis at ts) = PacketTermsPrint ts

atom_prints : (most d : ℕ) (x : RawName) (rest : AtomRest) → d ≤ most → NamePrints x → RestPrints rest → Prints most (inside 5 (level (atom_of x rest)) d) (atom_of x rest)
unfolding Prints level
atom_prints most d x (r.Row ts) h i j = (h, (i, j))
atom_prints most d x (r.Same u) h i j = (h, (i, j))
atom_prints most d x (r.Flow at word ts) h i j = (h, (i, j))
atom_prints most d x (r.RcvThis at ts) h i j = (h, (i, j))

abbrev ActionPrints : Action → Type 0
ActionPrints (a.Change word ts) = TermsPrint ts
ActionPrints (a.Switch word ts) = FlowTermsPrint ts
ActionPrints (a.Flood ts) = PacketTermsPrint ts

-- a command that prints, and is no row of commands
abbrev SinglePrints : (most d : ℕ) → RawCommand → Type 0
SinglePrints most d x = (is_single x ≡ true) × CommandPrints most d x

action_prints : (most d : ℕ) (x : RawName) (act : Action) → d ≤ most → NamePrints x → ActionPrints act → SinglePrints most d (command_of x act)
unfolding CommandPrints is_single
action_prints most d x (a.Change word ts) h i j = (refl, (h, (i, j)))
action_prints most d x (a.Switch word ts) h i j = (refl, (h, (i, j)))
action_prints most d x (a.Flood ts) h i j = (refl, (h, (i, j)))

skip_prints : (most d : ℕ) → d ≤ most → SinglePrints most d c.Skip
unfolding CommandPrints is_single
skip_prints most d h = (refl, h)

abbrev OtherPrints : (most d : ℕ) → RawCommand → Type 0
OtherPrints most d b = is_skip b ≡ false → CommandPrints most (d + 1) b

no_other : (most d : ℕ) → OtherPrints most d c.Skip
unfolding is_skip
no_other most d e = absurd cc

if_prints : (most d : ℕ) (p : RawFormula) (a b : RawCommand) → Prints most d p → CommandPrints most (d + 1) a → OtherPrints most d b → SinglePrints most d (c.If p a b)
unfolding CommandPrints is_single
if_prints most d p a b h i j = rw If-is (refl, (h, (i, j)))

pick_prints : (most d : ℕ) (x : RawName) (s : Sort) (p : RawFormula) (a b : RawCommand) → NamePrints x → Prints most d p → CommandPrints most (d + 1) a → OtherPrints most d b → SinglePrints most d (c.Pick x s p a b)
unfolding CommandPrints is_single
pick_prints most d x s p a b k h i j = rw Pick-is (refl, (k, (h, (i, j))))

seq_prints : (most d : ℕ) (a b : RawCommand) → SinglePrints most d a → CommandPrints most (d + 1) b → CommandPrints most d (c.Seq a b)
unfolding CommandPrints
seq_prints most d a b h i = rw Seq-is (h.0, (h.1, i))

abbrev More : (most d : ℕ) → Option RawCommand → Type 0
More most d None = Unit {0}
More most d (Some b) = CommandPrints most (d + 1) b

joined_seq : (most d : ℕ) (a : RawCommand) (more : Option RawCommand) → SinglePrints most d a → More most d more → CommandPrints most d (joined c.Seq a more)
joined_seq most d a None h i = h.1
joined_seq most d a (Some b) h i = seq_prints most d a b h i

-- ---- all that is derived

abbrev pub HasItem : List RawItem → Type 0
HasItem [] = ⊥
HasItem (x ∷ xs) = Unit {0}

-- what is said of the value of a nonterminal at a depth
abbrev Good : (most d : ℕ) → (n : Nonterminal) → Value n → Type 0
Good most d program v = HasItem v.items × ItemsPrint most d v.items
Good most d items v = ItemsPrint most d v
Good most d item v = ItemPrints most d v
Good most d static_item v = ItemPrints most d v
Good most d const_item v = ItemPrints most d v
Good most d rel_item v = ItemPrints most d v
Good most d invariant_item v = ItemPrints most d v
Good most d invariant_kind v = Unit {0}
Good most d handler_item v = ItemPrints most d v
Good most d timeout_item v = ItemPrints most d v
Good most d handler_port v = PatternPrints v
Good most d sorts v = Unit {0}
Good most d sort_list v = Unit {0}
Good most d more_sorts v = Unit {0}
Good most d sort v = Unit {0}
Good most d initial v = RowsPrint v
Good most d rows v = RowsPrint v
Good most d more_rows v = RowsPrint v
Good most d row v = TermsPrint v.terms
Good most d terms v = TermsPrint v
Good most d more_terms v = TermsPrint v
Good most d name v = (d ≤ most) × NamePrints v
Good most d term v = TermPrints v
Good most d port v = (d ≤ most) × IsNumeral v.number
Good most d formula v = Prints most d v
Good most d (binds which) v = Prints most d v
Good most d (more_binds which) v = Prints most d v
Good most d (tier t) v = Prints most (inside (tier_level t) (level v) d) v
Good most d (tail word) v = Tail most (tier_level (right_of word)) d v
Good most d atom v = Prints most (inside 5 (level v) d) v
Good most d atom_rest v = RestPrints v
Good most d fact v = RestPrints v
Good most d flow v = FlowTermsPrint v
Good most d packet v = PacketTermsPrint v
Good most d block v = CommandPrints most (d + 1) v
Good most d commands v = CommandPrints most d v
Good most d more_commands v = More most d v
Good most d command v = SinglePrints most d v
Good most d branch v = SinglePrints most d v
Good most d choice v = SinglePrints most d v
Good most d otherwise v = OtherPrints most d v
Good most d action v = ActionPrints v

abbrev Goods : (most d : ℕ) → (ss : List Symbol) → Values ss → Type 0
Goods most d [] vs = Unit {0}
Goods most d (token k l ∷ ss) vs = ((depth_of d l ≤ most) × (IsFine vs.0 × (vs.0.kind ≡ k))) × Goods most d ss vs.1
Goods most d (part n l ∷ ss) vs = Good most (depth_of d l) n vs.0 × Goods most d ss vs.1

abbrev Keeps : (most d : ℕ) (n : Nonterminal) → Rule n → Type 0
Keeps most d n r = (us : Values r.parts) → Goods most d r.parts us → Good most d n (made r.parts r.gives us)

keeps : (most d : ℕ) (n : Nonterminal) (r : Rule n) → IsRule n r → Keeps most d n r
keeps most d program r (inl e) = subst (Keeps most d program) e (λ us g. (tt, (g.0, g.1.0)))
keeps most d program r (inr (a)) = absurd a
keeps most d items r (inl e) = subst (Keeps most d items) e (λ us g. (g.0, g.1.0))
keeps most d items r (inr (inl e)) = subst (Keeps most d items) e (λ us g. tt)
keeps most d items r (inr (inr (a))) = absurd a
keeps most d item r (inl e) = subst (Keeps most d item) e (λ us g. g.0)
keeps most d item r (inr (inl e)) = subst (Keeps most d item) e (λ us g. g.0)
keeps most d item r (inr (inr (inl e))) = subst (Keeps most d item) e (λ us g. g.0)
keeps most d item r (inr (inr (inr (inl e)))) = subst (Keeps most d item) e (λ us g. g.0)
keeps most d item r (inr (inr (inr (inr (inl e))))) = subst (Keeps most d item) e (λ us g. g.0)
keeps most d item r (inr (inr (inr (inr (inr (inl e)))))) = subst (Keeps most d item) e (λ us g. g.0)
keeps most d item r (inr (inr (inr (inr (inr (inr (a))))))) = absurd a
keeps most d static_item r (inl e) = subst (Keeps most d static_item) e (λ us g. (g.1.0.1, (tt, λ e. refl)))
keeps most d static_item r (inr (a)) = absurd a
keeps most d const_item r (inl e) = subst (Keeps most d const_item) e (λ us g. g.1.0.1)
keeps most d const_item r (inr (a)) = absurd a
keeps most d rel_item r (inl e) = subst (Keeps most d rel_item) e (λ us g. (g.1.0.1, (g.1.1.1.0, λ e. absurd cc)))
keeps most d rel_item r (inr (a)) = absurd a
keeps most d invariant_item r (inl e) = subst (Keeps most d invariant_item) e (λ us g. (g.1.0.1, g.1.1.1.0))
keeps most d invariant_item r (inr (a)) = absurd a
keeps most d invariant_kind r (inl e) = subst (Keeps most d invariant_kind) e (λ us g. tt)
keeps most d invariant_kind r (inr (inl e)) = subst (Keeps most d invariant_kind) e (λ us g. tt)
keeps most d invariant_kind r (inr (inr (inl e))) = subst (Keeps most d invariant_kind) e (λ us g. tt)
keeps most d invariant_kind r (inr (inr (inr (a)))) = absurd a
keeps most d handler_item r (inl e) = subst (Keeps most d handler_item) e (λ us g. (g.1.1.0.1, (g.1.1.1.1.0.1, (g.1.1.1.1.1.1.0.1, (g.1.1.1.1.1.1.1.1.0, g.1.1.1.1.1.1.1.1.1.1.0)))))
keeps most d handler_item r (inr (a)) = absurd a
keeps most d timeout_item r (inl e) = subst (Keeps most d timeout_item) e (λ us g. g.1.0.1.0.number g.1.0.1.1)
keeps most d timeout_item r (inr (a)) = absurd a
keeps most d handler_port r (inl e) = subst (Keeps most d handler_port) e (λ us g. g.0.1)
keeps most d handler_port r (inr (inl e)) = subst (Keeps most d handler_port) e (λ us g. g.0.1)
keeps most d handler_port r (inr (inr (a))) = absurd a
keeps most d sorts r (inl e) = subst (Keeps most d sorts) e (λ us g. tt)
keeps most d sorts r (inr (a)) = absurd a
keeps most d sort_list r (inl e) = subst (Keeps most d sort_list) e (λ us g. tt)
keeps most d sort_list r (inr (inl e)) = subst (Keeps most d sort_list) e (λ us g. tt)
keeps most d sort_list r (inr (inr (a))) = absurd a
keeps most d more_sorts r (inl e) = subst (Keeps most d more_sorts) e (λ us g. tt)
keeps most d more_sorts r (inr (inl e)) = subst (Keeps most d more_sorts) e (λ us g. tt)
keeps most d more_sorts r (inr (inr (a))) = absurd a
keeps most d sort r (inl e) = subst (Keeps most d sort) e (λ us g. tt)
keeps most d sort r (inr (inl e)) = subst (Keeps most d sort) e (λ us g. tt)
keeps most d sort r (inr (inr (inl e))) = subst (Keeps most d sort) e (λ us g. tt)
keeps most d sort r (inr (inr (inr (a)))) = absurd a
keeps most d initial r (inl e) = subst (Keeps most d initial) e (λ us g. g.1.1.0)
keeps most d initial r (inr (inl e)) = subst (Keeps most d initial) e (λ us g. tt)
keeps most d initial r (inr (inr (a))) = absurd a
keeps most d rows r (inl e) = subst (Keeps most d rows) e (λ us g. (g.0, g.1.0))
keeps most d rows r (inr (inl e)) = subst (Keeps most d rows) e (λ us g. tt)
keeps most d rows r (inr (inr (a))) = absurd a
keeps most d more_rows r (inl e) = subst (Keeps most d more_rows) e (λ us g. (g.1.0, g.1.1.0))
keeps most d more_rows r (inr (inl e)) = subst (Keeps most d more_rows) e (λ us g. tt)
keeps most d more_rows r (inr (inr (a))) = absurd a
keeps most d row r (inl e) = subst (Keeps most d row) e (λ us g. g.1.0)
keeps most d row r (inr (a)) = absurd a
keeps most d terms r (inl e) = subst (Keeps most d terms) e (λ us g. (g.0, g.1.0))
keeps most d terms r (inr (inl e)) = subst (Keeps most d terms) e (λ us g. tt)
keeps most d terms r (inr (inr (a))) = absurd a
keeps most d more_terms r (inl e) = subst (Keeps most d more_terms) e (λ us g. (g.1.0, g.1.1.0))
keeps most d more_terms r (inr (inl e)) = subst (Keeps most d more_terms) e (λ us g. tt)
keeps most d more_terms r (inr (inr (a))) = absurd a
keeps most d name r (inl e) = subst (Keeps most d name) e (λ us g. (g.0.0, g.0.1.0.name g.0.1.1))
keeps most d name r (inr (a)) = absurd a
keeps most d term r (inl e) = subst (Keeps most d term) e (λ us g. g.0.1)
keeps most d term r (inr (inl e)) = subst (Keeps most d term) e (λ us g. g.0.1)
keeps most d term r (inr (inr (a))) = absurd a
keeps most d port r (inl e) = subst (Keeps most d port) e (λ us g. (g.0.0, g.1.1.0.1.0.number g.1.1.0.1.1))
keeps most d port r (inr (a)) = absurd a
keeps most d formula r (inl e) = subst (Keeps most d formula) e (λ us g. g.1.0)
keeps most d formula r (inr (inl e)) = subst (Keeps most d formula) e (λ us g. g.1.0)
keeps most d formula r (inr (inr (inl e))) = subst (Keeps most d formula) e (λ us g. bare_iff most d us.0 g.0)
keeps most d formula r (inr (inr (inr (a)))) = absurd a
keeps most d (binds which) r (inl e) = subst (Keeps most d (binds which)) e (λ us g. quantified_prints most d which us.0 us.1.1.0 us.1.1.1.0 g.0.1 g.1.1.1.0)
keeps most d (binds which) r (inr (a)) = absurd a
keeps most d (more_binds which) r (inl e) = subst (Keeps most d (more_binds which)) e (λ us g. g.1.0)
keeps most d (more_binds which) r (inr (inl e)) = subst (Keeps most d (more_binds which)) e (λ us g. g.1.0)
keeps most d (more_binds which) r (inr (inr (a))) = absurd a
keeps most d (tier Single) r (inl e) = subst (Keeps most d (tier Single)) e (λ us g. not_prints most d us.1.0 g.1.0)
keeps most d (tier Single) r (inr (inl e)) = subst (Keeps most d (tier Single)) e (λ us g. g.0)
keeps most d (tier Single) r (inr (inr (a))) = absurd a
keeps most d (tier (Joins word)) r (inl e) = subst (Keeps most d (tier (Joins word))) e (λ us g. joined_two most d word us.0 us.1.0 g.0 g.1.0)
keeps most d (tier (Joins word)) r (inr (a)) = absurd a
keeps most d (tail word) r (inl e) = subst (Keeps most d (tail word)) e (λ us g. g.1.0)
keeps most d (tail word) r (inr (inl e)) = subst (Keeps most d (tail word)) e (λ us g. tt)
keeps most d (tail word) r (inr (inr (a))) = absurd a
keeps most d atom r (inl e) = subst (Keeps most d atom) e (λ us g. true_prints most d g.0.0)
keeps most d atom r (inr (inl e)) = subst (Keeps most d atom) e (λ us g. false_prints most d g.0.0)
keeps most d atom r (inr (inr (inl e))) = subst (Keeps most d atom) e (λ us g. in_parentheses most d us.1.0 g.1.0)
keeps most d atom r (inr (inr (inr (inl e)))) = subst (Keeps most d atom) e (λ us g. same_prints most d (t.Port us.0) us.1.1.0 g.0.0 g.0.1 g.1.1.0)
keeps most d atom r (inr (inr (inr (inr (inl e))))) = subst (Keeps most d atom) e (λ us g. atom_prints most d us.0 us.1.0 g.0.0 g.0.1 g.1.0)
keeps most d atom r (inr (inr (inr (inr (inr (a)))))) = absurd a
keeps most d atom_rest r (inl e) = subst (Keeps most d atom_rest) e (λ us g. g.1.0)
keeps most d atom_rest r (inr (inl e)) = subst (Keeps most d atom_rest) e (λ us g. g.1.0)
keeps most d atom_rest r (inr (inr (inl e))) = subst (Keeps most d atom_rest) e (λ us g. g.0)
keeps most d atom_rest r (inr (inr (inr (a)))) = absurd a
keeps most d fact r (inl e) = subst (Keeps most d fact) e (λ us g. g.1.0)
keeps most d fact r (inr (inl e)) = subst (Keeps most d fact) e (λ us g. g.1.0)
keeps most d fact r (inr (inr (inl e))) = subst (Keeps most d fact) e (λ us g. g.1.0)
keeps most d fact r (inr (inr (inr (a)))) = absurd a
keeps most d flow r (inl e) = subst (Keeps most d flow) e (λ us g. (g.1.0, (g.1.1.1.0, (g.1.1.1.1.1.0, g.1.1.1.1.1.1.1.0))))
keeps most d flow r (inr (a)) = absurd a
keeps most d packet r (inl e) = subst (Keeps most d packet) e (λ us g. (g.1.0, (g.1.1.1.0, g.1.1.1.1.1.0)))
keeps most d packet r (inr (a)) = absurd a
keeps most d block r (inl e) = subst (Keeps most d block) e (λ us g. g.1.0)
keeps most d block r (inr (a)) = absurd a
keeps most d commands r (inl e) = subst (Keeps most d commands) e (λ us g. joined_seq most d us.0 us.1.0 g.0 g.1.0)
keeps most d commands r (inr (a)) = absurd a
keeps most d more_commands r (inl e) = subst (Keeps most d more_commands) e (λ us g. g.0)
keeps most d more_commands r (inr (inl e)) = subst (Keeps most d more_commands) e (λ us g. tt)
keeps most d more_commands r (inr (inr (a))) = absurd a
keeps most d command r (inl e) = subst (Keeps most d command) e (λ us g. skip_prints most d g.0.0)
keeps most d command r (inr (inl e)) = subst (Keeps most d command) e (λ us g. g.0)
keeps most d command r (inr (inr (inl e))) = subst (Keeps most d command) e (λ us g. g.0)
keeps most d command r (inr (inr (inr (inl e)))) = subst (Keeps most d command) e (λ us g. action_prints most d us.0 us.1.1.0 g.0.0 g.0.1 g.1.1.0)
keeps most d command r (inr (inr (inr (inr (a))))) = absurd a
keeps most d branch r (inl e) = subst (Keeps most d branch) e (λ us g. if_prints most d us.1.0 us.1.1.0 us.1.1.1.0 g.1.0 g.1.1.0 g.1.1.1.0)
keeps most d branch r (inr (a)) = absurd a
keeps most d choice r (inl e) = subst (Keeps most d choice) e (λ us g. pick_prints most d us.1.0 us.1.1.1.0 us.1.1.1.1.1.0 us.1.1.1.1.1.1.0 us.1.1.1.1.1.1.1.0 g.1.0.1 g.1.1.1.1.1.0 g.1.1.1.1.1.1.0 g.1.1.1.1.1.1.1.0)
keeps most d choice r (inr (a)) = absurd a
keeps most d otherwise r (inl e) = subst (Keeps most d otherwise) e (λ us g. λ e. g.1.0)
keeps most d otherwise r (inr (inl e)) = subst (Keeps most d otherwise) e (λ us g. no_other most d)
keeps most d otherwise r (inr (inr (a))) = absurd a
keeps most d action r (inl e) = subst (Keeps most d action) e (λ us g. g.1.0)
keeps most d action r (inr (inl e)) = subst (Keeps most d action) e (λ us g. g.1.0)
keeps most d action r (inr (inr (inl e))) = subst (Keeps most d action) e (λ us g. g.1.0)
keeps most d action r (inr (inr (inr (inl e)))) = subst (Keeps most d action) e (λ us g. g.1.0)
keeps most d action r (inr (inr (inr (inr (inl e))))) = subst (Keeps most d action) e (λ us g. g.1.0)
keeps most d action r (inr (inr (inr (inr (inr (inl e)))))) = subst (Keeps most d action) e (λ us g. g.1.0)
keeps most d action r (inr (inr (inr (inr (inr (inr (a))))))) = absurd a

fine_front : (ms ms' : List Mark) → AreFine (tokens_of (ms ++ ms')) → AreFine (tokens_of ms)
fine_front [] ms' h = tt
fine_front (m ∷ ms) ms' h = (h.0, fine_front ms ms' h.1)

fine_back : (ms ms' : List Mark) → AreFine (tokens_of (ms ++ ms')) → AreFine (tokens_of ms')
fine_back [] ms' h = h
fine_back (m ∷ ms) ms' h = fine_back ms ms' h.1

-- what is derived is good
pub goods : (most : ℕ) {d : ℕ} {ss : List Symbol} {ms : List Mark} {vs : Values ss} → Derives d ss ms vs → Within most ms → AreFine (tokens_of ms) → Goods most d ss vs
goods most nothing deep fine = tt
goods most (one is later) deep fine = ((deep.0, (fine.0, is)), goods most later deep.1 fine.1)
goods most (by_rule {d} {l} {n} {ss} {ms} {ms'} r is {us} inner later) deep fine =
    (keeps most (depth_of d l) n r is us (goods most inner (Within-front most ms ms' deep) (fine_front ms ms' fine)), goods most later (Within-back most ms ms' deep) (fine_back ms ms' fine))
