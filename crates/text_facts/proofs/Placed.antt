-- The places in the value of whatever the grammar derives rise in the order of its tokens.
use Rattle.std.proofs.Common.{◌≡◌, ℕ, ◌+◌, ◌<◌, ◌≤◌, List, [], ◌∷◌, ◌++◌, Option, Some, None, inl, inr, refl, subst, ap, arith}
use Rattle.std.proofs.Math.Nat.{le_refl}
use Rattle.csdn_core.specs.declared.terms.Sort.{Sort}
use Rattle.csdn_tokens.specs.declared.Token.{Token}
use Rattle.csdn_tree.specs.declared.names.RawName.{RawName}
use Rattle.csdn_tree.specs.declared.names.RawTerm.{RawTerm}
use Rattle.csdn_tree.specs.declared.syntax.Connective.{Connective}
use Rattle.csdn_tree.specs.declared.syntax.Quantifier.{Quantifier}
use Rattle.csdn_tree.specs.declared.syntax.RawFormula.{RawFormula}
use Rattle.csdn_tree.specs.declared.syntax.RawFormula.TheVariants as f
use Rattle.csdn_tree.specs.declared.syntax.RawCommand.{RawCommand}
use Rattle.csdn_tree.specs.declared.syntax.RawCommand.TheVariants as c
use Rattle.csdn_tree.specs.Places.{place}
use Rattle.csdn_tree.specs.RawTree.{Not-is, Two-is, Bind-is, Seq-is, If-is, Pick-is}
use Rattle.csdn_tree.specs.Within.{TermsWithin, Within, CommandWithin, RowsWithin, port_place, ItemWithin, ItemsWithin}
use Rattle.csdn_text.specs.declared.parts.Action.{Action}
use Rattle.csdn_text.specs.declared.parts.Action.TheVariants as a
use Rattle.csdn_text.specs.declared.parts.AtomRest.{AtomRest}
use Rattle.csdn_text.specs.declared.parts.AtomRest.TheVariants as r
use Rattle.csdn_text.specs.declared.parts.FlowTerms.{FlowTerms}
use Rattle.csdn_text.specs.declared.parts.PacketTerms.{PacketTerms}
use Rattle.csdn_tree.specs.declared.tiers.Tier.TheVariants.{Single, Joins}
use Rattle.csdn_text.specs.Symbols.{Nonterminal, program, items, item, static_item, const_item, rel_item, invariant_item, invariant_kind, handler_item, handler_port, timeout_item, sorts, sort_list, more_sorts, sort, initial, rows, more_rows, row, terms, more_terms, name, term, port, formula, binds, more_binds, tier, tail, atom, atom_rest, fact, flow, packet, block, commands, more_commands, command, branch, choice, otherwise, action, Symbol, token, part, Value, Values, made, Rule}
use Rattle.csdn_text.specs.Grammar.{joined, atom_of, command_of}
use Rattle.csdn_text.specs.Derives.{Mark, IsRule, Derives}
use Rattle.csdn_text.specs.Derives.Derives.{nothing, one, by_rule}
use Rattle.text_facts.proofs.Tokens.{Rise}
use Rattle.text_facts.proofs.Widen.{widen_terms, widen_formula, widen_command, widen_rows, widen_item, widen_items}

abbrev flow_list : FlowTerms → List RawTerm
flow_list ts = ts.source ∷ ts.target ∷ ts.ingress ∷ ts.egress ∷ []

abbrev packet_list : PacketTerms → List RawTerm
packet_list ts = ts.source ∷ ts.target ∷ ts.ingress ∷ []

-- what stands there, if anything does
abbrev WithinIf : ℕ → Option RawFormula → ℕ → Type 0
WithinIf from None to = from ≤ to
WithinIf from (Some p) to = Within from p to

abbrev CommandWithinIf : ℕ → Option RawCommand → ℕ → Type 0
CommandWithinIf from None to = from ≤ to
CommandWithinIf from (Some x) to = CommandWithin from x to

abbrev RestWithin : ℕ → AtomRest → ℕ → Type 0
RestWithin from (r.Row ts) to = TermsWithin from ts to
RestWithin from (r.Same u) to = TermsWithin from (u ∷ []) to
RestWithin from (r.Flow at word ts) to = (from ≤ at) × TermsWithin (at + 1) (flow_list ts) to
RestWithin from (r.RcvThis at ts) to = (from ≤ at) × TermsWithin (at + 1) (packet_list ts) to

abbrev ActionWithin : ℕ → Action → ℕ → Type 0
ActionWithin from (a.Change word ts) to = TermsWithin from ts to
ActionWithin from (a.Switch word ts) to = TermsWithin from (flow_list ts) to
ActionWithin from (a.Flood ts) to = TermsWithin from (packet_list ts) to

-- the value of a nonterminal stands between two places
abbrev Placed : (n : Nonterminal) → Value n → ℕ → ℕ → Type 0
Placed program raw from to = ItemsWithin from raw.items to
Placed items xs from to = ItemsWithin from xs to
Placed item x from to = ItemWithin from x to
Placed static_item x from to = ItemWithin from x to
Placed const_item x from to = ItemWithin from x to
Placed rel_item x from to = ItemWithin from x to
Placed invariant_item x from to = ItemWithin from x to
Placed invariant_kind x from to = from ≤ to
Placed handler_item x from to = ItemWithin from x to
Placed timeout_item x from to = ItemWithin from x to
Placed handler_port x from to = (from ≤ port_place x) × (port_place x < to)
Placed sorts x from to = from ≤ to
Placed sort_list x from to = from ≤ to
Placed more_sorts x from to = from ≤ to
Placed sort x from to = from ≤ to
Placed initial rs from to = RowsWithin from rs to
Placed rows rs from to = RowsWithin from rs to
Placed more_rows rs from to = RowsWithin from rs to
Placed row x from to = (from ≤ x.at) × TermsWithin (x.at + 1) x.terms to
Placed terms ts from to = TermsWithin from ts to
Placed more_terms ts from to = TermsWithin from ts to
Placed name x from to = (from ≤ x.at) × (x.at < to)
Placed term x from to = (from ≤ place x) × (place x < to)
Placed port x from to = (from ≤ x.at) × (x.at < to)
Placed formula p from to = Within from p to
Placed (binds which) p from to = Within from p to
Placed (more_binds which) p from to = Within from p to
Placed (tier t) p from to = Within from p to
Placed (tail word) p from to = WithinIf from p to
Placed atom p from to = Within from p to
Placed atom_rest x from to = RestWithin from x to
Placed fact x from to = RestWithin from x to
Placed flow ts from to = TermsWithin from (flow_list ts) to
Placed packet ts from to = TermsWithin from (packet_list ts) to
Placed block x from to = CommandWithin from x to
Placed commands x from to = CommandWithin from x to
Placed more_commands x from to = CommandWithinIf from x to
Placed command x from to = CommandWithin from x to
Placed branch x from to = CommandWithin from x to
Placed choice x from to = CommandWithin from x to
Placed otherwise x from to = CommandWithin from x to
Placed action x from to = ActionWithin from x to

-- the values of a row of symbols stand one after another
abbrev Row : (ss : List Symbol) → Values ss → ℕ → ℕ → Type 0
Row [] vs from to = from ≤ to
Row (token k l ∷ ss) vs from to = (from ≤ vs.0.at) × Row ss vs.1 (vs.0.at + 1) to
Row (part n l ∷ ss) vs from to = (middle : ℕ) × Placed n vs.0 from middle × Row ss vs.1 middle to

-- ---- what the shapes of values keep

within_not : (p : RawFormula) (a b : ℕ) → Within a p b → Within a (f.Not p) b
unfolding Within
within_not p a b h = rw Not-is h

within_two : (word : Connective) (p q : RawFormula) (a m b : ℕ) → Within a p m → Within m q b → Within a (f.Two word p q) b
unfolding Within
within_two word p q a m b h k = rw Two-is (m, h, k)

joined_two : (word : Connective) (p : RawFormula) (rest : Option RawFormula) (a m b : ℕ) → Within a p m → WithinIf m rest b → Within a (joined (f.Two word) p rest) b
joined_two word p None a m b h k = widen_formula p a m a b (le_refl a) k h
joined_two word p (Some q) a m b h k = within_two word p q a m b h k

widen_if : (p : Option RawFormula) (a b c d : ℕ) → c ≤ a → b ≤ d → WithinIf a p b → WithinIf c p d
widen_if None a b c d l r h = omega (arith, l, r, h)
widen_if (Some p) a b c d l r h = widen_formula p a b c d l r h

quantified_within : (which : Quantifier) (x : RawName) (s : Sort) (p : RawFormula) (a b : ℕ) → a ≤ x.at → Within (x.at + 1) p b → Within a (f.Bind which x s p) b
unfolding Within
quantified_within which x s p a b h k = rw Bind-is (h, k)

widen_rest : (x : AtomRest) (a b c d : ℕ) → c ≤ a → b ≤ d → RestWithin a x b → RestWithin c x d
widen_rest (r.Row ts) a b c d l r h = widen_terms ts a b c d l r h
widen_rest (r.Same u) a b c d l r h = widen_terms (u ∷ []) a b c d l r h
widen_rest (r.Flow at word ts) a b c d l r h = (omega (arith, l, h.0), widen_terms (flow_list ts) (at + 1) b (at + 1) d (le_refl (at + 1)) r h.1)
widen_rest (r.RcvThis at ts) a b c d l r h = (omega (arith, l, h.0), widen_terms (packet_list ts) (at + 1) b (at + 1) d (le_refl (at + 1)) r h.1)

atom_within : (x : RawName) (rest : AtomRest) (a m n b : ℕ) → a ≤ x.at → x.at < m → n ≤ b → RestWithin m rest n → Within a (atom_of x rest) b
unfolding Within TermsWithin
atom_within x (r.Row ts) a m n b h k e w = (h, widen_terms ts m n (x.at + 1) b (omega (arith, k)) e w)
atom_within x (r.Same u) a m n b h k e w = (h, (omega (arith, k, w.0), omega (arith, w.1, e)))
atom_within x (r.Flow at word ts) a m n b h k e w = (h, omega (arith, k, w.0), widen_terms (flow_list ts) (at + 1) n (at + 1) b (le_refl (at + 1)) e w.1)
atom_within x (r.RcvThis at ts) a m n b h k e w = (h, omega (arith, k, w.0), widen_terms (packet_list ts) (at + 1) n (at + 1) b (le_refl (at + 1)) e w.1)

command_within : (x : RawName) (act : Action) (a m n b : ℕ) → a ≤ x.at → x.at < m → n ≤ b → ActionWithin m act n → CommandWithin a (command_of x act) b
unfolding CommandWithin TermsWithin
command_within x (a.Change word ts) from m n b h k e w = (h, widen_terms ts m n (x.at + 1) b (omega (arith, k)) e w)
command_within x (a.Switch word ts) from m n b h k e w = (h, widen_terms (flow_list ts) m n (x.at + 1) b (omega (arith, k)) e w)
command_within x (a.Flood ts) from m n b h k e w = (h, widen_terms (packet_list ts) m n (x.at + 1) b (omega (arith, k)) e w)

within_seq : (x y : RawCommand) (a m b : ℕ) → CommandWithin a x m → CommandWithin m y b → CommandWithin a (c.Seq x y) b
unfolding CommandWithin
within_seq x y a m b h k = rw Seq-is (m, h, k)

joined_seq : (x : RawCommand) (tail : Option RawCommand) (a m b : ℕ) → CommandWithin a x m → CommandWithinIf m tail b → CommandWithin a (joined c.Seq x tail) b
joined_seq x None a m b h k = widen_command x a m a b (le_refl a) k h
joined_seq x (Some y) a m b h k = within_seq x y a m b h k

widen_command_if : (x : Option RawCommand) (a b c d : ℕ) → c ≤ a → b ≤ d → CommandWithinIf a x b → CommandWithinIf c x d
widen_command_if None a b c d l r h = omega (arith, l, r, h)
widen_command_if (Some x) a b c d l r h = widen_command x a b c d l r h

if_within : (p : RawFormula) (x y : RawCommand) (a m n b : ℕ) → Within a p m → CommandWithin m x n → CommandWithin n y b → CommandWithin a (c.If p x y) b
unfolding CommandWithin
if_within p x y a m n b h k w = rw If-is (m, n, h, k, w)

pick_within : (x : RawName) (s : Sort) (p : RawFormula) (u v : RawCommand) (a m n b : ℕ) → a ≤ x.at → Within (x.at + 1) p m → CommandWithin m u n → CommandWithin n v b → CommandWithin a (c.Pick x s p u v) b
unfolding CommandWithin
pick_within x s p u v a m n b i h k w = rw Pick-is (m, n, i, h, k, w)

-- ---- each rule

abbrev Keeps : (n : Nonterminal) → Rule n → Type 0
Keeps n r = (us : Values r.parts) (from to : ℕ) → Row r.parts us from to → Placed n (made r.parts r.gives us) from to

keeps : (n : Nonterminal) (r : Rule n) → IsRule n r → Keeps n r
unfolding TermsWithin Within CommandWithin RowsWithin ItemsWithin
keeps program r (inl e) = subst (Keeps program) e (λ us from to g. (g.0, g.1, widen_items us.1.0 (g.0) (g.2.0) (g.0) to (omega (arith, g.2.2)) (omega (arith, g.2.2)) g.2.1))
keeps program r (inr (a)) = absurd a
keeps items r (inl e) = subst (Keeps items) e (λ us from to g. (g.0, g.1, widen_items us.1.0 (g.0) (g.2.0) (g.0) to (omega (arith, g.2.2)) (omega (arith, g.2.2)) g.2.1))
keeps items r (inr (inl e)) = subst (Keeps items) e (λ us from to g. g)
keeps items r (inr (inr (a))) = absurd a
keeps item r (inl e) = subst (Keeps item) e (λ us from to g. widen_item us.0 from (g.0) from to (omega (arith, g.2)) (omega (arith, g.2)) g.1)
keeps item r (inr (inl e)) = subst (Keeps item) e (λ us from to g. widen_item us.0 from (g.0) from to (omega (arith, g.2)) (omega (arith, g.2)) g.1)
keeps item r (inr (inr (inl e))) = subst (Keeps item) e (λ us from to g. widen_item us.0 from (g.0) from to (omega (arith, g.2)) (omega (arith, g.2)) g.1)
keeps item r (inr (inr (inr (inl e)))) = subst (Keeps item) e (λ us from to g. widen_item us.0 from (g.0) from to (omega (arith, g.2)) (omega (arith, g.2)) g.1)
keeps item r (inr (inr (inr (inr (inl e))))) = subst (Keeps item) e (λ us from to g. widen_item us.0 from (g.0) from to (omega (arith, g.2)) (omega (arith, g.2)) g.1)
keeps item r (inr (inr (inr (inr (inr (inl e)))))) = subst (Keeps item) e (λ us from to g. widen_item us.0 from (g.0) from to (omega (arith, g.2)) (omega (arith, g.2)) g.1)
keeps item r (inr (inr (inr (inr (inr (inr (a))))))) = absurd a
keeps static_item r (inl e) = subst (Keeps static_item) e (λ us from to g. ((omega (arith, g.0, g.1.1.0, g.1.1.1, g.1.2.1, g.1.2.2.0, g.1.2.2.1)), (omega (arith, g.0, g.1.1.0, g.1.1.1, g.1.2.1, g.1.2.2.0, g.1.2.2.1))))
keeps static_item r (inr (a)) = absurd a
keeps const_item r (inl e) = subst (Keeps const_item) e (λ us from to g. ((omega (arith, g.0, g.1.1.0, g.1.1.1, g.1.2.0, g.1.2.1.1, g.1.2.1.2.0, g.1.2.1.2.1)), (omega (arith, g.0, g.1.1.0, g.1.1.1, g.1.2.0, g.1.2.1.1, g.1.2.1.2.0, g.1.2.1.2.1))))
keeps const_item r (inr (a)) = absurd a
keeps rel_item r (inl e) = subst (Keeps rel_item) e (λ us from to g. ((omega (arith, g.0, g.1.1.0, g.1.1.1, g.1.2.1, g.1.2.2.2.0, g.1.2.2.2.1)), widen_rows us.1.1.1.0 (g.1.2.0) (g.1.2.2.0) (us.1.0.at + 1) to (omega (arith, g.0, g.1.1.0, g.1.1.1, g.1.2.1, g.1.2.2.2.0, g.1.2.2.2.1)) (omega (arith, g.0, g.1.1.0, g.1.1.1, g.1.2.1, g.1.2.2.2.0, g.1.2.2.2.1)) g.1.2.2.1))
keeps rel_item r (inr (a)) = absurd a
keeps invariant_item r (inl e) = subst (Keeps invariant_item) e (λ us from to g. ((omega (arith, g.1, g.2.1.0, g.2.1.1, g.2.2.0, g.2.2.1.2.0, g.2.2.1.2.1)), widen_formula us.1.1.1.0 (us.1.1.0.at + 1) (g.2.2.1.0) (us.1.0.at + 1) to (omega (arith, g.1, g.2.1.0, g.2.1.1, g.2.2.0, g.2.2.1.2.0, g.2.2.1.2.1)) (omega (arith, g.1, g.2.1.0, g.2.1.1, g.2.2.0, g.2.2.1.2.0, g.2.2.1.2.1)) g.2.2.1.1))
keeps invariant_item r (inr (a)) = absurd a
keeps invariant_kind r (inl e) = subst (Keeps invariant_kind) e (λ us from to g. (omega (arith, g.0, g.1)))
keeps invariant_kind r (inr (inl e)) = subst (Keeps invariant_kind) e (λ us from to g. (omega (arith, g.0, g.1)))
keeps invariant_kind r (inr (inr (inl e))) = subst (Keeps invariant_kind) e (λ us from to g. (omega (arith, g.0, g.1)))
keeps invariant_kind r (inr (inr (inr (a)))) = absurd a
keeps handler_item r (inl e) = subst (Keeps handler_item) e (λ us from to g. ((omega (arith, g.0, g.1.0, g.1.1.1.0, g.1.1.1.1, g.1.1.2.0, g.1.1.2.1.1.0, g.1.1.2.1.1.1, g.1.1.2.1.2.0, g.1.1.2.1.2.1.1.0, g.1.1.2.1.2.1.1.1, g.1.1.2.1.2.1.2.0, g.1.1.2.1.2.1.2.1.1.0, g.1.1.2.1.2.1.2.1.1.1, g.1.1.2.1.2.1.2.1.2.0, g.1.1.2.1.2.1.2.1.2.1.2)), (omega (arith, g.0, g.1.0, g.1.1.1.0, g.1.1.1.1, g.1.1.2.0, g.1.1.2.1.1.0, g.1.1.2.1.1.1, g.1.1.2.1.2.0, g.1.1.2.1.2.1.1.0, g.1.1.2.1.2.1.1.1, g.1.1.2.1.2.1.2.0, g.1.1.2.1.2.1.2.1.1.0, g.1.1.2.1.2.1.2.1.1.1, g.1.1.2.1.2.1.2.1.2.0, g.1.1.2.1.2.1.2.1.2.1.2)), (omega (arith, g.0, g.1.0, g.1.1.1.0, g.1.1.1.1, g.1.1.2.0, g.1.1.2.1.1.0, g.1.1.2.1.1.1, g.1.1.2.1.2.0, g.1.1.2.1.2.1.1.0, g.1.1.2.1.2.1.1.1, g.1.1.2.1.2.1.2.0, g.1.1.2.1.2.1.2.1.1.0, g.1.1.2.1.2.1.2.1.1.1, g.1.1.2.1.2.1.2.1.2.0, g.1.1.2.1.2.1.2.1.2.1.2)), (omega (arith, g.0, g.1.0, g.1.1.1.0, g.1.1.1.1, g.1.1.2.0, g.1.1.2.1.1.0, g.1.1.2.1.1.1, g.1.1.2.1.2.0, g.1.1.2.1.2.1.1.0, g.1.1.2.1.2.1.1.1, g.1.1.2.1.2.1.2.0, g.1.1.2.1.2.1.2.1.1.0, g.1.1.2.1.2.1.2.1.1.1, g.1.1.2.1.2.1.2.1.2.0, g.1.1.2.1.2.1.2.1.2.1.2)), (omega (arith, g.0, g.1.0, g.1.1.1.0, g.1.1.1.1, g.1.1.2.0, g.1.1.2.1.1.0, g.1.1.2.1.1.1, g.1.1.2.1.2.0, g.1.1.2.1.2.1.1.0, g.1.1.2.1.2.1.1.1, g.1.1.2.1.2.1.2.0, g.1.1.2.1.2.1.2.1.1.0, g.1.1.2.1.2.1.2.1.1.1, g.1.1.2.1.2.1.2.1.2.0, g.1.1.2.1.2.1.2.1.2.1.2)), widen_command us.1.1.1.1.1.1.1.1.1.1.0 (us.1.1.1.1.1.1.1.1.1.0.at + 1) (g.1.1.2.1.2.1.2.1.2.1.0) (port_place us.1.1.1.1.1.1.1.1.0 + 1) to (omega (arith, g.0, g.1.0, g.1.1.1.0, g.1.1.1.1, g.1.1.2.0, g.1.1.2.1.1.0, g.1.1.2.1.1.1, g.1.1.2.1.2.0, g.1.1.2.1.2.1.1.0, g.1.1.2.1.2.1.1.1, g.1.1.2.1.2.1.2.0, g.1.1.2.1.2.1.2.1.1.0, g.1.1.2.1.2.1.2.1.1.1, g.1.1.2.1.2.1.2.1.2.0, g.1.1.2.1.2.1.2.1.2.1.2)) (omega (arith, g.0, g.1.0, g.1.1.1.0, g.1.1.1.1, g.1.1.2.0, g.1.1.2.1.1.0, g.1.1.2.1.1.1, g.1.1.2.1.2.0, g.1.1.2.1.2.1.1.0, g.1.1.2.1.2.1.1.1, g.1.1.2.1.2.1.2.0, g.1.1.2.1.2.1.2.1.1.0, g.1.1.2.1.2.1.2.1.1.1, g.1.1.2.1.2.1.2.1.2.0, g.1.1.2.1.2.1.2.1.2.1.2)) g.1.1.2.1.2.1.2.1.2.1.1))
keeps handler_item r (inr (a)) = absurd a
keeps timeout_item r (inl e) = subst (Keeps timeout_item) e (λ us from to g. (g.0, omega (arith, g.1.0, g.1.1.0, g.1.1.1)))
keeps timeout_item r (inr (a)) = absurd a
keeps handler_port r (inl e) = subst (Keeps handler_port) e (λ us from to g. ((omega (arith, g.1.0, g.1.1, g.2)), (omega (arith, g.1.0, g.1.1, g.2))))
keeps handler_port r (inr (inl e)) = subst (Keeps handler_port) e (λ us from to g. ((omega (arith, g.1.0, g.1.1, g.2)), (omega (arith, g.1.0, g.1.1, g.2))))
keeps handler_port r (inr (inr (a))) = absurd a
keeps sorts r (inl e) = subst (Keeps sorts) e (λ us from to g. (omega (arith, g.0, g.1.1, g.1.2.0, g.1.2.1)))
keeps sorts r (inr (a)) = absurd a
keeps sort_list r (inl e) = subst (Keeps sort_list) e (λ us from to g. (omega (arith, g.1, g.2.1, g.2.2)))
keeps sort_list r (inr (inl e)) = subst (Keeps sort_list) e (λ us from to g. g)
keeps sort_list r (inr (inr (a))) = absurd a
keeps more_sorts r (inl e) = subst (Keeps more_sorts) e (λ us from to g. (omega (arith, g.0, g.1.1, g.1.2.1, g.1.2.2)))
keeps more_sorts r (inr (inl e)) = subst (Keeps more_sorts) e (λ us from to g. g)
keeps more_sorts r (inr (inr (a))) = absurd a
keeps sort r (inl e) = subst (Keeps sort) e (λ us from to g. (omega (arith, g.0, g.1)))
keeps sort r (inr (inl e)) = subst (Keeps sort) e (λ us from to g. (omega (arith, g.0, g.1)))
keeps sort r (inr (inr (inl e))) = subst (Keeps sort) e (λ us from to g. (omega (arith, g.0, g.1)))
keeps sort r (inr (inr (inr (a)))) = absurd a
keeps initial r (inl e) = subst (Keeps initial) e (λ us from to g. widen_rows us.1.1.0 (us.1.0.at + 1) (g.1.1.0) from to (omega (arith, g.0, g.1.0, g.1.1.2.0, g.1.1.2.1)) (omega (arith, g.0, g.1.0, g.1.1.2.0, g.1.1.2.1)) g.1.1.1)
keeps initial r (inr (inl e)) = subst (Keeps initial) e (λ us from to g. g)
keeps initial r (inr (inr (a))) = absurd a
keeps rows r (inl e) = subst (Keeps rows) e (λ us from to g. (g.0, g.1.0, g.1.1, widen_rows us.1.0 (g.0) (g.2.0) (g.0) to (omega (arith, g.2.2)) (omega (arith, g.2.2)) g.2.1))
keeps rows r (inr (inl e)) = subst (Keeps rows) e (λ us from to g. g)
keeps rows r (inr (inr (a))) = absurd a
keeps more_rows r (inl e) = subst (Keeps more_rows) e (λ us from to g. (g.1.0, omega (arith, g.0, g.1.1.0), g.1.1.1, widen_rows us.1.1.0 (g.1.0) (g.1.2.0) (g.1.0) to (omega (arith, g.0, g.1.2.2)) (omega (arith, g.0, g.1.2.2)) g.1.2.1))
keeps more_rows r (inr (inl e)) = subst (Keeps more_rows) e (λ us from to g. g)
keeps more_rows r (inr (inr (a))) = absurd a
keeps row r (inl e) = subst (Keeps row) e (λ us from to g. (g.0, widen_terms us.1.0 (us.0.at + 1) (g.1.0) (us.0.at + 1) to (omega (arith, g.0, g.1.2.0, g.1.2.1)) (omega (arith, g.0, g.1.2.0, g.1.2.1)) g.1.1))
keeps row r (inr (a)) = absurd a
keeps terms r (inl e) = subst (Keeps terms) e (λ us from to g. (g.1.0, widen_terms us.1.0 (g.0) (g.2.0) (place us.0 + 1) to (omega (arith, g.1.0, g.1.1, g.2.2)) (omega (arith, g.1.0, g.1.1, g.2.2)) g.2.1))
keeps terms r (inr (inl e)) = subst (Keeps terms) e (λ us from to g. g)
keeps terms r (inr (inr (a))) = absurd a
keeps more_terms r (inl e) = subst (Keeps more_terms) e (λ us from to g. (omega (arith, g.0, g.1.1.0), widen_terms us.1.1.0 (g.1.0) (g.1.2.0) (place us.1.0 + 1) to (omega (arith, g.0, g.1.1.0, g.1.1.1, g.1.2.2)) (omega (arith, g.0, g.1.1.0, g.1.1.1, g.1.2.2)) g.1.2.1))
keeps more_terms r (inr (inl e)) = subst (Keeps more_terms) e (λ us from to g. g)
keeps more_terms r (inr (inr (a))) = absurd a
keeps name r (inl e) = subst (Keeps name) e (λ us from to g. ((omega (arith, g.0, g.1)), (omega (arith, g.0, g.1))))
keeps name r (inr (a)) = absurd a
keeps term r (inl e) = subst (Keeps term) e (λ us from to g. ((omega (arith, g.1.0, g.1.1, g.2)), (omega (arith, g.1.0, g.1.1, g.2))))
keeps term r (inr (inl e)) = subst (Keeps term) e (λ us from to g. ((omega (arith, g.1.0, g.1.1, g.2)), (omega (arith, g.1.0, g.1.1, g.2))))
keeps term r (inr (inr (a))) = absurd a
keeps port r (inl e) = subst (Keeps port) e (λ us from to g. ((omega (arith, g.0, g.1.0, g.1.1.0, g.1.1.1.0, g.1.1.1.1)), (omega (arith, g.0, g.1.0, g.1.1.0, g.1.1.1.0, g.1.1.1.1))))
keeps port r (inr (a)) = absurd a
keeps formula r (inl e) = subst (Keeps formula) e (λ us from to g. widen_formula us.1.0 (us.0.at + 1) (g.1.0) from to (omega (arith, g.0, g.1.2)) (omega (arith, g.0, g.1.2)) g.1.1)
keeps formula r (inr (inl e)) = subst (Keeps formula) e (λ us from to g. widen_formula us.1.0 (us.0.at + 1) (g.1.0) from to (omega (arith, g.0, g.1.2)) (omega (arith, g.0, g.1.2)) g.1.1)
keeps formula r (inr (inr (inl e))) = subst (Keeps formula) e (λ us from to g. widen_formula us.0 from (g.0) from to (omega (arith, g.2)) (omega (arith, g.2)) g.1)
keeps formula r (inr (inr (inr (a)))) = absurd a
keeps (binds which) r (inl e) = subst (Keeps (binds which)) e (λ us from to g. quantified_within which us.0 us.1.1.0 us.1.1.1.0 from to (omega (arith, g.1.0, g.1.1, g.2.0, g.2.1.1, g.2.1.2.2)) (widen_formula us.1.1.1.0 (g.2.1.0) (g.2.1.2.0) (us.0.at + 1) to (omega (arith, g.1.0, g.1.1, g.2.0, g.2.1.1, g.2.1.2.2)) (omega (arith, g.1.0, g.1.1, g.2.0, g.2.1.1, g.2.1.2.2)) g.2.1.2.1))
keeps (binds which) r (inr (a)) = absurd a
keeps (more_binds which) r (inl e) = subst (Keeps (more_binds which)) e (λ us from to g. widen_formula us.1.0 (us.0.at + 1) (g.1.0) from to (omega (arith, g.0, g.1.2)) (omega (arith, g.0, g.1.2)) g.1.1)
keeps (more_binds which) r (inr (inl e)) = subst (Keeps (more_binds which)) e (λ us from to g. widen_formula us.1.0 (us.0.at + 1) (g.1.0) from to (omega (arith, g.0, g.1.2)) (omega (arith, g.0, g.1.2)) g.1.1)
keeps (more_binds which) r (inr (inr (a))) = absurd a
keeps (tier Single) r (inl e) = subst (Keeps (tier Single)) e (λ us from to g. within_not us.1.0 from to (widen_formula us.1.0 (us.0.at + 1) (g.1.0) from to (omega (arith, g.0, g.1.2)) (omega (arith, g.0, g.1.2)) g.1.1))
keeps (tier Single) r (inr (inl e)) = subst (Keeps (tier Single)) e (λ us from to g. widen_formula us.0 from (g.0) from to (omega (arith, g.2)) (omega (arith, g.2)) g.1)
keeps (tier Single) r (inr (inr (a))) = absurd a
keeps (tier (Joins word)) r (inl e) = subst (Keeps (tier (Joins word))) e (λ us from to g. joined_two word us.0 us.1.0 from (g.0) to g.1 (widen_if us.1.0 (g.0) (g.2.0) (g.0) to (le_refl (g.0)) (omega (arith, g.2.2)) g.2.1))
keeps (tier (Joins word)) r (inr (a)) = absurd a
keeps (tail word) r (inl e) = subst (Keeps (tail word)) e (λ us from to g. widen_formula us.1.0 (us.0.at + 1) (g.1.0) from to (omega (arith, g.0, g.1.2)) (omega (arith, g.0, g.1.2)) g.1.1)
keeps (tail word) r (inr (inl e)) = subst (Keeps (tail word)) e (λ us from to g. g)
keeps (tail word) r (inr (inr (a))) = absurd a
keeps atom r (inl e) = subst (Keeps atom) e (λ us from to g. (omega (arith, g.0, g.1)))
keeps atom r (inr (inl e)) = subst (Keeps atom) e (λ us from to g. (omega (arith, g.0, g.1)))
keeps atom r (inr (inr (inl e))) = subst (Keeps atom) e (λ us from to g. widen_formula us.1.0 (us.0.at + 1) (g.1.0) from to (omega (arith, g.0, g.1.2.0, g.1.2.1)) (omega (arith, g.0, g.1.2.0, g.1.2.1)) g.1.1)
keeps atom r (inr (inr (inr (inl e)))) = subst (Keeps atom) e (λ us from to g. ((omega (arith, g.1.0, g.1.1, g.2.0, g.2.1.1.0, g.2.1.1.1, g.2.1.2)), ((omega (arith, g.1.0, g.1.1, g.2.0, g.2.1.1.0, g.2.1.1.1, g.2.1.2)), (omega (arith, g.1.0, g.1.1, g.2.0, g.2.1.1.0, g.2.1.1.1, g.2.1.2)))))
keeps atom r (inr (inr (inr (inr (inl e))))) = subst (Keeps atom) e (λ us from to g. atom_within us.0 us.1.0 from (g.0) (g.2.0) to g.1.0 g.1.1 (omega (arith, g.1.0, g.1.1, g.2.2)) g.2.1)
keeps atom r (inr (inr (inr (inr (inr (a)))))) = absurd a
keeps atom_rest r (inl e) = subst (Keeps atom_rest) e (λ us from to g. ((omega (arith, g.0, g.1.1.0, g.1.1.1, g.1.2)), (omega (arith, g.0, g.1.1.0, g.1.1.1, g.1.2))))
keeps atom_rest r (inr (inl e)) = subst (Keeps atom_rest) e (λ us from to g. widen_rest us.1.0 (us.0.at + 1) (g.1.0) from to (omega (arith, g.0, g.1.2)) (omega (arith, g.0, g.1.2)) g.1.1)
keeps atom_rest r (inr (inr (inl e))) = subst (Keeps atom_rest) e (λ us from to g. widen_terms us.0.terms (us.0.at + 1) (g.0) from to (omega (arith, g.1.0)) (omega (arith, g.2)) g.1.1)
keeps atom_rest r (inr (inr (inr (a)))) = absurd a
keeps fact r (inl e) = subst (Keeps fact) e (λ us from to g. (g.0, widen_terms (flow_list us.1.0) (us.0.at + 1) (g.1.0) (us.0.at + 1) to (omega (arith, g.0, g.1.2)) (omega (arith, g.0, g.1.2)) g.1.1))
keeps fact r (inr (inl e)) = subst (Keeps fact) e (λ us from to g. (g.0, widen_terms (flow_list us.1.0) (us.0.at + 1) (g.1.0) (us.0.at + 1) to (omega (arith, g.0, g.1.2)) (omega (arith, g.0, g.1.2)) g.1.1))
keeps fact r (inr (inr (inl e))) = subst (Keeps fact) e (λ us from to g. (g.0, widen_terms (packet_list us.1.0) (us.0.at + 1) (g.1.0) (us.0.at + 1) to (omega (arith, g.0, g.1.2)) (omega (arith, g.0, g.1.2)) g.1.1))
keeps fact r (inr (inr (inr (a)))) = absurd a
keeps flow r (inl e) = subst (Keeps flow) e (λ us from to g. ((omega (arith, g.0, g.1.1.0, g.1.1.1, g.1.2.0, g.1.2.1.1.0, g.1.2.1.1.1, g.1.2.1.2.0, g.1.2.1.2.1.1.0, g.1.2.1.2.1.1.1, g.1.2.1.2.1.2.0, g.1.2.1.2.1.2.1.1.0, g.1.2.1.2.1.2.1.1.1, g.1.2.1.2.1.2.1.2.0, g.1.2.1.2.1.2.1.2.1)), ((omega (arith, g.0, g.1.1.0, g.1.1.1, g.1.2.0, g.1.2.1.1.0, g.1.2.1.1.1, g.1.2.1.2.0, g.1.2.1.2.1.1.0, g.1.2.1.2.1.1.1, g.1.2.1.2.1.2.0, g.1.2.1.2.1.2.1.1.0, g.1.2.1.2.1.2.1.1.1, g.1.2.1.2.1.2.1.2.0, g.1.2.1.2.1.2.1.2.1)), ((omega (arith, g.0, g.1.1.0, g.1.1.1, g.1.2.0, g.1.2.1.1.0, g.1.2.1.1.1, g.1.2.1.2.0, g.1.2.1.2.1.1.0, g.1.2.1.2.1.1.1, g.1.2.1.2.1.2.0, g.1.2.1.2.1.2.1.1.0, g.1.2.1.2.1.2.1.1.1, g.1.2.1.2.1.2.1.2.0, g.1.2.1.2.1.2.1.2.1)), ((omega (arith, g.0, g.1.1.0, g.1.1.1, g.1.2.0, g.1.2.1.1.0, g.1.2.1.1.1, g.1.2.1.2.0, g.1.2.1.2.1.1.0, g.1.2.1.2.1.1.1, g.1.2.1.2.1.2.0, g.1.2.1.2.1.2.1.1.0, g.1.2.1.2.1.2.1.1.1, g.1.2.1.2.1.2.1.2.0, g.1.2.1.2.1.2.1.2.1)), (omega (arith, g.0, g.1.1.0, g.1.1.1, g.1.2.0, g.1.2.1.1.0, g.1.2.1.1.1, g.1.2.1.2.0, g.1.2.1.2.1.1.0, g.1.2.1.2.1.1.1, g.1.2.1.2.1.2.0, g.1.2.1.2.1.2.1.1.0, g.1.2.1.2.1.2.1.1.1, g.1.2.1.2.1.2.1.2.0, g.1.2.1.2.1.2.1.2.1)))))))
keeps flow r (inr (a)) = absurd a
keeps packet r (inl e) = subst (Keeps packet) e (λ us from to g. ((omega (arith, g.0, g.1.1.0, g.1.1.1, g.1.2.0, g.1.2.1.1.0, g.1.2.1.1.1, g.1.2.1.2.0, g.1.2.1.2.1.1.0, g.1.2.1.2.1.1.1, g.1.2.1.2.1.2.0, g.1.2.1.2.1.2.1)), ((omega (arith, g.0, g.1.1.0, g.1.1.1, g.1.2.0, g.1.2.1.1.0, g.1.2.1.1.1, g.1.2.1.2.0, g.1.2.1.2.1.1.0, g.1.2.1.2.1.1.1, g.1.2.1.2.1.2.0, g.1.2.1.2.1.2.1)), ((omega (arith, g.0, g.1.1.0, g.1.1.1, g.1.2.0, g.1.2.1.1.0, g.1.2.1.1.1, g.1.2.1.2.0, g.1.2.1.2.1.1.0, g.1.2.1.2.1.1.1, g.1.2.1.2.1.2.0, g.1.2.1.2.1.2.1)), (omega (arith, g.0, g.1.1.0, g.1.1.1, g.1.2.0, g.1.2.1.1.0, g.1.2.1.1.1, g.1.2.1.2.0, g.1.2.1.2.1.1.0, g.1.2.1.2.1.1.1, g.1.2.1.2.1.2.0, g.1.2.1.2.1.2.1))))))
keeps packet r (inr (a)) = absurd a
keeps block r (inl e) = subst (Keeps block) e (λ us from to g. widen_command us.1.0 (us.0.at + 1) (g.1.0) from to (omega (arith, g.0, g.1.2.0, g.1.2.1)) (omega (arith, g.0, g.1.2.0, g.1.2.1)) g.1.1)
keeps block r (inr (a)) = absurd a
keeps commands r (inl e) = subst (Keeps commands) e (λ us from to g. joined_seq us.0 us.1.0 from (g.0) to g.1 (widen_command_if us.1.0 (g.0) (g.2.0) (g.0) to (le_refl (g.0)) (omega (arith, g.2.2)) g.2.1))
keeps commands r (inr (a)) = absurd a
keeps more_commands r (inl e) = subst (Keeps more_commands) e (λ us from to g. widen_command us.0 from (g.0) from to (omega (arith, g.2)) (omega (arith, g.2)) g.1)
keeps more_commands r (inr (inl e)) = subst (Keeps more_commands) e (λ us from to g. g)
keeps more_commands r (inr (inr (a))) = absurd a
keeps command r (inl e) = subst (Keeps command) e (λ us from to g. (omega (arith, g.0, g.1.0, g.1.1)))
keeps command r (inr (inl e)) = subst (Keeps command) e (λ us from to g. widen_command us.0 from (g.0) from to (omega (arith, g.2)) (omega (arith, g.2)) g.1)
keeps command r (inr (inr (inl e))) = subst (Keeps command) e (λ us from to g. widen_command us.0 from (g.0) from to (omega (arith, g.2)) (omega (arith, g.2)) g.1)
keeps command r (inr (inr (inr (inl e)))) = subst (Keeps command) e (λ us from to g. command_within us.0 us.1.1.0 from (us.1.0.at + 1) (g.2.1.0) to g.1.0 (omega (arith, g.1.1, g.2.0)) (omega (arith, g.1.0, g.1.1, g.2.0, g.2.1.2.0, g.2.1.2.1)) g.2.1.1)
keeps command r (inr (inr (inr (inr (a))))) = absurd a
keeps branch r (inl e) = subst (Keeps branch) e (λ us from to g. if_within us.1.0 us.1.1.0 us.1.1.1.0 from (g.1.0) (g.1.2.0) to (widen_formula us.1.0 (us.0.at + 1) (g.1.0) from (g.1.0) (omega (arith, g.0, g.1.2.2.2)) (le_refl (g.1.0)) g.1.1) g.1.2.1 (widen_command us.1.1.1.0 (g.1.2.0) (g.1.2.2.0) (g.1.2.0) to (le_refl (g.1.2.0)) (omega (arith, g.0, g.1.2.2.2)) g.1.2.2.1))
keeps branch r (inr (a)) = absurd a
keeps choice r (inl e) = subst (Keeps choice) e (λ us from to g. pick_within us.1.0 us.1.1.1.0 us.1.1.1.1.1.0 us.1.1.1.1.1.1.0 us.1.1.1.1.1.1.1.0 from (g.1.2.1.2.1.0) (g.1.2.1.2.1.2.0) to (omega (arith, g.0, g.1.1.0, g.1.1.1, g.1.2.0, g.1.2.1.1, g.1.2.1.2.0, g.1.2.1.2.1.2.2.2)) (widen_formula us.1.1.1.1.1.0 (us.1.1.1.1.0.at + 1) (g.1.2.1.2.1.0) (us.1.0.at + 1) (g.1.2.1.2.1.0) (omega (arith, g.0, g.1.1.0, g.1.1.1, g.1.2.0, g.1.2.1.1, g.1.2.1.2.0, g.1.2.1.2.1.2.2.2)) (le_refl (g.1.2.1.2.1.0)) g.1.2.1.2.1.1) g.1.2.1.2.1.2.1 (widen_command us.1.1.1.1.1.1.1.0 (g.1.2.1.2.1.2.0) (g.1.2.1.2.1.2.2.0) (g.1.2.1.2.1.2.0) to (le_refl (g.1.2.1.2.1.2.0)) (omega (arith, g.0, g.1.1.0, g.1.1.1, g.1.2.0, g.1.2.1.1, g.1.2.1.2.0, g.1.2.1.2.1.2.2.2)) g.1.2.1.2.1.2.2.1))
keeps choice r (inr (a)) = absurd a
keeps otherwise r (inl e) = subst (Keeps otherwise) e (λ us from to g. widen_command us.1.0 (us.0.at + 1) (g.1.0) from to (omega (arith, g.0, g.1.2)) (omega (arith, g.0, g.1.2)) g.1.1)
keeps otherwise r (inr (inl e)) = subst (Keeps otherwise) e (λ us from to g. g)
keeps otherwise r (inr (inr (a))) = absurd a
keeps action r (inl e) = subst (Keeps action) e (λ us from to g. widen_terms us.1.0.terms (us.1.0.at + 1) (g.1.0) from to (omega (arith, g.0, g.1.2, g.1.1.0)) (omega (arith, g.0, g.1.2)) g.1.1.1)
keeps action r (inr (inl e)) = subst (Keeps action) e (λ us from to g. widen_terms us.1.0.terms (us.1.0.at + 1) (g.1.0) from to (omega (arith, g.0, g.1.2, g.1.1.0)) (omega (arith, g.0, g.1.2)) g.1.1.1)
keeps action r (inr (inr (inl e))) = subst (Keeps action) e (λ us from to g. widen_terms (flow_list us.1.0) (us.0.at + 1) (g.1.0) from to (omega (arith, g.0, g.1.2)) (omega (arith, g.0, g.1.2)) g.1.1)
keeps action r (inr (inr (inr (inl e)))) = subst (Keeps action) e (λ us from to g. widen_terms (flow_list us.1.0) (us.0.at + 1) (g.1.0) from to (omega (arith, g.0, g.1.2)) (omega (arith, g.0, g.1.2)) g.1.1)
keeps action r (inr (inr (inr (inr (inl e))))) = subst (Keeps action) e (λ us from to g. widen_terms (flow_list us.1.0) (us.0.at + 1) (g.1.0) from to (omega (arith, g.0, g.1.2)) (omega (arith, g.0, g.1.2)) g.1.1)
keeps action r (inr (inr (inr (inr (inr (inl e)))))) = subst (Keeps action) e (λ us from to g. widen_terms (packet_list us.1.0) (us.0.at + 1) (g.1.0) from to (omega (arith, g.0, g.1.2)) (omega (arith, g.0, g.1.2)) g.1.1)
keeps action r (inr (inr (inr (inr (inr (inr (a))))))) = absurd a

-- ---- all that is derived

-- the tokens of the marks, and then others
abbrev pub before : List Mark → List Token → List Token
before [] ts = ts
before (m ∷ ms) ts = m.token ∷ before ms ts

pub before-append : (ms ns : List Mark) (ts : List Token) → before (ms ++ ns) ts ≡ before ms (before ns ts)
before-append [] ns ts = refl
before-append (m ∷ ms) ns ts = ap (λ (us : List Token). m.token ∷ us) (before-append ms ns ts)

-- the values stand between the tokens' first place and where the others rise from
abbrev Stood : ℕ → (ss : List Symbol) → Values ss → ℕ → List Token → Type 0
Stood limit ss vs from rest = (to : ℕ) × Row ss vs from to × Rise limit to rest × (to ≤ limit + 1)

pub stood : (limit : ℕ) {d : ℕ} {ss : List Symbol} {ms : List Mark} {vs : Values ss} → Derives d ss ms vs → (from : ℕ) (rest : List Token) → from ≤ limit + 1 → Rise limit from (before ms rest)
    → Stood limit ss vs from rest
stood limit nothing from rest l h = (from, le_refl from, h, l)
stood limit (one {t = t} is later) from rest l h = let s = stood limit later (t.at + 1) rest (omega (arith, h.1)) h.2 in (s.0, (h.0, s.1), s.2, s.3)
stood limit (by_rule {n = n} {ms = ms} {ms' = ms'} r is {us} inner later) from rest l h =
    let s = stood limit inner from (before ms' rest) l (subst (Rise limit from) (before-append ms ms' rest) h) in
    let u = stood limit later s.0 rest s.3 s.2 in
    (u.0, (s.0, keeps n r is us from s.0 s.1, u.1), u.2, u.3)
