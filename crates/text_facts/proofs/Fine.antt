-- The names in the value of whatever the grammar derives are names, the numerals are those of ports, no `static`
-- relation has rows, and the seconds of timeouts are numbers.
use Rattle.std.proofs.Common.{◌≡◌, ℕ, List, [], ◌∷◌, ◌++◌, Option, Some, None, inl, inr, subst, refl, sym, true≢false}
use Rattle.std.proofs.ByRecursion.{All-append}
use Rattle.std.specs.List.{AllByRecursion as ByRecursion}
use Rattle.csdn_core.specs.declared.terms.Sort.{Sort}
use Rattle.csdn_core.specs.Names.{IsName}
use Rattle.csdn_core.specs.WellSorted.{IsNumeral}
use Rattle.csdn_tokens.specs.declared.Token.{Token}
use Rattle.csdn_tree.specs.declared.names.RawName.{RawName}
use Rattle.csdn_tree.specs.declared.names.RawTerm.{RawTerm}
use Rattle.csdn_tree.specs.declared.names.RawTerm.TheVariants as t
use Rattle.csdn_tree.specs.declared.syntax.Connective.{Connective}
use Rattle.csdn_tree.specs.declared.syntax.Quantifier.{Quantifier}
use Rattle.csdn_tree.specs.declared.syntax.RawFormula.{RawFormula}
use Rattle.csdn_tree.specs.declared.syntax.RawFormula.TheVariants as f
use Rattle.csdn_tree.specs.declared.syntax.RawCommand.{RawCommand}
use Rattle.csdn_tree.specs.declared.syntax.RawCommand.TheVariants as c
use Rattle.csdn_tree.specs.RawTree.{Not-is, Two-is, Bind-is, Seq-is, If-is, Pick-is}
use Rattle.csdn_tree.specs.Numerals.{term_numerals, terms_numerals, formula_numerals, command_numerals, port_numerals, rows_numerals, item_numerals, items_numerals}
use Rattle.csdn_tree.specs.FromText.{item_names, items_names, KeepsStatics, HasSeconds}
use Rattle.csdn_text.specs.declared.parts.Action.{Action}
use Rattle.csdn_text.specs.declared.parts.Action.TheVariants as a
use Rattle.csdn_text.specs.declared.parts.AtomRest.{AtomRest}
use Rattle.csdn_text.specs.declared.parts.AtomRest.TheVariants as r
use Rattle.csdn_text.specs.declared.parts.FlowTerms.{FlowTerms}
use Rattle.csdn_text.specs.declared.parts.PacketTerms.{PacketTerms}
use Rattle.csdn_tree.specs.declared.tiers.Tier.TheVariants.{Single, Joins}
use Rattle.csdn_text.specs.Symbols.{Nonterminal, program, items, item, static_item, const_item, rel_item, invariant_item, invariant_kind, handler_item, handler_port, timeout_item, sorts, sort_list, more_sorts, sort, initial, rows, more_rows, row, terms, more_terms, name, term, port, formula, binds, more_binds, tier, tail, atom, atom_rest, fact, flow, packet, block, commands, more_commands, command, branch, choice, otherwise, action, Symbol, token, part, Value, Values, made, Rule}
use Rattle.csdn_text.specs.Grammar.{joined, atom_of, command_of}
use Rattle.csdn_text.specs.Derives.{Mark, IsRule, Derives}
use Rattle.csdn_text.specs.Derives.Derives.{nothing, one, by_rule}
use Rattle.text_facts.proofs.Tokens.{IsFine, AreFine}
use Rattle.text_facts.proofs.Placed.{before, before-append}

-- numerals of ports
abbrev pub Ports : List ℕ → Type 0
Ports ns = ByRecursion IsNumeral ns

abbrev pub Names : List (List ℕ) → Type 0
Names xs = ByRecursion IsName xs

two : (ms ns : List ℕ) → Ports ms → Ports ns → Ports (ms ++ ns)
two = All-append IsNumeral

three : (s t i : RawTerm) → Ports (term_numerals s) → Ports (term_numerals t) → Ports (term_numerals i) → Ports (term_numerals s ++ (term_numerals t ++ term_numerals i))
three s t i h j k = two (term_numerals s) (term_numerals t ++ term_numerals i) h (two (term_numerals t) (term_numerals i) j k)

four : (s t i o : RawTerm) → Ports (term_numerals s) → Ports (term_numerals t) → Ports (term_numerals i) → Ports (term_numerals o)
    → Ports (term_numerals s ++ (term_numerals t ++ (term_numerals i ++ term_numerals o)))
four s t i o h j k l = two (term_numerals s) (term_numerals t ++ (term_numerals i ++ term_numerals o)) h (three t i o j k l)

abbrev FlowFine : FlowTerms → Type 0
FlowFine ts = Ports (term_numerals ts.source ++ (term_numerals ts.target ++ (term_numerals ts.ingress ++ term_numerals ts.egress)))

abbrev PacketFine : PacketTerms → Type 0
PacketFine ts = Ports (term_numerals ts.source ++ (term_numerals ts.target ++ term_numerals ts.ingress))

abbrev FormulaFine : RawFormula → Type 0
FormulaFine p = Ports (formula_numerals p)

abbrev FineIf : Option RawFormula → Type 0
FineIf None = Unit {0}
FineIf (Some p) = FormulaFine p

abbrev CommandFine : RawCommand → Type 0
CommandFine x = Ports (command_numerals x)

abbrev CommandFineIf : Option RawCommand → Type 0
CommandFineIf None = Unit {0}
CommandFineIf (Some x) = CommandFine x

abbrev RestFine : AtomRest → Type 0
RestFine (r.Row ts) = Ports (terms_numerals ts)
RestFine (r.Same u) = Ports (term_numerals u)
RestFine (r.Flow at word ts) = FlowFine ts
RestFine (r.RcvThis at ts) = PacketFine ts

abbrev ActionFine : Action → Type 0
ActionFine (a.Change word ts) = Ports (terms_numerals ts)
ActionFine (a.Switch word ts) = FlowFine ts
ActionFine (a.Flood ts) = PacketFine ts

-- the names and the numerals in the value of a nonterminal are such
abbrev Fine : (n : Nonterminal) → Value n → Type 0
Fine program raw = Names (items_names raw.items) × Ports (items_numerals raw.items) × ByRecursion KeepsStatics raw.items × ByRecursion HasSeconds raw.items
Fine items xs = Names (items_names xs) × Ports (items_numerals xs) × ByRecursion KeepsStatics xs × ByRecursion HasSeconds xs
Fine item x = Names (item_names x) × Ports (item_numerals x) × KeepsStatics x × HasSeconds x
Fine static_item x = Names (item_names x) × Ports (item_numerals x) × KeepsStatics x × HasSeconds x
Fine const_item x = Names (item_names x) × Ports (item_numerals x) × KeepsStatics x × HasSeconds x
Fine rel_item x = Names (item_names x) × Ports (item_numerals x) × KeepsStatics x × HasSeconds x
Fine invariant_item x = Names (item_names x) × Ports (item_numerals x) × KeepsStatics x × HasSeconds x
Fine handler_item x = Names (item_names x) × Ports (item_numerals x) × KeepsStatics x × HasSeconds x
Fine timeout_item x = Names (item_names x) × Ports (item_numerals x) × KeepsStatics x × HasSeconds x
Fine handler_port x = Ports (port_numerals x)
Fine initial rs = Ports (rows_numerals rs)
Fine rows rs = Ports (rows_numerals rs)
Fine more_rows rs = Ports (rows_numerals rs)
Fine row x = Ports (terms_numerals x.terms)
Fine terms ts = Ports (terms_numerals ts)
Fine more_terms ts = Ports (terms_numerals ts)
Fine name x = IsName x.text
Fine term x = Ports (term_numerals x)
Fine port x = IsNumeral x.number
Fine formula p = FormulaFine p
Fine (binds which) p = FormulaFine p
Fine (more_binds which) p = FormulaFine p
Fine (tier t) p = FormulaFine p
Fine (tail word) p = FineIf p
Fine atom p = FormulaFine p
Fine atom_rest x = RestFine x
Fine fact x = RestFine x
Fine flow ts = FlowFine ts
Fine packet ts = PacketFine ts
Fine block x = CommandFine x
Fine commands x = CommandFine x
Fine more_commands x = CommandFineIf x
Fine command x = CommandFine x
Fine branch x = CommandFine x
Fine choice x = CommandFine x
Fine otherwise x = CommandFine x
Fine action x = ActionFine x
Fine _ x = Unit {0}

abbrev Row : (ss : List Symbol) → Values ss → Type 0
Row [] vs = Unit {0}
Row (token k l ∷ ss) vs = (IsFine vs.0 × (vs.0.kind ≡ k)) × Row ss vs.1
Row (part n l ∷ ss) vs = Fine n vs.0 × Row ss vs.1

-- ---- what the shapes of values keep

fine_not : (p : RawFormula) → FormulaFine p → FormulaFine (f.Not p)
unfolding formula_numerals
fine_not p h = rw Not-is h

fine_two : (word : Connective) (p q : RawFormula) → FormulaFine p → FormulaFine q → FormulaFine (f.Two word p q)
unfolding formula_numerals
fine_two word p q h k = rw Two-is (two (formula_numerals p) (formula_numerals q) h k)

joined_two : (word : Connective) (p : RawFormula) (rest : Option RawFormula) → FormulaFine p → FineIf rest → FormulaFine (joined (f.Two word) p rest)
joined_two word p None h k = h
joined_two word p (Some q) h k = fine_two word p q h k

quantified_fine : (which : Quantifier) (x : RawName) (s : Sort) (p : RawFormula) → FormulaFine p → FormulaFine (f.Bind which x s p)
unfolding formula_numerals
quantified_fine which x s p h = rw Bind-is h

atom_fine : (x : RawName) (rest : AtomRest) → RestFine rest → FormulaFine (atom_of x rest)
unfolding formula_numerals
atom_fine x (r.Row ts) h = h
atom_fine x (r.Same u) h = h
atom_fine x (r.Flow at word ts) h = h
atom_fine x (r.RcvThis at ts) h = h

command_fine : (x : RawName) (act : Action) → ActionFine act → CommandFine (command_of x act)
unfolding command_numerals
command_fine x (a.Change word ts) h = h
command_fine x (a.Switch word ts) h = h
command_fine x (a.Flood ts) h = h

fine_seq : (x y : RawCommand) → CommandFine x → CommandFine y → CommandFine (c.Seq x y)
unfolding command_numerals
fine_seq x y h k = rw Seq-is (two (command_numerals x) (command_numerals y) h k)

joined_seq : (x : RawCommand) (tail : Option RawCommand) → CommandFine x → CommandFineIf tail → CommandFine (joined c.Seq x tail)
joined_seq x None h k = h
joined_seq x (Some y) h k = fine_seq x y h k

parts_fine : (p : RawFormula) (x y : RawCommand) → FormulaFine p → CommandFine x → CommandFine y → Ports (formula_numerals p ++ (command_numerals x ++ command_numerals y))
parts_fine p x y h j k = two (formula_numerals p) (command_numerals x ++ command_numerals y) h (two (command_numerals x) (command_numerals y) j k)

if_fine : (p : RawFormula) (x y : RawCommand) → FormulaFine p → CommandFine x → CommandFine y → CommandFine (c.If p x y)
unfolding command_numerals
if_fine p x y h j k = rw If-is (parts_fine p x y h j k)

pick_fine : (n : RawName) (s : Sort) (p : RawFormula) (x y : RawCommand) → FormulaFine p → CommandFine x → CommandFine y → CommandFine (c.Pick n s p x y)
unfolding command_numerals
pick_fine n s p x y h j k = rw Pick-is (parts_fine p x y h j k)

-- ---- each rule

abbrev Keeps : (n : Nonterminal) → Rule n → Type 0
Keeps n r = (us : Values r.parts) → Row r.parts us → Fine n (made r.parts r.gives us)

keeps : (n : Nonterminal) (r : Rule n) → IsRule n r → Keeps n r
unfolding formula_numerals command_numerals
keeps program r (inl e) = subst (Keeps program) e (λ us g. (All-append IsName (item_names us.0) (items_names us.1.0) g.0.0 g.1.0.0, two (item_numerals us.0) (items_numerals us.1.0) g.0.1 g.1.0.1, (g.0.2, g.1.0.2), (g.0.3, g.1.0.3)))
keeps program r (inr (a)) = absurd a
keeps items r (inl e) = subst (Keeps items) e (λ us g. (All-append IsName (item_names us.0) (items_names us.1.0) g.0.0 g.1.0.0, two (item_numerals us.0) (items_numerals us.1.0) g.0.1 g.1.0.1, (g.0.2, g.1.0.2), (g.0.3, g.1.0.3)))
keeps items r (inr (inl e)) = subst (Keeps items) e (λ us g. (tt, tt, tt, tt))
keeps items r (inr (inr (a))) = absurd a
keeps item r (inl e) = subst (Keeps item) e (λ us g. g.0)
keeps item r (inr (inl e)) = subst (Keeps item) e (λ us g. g.0)
keeps item r (inr (inr (inl e))) = subst (Keeps item) e (λ us g. g.0)
keeps item r (inr (inr (inr (inl e)))) = subst (Keeps item) e (λ us g. g.0)
keeps item r (inr (inr (inr (inr (inl e))))) = subst (Keeps item) e (λ us g. g.0)
keeps item r (inr (inr (inr (inr (inr (inl e)))))) = subst (Keeps item) e (λ us g. g.0)
keeps item r (inr (inr (inr (inr (inr (inr (a))))))) = absurd a
keeps static_item r (inl e) = subst (Keeps static_item) e (λ us g. ((g.1.0, tt), tt, (λ is. refl), tt))
keeps static_item r (inr (a)) = absurd a
keeps const_item r (inl e) = subst (Keeps const_item) e (λ us g. ((g.1.0, tt), tt, tt, tt))
keeps const_item r (inr (a)) = absurd a
keeps rel_item r (inl e) = subst (Keeps rel_item) e (λ us g. ((g.1.0, tt), g.1.1.1.0, (λ is. absurd (true≢false (sym is))), tt))
keeps rel_item r (inr (a)) = absurd a
keeps invariant_item r (inl e) = subst (Keeps invariant_item) e (λ us g. ((g.1.0, tt), g.1.1.1.0, tt, tt))
keeps invariant_item r (inr (a)) = absurd a
keeps invariant_kind r (inl e) = subst (Keeps invariant_kind) e (λ us g. tt)
keeps invariant_kind r (inr (inl e)) = subst (Keeps invariant_kind) e (λ us g. tt)
keeps invariant_kind r (inr (inr (inl e))) = subst (Keeps invariant_kind) e (λ us g. tt)
keeps invariant_kind r (inr (inr (inr (a)))) = absurd a
keeps handler_item r (inl e) = subst (Keeps handler_item) e (λ us g. (tt, two (port_numerals us.1.1.1.1.1.1.1.1.0) (command_numerals us.1.1.1.1.1.1.1.1.1.1.0) g.1.1.1.1.1.1.1.1.0 g.1.1.1.1.1.1.1.1.1.1.0, tt, tt))
keeps handler_item r (inr (a)) = absurd a
keeps timeout_item r (inl e) = subst (Keeps timeout_item) e (λ us g. (tt, tt, tt, g.1.0.0.number g.1.0.1))
keeps timeout_item r (inr (a)) = absurd a
keeps handler_port r (inl e) = subst (Keeps handler_port) e (λ us g. (g.0, tt))
keeps handler_port r (inr (inl e)) = subst (Keeps handler_port) e (λ us g. tt)
keeps handler_port r (inr (inr (a))) = absurd a
keeps sorts r (inl e) = subst (Keeps sorts) e (λ us g. tt)
keeps sorts r (inr (a)) = absurd a
keeps sort_list r (inl e) = subst (Keeps sort_list) e (λ us g. tt)
keeps sort_list r (inr (inl e)) = subst (Keeps sort_list) e (λ us g. tt)
keeps sort_list r (inr (inr (a))) = absurd a
keeps more_sorts r (inl e) = subst (Keeps more_sorts) e (λ us g. tt)
keeps more_sorts r (inr (inl e)) = subst (Keeps more_sorts) e (λ us g. tt)
keeps more_sorts r (inr (inr (a))) = absurd a
keeps sort r (inl e) = subst (Keeps sort) e (λ us g. tt)
keeps sort r (inr (inl e)) = subst (Keeps sort) e (λ us g. tt)
keeps sort r (inr (inr (inl e))) = subst (Keeps sort) e (λ us g. tt)
keeps sort r (inr (inr (inr (a)))) = absurd a
keeps initial r (inl e) = subst (Keeps initial) e (λ us g. g.1.1.0)
keeps initial r (inr (inl e)) = subst (Keeps initial) e (λ us g. tt)
keeps initial r (inr (inr (a))) = absurd a
keeps rows r (inl e) = subst (Keeps rows) e (λ us g. two (terms_numerals us.0.terms) (rows_numerals us.1.0) g.0 g.1.0)
keeps rows r (inr (inl e)) = subst (Keeps rows) e (λ us g. tt)
keeps rows r (inr (inr (a))) = absurd a
keeps more_rows r (inl e) = subst (Keeps more_rows) e (λ us g. two (terms_numerals us.1.0.terms) (rows_numerals us.1.1.0) g.1.0 g.1.1.0)
keeps more_rows r (inr (inl e)) = subst (Keeps more_rows) e (λ us g. tt)
keeps more_rows r (inr (inr (a))) = absurd a
keeps row r (inl e) = subst (Keeps row) e (λ us g. g.1.0)
keeps row r (inr (a)) = absurd a
keeps terms r (inl e) = subst (Keeps terms) e (λ us g. two (term_numerals us.0) (terms_numerals us.1.0) g.0 g.1.0)
keeps terms r (inr (inl e)) = subst (Keeps terms) e (λ us g. tt)
keeps terms r (inr (inr (a))) = absurd a
keeps more_terms r (inl e) = subst (Keeps more_terms) e (λ us g. two (term_numerals us.1.0) (terms_numerals us.1.1.0) g.1.0 g.1.1.0)
keeps more_terms r (inr (inl e)) = subst (Keeps more_terms) e (λ us g. tt)
keeps more_terms r (inr (inr (a))) = absurd a
keeps name r (inl e) = subst (Keeps name) e (λ us g. g.0.0.name g.0.1)
keeps name r (inr (a)) = absurd a
keeps term r (inl e) = subst (Keeps term) e (λ us g. (g.0, tt))
keeps term r (inr (inl e)) = subst (Keeps term) e (λ us g. tt)
keeps term r (inr (inr (a))) = absurd a
keeps port r (inl e) = subst (Keeps port) e (λ us g. g.1.1.0.0.number g.1.1.0.1)
keeps port r (inr (a)) = absurd a
keeps formula r (inl e) = subst (Keeps formula) e (λ us g. g.1.0)
keeps formula r (inr (inl e)) = subst (Keeps formula) e (λ us g. g.1.0)
keeps formula r (inr (inr (inl e))) = subst (Keeps formula) e (λ us g. g.0)
keeps formula r (inr (inr (inr (a)))) = absurd a
keeps (binds which) r (inl e) = subst (Keeps (binds which)) e (λ us g. quantified_fine which us.0 us.1.1.0 us.1.1.1.0 g.1.1.1.0)
keeps (binds which) r (inr (a)) = absurd a
keeps (more_binds which) r (inl e) = subst (Keeps (more_binds which)) e (λ us g. g.1.0)
keeps (more_binds which) r (inr (inl e)) = subst (Keeps (more_binds which)) e (λ us g. g.1.0)
keeps (more_binds which) r (inr (inr (a))) = absurd a
keeps (tier Single) r (inl e) = subst (Keeps (tier Single)) e (λ us g. fine_not us.1.0 g.1.0)
keeps (tier Single) r (inr (inl e)) = subst (Keeps (tier Single)) e (λ us g. g.0)
keeps (tier Single) r (inr (inr (a))) = absurd a
keeps (tier (Joins word)) r (inl e) = subst (Keeps (tier (Joins word))) e (λ us g. joined_two word us.0 us.1.0 g.0 g.1.0)
keeps (tier (Joins word)) r (inr (a)) = absurd a
keeps (tail word) r (inl e) = subst (Keeps (tail word)) e (λ us g. g.1.0)
keeps (tail word) r (inr (inl e)) = subst (Keeps (tail word)) e (λ us g. tt)
keeps (tail word) r (inr (inr (a))) = absurd a
keeps atom r (inl e) = subst (Keeps atom) e (λ us g. tt)
keeps atom r (inr (inl e)) = subst (Keeps atom) e (λ us g. tt)
keeps atom r (inr (inr (inl e))) = subst (Keeps atom) e (λ us g. g.1.0)
keeps atom r (inr (inr (inr (inl e)))) = subst (Keeps atom) e (λ us g. two (term_numerals (t.Port us.0)) (term_numerals us.1.1.0) (g.0, tt) g.1.1.0)
keeps atom r (inr (inr (inr (inr (inl e))))) = subst (Keeps atom) e (λ us g. atom_fine us.0 us.1.0 g.1.0)
keeps atom r (inr (inr (inr (inr (inr (a)))))) = absurd a
keeps atom_rest r (inl e) = subst (Keeps atom_rest) e (λ us g. g.1.0)
keeps atom_rest r (inr (inl e)) = subst (Keeps atom_rest) e (λ us g. g.1.0)
keeps atom_rest r (inr (inr (inl e))) = subst (Keeps atom_rest) e (λ us g. g.0)
keeps atom_rest r (inr (inr (inr (a)))) = absurd a
keeps fact r (inl e) = subst (Keeps fact) e (λ us g. g.1.0)
keeps fact r (inr (inl e)) = subst (Keeps fact) e (λ us g. g.1.0)
keeps fact r (inr (inr (inl e))) = subst (Keeps fact) e (λ us g. g.1.0)
keeps fact r (inr (inr (inr (a)))) = absurd a
keeps flow r (inl e) = subst (Keeps flow) e (λ us g. four us.1.0 us.1.1.1.0 us.1.1.1.1.1.0 us.1.1.1.1.1.1.1.0 g.1.0 g.1.1.1.0 g.1.1.1.1.1.0 g.1.1.1.1.1.1.1.0)
keeps flow r (inr (a)) = absurd a
keeps packet r (inl e) = subst (Keeps packet) e (λ us g. three us.1.0 us.1.1.1.0 us.1.1.1.1.1.0 g.1.0 g.1.1.1.0 g.1.1.1.1.1.0)
keeps packet r (inr (a)) = absurd a
keeps block r (inl e) = subst (Keeps block) e (λ us g. g.1.0)
keeps block r (inr (a)) = absurd a
keeps commands r (inl e) = subst (Keeps commands) e (λ us g. joined_seq us.0 us.1.0 g.0 g.1.0)
keeps commands r (inr (a)) = absurd a
keeps more_commands r (inl e) = subst (Keeps more_commands) e (λ us g. g.0)
keeps more_commands r (inr (inl e)) = subst (Keeps more_commands) e (λ us g. tt)
keeps more_commands r (inr (inr (a))) = absurd a
keeps command r (inl e) = subst (Keeps command) e (λ us g. tt)
keeps command r (inr (inl e)) = subst (Keeps command) e (λ us g. g.0)
keeps command r (inr (inr (inl e))) = subst (Keeps command) e (λ us g. g.0)
keeps command r (inr (inr (inr (inl e)))) = subst (Keeps command) e (λ us g. command_fine us.0 us.1.1.0 g.1.1.0)
keeps command r (inr (inr (inr (inr (a))))) = absurd a
keeps branch r (inl e) = subst (Keeps branch) e (λ us g. if_fine us.1.0 us.1.1.0 us.1.1.1.0 g.1.0 g.1.1.0 g.1.1.1.0)
keeps branch r (inr (a)) = absurd a
keeps choice r (inl e) = subst (Keeps choice) e (λ us g. pick_fine us.1.0 us.1.1.1.0 us.1.1.1.1.1.0 us.1.1.1.1.1.1.0 us.1.1.1.1.1.1.1.0 g.1.1.1.1.1.0 g.1.1.1.1.1.1.0 g.1.1.1.1.1.1.1.0)
keeps choice r (inr (a)) = absurd a
keeps otherwise r (inl e) = subst (Keeps otherwise) e (λ us g. g.1.0)
keeps otherwise r (inr (inl e)) = subst (Keeps otherwise) e (λ us g. tt)
keeps otherwise r (inr (inr (a))) = absurd a
keeps action r (inl e) = subst (Keeps action) e (λ us g. g.1.0)
keeps action r (inr (inl e)) = subst (Keeps action) e (λ us g. g.1.0)
keeps action r (inr (inr (inl e))) = subst (Keeps action) e (λ us g. g.1.0)
keeps action r (inr (inr (inr (inl e)))) = subst (Keeps action) e (λ us g. g.1.0)
keeps action r (inr (inr (inr (inr (inl e))))) = subst (Keeps action) e (λ us g. g.1.0)
keeps action r (inr (inr (inr (inr (inr (inl e)))))) = subst (Keeps action) e (λ us g. g.1.0)
keeps action r (inr (inr (inr (inr (inr (inr (a))))))) = absurd a

-- ---- all that is derived

abbrev Derived : (ss : List Symbol) → Values ss → List Token → Type 0
Derived ss vs rest = Row ss vs × AreFine rest

pub derived : {d : ℕ} {ss : List Symbol} {ms : List Mark} {vs : Values ss} → Derives d ss ms vs → (rest : List Token) → AreFine (before ms rest) → Derived ss vs rest
derived nothing rest h = (tt, h)
derived (one is later) rest h = let s = derived later rest h.1 in (((h.0, is), s.0), s.1)
derived (by_rule {n = n} {ms = ms} {ms' = ms'} r is {us} inner later) rest h =
    let s = derived inner (before ms' rest) (subst AreFine (before-append ms ms' rest) h) in
    let u = derived later rest s.1 in
    ((keeps n r is us s.0, u.0), u.1)
