-- Each nonterminal derives some tokens.
use Rattle.std.proofs.Common.{ℕ, List, [], ◌∷◌, ◌++◌, refl, inl, inr}
use Rattle.csdn_tokens.specs.declared.Kind.{Kind}
use Rattle.csdn_tokens.specs.declared.Kind.TheVariants as k
use Rattle.csdn_tokens.specs.declared.Token.{Token}
use Rattle.csdn_tree.specs.declared.syntax.Quantifier.{Quantifier}
use Rattle.csdn_tree.specs.declared.syntax.Connective.{Connective}
use Rattle.csdn_tree.specs.declared.syntax.Connective.TheVariants as w
use Rattle.csdn_tree.specs.declared.tiers.Tier.TheVariants.{Single, Joins}
use Rattle.csdn_tree.specs.declared.tiers.Tier.{Tier}
use Rattle.csdn_text.specs.Symbols.{Nonterminal, program, items, item, static_item, const_item, rel_item, invariant_item, invariant_kind, handler_item, handler_port, timeout_item, sorts, sort_list, more_sorts, sort, initial, rows, more_rows, row, terms, more_terms, name, term, port, formula, binds, more_binds, tier, tail, atom, atom_rest, fact, flow, packet, block, commands, more_commands, command, branch, choice, otherwise, action, Level, here, deeper, depth_of, Symbol, token, part, Values, made, Rule}
use Rattle.csdn_tree.specs.Tiers.{left_of}
use Rattle.csdn_text.specs.Grammar.{rules}
use Rattle.csdn_text.specs.Derives.{Mark, IsRule, Derives}
use Rattle.csdn_text.specs.Derives.Derives.{nothing, one, by_rule}

-- some tokens that a row of symbols derives
pub record Word (d : ℕ) (ss : List Symbol) : Type 0 where
  pub marks : List Mark
  pub values : Values ss
  pub derives : Derives d ss marks values

empty : (d : ℕ) → Word d []
empty d = record { marks = []; values = tt; derives = nothing }

tok : {d : ℕ} {ss : List Symbol} (x : Kind) (l : Level) → Word d ss → Word d (token x l ∷ ss)
tok {d} x l w = let t : Token = record { kind = x; at = 0; number = 0; text = [] } in
    record { marks = record { token = t; depth = depth_of d l } ∷ w.marks; values = (t, w.values); derives = one refl w.derives }

-- some right side of a nonterminal, with tokens at every depth
abbrev Some : Nonterminal → Type 0
Some n = (r : Rule n) × IsRule n r × ((d : ℕ) → Word d r.parts)

use_it : {d : ℕ} {n : Nonterminal} {l : Level} {ss : List Symbol} → Some n → Word d ss → Word d (part n l ∷ ss)
use_it {d} {n} {l} s w = let v = s.2 (depth_of d l) in
    record { marks = v.marks ++ w.marks; values = (made s.0.parts s.0.gives v.values, w.values); derives = by_rule s.0 s.1 v.derives w.derives }

-- the first right side
abbrev first_of : {n : Nonterminal} → List (Rule n) → Rule n → Rule n
first_of [] last = last
first_of (r ∷ rs) last = r

a_items : Some items
a_items = ((rules items).last, inr (inl refl), empty)

a_invariant_kind : Some invariant_kind
a_invariant_kind = (first_of (rules invariant_kind).led (rules invariant_kind).last, inl refl, (λ d. tok k.Topology here (empty d)))

a_sort_list : Some sort_list
a_sort_list = ((rules sort_list).last, inr (inl refl), empty)

a_more_sorts : Some more_sorts
a_more_sorts = ((rules more_sorts).last, inr (inl refl), empty)

a_sort : Some sort
a_sort = (first_of (rules sort).led (rules sort).last, inl refl, (λ d. tok k.Sw here (empty d)))

a_initial : Some initial
a_initial = ((rules initial).last, inr (inl refl), empty)

a_rows : Some rows
a_rows = ((rules rows).last, inr (inl refl), empty)

a_more_rows : Some more_rows
a_more_rows = ((rules more_rows).last, inr (inl refl), empty)

a_terms : Some terms
a_terms = ((rules terms).last, inr (inl refl), empty)

a_more_terms : Some more_terms
a_more_terms = ((rules more_terms).last, inr (inl refl), empty)

a_name : Some name
a_name = ((rules name).last, inl refl, (λ d. tok k.Name here (empty d)))

a_port : Some port
a_port = ((rules port).last, inl refl, (λ d. tok k.Prt here (tok k.Open here (tok k.Number here (tok k.Close here (empty d))))))

a_atom : Some atom
a_atom = (first_of (rules atom).led (rules atom).last, inl refl, (λ d. tok k.True here (empty d)))

a_more_commands : Some more_commands
a_more_commands = ((rules more_commands).last, inr (inl refl), empty)

a_command : Some command
a_command = (first_of (rules command).led (rules command).last, inl refl, (λ d. tok k.Skip here (tok k.Semicolon here (empty d))))

a_otherwise : Some otherwise
a_otherwise = ((rules otherwise).last, inr (inl refl), empty)

a_timeout_item : Some timeout_item
a_timeout_item = ((rules timeout_item).last, inl refl, (λ d. tok k.Timeout here (tok k.Number here (tok k.Semicolon here (empty d)))))

a_const_item : Some const_item
a_const_item = ((rules const_item).last, inl refl, (λ d. tok k.Const here (use_it a_name (tok k.Colon here (use_it a_sort (tok k.Semicolon here (empty d)))))))

a_handler_port : Some handler_port
a_handler_port = (first_of (rules handler_port).led (rules handler_port).last, inl refl, (λ d. use_it a_port (empty d)))

a_sorts : Some sorts
a_sorts = ((rules sorts).last, inl refl, (λ d. tok k.Open here (use_it a_sort_list (tok k.Close here (empty d)))))

a_row : Some row
a_row = ((rules row).last, inl refl, (λ d. tok k.Open here (use_it a_terms (tok k.Close here (empty d)))))

a_term : Some term
a_term = ((rules term).last, inr (inl refl), (λ d. use_it a_name (empty d)))

a_tail : (word : Connective) → Some (tail word)
a_tail word = ((rules (tail word)).last, inr (inl refl), empty)

a_single : Some (tier Single)
a_single = ((rules (tier Single)).last, inr (inl refl), (λ d. use_it a_atom (empty d)))

-- formulas with a word between them, given what stands to its left
joined_by : (word : Connective) → Some (tier (left_of word)) → Some (tier (Joins word))
joined_by word left = ((rules (tier (Joins word))).last, inl refl, (λ d. use_it left (use_it (a_tail word) (empty d))))

a_joins : (word : Connective) → Some (tier (Joins word))
a_joins w.And = joined_by w.And a_single
a_joins w.Or = joined_by w.Or (joined_by w.And a_single)
a_joins w.Implies = joined_by w.Implies (joined_by w.Or (joined_by w.And a_single))
a_joins w.Iff = joined_by w.Iff (joined_by w.Implies (joined_by w.Or (joined_by w.And a_single)))

a_tier : (t : Tier) → Some (tier t)
a_tier Single = a_single
a_tier (Joins word) = a_joins word

a_commands : Some commands
a_commands = ((rules commands).last, inl refl, (λ d. use_it a_command (use_it a_more_commands (empty d))))

a_static_item : Some static_item
a_static_item = ((rules static_item).last, inl refl, (λ d. tok k.Static here (use_it a_name (use_it a_sorts (tok k.Semicolon here (empty d))))))

a_rel_item : Some rel_item
a_rel_item = ((rules rel_item).last, inl refl, (λ d. tok k.Rel here (use_it a_name (use_it a_sorts (use_it a_initial (tok k.Semicolon here (empty d)))))))

a_atom_rest : Some atom_rest
a_atom_rest = (first_of (rules atom_rest).led (rules atom_rest).last, inl refl, (λ d. tok k.Equals here (use_it a_term (empty d))))

a_flow : Some flow
a_flow = ((rules flow).last, inl refl, (λ d. tok k.Open here (use_it a_term (tok k.Arrow here (use_it a_term (tok k.Comma here (use_it a_term (tok k.Arrow here (use_it a_term (tok k.Close here (empty d)))))))))))

a_packet : Some packet
a_packet = ((rules packet).last, inl refl, (λ d. tok k.Open here (use_it a_term (tok k.Arrow here (use_it a_term (tok k.Comma here (use_it a_term (tok k.Close here (empty d)))))))))

a_block : Some block
a_block = ((rules block).last, inl refl, (λ d. tok k.Begin deeper (use_it a_commands (tok k.End deeper (empty d)))))

a_action : Some action
a_action = (first_of (rules action).led (rules action).last, inl refl, (λ d. tok k.Insert here (use_it a_row (empty d))))

a_item : Some item
a_item = (first_of (rules item).led (rules item).last, inl refl, (λ d. use_it a_static_item (empty d)))

a_handler_item : Some handler_item
a_handler_item = ((rules handler_item).last, inl refl, (λ d. tok k.PktIn here (tok k.Open here (use_it a_name (tok k.Comma here (use_it a_name (tok k.Arrow here (use_it a_name (tok k.Comma here (use_it a_handler_port (tok k.Close here (use_it a_block (empty d)))))))))))))

a_fact : Some fact
a_fact = (first_of (rules fact).led (rules fact).last, inl refl, (λ d. tok k.Ft here (use_it a_flow (empty d))))

a_program : Some program
a_program = ((rules program).last, inl refl, (λ d. use_it a_item (use_it a_items (empty d))))

a_formula : Some formula
a_formula = ((rules formula).last, inr (inr (inl refl)), (λ d. use_it (a_joins w.Iff) (empty d)))

a_invariant_item : Some invariant_item
a_invariant_item = ((rules invariant_item).last, inl refl, (λ d. use_it a_invariant_kind (use_it a_name (tok k.Colon here (use_it a_formula (tok k.Semicolon here (empty d)))))))

a_more_binds : (q : Quantifier) → Some (more_binds q)
a_more_binds q = ((rules (more_binds q)).last, inr (inl refl), (λ d. tok k.Dot here (use_it a_formula (empty d))))

a_branch : Some branch
a_branch = ((rules branch).last, inl refl, (λ d. tok k.If here (use_it a_formula (use_it a_block (use_it a_otherwise (empty d))))))

a_choice : Some choice
a_choice = ((rules choice).last, inl refl, (λ d. tok k.Pick here (use_it a_name (tok k.Colon here (use_it a_sort (tok k.Where here (use_it a_formula (use_it a_block (use_it a_otherwise (empty d))))))))))

a_binds : (q : Quantifier) → Some (binds q)
a_binds q = ((rules (binds q)).last, inl refl, (λ d. use_it a_name (tok k.Colon deeper (use_it a_sort (use_it (a_more_binds q) (empty d))))))

some_of : (n : Nonterminal) → Some n
some_of program = a_program
some_of items = a_items
some_of item = a_item
some_of static_item = a_static_item
some_of const_item = a_const_item
some_of rel_item = a_rel_item
some_of invariant_item = a_invariant_item
some_of invariant_kind = a_invariant_kind
some_of handler_item = a_handler_item
some_of handler_port = a_handler_port
some_of timeout_item = a_timeout_item
some_of sorts = a_sorts
some_of sort_list = a_sort_list
some_of more_sorts = a_more_sorts
some_of sort = a_sort
some_of initial = a_initial
some_of rows = a_rows
some_of more_rows = a_more_rows
some_of row = a_row
some_of terms = a_terms
some_of more_terms = a_more_terms
some_of name = a_name
some_of term = a_term
some_of port = a_port
some_of formula = a_formula
some_of (binds q) = a_binds q
some_of (more_binds q) = a_more_binds q
some_of (tier t) = a_tier t
some_of (tail word) = a_tail word
some_of atom = a_atom
some_of atom_rest = a_atom_rest
some_of fact = a_fact
some_of flow = a_flow
some_of packet = a_packet
some_of block = a_block
some_of commands = a_commands
some_of more_commands = a_more_commands
some_of command = a_command
some_of branch = a_branch
some_of choice = a_choice
some_of otherwise = a_otherwise
some_of action = a_action

-- each row of symbols derives some tokens
pub word : (d : ℕ) (ss : List Symbol) → Word d ss
word d [] = empty d
word d (token x l ∷ ss) = tok x l (word d ss)
word d (part n l ∷ ss) = use_it (some_of n) (word d ss)
