-- What can follow a nonterminal, which nonterminals may be empty, and that the next token always tells the right sides apart.
use Rattle.std.proofs.Common.{◌≡◌, List, [], ◌∷◌, ◌++◌, Bool, true, false, not, ◌&&◌, cond, refl}
use Rattle.csdn_tokens.specs.declared.Kind.{Kind}
use Rattle.csdn_tokens.specs.declared.Kind.TheVariants as k
use Rattle.csdn_tree.specs.declared.syntax.Connective.{Connective}
use Rattle.csdn_tree.specs.declared.syntax.Connective.TheVariants as word
use Rattle.csdn_tree.specs.declared.tiers.Tier.TheVariants.{Single, Joins}
use Rattle.csdn_text.specs.Symbols.{Nonterminal, program, items, item, static_item, const_item, rel_item, invariant_item, invariant_kind, handler_item, handler_port, timeout_item, sorts, sort_list, more_sorts, sort, initial, rows, more_rows, row, terms, more_terms, name, term, port, formula, binds, more_binds, tier, tail, atom, atom_rest, fact, flow, packet, block, commands, more_commands, command, branch, choice, otherwise, action, Symbol, token, part, Rule}
use Rattle.csdn_text.specs.Grammar.{rules}
use Rattle.csdn_text.specs.Machine.{first}
use Rattle.csdn_text.proofs.Sets.{within, apart}

-- the nonterminals that may be empty
abbrev pub nullable : Nonterminal → Bool
nullable items = true
nullable sort_list = true
nullable more_sorts = true
nullable initial = true
nullable rows = true
nullable more_rows = true
nullable terms = true
nullable more_terms = true
nullable (tail word) = true
nullable more_commands = true
nullable otherwise = true
nullable _ = false

-- the kinds that can follow formulas with a word between them
abbrev behind : Connective → List Kind
behind word.Iff = k.Semicolon ∷ k.Close ∷ k.Begin ∷ []
behind word.Implies = k.Both ∷ k.Semicolon ∷ k.Close ∷ k.Begin ∷ []
behind word.Or = k.Arrow ∷ k.Both ∷ k.Semicolon ∷ k.Close ∷ k.Begin ∷ []
behind word.And = k.Or ∷ k.Arrow ∷ k.Both ∷ k.Semicolon ∷ k.Close ∷ k.Begin ∷ []

-- the kinds that can follow a nonterminal
abbrev pub follow : Nonterminal → List Kind
follow program = k.Stop ∷ []
follow items = k.Stop ∷ []
follow item = k.Static ∷ k.Const ∷ k.Rel ∷ k.PktIn ∷ k.Timeout ∷ k.Topology ∷ k.Safety ∷ k.Trans ∷ k.Stop ∷ []
follow static_item = k.Static ∷ k.Const ∷ k.Rel ∷ k.PktIn ∷ k.Timeout ∷ k.Topology ∷ k.Safety ∷ k.Trans ∷ k.Stop ∷ []
follow const_item = k.Static ∷ k.Const ∷ k.Rel ∷ k.PktIn ∷ k.Timeout ∷ k.Topology ∷ k.Safety ∷ k.Trans ∷ k.Stop ∷ []
follow rel_item = k.Static ∷ k.Const ∷ k.Rel ∷ k.PktIn ∷ k.Timeout ∷ k.Topology ∷ k.Safety ∷ k.Trans ∷ k.Stop ∷ []
follow invariant_item = k.Static ∷ k.Const ∷ k.Rel ∷ k.PktIn ∷ k.Timeout ∷ k.Topology ∷ k.Safety ∷ k.Trans ∷ k.Stop ∷ []
follow invariant_kind = k.Name ∷ []
follow handler_item = k.Static ∷ k.Const ∷ k.Rel ∷ k.PktIn ∷ k.Timeout ∷ k.Topology ∷ k.Safety ∷ k.Trans ∷ k.Stop ∷ []
follow timeout_item = k.Static ∷ k.Const ∷ k.Rel ∷ k.PktIn ∷ k.Timeout ∷ k.Topology ∷ k.Safety ∷ k.Trans ∷ k.Stop ∷ []
follow handler_port = k.Close ∷ []
follow sorts = k.Semicolon ∷ k.Equals ∷ []
follow sort_list = k.Close ∷ []
follow more_sorts = k.Close ∷ []
follow sort = k.Semicolon ∷ k.Comma ∷ k.Close ∷ k.Dot ∷ k.Where ∷ []
follow initial = k.Semicolon ∷ []
follow rows = k.End ∷ []
follow more_rows = k.End ∷ []
follow row = k.Comma ∷ k.End ∷ k.And ∷ k.Or ∷ k.Arrow ∷ k.Both ∷ k.Semicolon ∷ k.Close ∷ k.Begin ∷ []
follow terms = k.Close ∷ []
follow more_terms = k.Close ∷ []
follow name = k.Open ∷ k.Colon ∷ k.Comma ∷ k.Arrow ∷ k.Close ∷ k.Equals ∷ k.Dot ∷ k.And ∷ k.Or ∷ k.Both ∷ k.Semicolon ∷ k.Begin ∷ []
follow term = k.Comma ∷ k.Close ∷ k.And ∷ k.Or ∷ k.Arrow ∷ k.Both ∷ k.Semicolon ∷ k.Begin ∷ []
follow port = k.Close ∷ k.Comma ∷ k.Equals ∷ k.And ∷ k.Or ∷ k.Arrow ∷ k.Both ∷ k.Semicolon ∷ k.Begin ∷ []
follow formula = k.Semicolon ∷ k.Close ∷ k.Begin ∷ []
follow (binds q) = k.Semicolon ∷ k.Close ∷ k.Begin ∷ []
follow (more_binds q) = k.Semicolon ∷ k.Close ∷ k.Begin ∷ []
follow (tier Single) = k.And ∷ k.Or ∷ k.Arrow ∷ k.Both ∷ k.Semicolon ∷ k.Close ∷ k.Begin ∷ []
follow (tier (Joins word)) = behind word
follow (tail word) = behind word
follow atom = k.And ∷ k.Or ∷ k.Arrow ∷ k.Both ∷ k.Semicolon ∷ k.Close ∷ k.Begin ∷ []
follow atom_rest = k.And ∷ k.Or ∷ k.Arrow ∷ k.Both ∷ k.Semicolon ∷ k.Close ∷ k.Begin ∷ []
follow fact = k.And ∷ k.Or ∷ k.Arrow ∷ k.Both ∷ k.Semicolon ∷ k.Close ∷ k.Begin ∷ []
follow flow = k.And ∷ k.Or ∷ k.Arrow ∷ k.Both ∷ k.Semicolon ∷ k.Close ∷ k.Begin ∷ []
follow packet = k.And ∷ k.Or ∷ k.Arrow ∷ k.Both ∷ k.Semicolon ∷ k.Close ∷ k.Begin ∷ []
follow block = k.Static ∷ k.Const ∷ k.Rel ∷ k.PktIn ∷ k.Timeout ∷ k.Topology ∷ k.Safety ∷ k.Trans ∷ k.Stop ∷ k.Else ∷ k.Skip ∷ k.Name ∷ k.If ∷ k.Pick ∷ k.End ∷ []
follow commands = k.End ∷ []
follow more_commands = k.End ∷ []
follow command = k.Skip ∷ k.Name ∷ k.If ∷ k.Pick ∷ k.End ∷ []
follow branch = k.Skip ∷ k.Name ∷ k.If ∷ k.Pick ∷ k.End ∷ []
follow choice = k.Skip ∷ k.Name ∷ k.If ∷ k.Pick ∷ k.End ∷ []
follow otherwise = k.Skip ∷ k.Name ∷ k.If ∷ k.Pick ∷ k.End ∷ []
follow action = k.Semicolon ∷ []

-- the kinds with which a row of symbols can begin
abbrev pub starts : List Symbol → List Kind
starts [] = []
starts (token k l ∷ ss) = k ∷ []
starts (part n l ∷ ss) = first n ++ cond (nullable n) (starts ss) []

abbrev pub erasable : List Symbol → Bool
erasable [] = true
erasable (token k l ∷ ss) = false
erasable (part n l ∷ ss) = nullable n && erasable ss

abbrev pub lead : List Symbol → List Kind
lead [] = []
lead (token k l ∷ ss) = k ∷ []
lead (part n l ∷ ss) = first n

-- whether what follows each nonterminal of a row, which some of the kinds `after` follow, is in its table
abbrev pub fine : List Kind → List Symbol → Bool
fine after [] = true
fine after (token k l ∷ ss) = fine after ss
fine after (part n l ∷ ss) = (within (starts ss) (follow n) && cond (erasable ss) (within after (follow n)) true) && fine after ss

-- the kinds at which a right side may be taken
abbrev pub heads : List Kind → List Symbol → List Kind
heads after ss = starts ss ++ cond (erasable ss) after []

abbrev pub none_at : {n : Nonterminal} → List Kind → List Kind → List (Rule n) → Bool
none_at ks after [] = true
none_at ks after (r ∷ rs) = apart ks (heads after r.parts) && none_at ks after rs

abbrev pub told_apart : {n : Nonterminal} → List Kind → List (Rule n) → Rule n → Bool
told_apart after [] last = true
told_apart after (r ∷ rs) last =
    (not (erasable r.parts) && within (starts r.parts) (lead r.parts)) && (none_at (lead r.parts) after (rs ++ last ∷ []) && told_apart after rs last)

-- whether a right side keeps the tables
abbrev pub keeps_rule : (n : Nonterminal) → Rule n → Bool
keeps_rule n r = within (starts r.parts) (first n) && (cond (erasable r.parts) (nullable n) true && fine (follow n) r.parts)

abbrev pub keeps : (n : Nonterminal) → List (Rule n) → Bool
keeps n [] = true
keeps n (r ∷ rs) = keeps_rule n r && keeps n rs

abbrev pub predictive : Nonterminal → Bool
predictive n = keeps n ((rules n).led ++ (rules n).last ∷ []) && told_apart (follow n) (rules n).led (rules n).last

-- the next token always tells the right sides apart
pub all_predictive : (n : Nonterminal) → predictive n ≡ true
all_predictive program = refl
all_predictive items = refl
all_predictive item = refl
all_predictive static_item = refl
all_predictive const_item = refl
all_predictive rel_item = refl
all_predictive invariant_item = refl
all_predictive invariant_kind = refl
all_predictive handler_item = refl
all_predictive handler_port = refl
all_predictive timeout_item = refl
all_predictive sorts = refl
all_predictive sort_list = refl
all_predictive more_sorts = refl
all_predictive sort = refl
all_predictive initial = refl
all_predictive rows = refl
all_predictive more_rows = refl
all_predictive row = refl
all_predictive terms = refl
all_predictive more_terms = refl
all_predictive name = refl
all_predictive term = refl
all_predictive port = refl
all_predictive formula = refl
all_predictive (binds q) = refl
all_predictive (more_binds q) = refl
all_predictive (tier Single) = refl
all_predictive (tier (Joins word.And)) = refl
all_predictive (tier (Joins word.Or)) = refl
all_predictive (tier (Joins word.Implies)) = refl
all_predictive (tier (Joins word.Iff)) = refl
all_predictive (tail word.And) = refl
all_predictive (tail word.Or) = refl
all_predictive (tail word.Implies) = refl
all_predictive (tail word.Iff) = refl
all_predictive atom = refl
all_predictive atom_rest = refl
all_predictive fact = refl
all_predictive flow = refl
all_predictive packet = refl
all_predictive block = refl
all_predictive commands = refl
all_predictive more_commands = refl
all_predictive command = refl
all_predictive branch = refl
all_predictive choice = refl
all_predictive otherwise = refl
all_predictive action = refl
