-- The numbers k of all `prt(k)` that terms, formulas, commands and parts name.
use Rattle.std.specs.Prelude.{ℕ, List, [], ◌∷◌, ◌++◌, Option, Some, None}
use Rattle.std.specs.List.{flat_map}
use Rattle.csdn_core.specs.declared.terms.Term.{Term}
use Rattle.csdn_core.specs.declared.terms.Term.TheVariants.{Var, Const, Port}
use Rattle.csdn_core.specs.declared.syntax.Formula.{Formula}
use Rattle.csdn_core.specs.declared.syntax.Formula.TheVariants as f
use Rattle.csdn_core.specs.declared.syntax.Command.{Command}
use Rattle.csdn_core.specs.declared.syntax.Command.TheVariants as c
use Rattle.csdn_core.specs.declared.program.StartRow.{StartRow}
use Rattle.csdn_core.specs.declared.program.Invariant.{Invariant}
use Rattle.csdn_core.specs.declared.program.Handler.{Handler}
use Rattle.csdn_core.specs.declared.program.Parts.{Parts}
use Rattle.csdn_core.specs.Tree.{negation, conjunction, disjunction, implication, equivalence, universal, existential, sequence, conditional, choice}

abbrev pub term_numerals : Term → List ℕ
term_numerals (Var v) = []
term_numerals (Const c) = []
term_numerals (Port k) = k ∷ []

abbrev pub terms_numerals : List Term → List ℕ
terms_numerals ts = flat_map term_numerals ts

unfoldable pub formula_numerals : Formula → List ℕ
formula_numerals f.True = []
formula_numerals f.False = []
formula_numerals (f.Atom r ts) = terms_numerals ts
formula_numerals (f.Same t u) = term_numerals t ++ term_numerals u
formula_numerals (negation p) = formula_numerals p
formula_numerals (conjunction p q) = formula_numerals p ++ formula_numerals q
formula_numerals (disjunction p q) = formula_numerals p ++ formula_numerals q
formula_numerals (implication p q) = formula_numerals p ++ formula_numerals q
formula_numerals (equivalence p q) = formula_numerals p ++ formula_numerals q
formula_numerals (universal v s p) = formula_numerals p
formula_numerals (existential v s p) = formula_numerals p

unfoldable pub command_numerals : Command → List ℕ
command_numerals c.Skip = []
command_numerals (sequence a b) = command_numerals a ++ command_numerals b
command_numerals (conditional p a b) = formula_numerals p ++ (command_numerals a ++ command_numerals b)
command_numerals (choice v s p a b) = formula_numerals p ++ (command_numerals a ++ command_numerals b)
command_numerals (c.Insert r ts) = terms_numerals ts
command_numerals (c.Remove r ts) = terms_numerals ts
command_numerals (c.Install ts) = terms_numerals ts
command_numerals (c.Uninstall ts) = terms_numerals ts
command_numerals (c.Forward ts) = terms_numerals ts
command_numerals (c.Flood ts) = terms_numerals ts

-- the port of a handler's pattern
abbrev pub port_numerals : Option ℕ → List ℕ
port_numerals None = []
port_numerals (Some k) = k ∷ []

abbrev pub row_numerals : StartRow → List ℕ
row_numerals row = terms_numerals row.terms

abbrev pub invariant_numerals : Invariant → List ℕ
invariant_numerals v = formula_numerals v.formula

abbrev pub handler_numerals : Handler → List ℕ
handler_numerals h = port_numerals h.port ++ command_numerals h.body

-- the numbers k of all `prt(k)` in the parts
abbrev pub numerals_in : Parts → List ℕ
numerals_in P =
    flat_map row_numerals P.start
    ++ (flat_map invariant_numerals P.topology ++ (flat_map invariant_numerals P.safety ++ (flat_map invariant_numerals P.trans ++ flat_map handler_numerals P.handlers)))
