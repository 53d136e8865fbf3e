-- The symbols of the grammar, and the value that each has.
use Rattle.std.specs.Prelude.{ℕ, ◌+◌, List, [], ◌∷◌, Option, Bool}
use denote.Enum.Bare.{sameb}
use Rattle.csdn_core.specs.declared.terms.Sort.{Sort}
use Rattle.csdn_tokens.specs.contracts.Kind.{the_type}
use Rattle.csdn_tokens.specs.declared.Kind.{Kind}
use Rattle.csdn_tokens.specs.declared.Token.{Token}
use Rattle.csdn_tree.specs.declared.names.RawName.{RawName}
use Rattle.csdn_tree.specs.declared.names.RawNumeral.{RawNumeral}
use Rattle.csdn_tree.specs.declared.names.RawTerm.{RawTerm}
use Rattle.csdn_tree.specs.declared.syntax.Connective.{Connective}
use Rattle.csdn_tree.specs.declared.syntax.InvariantKind.{InvariantKind}
use Rattle.csdn_tree.specs.declared.syntax.RawCommand.{RawCommand}
use Rattle.csdn_tree.specs.declared.syntax.RawFormula.{RawFormula}
use Rattle.csdn_tree.specs.declared.syntax.RawItem.{RawItem}
use Rattle.csdn_tree.specs.declared.syntax.RawPattern.{RawPattern}
use Rattle.csdn_tree.specs.declared.syntax.RawProgram.{RawProgram}
use Rattle.csdn_tree.specs.declared.syntax.RawRow.{RawRow}
use Rattle.csdn_text.specs.declared.parts.Action.{Action}
use Rattle.csdn_text.specs.declared.parts.AtomRest.{AtomRest}
use Rattle.csdn_text.specs.declared.parts.FlowTerms.{FlowTerms}
use Rattle.csdn_text.specs.declared.parts.PacketTerms.{PacketTerms}
use Rattle.csdn_tree.specs.declared.tiers.Tier.{Tier}
use Rattle.csdn_tree.specs.declared.syntax.Quantifier.{Quantifier}

-- what the grammar has a rule for
pub data Nonterminal : Type 0 where
  program : Nonterminal
  items : Nonterminal
  item : Nonterminal
  static_item : Nonterminal
  const_item : Nonterminal
  rel_item : Nonterminal
  invariant_item : Nonterminal
  invariant_kind : Nonterminal
  handler_item : Nonterminal
  handler_port : Nonterminal
  timeout_item : Nonterminal
  sorts : Nonterminal
  sort_list : Nonterminal
  more_sorts : Nonterminal
  sort : Nonterminal
  initial : Nonterminal
  rows : Nonterminal
  more_rows : Nonterminal
  row : Nonterminal
  terms : Nonterminal
  more_terms : Nonterminal
  name : Nonterminal
  term : Nonterminal
  port : Nonterminal
  formula : Nonterminal
  binds : Quantifier → Nonterminal
  more_binds : Quantifier → Nonterminal
  tier : Tier → Nonterminal
  tail : Connective → Nonterminal
  atom : Nonterminal
  atom_rest : Nonterminal
  fact : Nonterminal
  flow : Nonterminal
  packet : Nonterminal
  block : Nonterminal
  commands : Nonterminal
  more_commands : Nonterminal
  command : Nonterminal
  branch : Nonterminal
  choice : Nonterminal
  otherwise : Nonterminal
  action : Nonterminal

-- What a nonterminal stands for.
abbrev pub Value : Nonterminal → Type 0
Value program = RawProgram
Value items = List RawItem
Value item = RawItem
Value static_item = RawItem
Value const_item = RawItem
Value rel_item = RawItem
Value invariant_item = RawItem
Value invariant_kind = InvariantKind
Value handler_item = RawItem
Value handler_port = RawPattern
Value timeout_item = RawItem
Value sorts = List Sort
Value sort_list = List Sort
Value more_sorts = List Sort
Value sort = Sort
Value initial = List RawRow
Value rows = List RawRow
Value more_rows = List RawRow
Value row = RawRow
Value terms = List RawTerm
Value more_terms = List RawTerm
Value name = RawName
Value term = RawTerm
Value port = RawNumeral
Value formula = RawFormula
Value (binds q) = RawFormula
Value (more_binds q) = RawFormula
Value (tier t) = RawFormula
Value (tail word) = Option RawFormula
Value atom = RawFormula
Value atom_rest = AtomRest
Value fact = AtomRest
Value flow = FlowTerms
Value packet = PacketTerms
Value block = RawCommand
Value commands = RawCommand
Value more_commands = Option RawCommand
Value command = RawCommand
Value branch = RawCommand
Value choice = RawCommand
Value otherwise = RawCommand
Value action = Action

-- Where a symbol of a right side stands: at the depth of the whole, or one deeper.
pub data Level : Type 0 where
  here : Level
  deeper : Level

-- the depth of a symbol at a level of what stands at a depth
abbrev pub depth_of : ℕ → Level → ℕ
depth_of d here = d
depth_of d deeper = d + 1

-- A token of a kind, or a nonterminal.
pub data Symbol : Type 0 where
  token : Kind → Level → Symbol
  part : Nonterminal → Level → Symbol

-- what a symbol stands for
abbrev pub ValueOf : Symbol → Type 0
ValueOf (token k l) = Token
ValueOf (part n l) = Value n

-- the values of a row of symbols
abbrev pub Values : List Symbol → Type 0
Values [] = Unit {0}
Values (s ∷ ss) = ValueOf s × Values ss

-- a function of these values
abbrev pub Makes : List Symbol → Type 0 → Type 0
Makes [] B = B
Makes (s ∷ ss) B = ValueOf s → Makes ss B

-- the function at its values
abbrev pub made : {B : Type 0} → (ss : List Symbol) → Makes ss B → Values ss → B
made [] f vs = f
made (s ∷ ss) f vs = made ss (f vs.0) vs.1

-- A right side, and the value that it gives.
pub record Rule (n : Nonterminal) : Type 0 where
  pub parts : List Symbol
  pub gives : Makes parts (Value n)

-- The right sides of a nonterminal.
pub record Rules (n : Nonterminal) : Type 0 where
  pub led : List (Rule n)
  pub last : Rule n

-- whether two kinds are the same
abbrev pub same : Kind → Kind → Bool
same = sameb the_type
