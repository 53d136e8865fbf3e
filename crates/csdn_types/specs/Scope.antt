-- What names stand for at a place of a program.
use Rattle.std.specs.Prelude.{ℕ, ◌+◌, List, [], ◌∷◌, ◌++◌, position, map, slice_get, Option, Some, None, option_map, option_and_then, if◌then◌else◌}
use Rattle.std.specs.Str.{bytes_eq}
use Rattle.csdn_core.specs.declared.terms.Sort.{Sort}
use Rattle.csdn_core.specs.declared.terms.Sort.TheVariants.{Pr}
use Rattle.csdn_core.specs.declared.terms.Term.TheVariants.{Var, Const, Port as PortTerm}
use Rattle.csdn_core.specs.declared.program.Relation.{Relation}
use Rattle.csdn_core.specs.declared.program.Constant.{Constant}
use Rattle.csdn_tree.specs.declared.names.RawName.{RawName}
use Rattle.csdn_tree.specs.declared.names.RawTerm.{RawTerm}
use Rattle.csdn_tree.specs.declared.names.RawTerm.TheVariants.{Name, Port}
use Rattle.csdn_tree.specs.declared.syntax.RawRelation.{RawRelation}
use Rattle.csdn_types.specs.declared.scope.SortedTerm.{SortedTerm}
use Rattle.csdn_types.specs.declared.scope.Variable.{Variable}

pub record Scope : Type 0 where
  pub relations : List Relation
  pub constants : List Constant
  -- the last one is the innermost
  pub variables : List Variable
  -- the number of the next variable that is bound
  pub next : ℕ

abbrev pub relation_named : Scope → List ℕ → Option ℕ
relation_named s name = position (bytes_eq name) (map (λ r. r.name) s.relations)

abbrev pub variable_named : List Variable → List ℕ → Option SortedTerm
variable_named [] name = None
variable_named (v ∷ vs) name = if bytes_eq name v.name then Some (record { term = Var v.var; sort = v.sort }) else variable_named vs name

abbrev pub constant_at : List Constant → ℕ → Option SortedTerm
constant_at constants at = option_map (λ d. record { term = Const (record { 0 = at }); sort = d.sort }) (slice_get constants at)

abbrev pub constant_named : List Constant → List ℕ → Option SortedTerm
constant_named constants name = option_and_then (constant_at constants) (position (bytes_eq name) (map (λ d. d.name) constants))

abbrev pub or_else : Option SortedTerm → Option SortedTerm → Option SortedTerm
or_else (Some known) other = Some known
or_else None other = other

-- the variable or the constant of a name
abbrev pub named : Scope → List ℕ → Option SortedTerm
named s name = or_else (variable_named s.variables name) (constant_named s.constants name)

-- what a term stands for
abbrev pub meaning : Scope → RawTerm → Option SortedTerm
meaning s (Name n) = named s n.text
meaning s (Port k) = Some (record { term = PortTerm k.number; sort = Pr })

-- the variable that a name binds here
abbrev pub variable : Scope → RawName → Sort → Variable
variable s name sort = record { name = name.text; sort = sort; var = record { 0 = s.next } }

-- the scope once a name is bound
abbrev pub bound : Scope → RawName → Sort → Scope
bound s name sort = record s { variables = s.variables ++ variable s name sort ∷ []; next = s.next + 1 }

-- the scope once a relation is declared
abbrev pub with_relation : Scope → RawRelation → Scope
with_relation s d = record s { relations = s.relations ++ record { name = d.name.text; sorts = d.sorts; fixed = d.fixed } ∷ [] }

-- .. and a constant
abbrev pub with_constant : Scope → RawName → Sort → Scope
with_constant s name sort = record s { constants = s.constants ++ record { name = name.text; sort = sort } ∷ [] }
