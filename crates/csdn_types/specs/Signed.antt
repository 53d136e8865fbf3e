-- How a tree and its scope fit a signature.
use Rattle.std.specs.Prelude.{◌≡◌, ℕ, ◌+◌, ◌≤◌, zero, suc, List, [], ◌∷◌, length, map, Some, None, slice_get, Contains}
use Rattle.csdn_core.specs.declared.program.Relation.{Relation}
use Rattle.csdn_core.specs.declared.program.Constant.{Constant}
use Rattle.csdn_core.specs.Sorted.{Signature, Bind, most_variables}
use Rattle.csdn_core.specs.SortedIn.{Scope as SortedScope}
use Rattle.csdn_tree.specs.declared.names.RawTerm.{RawTerm}
use Rattle.csdn_tree.specs.declared.names.RawTerm.TheVariants.{Name, Port}
use Rattle.csdn_tree.specs.declared.syntax.RawFormula.{RawFormula}
use Rattle.csdn_tree.specs.declared.syntax.RawFormula.TheVariants as f
use Rattle.csdn_tree.specs.declared.syntax.RawCommand.{RawCommand}
use Rattle.csdn_tree.specs.declared.syntax.RawCommand.TheVariants as c
use Rattle.csdn_tree.specs.RawTree.{raw_seq, raw_if, raw_pick, raw_not, raw_two, raw_bind}
use Rattle.csdn_types.specs.declared.scope.Variable.{Variable}
use Rattle.csdn_core.specs.WellSorted.{OwnPacket}
use Rattle.csdn_types.specs.declared.own.OwnTerms.{OwnTerms}
use Rattle.csdn_types.specs.Scope.{Scope}

abbrev pub bind_of : Variable → Bind
bind_of v = record { var = v.var; sort = v.sort }

-- the variables in scope, with their sorts
abbrev pub binds_of : Scope → List Bind
binds_of s = map bind_of s.variables

-- the scope has the variables with their sorts, the numbers that come next are free in it, and there is no variable too many
pub record IsScopeOf (s : Scope) (Γ : SortedScope) : Type 0 where
  pub known : (b : Bind) → Contains (binds_of s) b → Γ b.var.0 ≡ Some b.sort
  pub free : (n : ℕ) → s.next ≤ n → Γ n ≡ None
  pub few : length s.variables ≤ most_variables

-- the declarations so far stand in the whole signature
pub record IsPart (s : Scope) (S : Signature) : Type 0 where
  pub relations : (k : ℕ) (d : Relation) → slice_get s.relations k ≡ Some d → slice_get S.relations k ≡ Some d
  pub constants : (k : ℕ) (d : Constant) → slice_get s.constants k ≡ Some d → slice_get S.constants k ≡ Some d

-- the numerals of a term
abbrev pub HasNumeral : Signature → RawTerm → Type 0
HasNumeral S (Name n) = Unit {0}
HasNumeral S (Port k) = Contains S.numerals k.number

abbrev pub HaveNumerals : Signature → List RawTerm → Type 0
HaveNumerals S [] = Unit {0}
HaveNumerals S (t ∷ ts) = HasNumeral S t × HaveNumerals S ts

-- each numeral of the formula is one of the signature's
unfoldable pub FormulaNumerals : Signature → RawFormula → Type 0
FormulaNumerals S f.True = Unit {0}
FormulaNumerals S f.False = Unit {0}
FormulaNumerals S (f.Atom name ts) = HaveNumerals S ts
FormulaNumerals S (f.Same t u) = HasNumeral S t × HasNumeral S u
FormulaNumerals S (f.Flow at word w) = HaveNumerals S (Name w.switch ∷ w.source ∷ w.target ∷ w.ingress ∷ w.egress ∷ [])
FormulaNumerals S (f.RcvThis at w) = HaveNumerals S (Name w.switch ∷ w.source ∷ w.target ∷ w.ingress ∷ [])
FormulaNumerals S (raw_not p) = FormulaNumerals S p
FormulaNumerals S (raw_two k p q) = FormulaNumerals S p × FormulaNumerals S q
FormulaNumerals S (raw_bind which name sort p) = FormulaNumerals S p

unfoldable pub CommandNumerals : Signature → RawCommand → Type 0
CommandNumerals S c.Skip = Unit {0}
CommandNumerals S (raw_seq a b) = CommandNumerals S a × CommandNumerals S b
CommandNumerals S (raw_if p a b) = FormulaNumerals S p × CommandNumerals S a × CommandNumerals S b
CommandNumerals S (raw_pick name sort p a b) = FormulaNumerals S p × CommandNumerals S a × CommandNumerals S b
CommandNumerals S (c.Change word name ts) = HaveNumerals S ts
CommandNumerals S (c.Switch word w) = HaveNumerals S (Name w.switch ∷ w.source ∷ w.target ∷ w.ingress ∷ w.egress ∷ [])
CommandNumerals S (c.Flood w) = HaveNumerals S (Name w.switch ∷ w.source ∷ w.target ∷ w.ingress ∷ [])

-- a handler's own packet
abbrev pub seen : OwnTerms → OwnPacket
seen own = record { switch = own.switch; source = own.source; target = own.target; ingress = own.ingress }

-- the numbers from one on
unfoldable pub counted : ℕ → ℕ → List ℕ
counted from zero = []
counted from (suc n) = from ∷ counted (from + 1) n
