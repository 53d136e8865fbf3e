-- The clauses of numerals, at what the code sees.
use Rattle.std.specs.Prelude.{◌≡◌, ℕ, List, [], ◌++◌, refl}
use Rattle.csdn_core.specs.declared.terms.Sort.{Sort}
use Rattle.csdn_tree.specs.declared.names.RawName.{RawName}
use Rattle.csdn_tree.specs.declared.names.RawTerm.{RawTerm}
use Rattle.csdn_tree.specs.declared.syntax.FlowWord.{FlowWord}
use Rattle.csdn_tree.specs.declared.syntax.SwitchWord.{SwitchWord}
use Rattle.csdn_tree.specs.declared.syntax.RawFlow.{RawFlow}
use Rattle.csdn_tree.specs.declared.syntax.RawPacket.{RawPacket}
use Rattle.csdn_tree.specs.declared.syntax.ChangeWord.{ChangeWord}
use Rattle.csdn_tree.specs.declared.syntax.Connective.{Connective}
use Rattle.csdn_tree.specs.declared.syntax.Quantifier.{Quantifier}
use Rattle.csdn_tree.specs.declared.syntax.RawFormula.{RawFormula}
use Rattle.csdn_tree.specs.declared.syntax.RawFormula.TheVariants as f
use Rattle.csdn_tree.specs.declared.syntax.RawCommand.{RawCommand}
use Rattle.csdn_tree.specs.declared.syntax.RawCommand.TheVariants as c
use Rattle.csdn_tree.specs.RawTree.{Seq-is, If-is, Pick-is, Not-is, Two-is, Bind-is}
use Rattle.csdn_tree.specs.Numerals.{term_numerals, terms_numerals, flow_numerals, formula_numerals, command_numerals}

pub formula_numerals-True : formula_numerals f.True ≡ []
unfolding formula_numerals
formula_numerals-True = refl

pub formula_numerals-False : formula_numerals f.False ≡ []
unfolding formula_numerals
formula_numerals-False = refl

pub formula_numerals-Atom : (name : RawName) (ts : List RawTerm) → formula_numerals (f.Atom name ts) ≡ terms_numerals ts
unfolding formula_numerals
formula_numerals-Atom name ts = refl

pub formula_numerals-Same : (t u : RawTerm) → formula_numerals (f.Same t u) ≡ term_numerals t ++ term_numerals u
unfolding formula_numerals
formula_numerals-Same t u = refl

pub formula_numerals-Flow : (at : ℕ) (word : FlowWord) (w : RawFlow) → formula_numerals (f.Flow at word w) ≡ flow_numerals w
unfolding formula_numerals
formula_numerals-Flow at word w = refl

pub formula_numerals-RcvThis : (at : ℕ) (w : RawPacket) → formula_numerals (f.RcvThis at w) ≡ term_numerals w.source ++ (term_numerals w.target ++ term_numerals w.ingress)
unfolding formula_numerals
formula_numerals-RcvThis at w = refl

pub formula_numerals-Not : (p : RawFormula) → formula_numerals (f.Not p) ≡ formula_numerals p
unfolding formula_numerals
formula_numerals-Not p = rw Not-is

pub formula_numerals-Two : (k : Connective) (p q : RawFormula) → formula_numerals (f.Two k p q) ≡ formula_numerals p ++ formula_numerals q
unfolding formula_numerals
formula_numerals-Two k p q = rw Two-is

pub formula_numerals-Bind : (which : Quantifier) (name : RawName) (sort : Sort) (p : RawFormula) → formula_numerals (f.Bind which name sort p) ≡ formula_numerals p
unfolding formula_numerals
formula_numerals-Bind which name sort p = rw Bind-is

pub command_numerals-Skip : command_numerals c.Skip ≡ []
unfolding command_numerals
command_numerals-Skip = refl

pub command_numerals-Seq : (a b : RawCommand) → command_numerals (c.Seq a b) ≡ command_numerals a ++ command_numerals b
unfolding command_numerals
command_numerals-Seq a b = rw Seq-is

pub command_numerals-If : (p : RawFormula) (a b : RawCommand) → command_numerals (c.If p a b) ≡ formula_numerals p ++ (command_numerals a ++ command_numerals b)
unfolding command_numerals
command_numerals-If p a b = rw If-is

pub command_numerals-Pick : (name : RawName) (sort : Sort) (p : RawFormula) (a b : RawCommand) → command_numerals (c.Pick name sort p a b) ≡ formula_numerals p ++ (command_numerals a ++ command_numerals b)
unfolding command_numerals
command_numerals-Pick name sort p a b = rw Pick-is

pub command_numerals-Change : (word : ChangeWord) (name : RawName) (ts : List RawTerm) → command_numerals (c.Change word name ts) ≡ terms_numerals ts
unfolding command_numerals
command_numerals-Change word name ts = refl

pub command_numerals-Switch : (word : SwitchWord) (w : RawFlow) → command_numerals (c.Switch word w) ≡ flow_numerals w
unfolding command_numerals
command_numerals-Switch word w = refl

pub command_numerals-Flood : (w : RawPacket) → command_numerals (c.Flood w) ≡ term_numerals w.source ++ (term_numerals w.target ++ term_numerals w.ingress)
unfolding command_numerals
command_numerals-Flood w = refl

pub ruleset numeral_steps = (formula_numerals-True, formula_numerals-False, formula_numerals-Atom, formula_numerals-Same, formula_numerals-Flow, formula_numerals-RcvThis, formula_numerals-Not, formula_numerals-Two, formula_numerals-Bind, command_numerals-Skip, command_numerals-Seq, command_numerals-If, command_numerals-Pick, command_numerals-Change, command_numerals-Switch, command_numerals-Flood)
