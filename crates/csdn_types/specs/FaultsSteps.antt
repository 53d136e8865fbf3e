-- The clauses of the rules on formulas, at what the code sees.
use Rattle.std.specs.Prelude.{◌≡◌, ℕ, List, [], ◌++◌, refl}
use Rattle.csdn_core.specs.declared.terms.FormulaPlace.{FormulaPlace}
use Rattle.csdn_core.specs.declared.terms.Sort.{Sort}
use Rattle.csdn_core.specs.declared.terms.Sort.TheVariants.{Sw}
use Rattle.csdn_tree.specs.declared.names.RawName.{RawName}
use Rattle.csdn_tree.specs.declared.names.RawTerm.{RawTerm}
use Rattle.csdn_tree.specs.declared.names.RawTerm.TheVariants.{Name}
use Rattle.csdn_tree.specs.declared.syntax.Connective.{Connective}
use Rattle.csdn_tree.specs.declared.syntax.Quantifier.{Quantifier}
use Rattle.csdn_tree.specs.declared.syntax.FlowWord.{FlowWord}
use Rattle.csdn_tree.specs.declared.syntax.RawFlow.{RawFlow}
use Rattle.csdn_tree.specs.declared.syntax.RawPacket.{RawPacket}
use Rattle.csdn_tree.specs.declared.syntax.RawFormula.{RawFormula}
use Rattle.csdn_tree.specs.declared.syntax.RawFormula.TheVariants as f
use Rattle.csdn_tree.specs.RawTree.{Not-is, Two-is, Bind-is}
use Rattle.csdn_types.specs.declared.refusal.SortRefusal.TheVariants.{NotAllowed}
use Rattle.csdn_types.specs.declared.terms.Use.TheVariants.{InFormula}
use Rattle.csdn_types.specs.Scope.{Scope, bound}
use Rattle.csdn_types.specs.Typed.{after}
use Rattle.csdn_types.specs.Faults.{faults, fault_if, atom_faults, same_faults, term_faults, flow_faults, packet_faults, variable_faults, word_is_outside, packet_is_outside}

pub faults-True : (place : FormulaPlace) (s : Scope) → faults place s f.True ≡ []
unfolding faults
faults-True place s = refl

pub faults-False : (place : FormulaPlace) (s : Scope) → faults place s f.False ≡ []
unfolding faults
faults-False place s = refl

pub faults-Atom : (place : FormulaPlace) (s : Scope) (name : RawName) (ts : List RawTerm) → faults place s (f.Atom name ts) ≡ atom_faults (InFormula place) s name ts
unfolding faults
faults-Atom place s name ts = refl

pub faults-Same : (place : FormulaPlace) (s : Scope) (t u : RawTerm) → faults place s (f.Same t u) ≡ same_faults s t u
unfolding faults
faults-Same place s t u = refl

pub faults-Flow : (place : FormulaPlace) (s : Scope) (at : ℕ) (word : FlowWord) (w : RawFlow) → faults place s (f.Flow at word w) ≡ term_faults s Sw (Name w.switch) ++ (fault_if (word_is_outside place word) (NotAllowed at) ++ flow_faults s w)
unfolding faults
faults-Flow place s at word w = refl

pub faults-RcvThis : (place : FormulaPlace) (s : Scope) (at : ℕ) (w : RawPacket) → faults place s (f.RcvThis at w) ≡ term_faults s Sw (Name w.switch) ++ (fault_if (packet_is_outside place) (NotAllowed at) ++ packet_faults s w)
unfolding faults
faults-RcvThis place s at w = refl

pub faults-Not : (place : FormulaPlace) (s : Scope) (p : RawFormula) → faults place s (f.Not p) ≡ faults place s p
unfolding faults
faults-Not place s p = rw Not-is

pub faults-Two : (place : FormulaPlace) (s : Scope) (k : Connective) (p q : RawFormula) → faults place s (f.Two k p q) ≡ faults place s p ++ faults place (after s p) q
unfolding faults
faults-Two place s k p q = rw Two-is

pub faults-Bind : (place : FormulaPlace) (s : Scope) (which : Quantifier) (name : RawName) (sort : Sort) (p : RawFormula) → faults place s (f.Bind which name sort p) ≡ variable_faults s name ++ faults place (bound s name sort) p
unfolding faults
faults-Bind place s which name sort p = rw Bind-is

pub ruleset faults_steps = (faults-True, faults-False, faults-Atom, faults-Same, faults-Flow, faults-RcvThis, faults-Not, faults-Two, faults-Bind)
