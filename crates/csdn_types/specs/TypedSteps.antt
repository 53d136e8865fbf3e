-- The clauses of what stands for formulas, at what the code sees.
use Rattle.std.specs.Prelude.{◌≡◌, ℕ, List, ◌∷◌, unwrap_or, refl}
use Rattle.csdn_core.specs.declared.terms.Sort.{Sort}
use Rattle.csdn_core.specs.declared.terms.Pred.TheVariants as pred
use Rattle.csdn_core.specs.declared.syntax.Formula.TheVariants as formula
use Rattle.csdn_tree.specs.declared.names.RawName.{RawName}
use Rattle.csdn_tree.specs.declared.names.RawTerm.{RawTerm}
use Rattle.csdn_tree.specs.declared.names.RawTerm.TheVariants.{Name}
use Rattle.csdn_tree.specs.declared.syntax.Connective.{Connective}
use Rattle.csdn_tree.specs.declared.syntax.Quantifier.{Quantifier}
use Rattle.csdn_tree.specs.declared.syntax.FlowWord.{FlowWord}
use Rattle.csdn_tree.specs.declared.syntax.RawFlow.{RawFlow}
use Rattle.csdn_tree.specs.declared.syntax.RawPacket.{RawPacket}
use Rattle.csdn_tree.specs.declared.syntax.RawFormula.{RawFormula}
use Rattle.csdn_tree.specs.declared.syntax.RawFormula.TheVariants as f
use Rattle.csdn_tree.specs.RawTree.{Not-is, Two-is, Bind-is}
use Rattle.csdn_types.specs.Scope.{Scope, bound, relation_named}
use Rattle.csdn_types.specs.Typed.{after, typed, joined, quantified, stored, terms_of, term_of, pred_of, flow_of, packet_of, next_var}

pub typed-True : (s : Scope) → typed s f.True ≡ formula.True
unfolding typed
typed-True s = refl

pub typed-False : (s : Scope) → typed s f.False ≡ formula.False
unfolding typed
typed-False s = refl

pub typed-Atom : (s : Scope) (name : RawName) (us : List RawTerm) → typed s (f.Atom name us) ≡ formula.Atom (stored (unwrap_or (relation_named s name.text) 0)) (terms_of s us)
unfolding typed
typed-Atom s name us = refl

pub typed-Same : (s : Scope) (u v : RawTerm) → typed s (f.Same u v) ≡ formula.Same (term_of s u) (term_of s v)
unfolding typed
typed-Same s u v = refl

pub typed-Flow : (s : Scope) (at : ℕ) (word : FlowWord) (w : RawFlow) → typed s (f.Flow at word w) ≡ formula.Atom (pred_of word) (term_of s (Name w.switch) ∷ flow_of s w)
unfolding typed
typed-Flow s at word w = refl

pub typed-RcvThis : (s : Scope) (at : ℕ) (w : RawPacket) → typed s (f.RcvThis at w) ≡ formula.Atom pred.RcvThis (term_of s (Name w.switch) ∷ packet_of s w)
unfolding typed
typed-RcvThis s at w = refl

pub typed-Not : (s : Scope) (p : RawFormula) → typed s (f.Not p) ≡ formula.Not (typed s p)
unfolding typed
typed-Not s p = rw Not-is

pub typed-Two : (s : Scope) (k : Connective) (p q : RawFormula) → typed s (f.Two k p q) ≡ joined k (typed s p) (typed (after s p) q)
unfolding typed
typed-Two s k p q = rw Two-is

pub typed-Bind : (s : Scope) (which : Quantifier) (name : RawName) (sort : Sort) (p : RawFormula) → typed s (f.Bind which name sort p) ≡ quantified which (next_var s) sort (typed (bound s name sort) p)
unfolding typed
typed-Bind s which name sort p = rw Bind-is

pub ruleset typed_steps = (typed-True, typed-False, typed-Atom, typed-Same, typed-Flow, typed-RcvThis, typed-Not, typed-Two, typed-Bind)
