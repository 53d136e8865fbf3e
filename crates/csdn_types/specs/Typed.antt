-- What stands for a tree that breaks no rule.
use Rattle.std.specs.Prelude.{ℕ, ◌+◌, List, [], ◌∷◌, map, Option, Some, None, unwrap_or}
use Rattle.csdn_core.specs.declared.terms.Sort.{Sort}
use Rattle.csdn_core.specs.declared.terms.VarId.{VarId}
use Rattle.csdn_core.specs.declared.terms.Term.{Term}
use Rattle.csdn_core.specs.declared.terms.Term.TheVariants.{Var}
use Rattle.csdn_core.specs.declared.terms.Pred.{Pred}
use Rattle.csdn_core.specs.declared.terms.Pred.TheVariants as pred
use Rattle.csdn_core.specs.declared.syntax.Formula.{Formula}
use Rattle.csdn_core.specs.declared.syntax.Formula.TheVariants as formula
use Rattle.csdn_tree.specs.Binders.{binders}
use Rattle.csdn_tree.specs.declared.names.RawTerm.TheVariants.{Name}
use Rattle.csdn_tree.specs.declared.names.RawTerm.{RawTerm}
use Rattle.csdn_tree.specs.declared.syntax.Connective.{Connective}
use Rattle.csdn_tree.specs.declared.syntax.Connective.TheVariants as k
use Rattle.csdn_tree.specs.declared.syntax.Quantifier.{Quantifier}
use Rattle.csdn_tree.specs.declared.syntax.Quantifier.TheVariants as q
use Rattle.csdn_tree.specs.declared.syntax.FlowWord.{FlowWord}
use Rattle.csdn_tree.specs.declared.syntax.FlowWord.TheVariants.{Ft, Sent}
use Rattle.csdn_tree.specs.declared.syntax.RawFlow.{RawFlow}
use Rattle.csdn_tree.specs.declared.syntax.RawPacket.{RawPacket}
use Rattle.csdn_tree.specs.declared.syntax.RawFormula.{RawFormula}
use Rattle.csdn_tree.specs.declared.syntax.RawFormula.TheVariants as f
use Rattle.csdn_tree.specs.RawTree.{raw_not, raw_two, raw_bind}
use Rattle.csdn_types.specs.declared.scope.SortedTerm.{SortedTerm}
use Rattle.csdn_types.specs.Scope.{Scope, relation_named, meaning, bound}

-- the scope after a formula: numbers are used once
abbrev pub after : Scope → RawFormula → Scope
after s p = record s { next = s.next + binders p }

-- a name that stands for nothing is given a variable
abbrev pub known_term : Option SortedTerm → Term
known_term None = Var (record { 0 = 0 })
known_term (Some known) = known.term

abbrev pub term_of : Scope → RawTerm → Term
term_of s u = known_term (meaning s u)

abbrev pub terms_of : Scope → List RawTerm → List Term
terms_of s us = map (term_of s) us

abbrev pub stored : ℕ → Pred
stored id = pred.Stored (record { 0 = id })

abbrev pub pred_of : FlowWord → Pred
pred_of Ft = pred.Ft
pred_of Sent = pred.Sent

abbrev pub flow_of : Scope → RawFlow → List Term
flow_of s w = term_of s w.source ∷ term_of s w.target ∷ term_of s w.ingress ∷ term_of s w.egress ∷ []

abbrev pub packet_of : Scope → RawPacket → List Term
packet_of s w = term_of s w.source ∷ term_of s w.target ∷ term_of s w.ingress ∷ []

abbrev pub next_var : Scope → VarId
next_var s = record { 0 = s.next }

-- two formulas with a word between them
abbrev pub joined : Connective → Formula → Formula → Formula
joined k.And p q = formula.And p q
joined k.Or p q = formula.Or p q
joined k.Implies p q = formula.Implies p q
joined k.Iff p q = formula.Iff p q

-- a formula under a variable
abbrev pub quantified : Quantifier → VarId → Sort → Formula → Formula
quantified q.All x sort p = formula.Forall x sort p
quantified q.Some x sort p = formula.Exists x sort p

unfoldable pub typed : Scope → RawFormula → Formula
typed s f.True = formula.True
typed s f.False = formula.False
typed s (f.Atom name us) = formula.Atom (stored (unwrap_or (relation_named s name.text) 0)) (terms_of s us)
typed s (f.Same u v) = formula.Same (term_of s u) (term_of s v)
typed s (f.Flow at word w) = formula.Atom (pred_of word) (term_of s (Name w.switch) ∷ flow_of s w)
typed s (f.RcvThis at w) = formula.Atom pred.RcvThis (term_of s (Name w.switch) ∷ packet_of s w)
typed s (raw_not p) = formula.Not (typed s p)
typed s (raw_two k p q) = joined k (typed s p) (typed (after s p) q)
typed s (raw_bind which name sort p) = quantified which (next_var s) sort (typed (bound s name sort) p)
