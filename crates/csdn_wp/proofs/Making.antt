-- Room for formulas.
use Rattle.std.proofs.Common.{◌≡◌, ◌↔◌, ℕ, ◌+◌, ◌-◌, ◌<◌, ◌≤◌, Result, Ok, Err, IsErrAnd, arith, refl, sym, subst, ap}
use Rattle.csdn_core.specs.declared.terms.VarId.{VarId}
use Rattle.csdn_core.specs.declared.terms.Sort.{Sort}
use Rattle.csdn_core.specs.declared.syntax.Formula.{Formula}
use Rattle.csdn_core.specs.declared.syntax.Formula.TheVariants as f
use Rattle.csdn_core.specs.declared.syntax.Command.{Command}
use Rattle.csdn_core.specs.Nodes.{nodes}
use Rattle.csdn_core.proofs.NodeSteps.{nodes-And, nodes-Implies, nodes-Forall}
use Rattle.fol_forms.specs.declared.refusal.FormRefusal.{FormRefusal}
use Rattle.fol_forms.specs.declared.refusal.FormRefusal.TheVariants.{Large, Memory}
use Rattle.fol_forms.specs.Limits.{capped, most_nodes}
use Rattle.csdn_wp.specs.Preconditions.{wp}
use Rattle.csdn_wp.specs.Makes.{Makes, Leaves}
use Rattle.csdn_wp.proofs.Grows.{wp_grows}

pub no_room : (n count room : ℕ) → count ≡ capped n → room < count → room < n
unfolding capped
no_room n count room counted more = omega (arith, counted, more)

pub has_room : (n count room : ℕ) → room ≤ most_nodes → count ≡ capped n → count ≤ room → n ≤ room
unfolding capped
has_room n count room small counted few = omega (arith, small, counted, few)

-- counted with one node more
pub no_room_and_one : (n count more room : ℕ) → count ≡ capped n → more ≡ capped (count + 1) → room < more → room < n + 1
unfolding capped
no_room_and_one n count more room counted one beyond = omega (arith, counted, one, beyond)

pub left_and_one : (n count more room : ℕ) → room ≤ most_nodes → count ≡ capped n → more ≡ capped (count + 1) → more ≤ room → room - more + (n + 1) ≡ room
unfolding capped
left_and_one n count more room small counted one within = omega (arith, small, counted, one, within)

-- a refusal that is passed on

pub refused_part : (left room : ℕ) (p q : Formula) (e : FormRefusal) (r : Result Formula FormRefusal) → IsErrAnd r (λ given. given ≡ e) → Makes left p (Err e) → (left < nodes p → room < nodes q) → Makes room q r
refused_part left room p q e (Ok made) passed part more = absurd passed
refused_part left room p q Large (Err given) passed part more = subst (λ z. Makes room q (Err z)) (sym passed) (more part)
refused_part left room p q Memory (Err given) passed part more = subst (λ z. Makes room q (Err z)) (sym passed) tt

pub refused_room : (n room : ℕ) (q : Formula) (e : FormRefusal) (r : Result Formula FormRefusal) → IsErrAnd r (λ given. given ≡ e) → Leaves room n (Err e) → (room < n → room < nodes q) → Makes room q r
refused_room n room q e (Ok made) passed none more = absurd passed
refused_room n room q Large (Err given) passed none more = subst (λ z. Makes room q (Err z)) (sym passed) (more none)
refused_room n room q Memory (Err given) passed none more = absurd none

-- two formulas joined by one node, of which the first is counted before the second is made

pub record Joins (join : Formula → Formula → Formula) : Type 0 where
  pub count : (p q : Formula) → nodes (join p q) ≡ nodes p + nodes q + 1

pub joins-And : Joins f.And
joins-And = record { count = nodes-And }

pub joins-Implies : Joins f.Implies
joins-Implies = record { count = nodes-Implies }

module _ (join : Formula → Formula → Formula) (joins : Joins join) (room : ℕ) (p q counted : Formula) (is : counted ≡ p) where
  pub first_refused : room < nodes counted + 1 → room < nodes (join p q)
  first_refused none = omega (arith, joins.count p q, ap nodes is, none)

  pub second_refused : (left : ℕ) → left + (nodes counted + 1) ≡ room → left < nodes q → room < nodes (join p q)
  second_refused left rest none = omega (arith, joins.count p q, ap nodes is, rest, none)

  pub both_fit : (left : ℕ) → left + (nodes counted + 1) ≡ room → nodes q ≤ left → nodes (join p q) ≤ room
  both_fit left rest fits = omega (arith, joins.count p q, ap nodes is, rest, fits)

-- a quantifier

module _ (room : ℕ) (v : VarId) (s : Sort) (p : Formula) where
  pub each_refused : (left : ℕ) → left + 1 ≡ room → left < nodes p → room < nodes (f.Forall v s p)
  each_refused left rest none = omega (arith, nodes-Forall v s p, rest, none)

  pub each_no_room : room < 1 → room < nodes (f.Forall v s p)
  each_no_room none = omega (arith, nodes-Forall v s p, none)

  pub each_fits : (left : ℕ) → left + 1 ≡ room → nodes p ≤ left → nodes (f.Forall v s p) ≤ room
  each_fits left rest fits = omega (arith, nodes-Forall v s p, rest, fits)

-- two formulas of which the second, a precondition under a condition, has at least the nodes of the formula after it

module _ (room : ℕ) (first condition : Formula) (b : Command) (q : Formula) where
  pub second_no_room : room < nodes q + 1 → room < nodes (f.And first (f.Implies condition (wp b q)))
  second_no_room none = omega (arith, nodes-And first (f.Implies condition (wp b q)), nodes-Implies condition (wp b q), wp_grows b q, none)

  pub first_too_large : (left : ℕ) → left + (nodes q + 1) ≡ room → left < nodes first → room < nodes (f.And first (f.Implies condition (wp b q)))
  first_too_large left rest none = omega (arith, nodes-And first (f.Implies condition (wp b q)), nodes-Implies condition (wp b q), wp_grows b q, rest, none)

pub sequence_refused : (room : ℕ) (a : Command) (q : Formula) → room < nodes q → room < nodes (wp a q)
sequence_refused room a q none = omega (arith, wp_grows a q, none)

-- of a form of `fol_forms`, and what it stands in

pub refused_form : (room : ℕ) (p q : Formula) (e : FormRefusal) (r : Result Formula FormRefusal) → room ≤ most_nodes → IsErrAnd r (λ given. given ≡ e) → (◌≡◌ {A = Result Formula FormRefusal} (Err e) (Err Large)) ↔ (most_nodes < nodes p) → nodes p ≤ nodes q → Makes room q r
refused_form room p q e (Ok x) small passed large grows = absurd passed
refused_form room p q Large (Err given) small passed large grows = subst (λ z. Makes room q (Err z)) (sym passed) (let more = large.0 refl in omega (arith, small, more, grows))
refused_form room p q Memory (Err given) small passed large grows = subst (λ z. Makes room q (Err z)) (sym passed) tt

pub all_room : most_nodes ≤ most_nodes
all_room = omega arith
