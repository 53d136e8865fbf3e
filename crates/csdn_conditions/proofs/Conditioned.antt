-- Conditions and their parts.
use Rattle.std.proofs.Common.{◌≡◌, ◌∙◌, sym, ap, ap₂, subst, refl, ℕ, ◌+◌, ◌<◌, ◌≤◌, List, [], ◌∷◌, map, Some, Result, Ok, Err, IsErrAnd, append-nil, arith}
use Rattle.std.specs.Prelude.{slice_get, option_map}
use Rattle.std.proofs.lemmas.Option.{slice_get-map}
use Rattle.csdn_core.specs.declared.syntax.Formula.{Formula}
use Rattle.csdn_core.specs.declared.syntax.Formula.TheVariants.{False}
use Rattle.csdn_core.specs.declared.program.Parts.{Parts}
use Rattle.csdn_core.specs.Nodes.{nodes}
use Rattle.fol_forms.specs.declared.refusal.FormRefusal.{FormRefusal}
use Rattle.fol_forms.specs.declared.refusal.FormRefusal.TheVariants.{Large, Memory}
use Rattle.fol_forms.specs.Limits.{capped, most_nodes}
use Rattle.csdn_wp.specs.Makes.{Makes}
use Rattle.csdn_conditions.specs.declared.kinds.EventKind.{EventKind}
use Rattle.csdn_conditions.specs.declared.kinds.EventKind.TheVariants.{PktIn, PktFlow, Expire}
use Rattle.csdn_conditions.specs.declared.kinds.CondKind.{CondKind}
use Rattle.csdn_conditions.specs.declared.sentence.Condition.{Condition}
use Rattle.csdn_conditions.specs.Kinds.{kinds}
use Rattle.csdn_conditions.specs.Conditions.{after_event, after_events, all_after, condition, sentence}
use Rattle.csdn_conditions.specs.Answers.{Answers, OfCondition}
use Rattle.csdn_conditions.proofs.Growth.{grows-in, grows-flow, grows-expire}

-- after no event

map_same : (P : Parts) (ps : List Formula) → map (after_events P 0) ps ≡ ps
map_same P [] = refl
map_same P (p ∷ ps) = ap (λ (z : List Formula). p ∷ z) (map_same P ps)

pub all_after_none : (P : Parts) (ps : List Formula) → all_after P 0 ps ≡ ps
all_after_none P ps = append-nil (map (after_events P 0) ps) ∙ map_same P ps

pub grows-event : (P : Parts) (event : EventKind) (q : Formula) → nodes q ≤ nodes (after_event P event q)
grows-event P PktIn q = grows-in P q
grows-event P PktFlow q = grows-flow q
grows-event P Expire q = grows-expire q

pub small_false : nodes False ≤ most_nodes
unfolding nodes
small_false = omega arith

-- the number of a kind is that of its condition

pub answer_of : (P : Parts) (n i : ℕ) (kind : CondKind) (result : Result Condition FormRefusal) → slice_get (kinds P n) i ≡ Some kind → Answers (condition P n kind) result
    → OfCondition P n i (λ c. Answers c result)
answer_of P n i kind result there right = record {
  condition = condition P n kind;
  there = slice_get-map (condition P n) (kinds P n) i ∙ ap (option_map (condition P n)) there;
  holds = right;
}

pub nodes-sentence : (c : Condition) → nodes (sentence c) ≡ nodes c.hypothesis + nodes c.goal + 2
unfolding nodes
nodes-sentence c = omega arith

-- what a part is refused for, the condition is

by_hypothesis : (c : Condition) (e : FormRefusal) → Makes most_nodes c.hypothesis (Err e) → Answers c (Err e)
by_hypothesis c Large more = omega (arith, more, nodes-sentence c)
by_hypothesis c Memory more = tt

by_goal : (c : Condition) (e : FormRefusal) → Makes most_nodes c.goal (Err e) → Answers c (Err e)
by_goal c Large more = omega (arith, more, nodes-sentence c)
by_goal c Memory more = tt

pub refused_by_hypothesis : (c : Condition) (e : FormRefusal) (result : Result Condition FormRefusal) → Makes most_nodes c.hypothesis (Err e) → IsErrAnd result (λ d. d ≡ e) → Answers c result
refused_by_hypothesis c e (Ok made) why is = elim is [ ]
refused_by_hypothesis c e (Err d) why is = subst (λ (x : FormRefusal). Answers c (Err x)) (sym is) (by_hypothesis c e why)

pub refused_by_goal : (c : Condition) (e : FormRefusal) (result : Result Condition FormRefusal) → Makes most_nodes c.goal (Err e) → IsErrAnd result (λ d. d ≡ e) → Answers c result
refused_by_goal c e (Ok made) why is = elim is [ ]
refused_by_goal c e (Err d) why is = subst (λ (x : FormRefusal). Answers c (Err x)) (sym is) (by_goal c e why)

-- counted by its parts

module _ (c : Condition) (hypothesis goal : Formula) (first second both all : ℕ) (is_hypothesis : hypothesis ≡ c.hypothesis) (is_goal : goal ≡ c.goal)
    (is_first : first ≡ capped (nodes hypothesis)) (is_second : second ≡ capped (nodes goal)) (is_both : both ≡ capped (first + second)) (is_all : all ≡ capped (both + 2)) where
  pub sentence_large : most_nodes < all → most_nodes < nodes (sentence c)
  unfolding capped
  sentence_large more =
      let h : nodes hypothesis ≡ nodes c.hypothesis = ap nodes is_hypothesis in
      let g : nodes goal ≡ nodes c.goal = ap nodes is_goal in
      omega (arith, more, is_first, is_second, is_both, is_all, h, g, nodes-sentence c)

  pub sentence_small : all ≤ most_nodes → nodes (sentence c) ≤ most_nodes
  unfolding capped
  sentence_small few =
      let h : nodes hypothesis ≡ nodes c.hypothesis = ap nodes is_hypothesis in
      let g : nodes goal ≡ nodes c.goal = ap nodes is_goal in
      omega (arith, few, is_first, is_second, is_both, is_all, h, g, nodes-sentence c)

pub made_of : (P : Parts) (n : ℕ) (kind : CondKind) (hypothesis goal : Formula) → hypothesis ≡ (condition P n kind).hypothesis → goal ≡ (condition P n kind).goal
    → (record { kind = kind; hypothesis = hypothesis; goal = goal }) ≡ condition P n kind
made_of P n kind hypothesis goal h g = ap₂ (λ (p q : Formula). record { kind = kind; hypothesis = p; goal = q }) h g
