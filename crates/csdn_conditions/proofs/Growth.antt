-- A precondition has at least as many nodes as the formula.
use Rattle.std.proofs.Common.{◌≡◌, ◌≢◌, sym, ap, subst, refl, Bool, true, false, ℕ, zero, suc, ◌-◌, ◌≤◌, [], map, Result, Ok, Err, IfOk, IsErrAnd, arith}
use Rattle.std.specs.Prelude.{is_some}
use Rattle.std.specs.declared.alloc.AllocError.{AllocError}
use Rattle.csdn_core.specs.declared.syntax.Formula.{Formula}
use Rattle.csdn_core.specs.declared.program.Parts.{Parts}
use Rattle.csdn_core.specs.Tree.{conjunction}
use Rattle.csdn_core.specs.Nodes.{nodes}
use Rattle.csdn_core.specs.Sorted.{most_numbers}
use Rattle.fol_forms.specs.declared.refusal.FormRefusal.{FormRefusal}
use Rattle.fol_forms.specs.declared.refusal.FormRefusal.TheVariants.{Large, Memory}
use Rattle.fol_forms.specs.Renumber.{renumber}
use Rattle.fol_forms.specs.Answers.{widened}
use Rattle.fol_forms.proofs.Numbered.{nodes-renumbered}
use Rattle.csdn_wp.specs.EventPreconditions.{wp_in, wp_flow, wp_expire}
use Rattle.csdn_wp.specs.Makes.{Makes}
use Rattle.csdn_wp.proofs.Grows.{members_grow}
use Rattle.csdn_wp.proofs.Eventing.{anew_grows, anew_grows_too}
use Rattle.csdn_conditions.specs.Conditions.{after_event, after_rules, after_any, after_events}
use Rattle.csdn_conditions.specs.Kinds.{rule_events, events_where}
use Rattle.csdn_conditions.specs.Lists.{conjunction_of}

pub grows-in : (P : Parts) (q : Formula) → nodes q ≤ nodes (wp_in P q)
unfolding wp_in
grows-in P q =
    let same : nodes (renumber q most_numbers) ≡ nodes q = nodes-renumbered q (λ v. v) most_numbers in
    omega (arith, same, members_grow P.handlers [] (renumber q most_numbers))

pub grows-flow : (q : Formula) → nodes q ≤ nodes (wp_flow q)
grows-flow q =
    let same : nodes (renumber q 5) ≡ nodes q = nodes-renumbered q (λ v. v) 5 in
    omega (arith, same, anew_grows q)

pub grows-expire : (q : Formula) → nodes q ≤ nodes (wp_expire q)
grows-expire q =
    let same : nodes (renumber q 5) ≡ nodes q = nodes-renumbered q (λ v. v) 5 in
    omega (arith, same, anew_grows_too q)

-- what a part is refused for, the whole is
refused_too : (most : ℕ) (p q : Formula) (e : FormRefusal) → nodes p ≤ nodes q → Makes most p (Err e) → Makes most q (Err e)
refused_too most p q Large fewer more = omega (arith, fewer, more)
refused_too most p q Memory fewer more = tt

pub refused_by_part : (most : ℕ) (p q : Formula) (e : FormRefusal) (result : Result Formula FormRefusal) → nodes p ≤ nodes q → Makes most p (Err e) → IsErrAnd result (λ d. d ≡ e) → Makes most q result
refused_by_part most p q e (Ok made) fewer why is = elim is [ ]
refused_by_part most p q e (Err d) fewer why is = subst (λ (x : FormRefusal). Makes most q (Err x)) (sym is) (refused_too most p q e fewer why)

-- what is made, where it is small enough
pub small_made : (most : ℕ) (p : Formula) (made : Result Formula AllocError) (result : Result Formula FormRefusal) → nodes p ≤ most → IfOk made (λ q. q ≡ p) → result ≡ widened made → Makes most p result
small_made most p (Ok q) result small is widens = subst (Makes most p) (sym widens) (is, small)
small_made most p (Err e) result small is widens = subst (Makes most p) (sym widens) tt

-- after one event more

pub fewer_left : (p q : Formula) → nodes p ≤ nodes (conjunction p q)
unfolding nodes
fewer_left p q = omega arith

pub fewer_right : (p q : Formula) → nodes q ≤ nodes (conjunction p q)
unfolding nodes
fewer_right p q = omega arith

-- packets that come in, and then what flow rules do
pub any_is : (P : Parts) (q : Formula) → after_any P q ≡ conjunction (wp_in P q) (after_rules P q)
any_is P q = by_time (is_some P.timeout)
  where
    by_time : (timed : Bool) → conjunction_of (map (λ event. after_event P event q) (events_where timed)) ≡ conjunction (wp_in P q) (conjunction_of (map (λ event. after_event P event q) (rule_events timed)))
    by_time true = refl
    by_time false = refl

pub grows-any : (P : Parts) (q : Formula) → nodes q ≤ nodes (after_any P q)
grows-any P q = let first = fewer_left (wp_in P q) (after_rules P q) in omega (arith, grows-in P q, first, ap nodes (any_is P q))

-- the count is one more than another
pub one_more : (P : Parts) (k : ℕ) (q : Formula) → k ≢ 0 → after_events P k q ≡ after_any P (after_events P (k - 1) q)
one_more P zero q some = absurd (some refl)
one_more P (suc k) q some = let before : k ≡ suc k - 1 = omega arith in ap (λ j. after_any P (after_events P j q)) before
