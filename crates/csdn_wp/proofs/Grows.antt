-- A precondition has at least as many nodes as the formula after the command.
use Rattle.std.proofs.Common.{ℕ, ◌+◌, ◌≤◌, List, [], ◌∷◌, ◌++◌, Option, Some, None, arith}
use Rattle.fol_forms.proofs.WrittenNodes.{both_nodes}
use Rattle.csdn_core.specs.declared.terms.Term.{Term}
use Rattle.csdn_core.specs.declared.terms.Pred.{Pred}
use Rattle.csdn_core.specs.declared.syntax.Formula.{Formula}
use Rattle.csdn_core.specs.declared.syntax.Formula.TheVariants as f
use Rattle.csdn_core.specs.declared.syntax.Command.{Command}
use Rattle.csdn_core.specs.declared.syntax.Command.TheVariants.{Skip, Insert, Remove, Install, Uninstall, Forward, Flood}
use Rattle.csdn_core.specs.Tree.{negation, conjunction, disjunction, implication, equivalence, universal, existential, sequence, conditional, choice}
use Rattle.csdn_core.specs.Nodes.{nodes}
use Rattle.fol_forms.specs.declared.close.Bind.{Bind}
use Rattle.fol_forms.specs.Closed.{closed}
use Rattle.fol_forms.specs.Replace.{replace, is_row, fix_packet, add_row, drop_match, no_packet}
use Rattle.fol_forms.specs.Renumber.{binders, renumber}
use Rattle.csdn_core.specs.declared.terms.Pred.TheVariants.{Sent}
use Rattle.fol_forms.proofs.ClosedTruth.{nodes-closed}
use Rattle.csdn_core.specs.declared.program.Handler.{Handler}
use Rattle.csdn_wp.specs.declared.vars.PacketVars.{PacketVars}
use Rattle.csdn_wp.specs.EventPreconditions.{terms_of, binds_of, handler_vars, first_vars, guard, guarded, and_later, member, members, flow_terms, for_rules, wp_flow, wp_expire}
use Rattle.csdn_wp.specs.Preconditions.{wp}

pub nodes_positive : (p : Formula) → 1 ≤ nodes p
unfolding nodes
nodes_positive f.True = omega arith
nodes_positive f.False = omega arith
nodes_positive (f.Atom r ts) = omega arith
nodes_positive (f.Same t u) = omega arith
nodes_positive (negation p) = omega arith
nodes_positive (conjunction p q) = omega arith
nodes_positive (disjunction p q) = omega arith
nodes_positive (implication p q) = omega arith
nodes_positive (equivalence p q) = omega arith
nodes_positive (universal v s p) = omega arith
nodes_positive (existential v s p) = omega arith

pub replace_grows : (g : Pred → List Term → Formula) (p : Formula) → nodes p ≤ nodes (replace g p)
unfolding nodes replace
replace_grows g f.True = omega arith
replace_grows g f.False = omega arith
replace_grows g (f.Atom r ts) = nodes_positive (g r ts)
replace_grows g (f.Same t u) = omega arith
replace_grows g (negation p) = omega (arith, replace_grows g p)
replace_grows g (conjunction p q) = omega (arith, replace_grows g p, replace_grows g q)
replace_grows g (disjunction p q) = omega (arith, replace_grows g p, replace_grows g q)
replace_grows g (implication p q) = omega (arith, replace_grows g p, replace_grows g q)
replace_grows g (equivalence p q) = omega (arith, replace_grows g p, replace_grows g q)
replace_grows g (universal v s p) = omega (arith, replace_grows g p)
replace_grows g (existential v s p) = omega (arith, replace_grows g p)

pub wp_grows : (c : Command) (q : Formula) → nodes q ≤ nodes (wp c q)
unfolding wp nodes
wp_grows Skip q = omega arith
wp_grows (sequence a b) q = omega (arith, wp_grows a (wp b q), wp_grows b q)
wp_grows (conditional p a b) q = omega (arith, wp_grows a q)
wp_grows (choice v s p a b) q = omega (arith, wp_grows a q)
wp_grows (Insert r ts) q = replace_grows _ q
wp_grows (Remove r ts) q = replace_grows _ q
wp_grows (Install ts) q = replace_grows _ q
wp_grows (Uninstall ts) q = replace_grows _ q
wp_grows (Forward ts) q = replace_grows _ q
wp_grows (Flood ts) q = replace_grows _ q

-- a member, and all of them

pub guarded_grows : (g : Option Formula) (p : Formula) → nodes p ≤ nodes (guarded g p)
unfolding nodes
guarded_grows None p = omega arith
guarded_grows (Some g) p = omega arith

pub closed_grows : (bs : List Bind) (p : Formula) → nodes p ≤ nodes (closed bs p)
closed_grows bs p = omega (arith, nodes-closed bs p)

pub member_grows : (ks : List ℕ) (v : PacketVars) (port : Option ℕ) (body : Command) (q : Formula) → nodes (fix_packet q (terms_of v)) ≤ nodes (member ks v port body q)
unfolding member
member_grows ks v port body q =
    let fixed = fix_packet q (terms_of v) in
    let inner = guarded (guard ks port v.i) (wp body fixed) in
    omega (arith, wp_grows body fixed, guarded_grows (guard ks port v.i) (wp body fixed), closed_grows (binds_of v) inner)

pub first_grows : (h : Handler) (hs : List Handler) (ks : List ℕ) (q : Formula) → nodes (member ks (handler_vars h) h.port h.body q) ≤ nodes (members (h ∷ hs) ks q)
unfolding members
first_grows h hs ks q = by_port h.port (member ks (handler_vars h) h.port h.body q)
  where
    by_port : (port : Option ℕ) (first : Formula) → nodes first ≤ nodes (and_later port ks first (λ more. members hs more q))
    by_port None first = omega arith
    by_port (Some k) first = omega (arith, both_nodes first (members hs (ks ++ k ∷ []) q))

pub members_grow : (hs : List Handler) (ks : List ℕ) (q : Formula) → nodes q ≤ nodes (members hs ks q)
unfolding members
members_grow [] ks q = omega (arith, replace_grows (is_row (terms_of first_vars)) q, member_grows ks first_vars None Skip q)
members_grow (h ∷ hs) ks q = omega (arith, replace_grows (is_row (terms_of (handler_vars h))) q, member_grows ks (handler_vars h) h.port h.body q, first_grows h hs ks q)

-- no formula has more quantifiers than nodes
pub few_binders : (p : Formula) → binders p ≤ nodes p
unfolding nodes binders
few_binders f.True = omega arith
few_binders f.False = omega arith
few_binders (f.Atom r ts) = omega arith
few_binders (f.Same t u) = omega arith
few_binders (negation p) = omega (arith, few_binders p)
few_binders (conjunction p q) = omega (arith, few_binders p, few_binders q)
few_binders (disjunction p q) = omega (arith, few_binders p, few_binders q)
few_binders (implication p q) = omega (arith, few_binders p, few_binders q)
few_binders (equivalence p q) = omega (arith, few_binders p, few_binders q)
few_binders (universal v s p) = omega (arith, few_binders p)
few_binders (existential v s p) = omega (arith, few_binders p)

-- the preconditions of a flow and of an expiry

pub rules_grow : (p : Formula) → nodes p ≤ nodes (for_rules p)
unfolding for_rules nodes
rules_grow p = omega arith

pub flow_grows : (q : Formula) → nodes (add_row (fix_packet (renumber q 5) (terms_of first_vars)) Sent flow_terms) ≤ nodes (wp_flow q)
unfolding wp_flow
flow_grows q = rules_grow _

pub expire_grows : (q : Formula) → nodes (drop_match (no_packet (renumber q 5)) (terms_of first_vars)) ≤ nodes (wp_expire q)
unfolding wp_expire
expire_grows q = rules_grow _
