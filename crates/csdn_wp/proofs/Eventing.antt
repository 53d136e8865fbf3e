-- Preconditions of events as the code makes them.
use Rattle.std.proofs.Common.{◌≡◌, ℕ, ◌+◌, ◌^◌, ◌<◌, ◌≤◌, List, [], Result, Err, IsErrAnd, sym, ap, ap₂, subst, ◌∙◌, arith}
use Rattle.csdn_core.specs.declared.terms.Term.{Term}
use Rattle.csdn_core.specs.declared.terms.Pred.TheVariants.{Ft, Sent}
use Rattle.csdn_core.specs.declared.program.Handler.{Handler}
use Rattle.csdn_core.specs.declared.program.Parts.{Parts}
use Rattle.csdn_core.specs.declared.syntax.Formula.{Formula}
use Rattle.csdn_core.specs.declared.syntax.Formula.TheVariants as f
use Rattle.csdn_core.proofs.Shapes.{Implies-is}
use Rattle.csdn_core.specs.Nodes.{nodes}
use Rattle.csdn_core.specs.Sorted.{most_numbers}
use Rattle.fol_forms.specs.declared.close.Bind.{Bind}
use Rattle.fol_forms.specs.declared.refusal.FormRefusal.{FormRefusal}
use Rattle.fol_forms.specs.Closed.{closed}
use Rattle.fol_forms.specs.Limits.{capped, most_nodes}
use Rattle.fol_forms.specs.Replace.{add_row, fix_packet, drop_match, no_packet, or_row, is_row, not_match, no_row}
use Rattle.fol_forms.specs.Renumber.{binders, renumber}
use Rattle.fol_forms.proofs.Numbered.{nodes-renumbered}
use Rattle.csdn_wp.specs.Makes.{Makes}
use Rattle.csdn_wp.specs.EventPreconditions.{terms_of, first_vars, flow_terms, flow_binds, members, wp_in, for_rules, wp_flow, wp_expire}
use Rattle.csdn_wp.proofs.Grows.{few_binders, replace_grows, members_grow, flow_grows, expire_grows}
use Rattle.csdn_wp.proofs.Making.{refused_part}

pub anew_too_large : (p : Formula) (from count : ℕ) → count ≡ capped (nodes p) → most_nodes < count → most_nodes < nodes (renumber p from)
unfolding capped
anew_too_large p from count counted more = omega (arith, counted, more, nodes-renumbered p (λ v. v) from)

pub numbers_left : (p : Formula) (from count : ℕ) → from ≤ 2 ^ 31 → count ≡ capped (nodes p) → count ≤ most_nodes → from + binders p ≤ 2 ^ 32
unfolding capped
numbers_left p from count low counted few = omega (arith, low, counted, few, few_binders p)

-- packets that come in

pub in_is : (P : Parts) (q anew : Formula) (hs : List Handler) (ks : List ℕ) → hs ≡ P.handlers → ks ≡ [] → anew ≡ renumber q most_numbers → members hs ks anew ≡ wp_in P q
unfolding wp_in
in_is P q anew hs ks is_hs is_ks is = ap (λ x. members x ks anew) is_hs ∙ ap (λ x. members P.handlers x anew) is_ks ∙ ap (members P.handlers []) is

pub in_refused : (P : Parts) (q : Formula) (e : FormRefusal) (r : Result Formula FormRefusal) → IsErrAnd r (λ given. given ≡ e) → Makes most_nodes (renumber q most_numbers) (Err e) → Makes most_nodes (wp_in P q) r
unfolding wp_in
in_refused P q e r passed part = refused_part most_nodes most_nodes (renumber q most_numbers) (members P.handlers [] (renumber q most_numbers)) e r passed part (λ more. omega (arith, more, members_grow P.handlers [] (renumber q most_numbers)))

-- flows and expiries

pub rules_is : (enabled formula : Formula) (binds : List Bind) → binds ≡ flow_binds → enabled ≡ f.Atom Ft flow_terms → closed binds (f.Implies enabled formula) ≡ for_rules formula
unfolding for_rules
rules_is enabled formula binds is_binds is_enabled =
    ap (λ x. closed x (f.Implies enabled formula)) is_binds ∙ ap (λ x. closed flow_binds (f.Implies x formula)) is_enabled ∙ ap (closed flow_binds) (Implies-is _ _)

-- what the formula with new numbers is refused for, the whole is
pub anew_refused : (q whole : Formula) (e : FormRefusal) (r : Result Formula FormRefusal) → nodes (renumber q 5) ≤ nodes whole → IsErrAnd r (λ given. given ≡ e) → Makes most_nodes (renumber q 5) (Err e) → Makes most_nodes whole r
anew_refused q whole e r grows passed part = refused_part most_nodes most_nodes (renumber q 5) whole e r passed part (λ more. omega (arith, more, grows))

module _ (q : Formula) where
  abbrev anew : Formula
  anew = renumber q 5

  abbrev packet : List Term
  packet = terms_of first_vars

  pub flow_is : (later : Formula) → later ≡ add_row (fix_packet anew packet) Sent flow_terms → for_rules later ≡ wp_flow q
  unfolding wp_flow
  flow_is later is = ap for_rules is

  pub anew_grows : nodes anew ≤ nodes (wp_flow q)
  anew_grows = omega (arith, flow_grows q, replace_grows (or_row Sent flow_terms) (fix_packet anew packet), replace_grows (is_row packet) anew)

  pub fixed_grows : (from : Formula) (ts : List Term) → from ≡ anew → ts ≡ packet → nodes (fix_packet from ts) ≤ nodes (wp_flow q)
  fixed_grows from ts is is_ts =
      subst (λ x. nodes x ≤ nodes (wp_flow q)) (sym (ap₂ fix_packet is is_ts)) (omega (arith, flow_grows q, replace_grows (or_row Sent flow_terms) (fix_packet anew packet)))

  pub added_grows : (from : Formula) (ts : List Term) → from ≡ fix_packet anew packet → ts ≡ flow_terms → nodes (add_row from Sent ts) ≤ nodes (wp_flow q)
  added_grows from ts is is_ts = subst (λ x. nodes x ≤ nodes (wp_flow q)) (sym (ap₂ (λ p us. add_row p Sent us) is is_ts)) (flow_grows q)

  pub expire_is : (later : Formula) → later ≡ drop_match (no_packet anew) packet → for_rules later ≡ wp_expire q
  unfolding wp_expire
  expire_is later is = ap for_rules is

  pub anew_grows_too : nodes anew ≤ nodes (wp_expire q)
  anew_grows_too = omega (arith, expire_grows q, replace_grows (not_match packet) (no_packet anew), replace_grows no_row anew)

  pub quiet_grows : (from : Formula) → from ≡ anew → nodes (no_packet from) ≤ nodes (wp_expire q)
  quiet_grows from is = subst (λ x. nodes x ≤ nodes (wp_expire q)) (sym (ap no_packet is)) (omega (arith, expire_grows q, replace_grows (not_match packet) (no_packet anew)))

  pub dropped_grows : (from : Formula) (ts : List Term) → from ≡ no_packet anew → ts ≡ packet → nodes (drop_match from ts) ≤ nodes (wp_expire q)
  dropped_grows from ts is is_ts = subst (λ x. nodes x ≤ nodes (wp_expire q)) (sym (ap₂ drop_match is is_ts)) (expire_grows q)
