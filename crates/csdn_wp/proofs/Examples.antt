-- The laws of preconditions at small programs, over one switch, one host and one port, of which each is 1.
use Rattle.std.proofs.Common.{◌≡◌, ◌≢◌, ℕ, false, true, [], ◌∷◌, Some, None, refl, IsTrue, IsFalse, AllPairs, arith}
use Rattle.csdn_core.specs.declared.terms.Sort.{Sort}
use Rattle.csdn_core.specs.declared.terms.Sort.TheVariants.{Sw, Ho, Pr}
use Rattle.csdn_core.specs.declared.terms.Pred.{Pred}
use Rattle.csdn_core.specs.declared.terms.Pred.TheVariants.{Ft, Sent}
use Rattle.csdn_core.specs.declared.event.Event.TheVariants.{PktIn, PktFlow, Expire}
use Rattle.csdn_core.specs.declared.event.Packet.TheVariants.{Nothing, At}
use Rattle.csdn_core.specs.declared.program.Parts.{Parts}
use Rattle.csdn_core.specs.declared.syntax.Formula.{Formula}
use Rattle.csdn_core.specs.declared.syntax.Formula.TheVariants.{Atom}
use Rattle.csdn_core.specs.declared.syntax.Command.{Command}
use Rattle.csdn_core.specs.declared.syntax.Command.TheVariants.{Insert}
use Rattle.csdn_core.specs.Tree.{negation, existential}
use Rattle.csdn_core.specs.Truth.{truth}
use Rattle.csdn_core.specs.Network.{Network, State, IsNetwork, elements, structure}
use Rattle.csdn_core.specs.Execution.{put, Executes}
use Rattle.csdn_core.specs.Run.{empty_state, no_values, Step}
use Rattle.csdn_core.specs.Sorted.{flow_sorts, bound_in}
use Rattle.csdn_core.specs.SortedIn.{any_relation, no_scope, HaveSortsIn, IsSortedIn}
use Rattle.csdn_core.specs.WellSorted.{IsWellSorted, IsCommand, signature, command_bound_in}
use Rattle.csdn_core.proofs.ExamplesSyntax.{var, rel, x, holds, relation}
use Rattle.fol_forms.specs.Renumber.{renumbered, binders}
use Rattle.fol_forms.specs.Replace.{replace}
use Rattle.csdn_wp.specs.After.{stands_in, MayPrecede}
use Rattle.csdn_wp.specs.Preconditions.{wp}
use Rattle.csdn_wp.specs.EventPreconditions.{member, members, wp_in, for_rules, wp_flow, wp_expire}
use Rattle.csdn_wp.proofs.Preceding.{breaks_before}
use Rattle.csdn_wp.proofs.Programs.{in_breaks, in_exact}
use Rattle.csdn_wp.proofs.Flow.{flow_breaks, flow_exact}
use Rattle.csdn_wp.proofs.Expiry.{expire_breaks, expire_exact}

-- `timeout 30;` alone
abbrev pub bare : Parts
bare = record {
  relations = [];
  constants = [];
  start = [];
  topology = [];
  safety = [];
  trans = [];
  handlers = [];
  numerals = [];
  timeout = Some 30;
}

pub bare_well : IsWellSorted bare
bare_well = record {
  relation_words = λ i d within. absurd (omega arith);
  constant_words = λ i d within. absurd (omega arith);
  invariant_words = λ i d within. absurd (omega arith);
  relation_names = λ i j d less within. absurd (omega arith);
  constant_names = λ i j d less within. absurd (omega arith);
  invariant_names = λ i j d less within. absurd (omega arith);
  arities = λ i d within. absurd (omega arith);
  relations = omega arith;
  constants = omega arith;
  invariants = omega arith;
  handler_count = omega arith;
  rows = λ r. omega arith;
  start = λ i d within. absurd (omega arith);
  topology = λ i d within. absurd (omega arith);
  safety = λ i d within. absurd (omega arith);
  trans = λ i d within. absurd (omega arith);
  handlers = λ i d within. absurd (omega arith);
  apart = λ i j d less within. absurd (omega arith);
  below = λ i d within. absurd (omega arith);
  numerals = λ i within. absurd (omega arith);
  numeral_range = λ i d within. absurd (omega arith);
  numerals_named = λ k. (λ there. there, λ there. there);
  timeout = (omega arith, omega arith);
}

abbrev pub N : Network
N = record { switches = 1 ∷ []; hosts = 1 ∷ []; ports = 1 ∷ []; constants = []; rows = [] }

pub N_is : IsNetwork bare N
N_is = record {
  some = some;
  distinct = distinct;
  numerals = λ i d within. absurd (omega arith);
  as_many = refl;
  sorted = λ k c is. absurd (cc);
  rows = λ i d within. absurd (omega arith);
}
  where
    some : (s : Sort) → elements N s ≢ []
    some Sw is = cc
    some Ho is = cc
    some Pr is = cc

    distinct : (s : Sort) → AllPairs (λ m n. m ≢ n) (elements N s)
    distinct Sw = λ i j d less within. absurd (omega arith)
    distinct Ho = λ i j d less within. absurd (omega arith)
    distinct Pr = λ i j d less within. absurd (omega arith)

-- some tuple is in the relation, which has the sorts of rules
abbrev some_tuple : Pred → Formula
some_tuple r =
    existential (var 10) Sw (existential (var 11) Ho (existential (var 12) Ho (existential (var 13) Pr (existential (var 14) Pr (Atom r (x 10 ∷ x 11 ∷ x 12 ∷ x 13 ∷ x 14 ∷ []))))))

abbrev pub some_rule : Formula
some_rule = some_tuple Ft

pub some_rule_sorted : IsSortedIn (signature bare) any_relation no_scope some_rule
unfolding IsSortedIn HaveSortsIn
some_rule_sorted = (record { sorts = flow_sorts; declared = refl; terms = (refl, (refl, (refl, (refl, (refl, tt))))) }, tt)

abbrev pub one_rule : State
one_rule = put empty_state Ft (1 ∷ 1 ∷ 1 ∷ 1 ∷ 1 ∷ [])

-- expiries: where the one rule ends, no rule is left

none_after_expiry : truth (structure bare N one_rule Nothing) (wp_expire some_rule) no_values ≡ false
unfolding truth wp_expire for_rules renumbered binders replace
none_after_expiry = refl

an_expiry : (s : ℕ) × (a : ℕ) × (b : ℕ) × (i : ℕ) × (y : State) × Step bare N one_rule (Expire s a b i) y × IsFalse (truth (structure bare N y Nothing) some_rule no_values)
an_expiry = expire_breaks bare some_rule some_rule_sorted N one_rule refl none_after_expiry

-- where there is no rule, none can end

kept_without_rules : truth (structure bare N empty_state Nothing) (wp_expire (negation some_rule)) no_values ≡ true
unfolding truth wp_expire for_rules renumbered binders replace
kept_without_rules = refl

every_expiry : (s a b i : ℕ) (y : State) → Step bare N empty_state (Expire s a b i) y → IsTrue (truth (structure bare N y Nothing) (negation some_rule) no_values)
unfolding IsSortedIn
every_expiry = (expire_exact bare (negation some_rule) some_rule_sorted N empty_state refl).0 kept_without_rules

-- flows: the packet of the rule is sent

abbrev nothing_sent : Formula
nothing_sent = negation (some_tuple Sent)

nothing_sent_sorted : IsSortedIn (signature bare) any_relation no_scope nothing_sent
unfolding IsSortedIn HaveSortsIn
nothing_sent_sorted = (record { sorts = flow_sorts; declared = refl; terms = (refl, (refl, (refl, (refl, (refl, tt))))) }, tt)

sent_after_flow : truth (structure bare N one_rule Nothing) (wp_flow nothing_sent) no_values ≡ false
unfolding truth wp_flow for_rules renumbered binders replace
sent_after_flow = refl

a_flow : (s : ℕ) × (a : ℕ) × (b : ℕ) × (i : ℕ) × (o : ℕ) × (y : State) × Step bare N one_rule (PktFlow s a b i o) y × IsFalse (truth (structure bare N y (At s a b i)) nothing_sent no_values)
a_flow = flow_breaks bare nothing_sent nothing_sent_sorted N one_rule sent_after_flow

rule_after_flow : truth (structure bare N one_rule Nothing) (wp_flow some_rule) no_values ≡ true
unfolding truth wp_flow for_rules renumbered binders replace
rule_after_flow = refl

every_flow : (s a b i o : ℕ) (y : State) → Step bare N one_rule (PktFlow s a b i o) y → IsTrue (truth (structure bare N y (At s a b i)) some_rule no_values)
every_flow = (flow_exact bare some_rule some_rule_sorted N one_rule).0 rule_after_flow

-- packets that come in: without a handler they change nothing

none_after_packet : truth (structure bare N empty_state Nothing) (wp_in bare some_rule) no_values ≡ false
unfolding truth wp_in members member wp renumbered binders replace
none_after_packet = refl

a_packet : (s : ℕ) × (a : ℕ) × (b : ℕ) × (i : ℕ) × (y : State) × Step bare N empty_state (PktIn s a b i) y × IsFalse (truth (structure bare N y (At s a b i)) some_rule no_values)
a_packet = in_breaks bare bare_well N N_is some_rule some_rule_sorted empty_state none_after_packet

rule_after_packet : truth (structure bare N one_rule Nothing) (wp_in bare some_rule) no_values ≡ true
unfolding truth wp_in members member wp renumbered binders replace
rule_after_packet = refl

every_packet : (s a b i : ℕ) (y : State) → Step bare N one_rule (PktIn s a b i) y → IsTrue (truth (structure bare N y (At s a b i)) some_rule no_values)
every_packet = (in_exact bare bare_well N N_is some_rule some_rule_sorted one_rule).0 rule_after_packet

-- a command: `known.insert();`, after which `known()` isn't false

abbrev with_known : Parts
with_known = record {
  relations = relation [] ∷ [];
  constants = [];
  start = [];
  topology = [];
  safety = [];
  trans = [];
  handlers = [];
  numerals = [];
  timeout = None;
}

abbrev learns : Command
learns = Insert (rel 0) []

abbrev unknown : Formula
unknown = negation (holds 0 [])

may_learn : MayPrecede with_known [] learns unknown
unfolding IsCommand IsSortedIn HaveSortsIn command_bound_in bound_in stands_in
may_learn = record {
  own = record { switch = x 0; source = x 1; target = x 2; ingress = x 3 };
  command = record { relation = relation []; declared = refl; stored = refl; terms = tt };
  apart = λ i j d less within. absurd (omega arith);
  formula = (record { sorts = []; declared = refl; terms = tt }, tt);
  stands_outside = λ n bound stands. bound;
  bound_outside = λ n bound too. bound;
}

known_after : truth (structure with_known N empty_state Nothing) (wp learns unknown) no_values ≡ false
unfolding truth wp replace
known_after = refl

N_of_known : IsNetwork with_known N
N_of_known = record {
  some = N_is.some;
  distinct = N_is.distinct;
  numerals = λ i d within. absurd (omega arith);
  as_many = refl;
  sorted = λ k c is. absurd (cc);
  rows = λ i d within. absurd (omega arith);
}

an_end : (y : State) × Executes with_known N learns no_values empty_state y × IsFalse (truth (structure with_known N y Nothing) unknown no_values)
an_end = breaks_before with_known [] learns unknown may_learn N N_of_known no_values (λ v s is. absurd (cc)) empty_state known_after
