-- The definitions at a firewall, over one switch 1, the hosts 1 and 2, and the ports 1 (inside) and 2 (outside).
--
--   rel tr(SW, HO);
--   safety guarded: forall S:SW, A:HO, B:HO. S.sent(A->B, prt(2)->prt(1)) -> tr(S, A);
--   pktIn(s, src->dst, prt(1)) { s.forward(src->dst, prt(1)->prt(2)); tr.insert(s, dst); s.install(src->dst, prt(1)->prt(2)); }
--   pktIn(s, src->dst, prt(2)) {
--     if tr(s, src) { s.forward(src->dst, prt(2)->prt(1)); s.install(src->dst, prt(2)->prt(1)); }
--   }
use Rattle.std.proofs.Common.{◌≡◌, true, false, [], ◌∷◌, Some, None, inl, inr, refl, rules}
use Rattle.csdn_core.specs.declared.terms.Sort.TheVariants.{Sw, Ho}
use Rattle.csdn_core.specs.declared.terms.Pred.{Pred}
use Rattle.csdn_core.specs.declared.terms.Pred.TheVariants.{Stored, Ft, Sent}
use Rattle.csdn_core.specs.declared.event.Event.TheVariants.{PktIn, PktFlow}
use Rattle.csdn_core.specs.declared.event.Packet.TheVariants.{Nothing}
use Rattle.csdn_core.specs.declared.program.Parts.{Parts}
use Rattle.csdn_core.specs.declared.syntax.Formula.{Formula}
use Rattle.csdn_core.specs.declared.syntax.Formula.TheVariants.{Atom}
use Rattle.csdn_core.specs.declared.syntax.Command.{Command}
use Rattle.csdn_core.specs.declared.syntax.Command.TheVariants.{Skip, Insert, Install, Forward}
use Rattle.csdn_core.specs.Tree.{implication, universal, sequence, conditional}
use Rattle.csdn_core.specs.Truth.{truth}
use Rattle.csdn_core.specs.Network.{Network, State, structure}
use Rattle.csdn_core.specs.Execution.{put, Executes}
use Rattle.csdn_core.specs.Run.{empty_state, no_values, initial, first_fit, Step, Run}
use Rattle.csdn_core.proofs.ExamplesSyntax.{var, rel, x, prt, holds, relation, invariant, handler}

abbrev tr : Pred
tr = Stored (rel 0)

abbrev guarded : Formula
guarded =
    universal (var 4) Sw (universal (var 5) Ho (universal (var 6) Ho (
    implication (Atom Sent (x 4 ∷ x 5 ∷ x 6 ∷ prt 2 ∷ prt 1 ∷ [])) (holds 0 (x 4 ∷ x 5 ∷ [])))))

abbrev from_inside : Command
from_inside =
    sequence (Forward (x 0 ∷ x 1 ∷ x 2 ∷ prt 1 ∷ prt 2 ∷ []))
    (sequence (Insert (rel 0) (x 0 ∷ x 2 ∷ [])) (Install (x 0 ∷ x 1 ∷ x 2 ∷ prt 1 ∷ prt 2 ∷ [])))

abbrev from_outside : Command
from_outside =
    conditional (holds 0 (x 0 ∷ x 1 ∷ []))
    (sequence (Forward (x 0 ∷ x 1 ∷ x 2 ∷ prt 2 ∷ prt 1 ∷ [])) (Install (x 0 ∷ x 1 ∷ x 2 ∷ prt 2 ∷ prt 1 ∷ [])))
    Skip

abbrev P : Parts
P = record {
  relations = relation (Sw ∷ Ho ∷ []) ∷ [];
  constants = [];
  start = [];
  topology = [];
  safety = invariant guarded ∷ [];
  trans = [];
  handlers = handler (Some 1) from_inside ∷ handler (Some 2) from_outside ∷ [];
  numerals = 1 ∷ 2 ∷ [];
  timeout = None;
}

abbrev N : Network
N = record { switches = 1 ∷ []; hosts = 1 ∷ 2 ∷ []; ports = 1 ∷ 2 ∷ []; constants = []; rows = [] }

-- At the start nothing is in any relation, so the invariant is true.
guarded_at_start : truth (structure P N (initial P N) Nothing) guarded no_values ≡ true
unfolding truth
guarded_at_start = refl

-- The pattern `prt(1)` fits port 1 alone, and `prt(2)` port 2 alone: port 3 has no handler.
inside_first : first_fit P.handlers 1 ≡ Some (handler (Some 1) from_inside)
inside_first = refl

outside_second : first_fit P.handlers 2 ≡ Some (handler (Some 2) from_outside)
outside_second = refl

none_third : first_fit P.handlers 3 ≡ None
none_third = refl

-- A packet from host 1 to host 2 comes in on port 1: it is sent out of port 2, host 2 is trusted, and the rule installed.
abbrev asked : State
asked =
    put (put (put (initial P N) Sent (1 ∷ 1 ∷ 2 ∷ 1 ∷ 2 ∷ [])) tr (1 ∷ 2 ∷ [])) Ft (1 ∷ 1 ∷ 2 ∷ 1 ∷ 2 ∷ [])

a_packet_from_inside : Step P N (initial P N) (PktIn 1 1 2 1) asked
unfolding Executes
a_packet_from_inside = (search rules, search rules, search rules, search rules, (_, refl, (_, refl, refl)))

guarded_after_asking : truth (structure P N asked Nothing) guarded no_values ≡ true
unfolding truth
guarded_after_asking = refl

-- Its answer comes in on port 2. Host 2 is trusted, so the answer is sent out of port 1, and the invariant is still true.
abbrev answered : State
answered = put (put asked Sent (1 ∷ 2 ∷ 1 ∷ 2 ∷ 1 ∷ [])) Ft (1 ∷ 2 ∷ 1 ∷ 2 ∷ 1 ∷ [])

an_answer_from_outside : Step P N asked (PktIn 1 2 1 2) answered
unfolding Executes truth
an_answer_from_outside = (search rules, search rules, search rules, search rules, inl (refl, (_, refl, refl)))

guarded_after_answering : truth (structure P N answered Nothing) guarded no_values ≡ true
unfolding truth
guarded_after_answering = refl

-- The two are a run.
asked_and_answered : Run P N (initial P N) (PktIn 1 1 2 1 ∷ PktIn 1 2 1 2 ∷ []) answered
asked_and_answered = (asked, a_packet_from_inside, (answered, an_answer_from_outside, refl))

-- At the start no host is trusted: a packet on port 2 takes the branch that does nothing, and ends nowhere else.
a_packet_from_outside_is_dropped : (y : State) → Step P N (initial P N) (PktIn 1 2 1 2) y → y ≡ initial P N
unfolding Executes truth
a_packet_from_outside_is_dropped y (s, a, b, i, inl (is_true, to_y)) = absurd (let h : false ≡ true = is_true in cc)
a_packet_from_outside_is_dropped y (s, a, b, i, inr (is_false, to_y)) = to_y

-- The rule that was installed sends packets of its own; at the start there is none.
the_rule_sends : Step P N asked (PktFlow 1 1 2 1 2) (put asked Sent (1 ∷ 1 ∷ 2 ∷ 1 ∷ 2 ∷ []))
the_rule_sends = (search rules, search rules, search rules, search rules, search rules, refl, refl)

no_rule_at_start : (y : State) → Step P N (initial P N) (PktFlow 1 2 1 2 1) y → ⊥
no_rule_at_start y (s, a, b, i, o, is_there, is) = let h : false ≡ true = is_there in cc

-- A state in which a rule lets host 1 in though no host is trusted: the invariant is true in it, and false after the rule has sent a packet.
-- So the firewall is not 0-inductive, though it holds its invariant.
abbrev let_in : State
let_in = put empty_state Ft (1 ∷ 1 ∷ 2 ∷ 2 ∷ 1 ∷ [])

guarded_before : truth (structure P N let_in Nothing) guarded no_values ≡ true
unfolding truth
guarded_before = refl

abbrev was_let_in : State
was_let_in = put let_in Sent (1 ∷ 1 ∷ 2 ∷ 2 ∷ 1 ∷ [])

the_rule_lets_in : Step P N let_in (PktFlow 1 1 2 2 1) was_let_in
the_rule_lets_in = (search rules, search rules, search rules, search rules, search rules, refl, refl)

not_guarded_after : truth (structure P N was_let_in Nothing) guarded no_values ≡ false
unfolding truth
not_guarded_after = refl
