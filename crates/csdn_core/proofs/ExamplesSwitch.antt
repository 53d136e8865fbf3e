-- The definitions at a learning switch.
--
--   rel conn(SW, PR, HO);
--   trans no_black_hole: forall S:SW, A:HO, B:HO, I:PR. S.rcv_this(A->B, I) -> (exists O:PR. S.sent(A->B, I->O));
--   pktIn(s, src->dst, i) {
--     conn.insert(s, i, src);
--     pick o:PR where conn(s, o, dst) { s.install(src->dst, i->o); s.forward(src->dst, i->o); } else { s.flood(src->dst, i); }
--   }
use Rattle.std.proofs.Common.{◌≡◌, ℕ, ◌==◌, true, false, [], ◌∷◌, None, inl, inr, refl, rules}
use Rattle.std.proofs.Math.Bool.{and-false}
use Rattle.csdn_core.specs.declared.terms.Sort.TheVariants.{Sw, Ho, Pr}
use Rattle.csdn_core.specs.declared.terms.Pred.{Pred}
use Rattle.csdn_core.specs.declared.terms.Pred.TheVariants.{Stored, Ft, Sent, RcvThis}
use Rattle.csdn_core.specs.declared.event.Event.TheVariants.{PktIn}
use Rattle.csdn_core.specs.declared.event.Packet.TheVariants.{At, Nothing}
use Rattle.csdn_core.specs.declared.program.Parts.{Parts}
use Rattle.csdn_core.specs.declared.syntax.Formula.{Formula}
use Rattle.csdn_core.specs.declared.syntax.Formula.TheVariants.{Atom}
use Rattle.csdn_core.specs.declared.syntax.Command.{Command}
use Rattle.csdn_core.specs.declared.syntax.Command.TheVariants.{Insert, Install, Forward, Flood}
use Rattle.csdn_core.specs.Tree.{implication, universal, existential, sequence, choice}
use Rattle.csdn_core.specs.Truth.{truth}
use Rattle.csdn_core.specs.Network.{Network, State, structure}
use Rattle.csdn_core.specs.Execution.{put, flooded, Executes}
use Rattle.csdn_core.specs.Run.{empty_state, no_values, initial, Step}
use Rattle.csdn_core.proofs.ExamplesSyntax.{var, rel, x, holds, relation, invariant, handler}

abbrev conn : Pred
conn = Stored (rel 0)

abbrev no_black_hole : Formula
no_black_hole =
    universal (var 5) Sw (universal (var 6) Ho (universal (var 7) Ho (universal (var 8) Pr (
    implication (Atom RcvThis (x 5 ∷ x 6 ∷ x 7 ∷ x 8 ∷ [])) (existential (var 9) Pr (Atom Sent (x 5 ∷ x 6 ∷ x 7 ∷ x 8 ∷ x 9 ∷ [])))))))

abbrev learn : Command
learn =
    sequence (Insert (rel 0) (x 0 ∷ x 3 ∷ x 1 ∷ []))
    (choice (var 4) Pr (holds 0 (x 0 ∷ x 4 ∷ x 2 ∷ []))
    (sequence (Install (x 0 ∷ x 1 ∷ x 2 ∷ x 3 ∷ x 4 ∷ [])) (Forward (x 0 ∷ x 1 ∷ x 2 ∷ x 3 ∷ x 4 ∷ [])))
    (Flood (x 0 ∷ x 1 ∷ x 2 ∷ x 3 ∷ [])))

abbrev P : Parts
P = record {
  relations = relation (Sw ∷ Pr ∷ Ho ∷ []) ∷ [];
  constants = [];
  start = [];
  topology = [];
  safety = [];
  trans = invariant no_black_hole ∷ [];
  handlers = handler None learn ∷ [];
  numerals = [];
  timeout = None;
}

-- two hosts and two ports
abbrev two : Network
two = record { switches = 1 ∷ []; hosts = 1 ∷ 2 ∷ []; ports = 1 ∷ 2 ∷ []; constants = []; rows = [] }

-- two hosts and one port
abbrev one : Network
one = record { switches = 1 ∷ []; hosts = 1 ∷ 2 ∷ []; ports = 1 ∷ []; constants = []; rows = [] }

-- Host 1, at port 1, sends to host 2, of which nothing is known: no port fits, and the flood sends from every port but 1.
abbrev learnt : State
learnt = put empty_state conn (1 ∷ 1 ∷ 1 ∷ [])

abbrev flooded_two : State
flooded_two = flooded (put (initial P two) conn (1 ∷ 1 ∷ 1 ∷ [])) (1 ∷ 2 ∷ []) (1 ∷ 1 ∷ 2 ∷ 1 ∷ [])

a_flood : Step P two (initial P two) (PktIn 1 1 2 1) flooded_two
unfolding Executes truth
a_flood = (search rules, search rules, search rules, search rules, (_, refl, inr (λ m there. and-false (m == 1), refl)))

out_of_the_other_port : flooded_two Sent (1 ∷ 1 ∷ 2 ∷ 1 ∷ 2 ∷ []) ≡ true
out_of_the_other_port = refl

not_out_of_its_own : flooded_two Sent (1 ∷ 1 ∷ 2 ∷ 1 ∷ 1 ∷ []) ≡ false
not_out_of_its_own = refl

-- So the packet went somewhere.
no_black_hole_of_two : truth (structure P two flooded_two (At 1 1 2 1)) no_black_hole no_values ≡ true
unfolding truth
no_black_hole_of_two = refl

-- With one port alone the flood reaches nobody, and the invariant is false of this packet; it is true where no packet is at hand.
abbrev flooded_one : State
flooded_one = flooded (put (initial P one) conn (1 ∷ 1 ∷ 1 ∷ [])) (1 ∷ []) (1 ∷ 1 ∷ 2 ∷ 1 ∷ [])

a_flood_of_one : Step P one (initial P one) (PktIn 1 1 2 1) flooded_one
unfolding Executes truth
a_flood_of_one = (search rules, search rules, search rules, search rules, (_, refl, inr (λ m there. and-false (m == 1), refl)))

reaches_nobody : flooded_one Sent (1 ∷ 1 ∷ 2 ∷ 1 ∷ 1 ∷ []) ≡ false
reaches_nobody = refl

a_black_hole : truth (structure P one flooded_one (At 1 1 2 1)) no_black_hole no_values ≡ false
unfolding truth
a_black_hole = refl

of_this_packet_alone : truth (structure P one flooded_one Nothing) no_black_hole no_values ≡ true
unfolding truth
of_this_packet_alone = refl

-- Host 2 was seen at both ports. Then `pick` may take either: the event has two outcomes.
abbrev seen_twice : State
seen_twice = put (put empty_state conn (1 ∷ 1 ∷ 2 ∷ [])) conn (1 ∷ 2 ∷ 2 ∷ [])

abbrev by : ℕ → State
by o = put (put (put seen_twice conn (1 ∷ 1 ∷ 1 ∷ [])) Ft (1 ∷ 1 ∷ 2 ∷ 1 ∷ o ∷ [])) Sent (1 ∷ 1 ∷ 2 ∷ 1 ∷ o ∷ [])

by_port_one : Step P two seen_twice (PktIn 1 1 2 1) (by 1)
unfolding Executes truth
by_port_one = (search rules, search rules, search rules, search rules, (_, refl, inl (1, search rules, refl, (_, refl, refl))))

by_port_two : Step P two seen_twice (PktIn 1 1 2 1) (by 2)
unfolding Executes truth
by_port_two = (search rules, search rules, search rules, search rules, (_, refl, inl (2, search rules, refl, (_, refl, refl))))

-- The two outcomes differ.
sent_by_one : by 1 Sent (1 ∷ 1 ∷ 2 ∷ 1 ∷ 1 ∷ []) ≡ true
sent_by_one = refl

not_sent_by_two : by 2 Sent (1 ∷ 1 ∷ 2 ∷ 1 ∷ 1 ∷ []) ≡ false
not_sent_by_two = refl
