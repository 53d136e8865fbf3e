-- The definitions at rules that end, over one switch 1, the hosts 1 and 2, and the ports 1 and 2.
--
--   timeout 30;
use Rattle.std.proofs.Common.{◌≡◌, ℕ, true, false, [], ◌∷◌, Some, None, refl, sym, ◌∙◌, rules}
use Rattle.std.proofs.Math.Bool.{and-false}
use Rattle.csdn_core.specs.declared.terms.Pred.TheVariants.{Ft}
use Rattle.csdn_core.specs.declared.event.Event.TheVariants.{Expire}
use Rattle.csdn_core.specs.declared.event.Packet.TheVariants.{Nothing}
use Rattle.csdn_core.specs.declared.program.Parts.{Parts}
use Rattle.csdn_core.specs.declared.syntax.Command.TheVariants.{Uninstall}
use Rattle.csdn_core.specs.Network.{Network, State}
use Rattle.csdn_core.specs.Execution.{put, take_out, take_out_match, Executes}
use Rattle.csdn_core.specs.Truth.{Assignment, with_var}
use Rattle.csdn_core.specs.Run.{empty_state, no_values, packet_of, Step}
use Rattle.csdn_core.proofs.ExamplesSyntax.{var, x, prt}

abbrev without_timeout : Parts
without_timeout = record {
  relations = [];
  constants = [];
  start = [];
  topology = [];
  safety = [];
  trans = [];
  handlers = [];
  numerals = 1 ∷ 2 ∷ [];
  timeout = None;
}

abbrev P : Parts
P = record {
  relations = [];
  constants = [];
  start = [];
  topology = [];
  safety = [];
  trans = [];
  handlers = [];
  numerals = 1 ∷ 2 ∷ [];
  timeout = Some 30;
}

abbrev N : Network
N = record { switches = 1 ∷ []; hosts = 1 ∷ 2 ∷ []; ports = 1 ∷ 2 ∷ []; constants = []; rows = [] }

-- Two rules of one match, from host 1 to host 2 on port 1, and one of another match.
abbrev three_rules : State
three_rules = put (put (put empty_state Ft (1 ∷ 1 ∷ 2 ∷ 1 ∷ 1 ∷ [])) Ft (1 ∷ 1 ∷ 2 ∷ 1 ∷ 2 ∷ [])) Ft (1 ∷ 2 ∷ 1 ∷ 2 ∷ 1 ∷ [])

-- x0 to x3 stand for the packet from host 1 to host 2 on port 1
abbrev at_port_one : Assignment
at_port_one = with_var (with_var (with_var (with_var no_values (var 0) 1) (var 1) 1) (var 2) 2) (var 3) 1

-- `x0.uninstall(x1->x2, x3->prt(2))` takes out one rule, and leaves the other of its match.
uninstalls : Executes P N (Uninstall (x 0 ∷ x 1 ∷ x 2 ∷ x 3 ∷ prt 2 ∷ [])) at_port_one three_rules (take_out three_rules Ft (1 ∷ 1 ∷ 2 ∷ 1 ∷ 2 ∷ []))
unfolding Executes
uninstalls = refl

is_uninstalled : take_out three_rules Ft (1 ∷ 1 ∷ 2 ∷ 1 ∷ 2 ∷ []) Ft (1 ∷ 1 ∷ 2 ∷ 1 ∷ 2 ∷ []) ≡ false
is_uninstalled = refl

the_other_output_stays : take_out three_rules Ft (1 ∷ 1 ∷ 2 ∷ 1 ∷ 2 ∷ []) Ft (1 ∷ 1 ∷ 2 ∷ 1 ∷ 1 ∷ []) ≡ true
the_other_output_stays = refl

-- An expire takes out every rule of its match, and no other.
abbrev expired : State
expired = take_out_match three_rules (1 ∷ 1 ∷ 2 ∷ 1 ∷ [])

a_match_expires : Step P N three_rules (Expire 1 1 2 1) expired
a_match_expires = (search rules, search rules, search rules, search rules, refl, (1, search rules, refl), refl)

first_output_is_out : expired Ft (1 ∷ 1 ∷ 2 ∷ 1 ∷ 1 ∷ []) ≡ false
first_output_is_out = refl

second_output_is_out : expired Ft (1 ∷ 1 ∷ 2 ∷ 1 ∷ 2 ∷ []) ≡ false
second_output_is_out = refl

another_match_stays : expired Ft (1 ∷ 2 ∷ 1 ∷ 2 ∷ 1 ∷ []) ≡ true
another_match_stays = refl

-- No rule of the match is left, so it cannot expire again; and in a program without a timeout nothing expires.
gone : (o : ℕ) → expired Ft (1 ∷ 1 ∷ 2 ∷ 1 ∷ o ∷ []) ≡ true → false ≡ true
gone o is_there = sym (and-false (three_rules Ft (1 ∷ 1 ∷ 2 ∷ 1 ∷ o ∷ []))) ∙ is_there

not_again : (y : State) → Step P N expired (Expire 1 1 2 1) y → ⊥
not_again y (s, a, b, i, ends, (o, port, is_there), is) = let h : false ≡ true = gone o is_there in cc

never_without : (y : State) → Step without_timeout N three_rules (Expire 1 1 2 1) y → ⊥
never_without y (s, a, b, i, ends, rule, is) = let h : false ≡ true = ends in cc

-- An expire has no packet.
has_no_packet : packet_of (Expire 1 1 2 1) ≡ Nothing
has_no_packet = refl
