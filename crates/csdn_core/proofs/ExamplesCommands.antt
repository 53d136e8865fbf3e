-- The definitions at single commands, initial rows and handlers, over one switch 1, the hosts 1 and 2, and the ports 1 and 2.
--
--   const h: HO;
--   rel r(HO) = {(h)};
--   rel up(PR) = {(prt(2))};
use Rattle.std.proofs.Common.{◌≡◌, ℕ, ◌==◌, true, false, ◌&&◌, [], ◌∷◌, Some, None, Contains, inl, inr, refl, sym, ◌∙◌, ap, subst, arith, rules}
use Rattle.std.proofs.Math.Bool.{and-true}
use Rattle.csdn_core.specs.declared.terms.Sort.TheVariants.{Ho, Pr}
use Rattle.csdn_core.specs.declared.terms.Term.TheVariants.{Const}
use Rattle.csdn_core.specs.declared.terms.Pred.{Pred}
use Rattle.csdn_core.specs.declared.terms.Pred.TheVariants.{Stored, Ft}
use Rattle.csdn_core.specs.declared.program.Parts.{Parts}
use Rattle.csdn_core.specs.declared.syntax.Command.{Command}
use Rattle.csdn_core.specs.declared.syntax.Command.TheVariants.{Skip, Insert, Remove}
use Rattle.csdn_core.specs.Tree.{conditional, choice}
use Rattle.csdn_core.specs.Truth.{truth}
use Rattle.csdn_core.specs.Network.{Network, State}
use Rattle.csdn_core.specs.Execution.{put, take_out, Executes}
use Rattle.csdn_core.specs.Run.{empty_state, no_values, initial, first_fit}
use Rattle.csdn_core.proofs.ExamplesSyntax.{var, rel, x, prt, holds, relation, handler}

abbrev r : Pred
r = Stored (rel 0)

abbrev up : Pred
up = Stored (rel 1)

-- The first handler is for port 2, the second for every port, and the third is never reached.
abbrev P : Parts
P = record {
  relations = relation (Ho ∷ []) ∷ relation (Pr ∷ []) ∷ [];
  constants = record { name = []; sort = Ho } ∷ [];
  start = record { rel = rel 0; terms = Const (record { 0 = 0 }) ∷ [] } ∷ record { rel = rel 1; terms = prt 2 ∷ [] } ∷ [];
  topology = [];
  safety = [];
  trans = [];
  handlers = handler (Some 2) Skip ∷ handler None (Insert (rel 0) (x 1 ∷ [])) ∷ handler (Some 1) (Remove (rel 0) (x 1 ∷ [])) ∷ [];
  numerals = 1 ∷ 2 ∷ [];
  timeout = None;
}

-- the constant h is host 2
abbrev N : Network
N = record { switches = 1 ∷ []; hosts = 1 ∷ 2 ∷ []; ports = 1 ∷ 2 ∷ []; constants = 2 ∷ []; rows = [] }

-- At the start r holds of h alone, which is host 2, and up of port 2 alone; nothing is installed or sent.
starts_with_its_row : initial P N r (2 ∷ []) ≡ true
starts_with_its_row = refl

and_no_other : initial P N r (1 ∷ []) ≡ false
and_no_other = refl

starts_with_port_two : initial P N up (2 ∷ []) ≡ true
starts_with_port_two = refl

-- a row of another relation does not count
not_of_another_relation : initial P N up (1 ∷ []) ≡ false
not_of_another_relation = refl

no_rule_at_start : initial P N Ft (1 ∷ 1 ∷ 2 ∷ 1 ∷ 2 ∷ []) ≡ false
no_rule_at_start = refl

-- The first handler that fits is taken: for port 2 the first, for port 1 the second, though the third fits too.
for_port_two : first_fit P.handlers 2 ≡ Some (handler (Some 2) Skip)
for_port_two = refl

for_port_one : first_fit P.handlers 1 ≡ Some (handler None (Insert (rel 0) (x 1 ∷ [])))
for_port_one = refl

-- `r.remove(x1)` takes one tuple out, and leaves the others; where there is none, nothing changes.
abbrev both_hosts : State
both_hosts = put (put empty_state r (1 ∷ [])) r (2 ∷ [])

removes : Executes P N (Remove (rel 0) (x 1 ∷ [])) (λ k. 2) both_hosts (take_out both_hosts r (2 ∷ []))
unfolding Executes
removes = refl

is_out : take_out both_hosts r (2 ∷ []) r (2 ∷ []) ≡ false
is_out = refl

the_other_stays : take_out both_hosts r (2 ∷ []) r (1 ∷ []) ≡ true
the_other_stays = refl

-- the same cells in another relation stay
other_relations_stay : take_out (put both_hosts up (2 ∷ [])) r (2 ∷ []) up (2 ∷ []) ≡ true
other_relations_stay = refl

never_was : take_out empty_state r (1 ∷ []) r (1 ∷ []) ≡ false
never_was = refl

-- `if r(x1) { r.remove(x1); } else { r.insert(x1); }` removes host 2 where it is in r, and inserts it where it is not.
abbrev toggle : Command
toggle = conditional (holds 0 (x 1 ∷ [])) (Remove (rel 0) (x 1 ∷ [])) (Insert (rel 0) (x 1 ∷ []))

takes_the_first_branch : Executes P N toggle (λ k. 2) both_hosts (take_out both_hosts r (2 ∷ []))
unfolding Executes truth
takes_the_first_branch = inl (refl, refl)

takes_the_second_branch : Executes P N toggle (λ k. 2) empty_state (put empty_state r (2 ∷ []))
unfolding Executes truth
takes_the_second_branch = inr (refl, refl)

-- and there it ends nowhere else
no_other_branch : (y : State) → Executes P N toggle (λ k. 2) empty_state y → y ≡ put empty_state r (2 ∷ [])
unfolding Executes truth
no_other_branch y (inl (is_true, to_y)) = absurd (let h : false ≡ true = is_true in cc)
no_other_branch y (inr (is_false, to_y)) = to_y

-- `pick x4:HO where r(x4) { r.remove(x4); }`: both hosts fit, and either may be taken out, so it has two outcomes.
abbrev remove_some : Command
remove_some = choice (var 4) Ho (holds 0 (x 4 ∷ [])) (Remove (rel 0) (x 4 ∷ [])) Skip

takes_host_one : Executes P N remove_some no_values both_hosts (take_out both_hosts r (1 ∷ []))
unfolding Executes truth
takes_host_one = inl (1, search rules, refl, refl)

takes_host_two : Executes P N remove_some no_values both_hosts (take_out both_hosts r (2 ∷ []))
unfolding Executes truth
takes_host_two = inl (2, search rules, refl, refl)

-- Where one host fits, it has one outcome, and does not skip.
abbrev host_two : State
host_two = put empty_state r (2 ∷ [])

takes_the_one : Executes P N remove_some no_values host_two (take_out host_two r (2 ∷ []))
unfolding Executes truth
takes_the_one = inl (2, search rules, refl, refl)

fits_alone : (m : ℕ) → ((m == 2) && true) ≡ true → m ≡ 2
fits_alone m is_true = equal m (sym (and-true (m == 2)) ∙ is_true)
  where
    equal : (m : ℕ) → (m == 2) ≡ true → m ≡ 2
    equal m h = grind arith

two_is_a_host : Contains N.hosts 2
two_is_a_host = search rules

does_not_skip : (y : State) → Executes P N remove_some no_values host_two y → y ≡ host_two → ⊥
unfolding Executes truth
does_not_skip y (inl (m, there, is_true, to_y)) same =
    let Left : ℕ → Type 0 = λ k. take_out host_two r (k ∷ []) r (2 ∷ []) ≡ true in
    let left : Left m = ap (λ (s : State). s r (2 ∷ [])) (sym to_y ∙ same) in
    let gone : false ≡ true = subst Left (fits_alone m is_true) left in
    cc
does_not_skip y (inr (none, to_y)) same = let h : true ≡ false = none 2 two_is_a_host in cc

-- Where none fits, it skips.
skips : Executes P N remove_some no_values empty_state empty_state
unfolding Executes truth
skips = inr (λ m there. refl, refl)
