-- The program of the example is well-sorted, and inductive over finite states, by hand.
use Rattle.std.proofs.Common.{◌≡◌, ◌≢◌, ◌≤◌, ◌∙◌, zero, suc, false, true≢false, not, List, [], ◌∷◌, length, All, AllPairs, refl, sym, ap, IsTrue, arith}
use Rattle.std.proofs.Math.Bool.{or-false}
use Rattle.std.proofs.lemmas.Bool.{not-true}
use Rattle.csdn_core.specs.declared.terms.Pred.{Pred}
use Rattle.csdn_core.specs.declared.terms.Pred.TheVariants.{Stored}
use Rattle.csdn_core.specs.declared.terms.FormulaPlace.TheVariants.{Safety}
use Rattle.csdn_core.specs.declared.event.Event.{Event}
use Rattle.csdn_core.specs.declared.event.Event.TheVariants.{PktIn, PktFlow, Expire}
use Rattle.csdn_core.specs.declared.event.Packet.TheVariants.{Nothing}
use Rattle.csdn_core.specs.Truth.{truth}
use Rattle.csdn_core.specs.Network.{Network, State, structure}
use Rattle.csdn_core.specs.Run.{initial, no_values, Step, Run}
use Rattle.csdn_core.specs.Holds.{IsSafe, IsSafeFor}
use Rattle.csdn_core.specs.Finite.{IsFinite}
use Rattle.csdn_core.specs.Names.{IsName}
use Rattle.csdn_core.specs.Numerals.{formula_numerals}
use Rattle.csdn_core.specs.Depth.{depth}
use Rattle.csdn_core.specs.Sorted.{bound_in}
use Rattle.csdn_core.specs.SortedIn.{HaveSortsIn, IsSortedIn}
use Rattle.csdn_core.specs.WellSorted.{IsWellSorted, IsSorted, signature}
use Rattle.csdn_conditions.specs.Among.{IsInductiveFinitely}
use Rattle.net_facts.specs.Example.{quiet_program, never}

one : {X : Type 0} (P : X → Type 0) (x : X) → P x → All P (x ∷ [])
one P x holds zero d within = holds
one P x holds (suc k) d within = absurd (omega (arith, within))

single : {X : Type 0} (x : X) → AllPairs (λ m n. m ≢ n) (x ∷ [])
single x i j d less within = absurd (omega (arith, less, within))

pub is_well_sorted : IsWellSorted quiet_program
unfolding IsSortedIn HaveSortsIn depth bound_in formula_numerals
is_well_sorted = record {
  relation_words = one IsName _ (record { word = refl; short = omega arith; free = refl });
  constant_words = λ i d within. absurd (omega arith);
  invariant_words = one IsName _ (record { word = refl; short = omega arith; free = refl });
  relation_names = single _;
  constant_names = λ i j d less within. absurd (omega arith);
  invariant_names = single _;
  arities = one (λ r. length r.sorts ≤ 5) _ (omega arith);
  relations = omega arith;
  constants = omega arith;
  invariants = omega arith;
  handler_count = omega arith;
  rows = λ r. omega arith;
  start = λ i d within. absurd (omega arith);
  topology = λ i d within. absurd (omega arith);
  safety = one (λ v. IsSorted (signature quiet_program) Safety v.formula) _ (record { sorts = (record { sorts = []; declared = refl; terms = tt }, tt); few = omega arith });
  trans = λ i d within. absurd (omega arith);
  handlers = λ i d within. absurd (omega arith);
  apart = λ i j d less within. absurd (omega arith);
  below = λ i d within. absurd (omega arith);
  numerals = λ i within. absurd (omega arith);
  numeral_range = λ i d within. absurd (omega arith);
  numerals_named = λ k. (λ there. there, λ there. there);
  timeout = tt;
}

abbrev q : Pred
q = Stored (record { 0 = 0 })

module _ (N : Network) where
  safe_from : (x : State) → x q [] ≡ false → IsSafe quiet_program N x
  unfolding truth
  safe_from x isnt = one (λ v. IsTrue (truth (structure quiet_program N x Nothing) v.formula no_values)) _ (ap not isnt)

  safe_gives : (x : State) → IsSafe quiet_program N x → x q [] ≡ false
  unfolding truth
  safe_gives x safe = not-true (x q []) (safe 0 (record { name = []; formula = never }) (omega arith))

  -- no event puts a tuple into the relation
  still_not : (x : State) (event : Event) (y : State) → Step quiet_program N x event y → x q [] ≡ false → y q [] ≡ false
  still_not x (PktIn s a b i) y (in_s, in_a, in_b, in_i, is) isnt = ap (λ (z : State). z q []) is ∙ isnt
  still_not x (PktFlow s a b i o) y (in_s, in_a, in_b, in_i, in_o, enabled, is) isnt = ap (λ (z : State). z q []) is ∙ or-false (x q []) ∙ isnt
  still_not x (Expire s a b i) y (in_s, in_a, in_b, in_i, may, rule, is) isnt = absurd (true≢false (sym may))

  safe_at_first : (events : List Event) (y : State) → length events ≤ 0 → Run quiet_program N (initial quiet_program N) events y → IsSafe quiet_program N y
  safe_at_first [] y few is = safe_from y (ap (λ (z : State). z q []) is)
  safe_at_first (event ∷ events) y few run = absurd (omega (arith, few))

  safe_after : (x : State) (events : List Event) (y : State) → IsFinite x → IsSafeFor quiet_program N 0 x → length events ≡ 1 → Run quiet_program N x events y → IsSafe quiet_program N y
  safe_after x [] y finite safe many run = absurd (omega (arith, many))
  safe_after x (event ∷ []) y finite safe many (z, step, is) = safe_from y (ap (λ (w : State). w q []) is ∙ still_not x event z step (safe_gives x (safe [] x (omega arith) refl)))
  safe_after x (event ∷ next ∷ more) y finite safe many run = absurd (omega (arith, many))

pub inductive_finitely : IsInductiveFinitely 0 quiet_program
inductive_finitely N topology = record {
  initially = safe_at_first N;
  safety = safe_after N;
  trans = λ x event y finite safe step i d within. absurd (omega arith);
}
