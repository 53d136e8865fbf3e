-- From levels to answers.
use Rattle.std.proofs.Common.{◌≡◌, ℕ, zero, suc, ◌<◌, ◌≤◌, List, length, Some, None, refl, sym, subst, arith}
use Rattle.std.specs.Prelude.{slice_get}
use Rattle.std.proofs.lemmas.Option.{same_Some}
use Rattle.csdn_core.specs.declared.program.Parts.{Parts}
use Rattle.csdn_core.specs.WellSorted.{IsWellSorted}
use Rattle.net_structs.specs.declared.case.Case.{Case}
use Rattle.csdn_conditions.specs.declared.kinds.CondKind.TheVariants.{Network as NetworkKind}
use Rattle.csdn_conditions.specs.declared.sentence.Condition.{Condition}
use Rattle.csdn_conditions.specs.Answers.{OfCondition}
use Rattle.csdn_conditions.specs.Kinds.{kinds}
use Rattle.csdn_conditions.specs.Valid.{IsValid, HasCase}
use Rattle.csdn_conditions.specs.Conditions.{conditions, condition}
use Rattle.csdn_conditions.proofs.Cases.{case_valid, case_network}
use Rattle.csdn_conditions.proofs.Inductive.{sound}
use Rattle.vericon_decide.specs.declared.verdict.Proof.{Proof}
use Rattle.vericon_decide.specs.declared.answer.UnknownWhy.{UnknownWhy}
use Rattle.vericon_decide.specs.declared.findings.Finding.TheVariants.{Valid}
use Rattle.vericon_decide.specs.Verdicts.{IsInside, IsBrokenBy}
use Rattle.vericon_decide.specs.Levels.{IsWhy, IsFinding, IsCaseFound, IsMet, IsUnmet, IsFirst, IsProvenBy, FailsAt, FailsBelow, NoneIsBroken, NoneIsBrokenTo}
use Rattle.vericon_decide.specs.Answers.{IsOpen, IsYes, IsCounter, IsUnknown, IsUndecided}
use Rattle.vericon_decide.proofs.VerdictLaws.{case_has}
use Rattle.vericon_decide.proofs.LevelLaws.{inside_not, facts_more, within_kinds, fails_broken, fails_undecided, one_more_fails}

pub first_is : (P : Parts) (n : ℕ) (c : Condition) → slice_get (conditions P n) 0 ≡ Some c → condition P 0 NetworkKind ≡ c
first_is P n c there = same_Some (condition P n NetworkKind) c there

-- the network condition

pub network_unmet : (P : Parts) (size : ℕ) (proof : Proof) → IsWellSorted P → OfCondition P 0 0 (λ c. IsFinding P size c (Valid proof)) → IsUnmet P size proof
network_unmet P size proof well found =
    let told = subst (λ z. IsFinding P size z (Valid proof)) (sym (first_is P 0 found.condition found.there)) found.holds in
    record { inside = told.0.inside; none = λ N is. told.0.no_case ((case_network P well 0).1 (N, is)); proof_of = told.1 }

pub network_met : (P : Parts) (size : ℕ) (case : Case) → IsWellSorted P → OfCondition P 0 0 (λ c. IsBrokenBy P size c case) → IsMet P size
network_met P size case well found =
    let told = subst (λ z. IsBrokenBy P size z case) (sym (first_is P 0 found.condition found.there)) found.holds in
    record { inside = told.inside; network = (case_network P well 0).0 (case_has P (condition P 0 NetworkKind) case told.case_of) }

pub network_undecided : (P : Parts) (size most : ℕ) (why : UnknownWhy) → OfCondition P 0 0 (λ c. IsWhy P size c why) → IsUndecided P size most 0 why
network_undecided P size most why found =
    let is = subst (λ z. IsWhy P size z why) (sym (first_is P 0 found.condition found.there)) found.holds in
    let outside = inside_not P size (condition P 0 NetworkKind) why is in
    record {
      open_so = record { network = λ inside. absurd (outside inside); fails = λ inside. absurd (outside inside) };
      undecided = record { condition = condition P most NetworkKind; there = refl; holds = is };
      first = λ i c there below. absurd (omega (arith, below));
      unbroken = λ i c there some below inside has. absurd (omega (arith, below));
    }

-- yes

pub at_once : (n : ℕ) → n ≤ n
at_once n = omega arith

pub yes_by : (P : Parts) (size most n : ℕ) (ps : List Proof) → IsWellSorted P → n ≤ most → IsMet P size → FailsBelow P size n → IsProvenBy P size n ps → IsYes P size most n ps
yes_by P size most n ps well within met fails is = record { within = within; met = met; proven = is; inductive = sound P well n valid; fails = fails }
  where
    valid : (i : ℕ) (c : Condition) → slice_get (conditions P n) i ≡ Some c → 0 < i → IsValid P c
    valid i c there some = (case_valid P c).1 (is.proven i c there some).no_case

-- what is left at the last level

open_by : (P : Parts) (size most : ℕ) → IsMet P size → FailsBelow P size most → FailsAt P size most → IsOpen P size most
open_by P size most met before fails = record { network = λ inside. met.network; fails = λ inside. one_more_fails P size most before fails }

pub counter_by : (P : Parts) (size most i : ℕ) (case : Case) → IsMet P size → FailsBelow P size most → IsFirst P size most i (λ c. IsBrokenBy P size c case) → IsCounter P size most most i case
counter_by P size most i case met before is =
    record {
      last = refl;
      open_so = open_by P size most met before (fails_broken P size most i case is);
      some = is.some;
      broken = is.fact;
      first = λ j c there some below inside has. (is.before j c there some below).no_case has;
    }

pub undecided_by : (P : Parts) (size most i : ℕ) (why : UnknownWhy) → IsMet P size → FailsBelow P size most → IsFirst P size most i (λ c. IsWhy P size c why) → IsUndecided P size most i why
undecided_by P size most i why met before is =
    record {
      open_so = open_by P size most met before (fails_undecided P size most i why is);
      undecided = is.fact;
      first = inside;
      unbroken = λ j c there some below inside has. (is.before j c there some below).no_case has;
    }
  where
    inside : (j : ℕ) (c : Condition) → slice_get (conditions P most) j ≡ Some c → j < i → IsInside P size c
    inside zero c there below = subst (IsInside P size) (first_is P most c there) met.inside
    inside (suc j) c there below = (is.before (suc j) c there (omega arith) below).inside

-- the walk over the rest

pub rest_begins : (P : Parts) (size most i : ℕ) (why : UnknownWhy) → IsUndecided P size most i why → NoneIsBrokenTo P size most (suc i)
rest_begins P size most i why is =
    let found = is.undecided in
    facts_more P most i (λ c. IsInside P size c → HasCase P c → ⊥) (record { condition = found.condition; there = found.there; holds = λ inside has. inside_not P size found.condition why found.holds inside }) is.unbroken

pub rest_goes_on : (P : Parts) (size most k : ℕ) → NoneIsBrokenTo P size most k → OfCondition P most k (λ c. IsCaseFound P size c None) → NoneIsBrokenTo P size most (suc k)
rest_goes_on P size most k before found = facts_more P most k (λ c. IsInside P size c → HasCase P c → ⊥) found before

pub rest_breaks : (P : Parts) (size most i k : ℕ) (why : UnknownWhy) (case : Case) → IsUndecided P size most i why → i < k → NoneIsBrokenTo P size most k → OfCondition P most k (λ c. IsBrokenBy P size c case) → IsCounter P size most most k case
rest_breaks P size most i k why case is later before found = record { last = refl; open_so = is.open_so; some = omega (arith, later); broken = found; first = before }

pub rest_ends : (P : Parts) (size most i k : ℕ) (why : UnknownWhy) → IsUndecided P size most i why → length (kinds P most) ≤ k → NoneIsBrokenTo P size most k → IsUnknown P size most most i why
rest_ends P size most i k why is past before = record { last = refl; open_so = is.open_so; unbroken = unbroken; undecided = is.undecided; first = is.first }
  where
    unbroken : NoneIsBroken P size most
    unbroken j c there some inside has = before j c there some (omega (arith, within_kinds P most j c there, past)) inside has
