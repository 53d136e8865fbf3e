-- From verdicts to levels.
use Rattle.std.proofs.Common.{◌≡◌, ℕ, zero, suc, ◌+◌, ◌*◌, ◌<◌, ◌≤◌, List, [], ◌∷◌, ◌++◌, length, take, drop, true, false, Some, None, Ok, Err, inl, inr, refl, sym, ◌∙◌, ap, subst, arith, true≢false}
use Rattle.std.specs.Prelude.{slice_get}
use Rattle.std.proofs.Math.Nat.{mul-le-mul_right}
use Rattle.std.proofs.lemmas.Option.{same_Some, none-some, slice_get_within}
use Rattle.std.proofs.lemmas.Bool.{cases_lt}
use Rattle.std.proofs.lemmas.List.{length-map, take_all}
use Rattle.csdn_core.specs.declared.program.Parts.{Parts}
use Rattle.fol_forms.specs.declared.refusal.FormRefusal.TheVariants.{Large}
use Rattle.net_structs.specs.declared.case.Case.{Case}
use Rattle.csdn_conditions.specs.declared.sentence.Condition.{Condition}
use Rattle.csdn_conditions.specs.Answers.{Answers, OfCondition}
use Rattle.csdn_conditions.specs.Kinds.{kinds}
use Rattle.csdn_conditions.specs.Conditions.{conditions, condition, sentence}
use Rattle.csdn_conditions.proofs.Shared.{same_start}
use Rattle.vericon_decide.specs.declared.verdict.Proof.{Proof}
use Rattle.vericon_decide.specs.declared.verdict.Verdict.{Verdict}
use Rattle.vericon_decide.specs.declared.verdict.Verdict.TheVariants.{Valid as ValidVerdict, Broken as BrokenVerdict, Nodes as NodesVerdict, Outside as OutsideVerdict, Instances as InstancesVerdict}
use Rattle.vericon_decide.specs.declared.answer.UnknownWhy.{UnknownWhy}
use Rattle.vericon_decide.specs.declared.answer.UnknownWhy.TheVariants.{Nodes, Outside, Instances}
use Rattle.vericon_decide.specs.declared.findings.Finding.TheVariants.{Valid, Undecided}
use Rattle.vericon_decide.specs.declared.levels.LevelEnd.{LevelEnd}
use Rattle.vericon_decide.specs.declared.levels.LevelEnd.TheVariants.{Proven, Broken, Undecided as UndecidedAt}
use Rattle.vericon_decide.specs.Verdicts.{IsVerdict, IsInside, IsProven, IsProofOf, IsBrokenBy}
use Rattle.vericon_decide.specs.Levels.{IsWhy, IsFinding, IsCaseFound, IsFirst, IsProvenBy, FailsAt, FailsBelow, AreProvenByTo, AreProofsOf, StopsAt, IsLevelEnd, IsKept, is_proven, shared, found_by}
use Rattle.vericon_decide.proofs.VerdictLaws.{case_has}

-- what can't be decided isn't inside
pub inside_not : (P : Parts) (size : ℕ) (c : Condition) (why : UnknownWhy) → IsWhy P size c why → IsInside P size c → ⊥
inside_not P size c Nodes (inl large) inside = omega (arith, inside.0.0, large)
inside_not P size c Nodes (inr large) inside = omega (arith, inside.0.1, large)
inside_not P size c Outside is inside = true≢false (sym inside.1 ∙ is.1)
inside_not P size c (Instances n) is inside = omega (arith, inside.2, is.2)

-- of one condition

found_verdict : (P : Parts) (size : ℕ) (c : Condition) (v : Verdict) → IsVerdict P size c v → IsFinding P size c (found_by v)
found_verdict P size c (ValidVerdict proof) is = is
found_verdict P size c (BrokenVerdict case) is = is
found_verdict P size c NodesVerdict is = is
found_verdict P size c OutsideVerdict is = is
found_verdict P size c (InstancesVerdict n) is = is

pub found_there : (P : Parts) (size n i : ℕ) (made : Condition) (v : Verdict) → OfCondition P n i (λ c. Answers c (Ok made)) → IsVerdict P size made v → OfCondition P n i (λ c. IsFinding P size c (found_by v))
found_there P size n i made v found is =
    record { condition = found.condition; there = found.there; holds = found_verdict P size found.condition v (subst (λ z. IsVerdict P size z v) found.holds.0 is) }

pub large_there : (P : Parts) (size n i : ℕ) → OfCondition P n i (λ c. Answers c (Err Large)) → OfCondition P n i (λ c. IsFinding P size c (Undecided Nodes))
large_there P size n i found = record { condition = found.condition; there = found.there; holds = inl found.holds }

pub none_valid : (P : Parts) (size n i : ℕ) (proof : Proof) → OfCondition P n i (λ c. IsFinding P size c (Valid proof)) → OfCondition P n i (λ c. IsCaseFound P size c None)
none_valid P size n i proof found = record { condition = found.condition; there = found.there; holds = λ inside has. found.holds.0.no_case has }

pub case_broken : (P : Parts) (size n i : ℕ) (case : Case) → OfCondition P n i (λ c. IsBrokenBy P size c case) → OfCondition P n i (λ c. IsCaseFound P size c (Some case))
case_broken P size n i case found = record { condition = found.condition; there = found.there; holds = found.holds }

pub none_undecided : (P : Parts) (size n i : ℕ) (why : UnknownWhy) → OfCondition P n i (λ c. IsWhy P size c why) → OfCondition P n i (λ c. IsCaseFound P size c None)
none_undecided P size n i why found = record { condition = found.condition; there = found.there; holds = λ inside has. inside_not P size found.condition why found.holds inside }

proofs_more : (P : Parts) (k : ℕ) (cs : List Condition) (ps : List Proof) (c : Condition) (p : Proof) → slice_get cs k ≡ Some c → IsProofOf P (sentence c) p → AreProofsOf P (take k cs) ps → AreProofsOf P (take (suc k) cs) (ps ++ p ∷ [])
proofs_more P zero [] ps c p there is before = absurd (none-some c there)
proofs_more P zero (d ∷ cs) [] c p there is before = (subst (λ z. IsProofOf P (sentence z) p) (sym (same_Some d c there)) is, tt)
proofs_more P zero (d ∷ cs) (q ∷ ps) c p there is before = absurd before
proofs_more P (suc k) [] ps c p there is before = absurd (none-some c there)
proofs_more P (suc k) (d ∷ cs) [] c p there is before = absurd before
proofs_more P (suc k) (d ∷ cs) (q ∷ ps) c p there is before = (before.0, proofs_more P k cs ps c p there is before.1)

-- a fact of the conditions before number k, and of that one, is one of those before the next
pub facts_more : (P : Parts) (n k : ℕ) (Fact : Condition → Type 0) → OfCondition P n k Fact
    → ((i : ℕ) (d : Condition) → slice_get (conditions P n) i ≡ Some d → 0 < i → i < k → Fact d)
    → (i : ℕ) (d : Condition) → slice_get (conditions P n) i ≡ Some d → 0 < i → i < suc k → Fact d
facts_more P n k Fact found before i d there some below =
    elim (cases_lt i k) [
      | inl less ↦ before i d there some less
      | inr not_less ↦ (
          let same : i ≡ k = omega (arith, below, not_less) in
          subst Fact (same_Some found.condition d (sym found.there ∙ ap (λ z. slice_get (conditions P n) z) (sym same) ∙ there)) found.holds)
    ]

pub none_before : (P : Parts) (size n : ℕ) → AreProvenByTo P size n 1 []
none_before P size n = record { some = omega arith; proven = λ i c there some below. absurd (omega (arith, some, below)); proofs_of = tt }

pub one_more : (P : Parts) (size n k : ℕ) (ps : List Proof) (p : Proof) → AreProvenByTo P size n k ps → OfCondition P n k (λ c. IsFinding P size c (Valid p)) → AreProvenByTo P size n (suc k) (ps ++ p ∷ [])
one_more P size n zero ps p before found = absurd (omega (arith, before.some))
one_more P size n (suc k) ps p before found =
    record {
      some = omega arith;
      proven = facts_more P n (suc k) (IsProven P size) (record { condition = found.condition; there = found.there; holds = found.holds.0 }) before.proven;
      proofs_of = proofs_more P k (drop 1 (conditions P n)) ps found.condition p found.there found.holds.1 before.proofs_of;
    }

pub stops_at : (P : Parts) (size n first end k : ℕ) (ps : List Proof) (Fact : Condition → Type 0) → first ≤ k → k < end → AreProvenByTo P size n k ps → OfCondition P n k Fact → StopsAt P size n first end k ps Fact
stops_at P size n first end k ps Fact from below before found = record { from = from; below = below; fact = found; before = before }

pub first_of : (P : Parts) (size n first end k : ℕ) (ps : List Proof) (Fact : Condition → Type 0) → StopsAt P size n first end k ps Fact → IsFirst P size n k Fact
first_of P size n first end k ps Fact is = record { some = is.before.some; fact = is.fact; before = is.before.proven }

-- each number of a condition is below how many there are
pub within_kinds : (P : Parts) (n i : ℕ) (c : Condition) → slice_get (conditions P n) i ≡ Some c → i < length (kinds P n)
within_kinds P n i c there = omega (arith, length-map (kinds P n) (condition P n), slice_get_within (conditions P n) i c there)

pub all_proven : (P : Parts) (size n k : ℕ) (ps : List Proof) → length (kinds P n) ≤ k → AreProvenByTo P size n k ps → IsProvenBy P size n ps
all_proven P size n k ps past before = record { proven = proven; proofs_of = whole }
  where
    many : length (conditions P n) ≤ k
    many = omega (arith, length-map (kinds P n) (condition P n), past)

    proven : (i : ℕ) (c : Condition) → slice_get (conditions P n) i ≡ Some c → 0 < i → IsProven P size c
    proven i c there some = before.proven i c there some (omega (arith, within_kinds P n i c there, past))

    whole : AreProofsOf P (drop 1 (conditions P n)) ps
    whole = subst (λ z. AreProofsOf P (drop 1 z) ps) (take_all k (conditions P n) many) before.proofs_of

-- levels that fail

pub fails_broken : (P : Parts) (size n i : ℕ) (case : Case) → IsFirst P size n i (λ c. IsBrokenBy P size c case) → FailsAt P size n
fails_broken P size n i case is =
    let found = is.fact in
    record { index = i; some = is.some; failed = record { condition = found.condition; there = found.there; holds = inr (case_has P found.condition case found.holds.case_of) } }

pub fails_undecided : (P : Parts) (size n i : ℕ) (why : UnknownWhy) → IsFirst P size n i (λ c. IsWhy P size c why) → FailsAt P size n
fails_undecided P size n i why is =
    let found = is.fact in
    record { index = i; some = is.some; failed = record { condition = found.condition; there = found.there; holds = inl (inside_not P size found.condition why found.holds) } }

pub none_fails : (P : Parts) (size : ℕ) → FailsBelow P size 0
none_fails P size m below = absurd (omega (arith, below))

pub one_more_fails : (P : Parts) (size n : ℕ) → FailsBelow P size n → FailsAt P size n → FailsBelow P size (suc n)
one_more_fails P size n before fails m below =
    elim (cases_lt m n) [
      | inl less ↦ before m less
      | inr not_less ↦ (
          let same : n ≡ m = omega (arith, below, not_less) in
          subst (FailsAt P size) same fails)
    ]

-- what the levels share

proofs_fewer : (P : Parts) (m k : ℕ) (cs : List Condition) (ps : List Proof) → m ≤ k → AreProofsOf P (take k cs) ps → AreProofsOf P (take m cs) (take m ps)
proofs_fewer P zero k cs ps le all = tt
proofs_fewer P (suc m) zero cs ps le all = absurd (omega (arith, le))
proofs_fewer P (suc m) (suc k) [] [] le all = tt
proofs_fewer P (suc m) (suc k) [] (q ∷ ps) le all = absurd all
proofs_fewer P (suc m) (suc k) (d ∷ cs) [] le all = absurd all
proofs_fewer P (suc m) (suc k) (d ∷ cs) (q ∷ ps) le all = (all.0, proofs_fewer P m k cs ps (omega (arith, le)) all.1)

pub fewer_proven : (P : Parts) (size n m k : ℕ) (ps : List Proof) → suc m ≤ k → AreProvenByTo P size n k ps → AreProvenByTo P size n (suc m) (take m ps)
fewer_proven P size n m zero ps le all = absurd (omega (arith, le))
fewer_proven P size n m (suc k) ps le all =
    record {
      some = omega arith;
      proven = λ i c there some below. all.proven i c there some (omega (arith, below, le));
      proofs_of = proofs_fewer P m k (drop 1 (conditions P n)) ps (omega (arith, le)) all.proofs_of;
    }

same_front : {X : Type 0} (k : ℕ) (xs ys : List X) → ((i : ℕ) → i < k → slice_get xs i ≡ slice_get ys i) → take k xs ≡ take k ys
same_front zero xs ys same = refl
same_front (suc k) [] [] same = refl
same_front (suc k) [] (y ∷ ys) same = absurd (none-some y (same 0 (omega arith)))
same_front (suc k) (x ∷ xs) [] same = absurd (none-some x (sym (same 0 (omega arith))))
same_front (suc k) (x ∷ xs) (y ∷ ys) same =
    ap (λ z. z ∷ take k xs) (same_Some x y (same 0 (omega arith))) ∙ ap (λ zs. y ∷ zs) (same_front k xs ys (λ i below. same (suc i) (omega (arith, below))))

-- what is proven of what a level shares with the next is proven there
pub next_level : (P : Parts) (size n : ℕ) (ps : List Proof) → AreProvenByTo P size n (shared P (n + 1)) ps → AreProvenByTo P size (n + 1) (shared P (n + 1)) ps
next_level P size n ps all =
    record {
      some = all.some;
      proven = λ i c there some below. all.proven i c (sym (same_start P n (n + 1) i below (omega arith)) ∙ there) some below;
      proofs_of = subst (λ cs. AreProofsOf P (drop 1 cs) ps) (sym (same_front (shared P (n + 1)) (conditions P (n + 1)) (conditions P n) (λ i below. same_start P n (n + 1) i below (omega arith)))) all.proofs_of;
    }

-- .. and what is first of it, is first there
stays : (P : Parts) (size n m i : ℕ) (Fact : Condition → Type 0) → i < shared P (n + 1) → n ≤ m → IsFirst P size n i Fact → IsFirst P size m i Fact
stays P size n m i Fact below le is =
    let found = is.fact in
    record {
      some = is.some;
      fact = record { condition = found.condition; there = same_start P n m i below le ∙ found.there; holds = found.holds };
      before = λ j c there some less. is.before j c (sym (same_start P n m j (omega (arith, less, below)) le) ∙ there) some less;
    }

-- .. as many as it begins with
pub shared_rises : (P : Parts) (n : ℕ) → shared P n ≤ shared P (n + 1)
shared_rises P n =
    let less : n * length P.safety ≤ (n + 1) * length P.safety = mul-le-mul_right (length P.safety) (omega arith) in
    omega (arith, less)

pub kept_first : (P : Parts) (size : ℕ) → IsKept P size 0 []
kept_first P size =
    let one : 1 ≡ shared P 0 = omega arith in
    record { fails = none_fails P size; proven = subst (λ k. AreProvenByTo P size 0 k []) one (none_before P size 0) }

pub kept_next : (P : Parts) (size n : ℕ) (before after : List Proof) → IsKept P size n before → FailsAt P size n → AreProvenByTo P size n (shared P (n + 1)) after → IsKept P size (n + 1) after
kept_next P size n before after kept fails proven =
    let next : suc n ≡ n + 1 = omega arith in
    record { fails = subst (FailsBelow P size) next (one_more_fails P size n kept.fails fails); proven = next_level P size n after proven }

-- a condition on the start that isn't proven stops each level from there on
fails_on : (P : Parts) (size n most : ℕ) → FailsBelow P size n → ((m : ℕ) → n ≤ m → FailsAt P size m) → FailsBelow P size most
fails_on P size n most before from m below = elim (cases_lt m n) [ inl less ↦ before m less | inr not_less ↦ from m (omega (arith, not_less)) ]

module _ (P : Parts) (size most n first i : ℕ) (ps : List Proof) (le : n ≤ most) (before : FailsBelow P size n) where
  pub broken_on : (case : Case) → StopsAt P size n first (shared P (n + 1)) i ps (λ c. IsBrokenBy P size c case)
      → FailsBelow P size most × IsFirst P size most i (λ c. IsBrokenBy P size c case)
  broken_on case is =
      let here = first_of P size n first (shared P (n + 1)) i ps (λ c. IsBrokenBy P size c case) is in (
        fails_on P size n most before (λ m from. fails_broken P size m i case (stays P size n m i (λ c. IsBrokenBy P size c case) is.below from here)),
        stays P size n most i (λ c. IsBrokenBy P size c case) is.below le here,
      )

  pub undecided_on : (why : UnknownWhy) → StopsAt P size n first (shared P (n + 1)) i ps (λ c. IsWhy P size c why)
      → FailsBelow P size most × IsFirst P size most i (λ c. IsWhy P size c why)
  undecided_on why is =
      let here = first_of P size n first (shared P (n + 1)) i ps (λ c. IsWhy P size c why) is in (
        fails_on P size n most before (λ m from. fails_undecided P size m i why (stays P size n m i (λ c. IsWhy P size c why) is.below from here)),
        stays P size n most i (λ c. IsWhy P size c why) is.below le here,
      )

-- where not all of a level are proven it fails, and those before number `first` are
pub left_proven : (P : Parts) (size n m first end : ℕ) (ps : List Proof) (reached : LevelEnd) → first ≡ suc m → IsLevelEnd P size n first end ps reached → is_proven reached ≡ false
    → FailsAt P size n × AreProvenByTo P size n (suc m) (take m ps)
left_proven P size n m first end ps Proven one is not_all = absurd (true≢false not_all)
left_proven P size n m first end ps (Broken i case) one is not_all =
    (fails_broken P size n i case (first_of P size n first end i ps (λ c. IsBrokenBy P size c case) is), fewer_proven P size n m i ps (omega (arith, one, is.from)) is.before)
left_proven P size n m first end ps (UndecidedAt i why) one is not_all =
    (fails_undecided P size n i why (first_of P size n first end i ps (λ c. IsWhy P size c why) is), fewer_proven P size n m i ps (omega (arith, one, is.from)) is.before)

-- .. and where all are, so is the level
pub whole_proven : (P : Parts) (size n first end : ℕ) (ps : List Proof) (reached : LevelEnd) → length (kinds P n) ≤ end → IsLevelEnd P size n first end ps reached → is_proven reached ≡ true → IsProvenBy P size n ps
whole_proven P size n first end ps Proven past is all = all_proven P size n end ps past is
whole_proven P size n first end ps (Broken i case) past is all = absurd (true≢false (sym all))
whole_proven P size n first end ps (UndecidedAt i why) past is all = absurd (true≢false (sym all))
