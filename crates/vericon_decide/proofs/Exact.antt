-- When each answer comes.
use Rattle.std.proofs.Common.{◌≡◌, ◌↔◌, ℕ, zero, suc, ◌<◌, List, Some, IsTrue, inl, inr, refl, sym, ◌∙◌, ap, subst, arith, true≢false}
use Rattle.std.specs.Prelude.{slice_get}
use Rattle.std.proofs.lemmas.Bool.{cases_lt}
use Rattle.std.proofs.lemmas.Option.{same_Some}
use Rattle.csdn_core.specs.declared.program.Parts.{Parts}
use Rattle.csdn_core.specs.WellSorted.{IsWellSorted}
use Rattle.net_structs.specs.declared.case.Case.{Case}
use Rattle.csdn_conditions.specs.declared.kinds.CondKind.TheVariants.{Network as NetworkKind}
use Rattle.csdn_conditions.specs.declared.sentence.Condition.{Condition}
use Rattle.csdn_conditions.specs.Answers.{OfCondition}
use Rattle.csdn_conditions.specs.Conditions.{condition, conditions}
use Rattle.csdn_conditions.proofs.Cases.{case_valid}
use Rattle.csdn_conditions.proofs.Complete.{complete}
use Rattle.vericon_decide.specs.declared.verdict.Proof.{Proof}
use Rattle.vericon_decide.specs.declared.answer.UnknownWhy.{UnknownWhy}
use Rattle.vericon_decide.specs.declared.answer.UnknownWhy.TheVariants.{Nodes, Outside, Instances}
use Rattle.vericon_decide.specs.declared.answer.Answer.{Answer}
use Rattle.vericon_decide.specs.declared.answer.Answer.TheVariants.{Yes, Counter, Unknown, NoNetwork}
use Rattle.vericon_decide.specs.Verdicts.{IsInside}
use Rattle.vericon_decide.specs.Levels.{IsWhy, NetworkIsInside, IsUnmet, IsProvenAt, FailsAt}
use Rattle.vericon_decide.specs.Answers.{IsOpen, IsYes, IsCounter, IsUnknown, IsAnswer, AreOne, IsProvable, IsLeastProvable, IsProvableWithin, IsUnmeetable, IsBreakable, IsYesAt, is_counter, is_unknown, is_no_network}
use Rattle.vericon_decide.proofs.VerdictLaws.{case_has}
use Rattle.vericon_decide.proofs.LevelLaws.{inside_not}
use Rattle.vericon_decide.proofs.AnswerLaws.{first_is}

-- levels

proven_holds : (P : Parts) (size n : ℕ) → IsProvenAt P size n → FailsAt P size n → ⊥
proven_holds P size n proven fails =
    let found = fails.failed in
    let is = proven fails.index found.condition found.there fails.some in
    elim found.holds [ inl outside ↦ outside is.inside | inr has ↦ is.no_case has ]

provable_holds : (P : Parts) (size n : ℕ) → IsWellSorted P → IsProvable P size n → FailsAt P size n → ⊥
provable_holds P size n well can fails =
    let found = fails.failed in
    elim found.holds [
      | inl outside ↦ outside (can.inside fails.index found.condition found.there)
      | inr has ↦ (case_valid P found.condition).0 (complete P well n can.inductive fails.index found.condition found.there fails.some) has
    ]

network_inside : (P : Parts) (size n : ℕ) → IsProvable P size n → NetworkIsInside P size
network_inside P size n can = can.inside 0 (condition P n NetworkKind) refl

yes_provable : (P : Parts) (size most n : ℕ) (ps : List Proof) → IsYes P size most n ps → IsProvable P size n
yes_provable P size most n ps is = record { inside = inside; network = is.met.network; inductive = is.inductive }
  where
    inside : (i : ℕ) (c : Condition) → slice_get (conditions P n) i ≡ Some c → IsInside P size c
    inside zero c there = subst (IsInside P size) (first_is P n c there) is.met.inside
    inside (suc i) c there = (is.proven.proven (suc i) c there (omega arith)).inside

yes_least : (P : Parts) (size most n : ℕ) (ps : List Proof) → IsWellSorted P → IsYes P size most n ps → IsLeastProvable P size most n
yes_least P size most n ps well is =
    record { within = is.within; provable = yes_provable P size most n ps is; least = λ m below can. provable_holds P size m well can (is.fails m below) }

-- what is left at the last level

open_met : (P : Parts) (size most : ℕ) → IsOpen P size most → IsUnmeetable P size → ⊥
open_met P size most is (inside, none) = let network = is.network inside in none network.0 network.1

open_unproven : (P : Parts) (size most : ℕ) → IsWellSorted P → IsOpen P size most → IsProvableWithin P size most → ⊥
open_unproven P size most well is can =
    provable_holds P size can.level well can.provable (is.fails (network_inside P size can.level can.provable) can.level (omega (arith, can.within)))

open_no_yes : (P : Parts) (size most n : ℕ) (ps : List Proof) → IsOpen P size most → IsYes P size most n ps → ⊥
open_no_yes P size most n ps is met = proven_holds P size n met.proven.proven (is.fails met.met.inside n (omega (arith, met.within)))

met_not_unmet : (P : Parts) (size most n : ℕ) (ps : List Proof) (proof : Proof) → IsYes P size most n ps → IsUnmet P size proof → ⊥
met_not_unmet P size most n ps proof met unmet = let network = met.met.network in unmet.none network.0 network.1

counter_last : (P : Parts) (size most n i : ℕ) (case : Case) → IsCounter P size most n i case → IsCounter P size most most i case
counter_last P size most n i case is = subst (λ z. IsCounter P size most z i case) is.last is

unknown_last : (P : Parts) (size most n i : ℕ) (why : UnknownWhy) → IsUnknown P size most n i why → IsUnknown P size most most i why
unknown_last P size most n i why is = subst (λ z. IsUnknown P size most z i why) is.last is

counter_breaks : (P : Parts) (size most i : ℕ) (case : Case) → IsCounter P size most most i case → IsBreakable P size most
counter_breaks P size most i case is =
    let found = is.broken in
    record { index = i; some = is.some; broken = record { condition = found.condition; there = found.there; holds = (found.holds.inside, case_has P found.condition case found.holds.case_of) } }

unknown_unbroken : (P : Parts) (size most i : ℕ) (why : UnknownWhy) → IsUnknown P size most most i why → IsBreakable P size most → ⊥
unknown_unbroken P size most i why is can =
    let found = can.broken in
    is.unbroken can.index found.condition found.there can.some found.holds.0 found.holds.1

-- two answers

yes_below : (P : Parts) (size most n m : ℕ) (ps qs : List Proof) → IsYes P size most n ps → IsYes P size most m qs → n < m → ⊥
yes_below P size most n m ps qs is also below = proven_holds P size n is.proven.proven (also.fails n below)

counter_below : (P : Parts) (size most i j : ℕ) (c d : Case) → IsCounter P size most most i c → IsCounter P size most most j d → i < j → ⊥
counter_below P size most i j c d is also below =
    let found = is.broken in
    also.first i found.condition found.there is.some below found.holds.inside (case_has P found.condition c found.holds.case_of)

unknown_below : (P : Parts) (size most i j : ℕ) (why whz : UnknownWhy) → IsUnknown P size most most i why → IsUnknown P size most most j whz → i < j → ⊥
unknown_below P size most i j why whz is also below =
    let found = is.undecided in
    inside_not P size found.condition why found.holds (also.first i found.condition found.there below)

same_number : (n m : ℕ) → (n < m → ⊥) → (m < n → ⊥) → n ≡ m
same_number n m less more = elim (cases_lt n m) [
  | inl below ↦ absurd (less below)
  | inr not_below ↦ elim (cases_lt m n) [ inl above ↦ absurd (more above) | inr not_above ↦ omega (arith, not_below, not_above) ]
]

same_why : (P : Parts) (size : ℕ) (c : Condition) (why whz : UnknownWhy) → IsWhy P size c why → IsWhy P size c whz → why ≡ whz
same_why P size c Nodes Nodes is also = refl
same_why P size c Nodes Outside (inl large) also = absurd (omega (arith, also.0.0, large))
same_why P size c Nodes Outside (inr large) also = absurd (omega (arith, also.0.1, large))
same_why P size c Nodes (Instances m) (inl large) also = absurd (omega (arith, also.0.0, large))
same_why P size c Nodes (Instances m) (inr large) also = absurd (omega (arith, also.0.1, large))
same_why P size c Outside Nodes is (inl large) = absurd (omega (arith, is.0.0, large))
same_why P size c Outside Nodes is (inr large) = absurd (omega (arith, is.0.1, large))
same_why P size c Outside Outside is also = refl
same_why P size c Outside (Instances m) is also = absurd (true≢false (sym also.1 ∙ is.1))
same_why P size c (Instances n) Nodes is (inl large) = absurd (omega (arith, is.0.0, large))
same_why P size c (Instances n) Nodes is (inr large) = absurd (omega (arith, is.0.1, large))
same_why P size c (Instances n) Outside is also = absurd (true≢false (sym is.1 ∙ also.1))
same_why P size c (Instances n) (Instances m) is also = ap Instances (is.3 ∙ sym also.3)

same_undecided : (P : Parts) (size n i j : ℕ) (why whz : UnknownWhy) → i ≡ j → OfCondition P n i (λ c. IsWhy P size c why) → OfCondition P n j (λ c. IsWhy P size c whz) → why ≡ whz
same_undecided P size n i j why whz same found also =
    let there = ap (λ z. slice_get (conditions P n) z) same ∙ also.there in
    let one : found.condition ≡ also.condition = same_Some found.condition also.condition (sym found.there ∙ there) in
    same_why P size also.condition why whz (subst (λ z. IsWhy P size z why) one found.holds) also.holds

unknowns_one : (P : Parts) (size most i j : ℕ) (why whz : UnknownWhy) → IsUnknown P size most most i why → IsUnknown P size most most j whz → (i ≡ j) × (why ≡ whz)
unknowns_one P size most i j why whz is also =
    let same = same_number i j (unknown_below P size most i j why whz is also) (unknown_below P size most j i whz why also is) in
    (same, same_undecided P size most i j why whz same is.undecided also.undecided)

pub are_one : (P : Parts) (size most : ℕ) (a b : Answer) → IsAnswer P size most a → IsAnswer P size most b → AreOne a b
are_one P size most (Yes n ps) (Yes m qs) is also = same_number n m (yes_below P size most n m ps.items qs.items is also) (yes_below P size most m n qs.items ps.items also is)
are_one P size most (Yes n ps) (Counter m j d) is also = open_no_yes P size most n ps.items also.open_so is
are_one P size most (Yes n ps) (Unknown m j whz) is also = open_no_yes P size most n ps.items also.open_so is
are_one P size most (Yes n ps) (NoNetwork q) is also = met_not_unmet P size most n ps.items q is also
are_one P size most (Counter n i c) (Yes m qs) is also = open_no_yes P size most m qs.items is.open_so also
are_one P size most (Counter n i c) (Counter m j d) is also =
    let one = counter_last P size most n i c is in
    let other = counter_last P size most m j d also in
    (is.last ∙ sym also.last, same_number i j (counter_below P size most i j c d one other) (counter_below P size most j i d c other one))
are_one P size most (Counter n i c) (Unknown m j whz) is also = unknown_unbroken P size most j whz (unknown_last P size most m j whz also) (counter_breaks P size most i c (counter_last P size most n i c is))
are_one P size most (Counter n i c) (NoNetwork q) is also = open_met P size most is.open_so (also.inside, also.none)
are_one P size most (Unknown n i why) (Yes m qs) is also = open_no_yes P size most m qs.items is.open_so also
are_one P size most (Unknown n i why) (Counter m j d) is also = unknown_unbroken P size most i why (unknown_last P size most n i why is) (counter_breaks P size most j d (counter_last P size most m j d also))
are_one P size most (Unknown n i why) (Unknown m j whz) is also =
    let one = unknowns_one P size most i j why whz (unknown_last P size most n i why is) (unknown_last P size most m j whz also) in
    (is.last ∙ sym also.last, one.0, one.1)
are_one P size most (Unknown n i why) (NoNetwork q) is also = open_met P size most is.open_so (also.inside, also.none)
are_one P size most (NoNetwork p) (Yes m qs) is also = met_not_unmet P size most m qs.items p also is
are_one P size most (NoNetwork p) (Counter m j d) is also = open_met P size most also.open_so (is.inside, is.none)
are_one P size most (NoNetwork p) (Unknown m j whz) is also = open_met P size most also.open_so (is.inside, is.none)
are_one P size most (NoNetwork p) (NoNetwork q) is also = tt

-- when each comes

pub no_network_exact : (P : Parts) (size most : ℕ) (a : Answer) → IsAnswer P size most a → IsTrue (is_no_network a) ↔ IsUnmeetable P size
no_network_exact P size most (Yes n ps) is = (λ told. absurd (true≢false (sym told)), λ unmet. absurd (unmet.1 is.met.network.0 is.met.network.1))
no_network_exact P size most (Counter n i c) is = (λ told. absurd (true≢false (sym told)), λ unmet. absurd (open_met P size most is.open_so unmet))
no_network_exact P size most (Unknown n i why) is = (λ told. absurd (true≢false (sym told)), λ unmet. absurd (open_met P size most is.open_so unmet))
no_network_exact P size most (NoNetwork proof) is = (λ told. (is.inside, is.none), λ unmet. refl)

least_within : (P : Parts) (size most n : ℕ) → IsLeastProvable P size most n → IsProvableWithin P size most
least_within P size most n is = record { level = n; within = is.within; provable = is.provable }

pub yes_exact : (P : Parts) (size : ℕ) → IsWellSorted P → (most : ℕ) (a : Answer) → IsAnswer P size most a → (n : ℕ) → IsYesAt n a ↔ IsLeastProvable P size most n
yes_exact P size well most (Yes m ps) is n =
    let least = yes_least P size most m ps.items well is in (
      (λ same. subst (IsLeastProvable P size most) same least),
      (λ also. same_number m n (λ below. also.least m below least.provable) (λ below. least.least n below also.provable)),
    )
yes_exact P size well most (Counter m i c) is n = (λ none. absurd none, λ least. absurd (open_unproven P size most well is.open_so (least_within P size most n least)))
yes_exact P size well most (Unknown m i why) is n = (λ none. absurd none, λ least. absurd (open_unproven P size most well is.open_so (least_within P size most n least)))
yes_exact P size well most (NoNetwork proof) is n = (λ none. absurd none, λ least. absurd (is.none least.provable.network.0 least.provable.network.1))

yes_within : (P : Parts) (size most n : ℕ) (ps : List Proof) → IsYes P size most n ps → IsProvableWithin P size most
yes_within P size most n ps is = record { level = n; within = is.within; provable = yes_provable P size most n ps is }

pub counter_exact : (P : Parts) (size : ℕ) → IsWellSorted P → (most : ℕ) (a : Answer) → IsAnswer P size most a → IsTrue (is_counter a) ↔ ((IsUnmeetable P size → ⊥) × (IsProvableWithin P size most → ⊥) × IsBreakable P size most)
counter_exact P size well most (Yes n ps) is = (λ told. absurd (true≢false (sym told)), λ rest. absurd (rest.1 (yes_within P size most n ps.items is)))
counter_exact P size well most (Counter n i c) is = (λ told. (open_met P size most is.open_so, open_unproven P size most well is.open_so, counter_breaks P size most i c (counter_last P size most n i c is)), λ rest. refl)
counter_exact P size well most (Unknown n i why) is = (λ told. absurd (true≢false (sym told)), λ rest. absurd (unknown_unbroken P size most i why (unknown_last P size most n i why is) rest.2))
counter_exact P size well most (NoNetwork proof) is = (λ told. absurd (true≢false (sym told)), λ rest. absurd (rest.0 (is.inside, is.none)))

pub unknown_exact : (P : Parts) (size : ℕ) → IsWellSorted P → (most : ℕ) (a : Answer) → IsAnswer P size most a → IsTrue (is_unknown a) ↔ ((IsUnmeetable P size → ⊥) × (IsProvableWithin P size most → ⊥) × (IsBreakable P size most → ⊥))
unknown_exact P size well most (Yes n ps) is = (λ told. absurd (true≢false (sym told)), λ rest. absurd (rest.1 (yes_within P size most n ps.items is)))
unknown_exact P size well most (Counter n i c) is = (λ told. absurd (true≢false (sym told)), λ rest. absurd (rest.2 (counter_breaks P size most i c (counter_last P size most n i c is))))
unknown_exact P size well most (Unknown n i why) is = (λ told. (open_met P size most is.open_so, open_unproven P size most well is.open_so, unknown_unbroken P size most i why (unknown_last P size most n i why is)), λ rest. refl)
unknown_exact P size well most (NoNetwork proof) is = (λ told. absurd (true≢false (sym told)), λ rest. absurd (rest.0 (is.inside, is.none)))
