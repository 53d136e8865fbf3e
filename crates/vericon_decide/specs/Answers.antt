-- What is answered of a program.
use Rattle.std.specs.Prelude.{◌≡◌, ℕ, ◌<◌, ◌≤◌, suc, Bool, true, false, List, Some, slice_get}
use Rattle.csdn_core.specs.declared.program.Parts.{Parts}
use Rattle.csdn_core.specs.Network.{Network}
use Rattle.csdn_core.specs.Holds.{IsTopology, IsInductive}
use Rattle.net_structs.specs.declared.case.Case.{Case}
use Rattle.csdn_conditions.specs.declared.sentence.Condition.{Condition}
use Rattle.csdn_conditions.specs.Answers.{OfCondition}
use Rattle.csdn_conditions.specs.Conditions.{conditions}
use Rattle.csdn_conditions.specs.Valid.{HasCase}
use Rattle.vericon_decide.specs.declared.verdict.Proof.{Proof}
use Rattle.vericon_decide.specs.declared.answer.UnknownWhy.{UnknownWhy}
use Rattle.vericon_decide.specs.declared.answer.Answer.{Answer}
use Rattle.vericon_decide.specs.declared.answer.Answer.TheVariants.{Yes, Counter, Unknown, NoNetwork}
use Rattle.vericon_decide.specs.Verdicts.{IsInside, IsBrokenBy}
use Rattle.vericon_decide.specs.Levels.{IsWhy, NetworkIsInside, IsMeetable, IsMet, IsUnmet, IsProvenBy, NoneIsBroken, NoneIsBrokenTo, AreInsideTo, FailsBelow}

-- by the size
module _ (P : Parts) (size most : ℕ) where
  -- where the network condition can be decided, some network meets the topology invariants, and each level up to `most` fails
  pub record IsOpen : Type 0 where
    pub network : NetworkIsInside P size → IsMeetable P
    pub fails : NetworkIsInside P size → FailsBelow P size (suc most)

  -- this is the first level that is proven, by these proofs, and some network meets the topology invariants
  pub record IsYes (level : ℕ) (proofs : List Proof) : Type 0 where
    pub within : level ≤ most
    pub met : IsMet P size
    pub proven : IsProvenBy P size level proofs
    pub inductive : IsInductive level P
    pub fails : FailsBelow P size level

  -- at level `most` the condition of this number is the first that is inside and has a case, which is this one; the network
  -- condition doesn't count
  pub record IsCounter (level index : ℕ) (case : Case) : Type 0 where
    pub last : level ≡ most
    pub open_so : IsOpen
    pub some : 0 < index
    pub broken : OfCondition P level index (λ c. IsBrokenBy P size c case)
    pub first : NoneIsBrokenTo P size level index

  -- at level `most` no condition but the network condition is inside and has a case; that of this number is the first that is
  -- not inside, for this reason
  pub record IsUnknown (level index : ℕ) (why : UnknownWhy) : Type 0 where
    pub last : level ≡ most
    pub open_so : IsOpen
    pub unbroken : NoneIsBroken P size level
    pub undecided : OfCondition P level index (λ c. IsWhy P size c why)
    pub first : AreInsideTo P size level index

  -- the condition of this number of level `most` is the first that is not inside, for this reason, and none before it has a case
  pub record IsUndecided (index : ℕ) (why : UnknownWhy) : Type 0 where
    pub open_so : IsOpen
    pub undecided : OfCondition P most index (λ c. IsWhy P size c why)
    pub first : AreInsideTo P size most index
    pub unbroken : NoneIsBrokenTo P size most index

  abbrev pub IsAnswer : Answer → Type 0
  IsAnswer (Yes level proofs) = IsYes level proofs.items
  IsAnswer (Counter level index case) = IsCounter level index case
  IsAnswer (Unknown level index why) = IsUnknown level index why
  IsAnswer (NoNetwork proof) = IsUnmet P size proof

-- Two answers are one, but for the proofs and the case that they give.
abbrev pub AreOne : Answer → Answer → Type 0
AreOne (Yes n ps) (Yes m qs) = n ≡ m
AreOne (Yes n ps) (Counter m j d) = ⊥
AreOne (Yes n ps) (Unknown m j whz) = ⊥
AreOne (Yes n ps) (NoNetwork q) = ⊥
AreOne (Counter n i c) (Yes m qs) = ⊥
AreOne (Counter n i c) (Counter m j d) = (n ≡ m) × (i ≡ j)
AreOne (Counter n i c) (Unknown m j whz) = ⊥
AreOne (Counter n i c) (NoNetwork q) = ⊥
AreOne (Unknown n i why) (Yes m qs) = ⊥
AreOne (Unknown n i why) (Counter m j d) = ⊥
AreOne (Unknown n i why) (Unknown m j whz) = (n ≡ m) × (i ≡ j) × (why ≡ whz)
AreOne (Unknown n i why) (NoNetwork q) = ⊥
AreOne (NoNetwork p) (Yes m qs) = ⊥
AreOne (NoNetwork p) (Counter m j d) = ⊥
AreOne (NoNetwork p) (Unknown m j whz) = ⊥
AreOne (NoNetwork p) (NoNetwork q) = Unit {0}

-- When each answer comes.

-- each condition of level n can be decided, the program is n-inductive, and some network meets the topology invariants
pub record IsProvable (P : Parts) (size n : ℕ) : Type 0 where
  pub inside : (i : ℕ) (c : Condition) → slice_get (conditions P n) i ≡ Some c → IsInside P size c
  pub network : IsMeetable P
  pub inductive : IsInductive n P

-- n is the least such level, and at most `most`
pub record IsLeastProvable (P : Parts) (size most n : ℕ) : Type 0 where
  pub within : n ≤ most
  pub provable : IsProvable P size n
  pub least : (m : ℕ) → m < n → IsProvable P size m → ⊥

-- some level of at most `most` is such
pub record IsProvableWithin (P : Parts) (size most : ℕ) : Type 0 where
  pub level : ℕ
  pub within : level ≤ most
  pub provable : IsProvable P size level

-- the network condition can be decided, and no network meets the topology invariants
abbrev pub IsUnmeetable : Parts → ℕ → Type 0
IsUnmeetable P size = NetworkIsInside P size × ((N : Network) → IsTopology P N → ⊥)

-- a condition of level n other than the network condition can be decided and has a case
pub record IsBreakable (P : Parts) (size n : ℕ) : Type 0 where
  pub index : ℕ
  pub some : 0 < index
  pub broken : OfCondition P n index (λ c. IsInside P size c × HasCase P c)

-- yes at level n
abbrev pub IsYesAt : ℕ → Answer → Type 0
IsYesAt n (Yes m ps) = m ≡ n
IsYesAt n (Counter m i c) = ⊥
IsYesAt n (Unknown m i why) = ⊥
IsYesAt n (NoNetwork p) = ⊥

abbrev pub is_counter : Answer → Bool
is_counter (Yes n ps) = false
is_counter (Counter n i c) = true
is_counter (Unknown n i why) = false
is_counter (NoNetwork p) = false

abbrev pub is_unknown : Answer → Bool
is_unknown (Yes n ps) = false
is_unknown (Counter n i c) = false
is_unknown (Unknown n i why) = true
is_unknown (NoNetwork p) = false

abbrev pub is_no_network : Answer → Bool
is_no_network (Yes n ps) = false
is_no_network (Counter n i c) = false
is_no_network (Unknown n i why) = false
is_no_network (NoNetwork p) = true
