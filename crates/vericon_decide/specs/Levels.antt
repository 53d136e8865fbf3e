-- What holds of the conditions of a level.
use Rattle.std.specs.Prelude.{◌≡◌, ◌⊎◌, ℕ, suc, ◌+◌, ◌*◌, ◌<◌, ◌≤◌, Bool, true, false, List, [], ◌∷◌, length, take, drop, Option, Some, None, slice_get}
use Rattle.csdn_core.specs.declared.program.Parts.{Parts}
use Rattle.csdn_core.specs.Network.{Network}
use Rattle.csdn_core.specs.Holds.{IsTopology}
use Rattle.net_structs.specs.declared.case.Case.{Case}
use Rattle.csdn_conditions.specs.declared.class.Class.TheVariants.{Nodes as NodesClass, Outside as OutsideClass, Instances as InstancesClass}
use Rattle.csdn_conditions.specs.declared.kinds.CondKind.TheVariants.{Network as NetworkKind}
use Rattle.csdn_conditions.specs.declared.sentence.Condition.{Condition}
use Rattle.csdn_conditions.specs.Answers.{OfCondition}
use Rattle.csdn_conditions.specs.Classes.{IsClass}
use Rattle.csdn_conditions.specs.Conditions.{condition, conditions, sentence}
use Rattle.csdn_conditions.specs.Valid.{HasCase}
use Rattle.vericon_decide.specs.declared.verdict.Proof.{Proof}
use Rattle.vericon_decide.specs.declared.verdict.Verdict.{Verdict}
use Rattle.vericon_decide.specs.declared.verdict.Verdict.TheVariants.{Valid as ValidVerdict, Broken as BrokenVerdict, Nodes as NodesVerdict, Outside as OutsideVerdict, Instances as InstancesVerdict}
use Rattle.vericon_decide.specs.declared.answer.UnknownWhy.{UnknownWhy}
use Rattle.vericon_decide.specs.declared.answer.UnknownWhy.TheVariants.{Nodes, Outside, Instances}
use Rattle.vericon_decide.specs.declared.findings.Finding.{Finding}
use Rattle.vericon_decide.specs.declared.findings.Finding.TheVariants.{Valid, Broken, Undecided}
use Rattle.vericon_decide.specs.declared.levels.LevelEnd.{LevelEnd}
use Rattle.vericon_decide.specs.declared.levels.LevelEnd.TheVariants.{Proven as ProvenEnd, Broken as BrokenEnd, Undecided as UndecidedEnd}
use Rattle.vericon_decide.specs.Verdicts.{IsProofOf, IsInside, IsProven, IsBrokenBy}

-- one proof for the sentence of each of these conditions, in their order
abbrev pub AreProofsOf : Parts → List Condition → List Proof → Type 0
AreProofsOf P [] [] = Unit {0}
AreProofsOf P [] (proof ∷ proofs) = ⊥
AreProofsOf P (c ∷ cs) [] = ⊥
AreProofsOf P (c ∷ cs) (proof ∷ proofs) = IsProofOf P (sentence c) proof × AreProofsOf P cs proofs

-- why a condition isn't inside
abbrev pub IsWhy : Parts → ℕ → Condition → UnknownWhy → Type 0
IsWhy P size c Nodes = IsClass P size (sentence c) NodesClass
IsWhy P size c Outside = IsClass P size (sentence c) OutsideClass
IsWhy P size c (Instances n) = IsClass P size (sentence c) (InstancesClass n)

-- what is found of a condition
abbrev pub IsFinding : Parts → ℕ → Condition → Finding → Type 0
IsFinding P size c (Valid proof) = IsProven P size c × IsProofOf P (sentence c) proof
IsFinding P size c (Broken case) = IsBrokenBy P size c case
IsFinding P size c (Undecided why) = IsWhy P size c why

-- a case that is found, or none where the condition is inside and has no case, or isn't inside
abbrev pub IsCaseFound : Parts → ℕ → Condition → Option Case → Type 0
IsCaseFound P size c (Some case) = IsBrokenBy P size c case
IsCaseFound P size c None = IsInside P size c → HasCase P c → ⊥

-- what is found by a verdict
abbrev pub found_by : Verdict → Finding
found_by (ValidVerdict proof) = Valid proof
found_by (BrokenVerdict case) = Broken case
found_by NodesVerdict = Undecided Nodes
found_by OutsideVerdict = Undecided Outside
found_by (InstancesVerdict n) = Undecided (Instances n)

-- some network meets the topology invariants
abbrev pub IsMeetable : Parts → Type 0
IsMeetable P = (N : Network) × IsTopology P N

-- all conditions are proven that were asked for
abbrev pub is_proven : LevelEnd → Bool
is_proven ProvenEnd = true
is_proven (BrokenEnd index case) = false
is_proven (UndecidedEnd index why) = false

-- how many conditions level n shares with the levels below it: the network condition, and the conditions on the start of at most
-- n - 1 events, with which it begins
abbrev pub shared : Parts → ℕ → ℕ
shared P n = suc (n * length P.safety)

-- by the size
module _ (P : Parts) (size : ℕ) where
  -- the network condition, which is the same at every level, can be decided
  abbrev pub NetworkIsInside : Type 0
  NetworkIsInside = IsInside P size (condition P 0 NetworkKind)

  -- the network condition can be decided, and some network meets the topology invariants
  pub record IsMet : Type 0 where
    pub inside : NetworkIsInside
    pub network : IsMeetable P

  -- .. and none does, by this proof
  pub record IsUnmet (proof : Proof) : Type 0 where
    pub inside : NetworkIsInside
    pub none : (N : Network) → IsTopology P N → ⊥
    pub proof_of : IsProofOf P (sentence (condition P 0 NetworkKind)) proof

  -- each condition of level n before number k, but the network condition, is inside and has no case
  abbrev pub AreProvenTo : ℕ → ℕ → Type 0
  AreProvenTo n k = (i : ℕ) (c : Condition) → slice_get (conditions P n) i ≡ Some c → 0 < i → i < k → IsProven P size c

  -- .. each of level n
  abbrev pub IsProvenAt : ℕ → Type 0
  IsProvenAt n = (i : ℕ) (c : Condition) → slice_get (conditions P n) i ≡ Some c → 0 < i → IsProven P size c

  -- .. by these proofs, one for each in their order
  pub record AreProvenByTo (n k : ℕ) (proofs : List Proof) : Type 0 where
    pub some : 0 < k
    pub proven : AreProvenTo n k
    pub proofs_of : AreProofsOf P (drop 1 (take k (conditions P n))) proofs

  -- none of level n before number k, but the network condition, is inside and has a case
  abbrev pub NoneIsBrokenTo : ℕ → ℕ → Type 0
  NoneIsBrokenTo n k = (i : ℕ) (c : Condition) → slice_get (conditions P n) i ≡ Some c → 0 < i → i < k → IsInside P size c → HasCase P c → ⊥

  -- .. none of level n
  abbrev pub NoneIsBroken : ℕ → Type 0
  NoneIsBroken n = (i : ℕ) (c : Condition) → slice_get (conditions P n) i ≡ Some c → 0 < i → IsInside P size c → HasCase P c → ⊥

  -- each of level n before number k is inside
  abbrev pub AreInsideTo : ℕ → ℕ → Type 0
  AreInsideTo n k = (i : ℕ) (c : Condition) → slice_get (conditions P n) i ≡ Some c → i < k → IsInside P size c

  -- a condition of level n other than the network condition is not inside, or has a case
  pub record FailsAt (n : ℕ) : Type 0 where
    pub index : ℕ
    pub some : 0 < index
    pub failed : OfCondition P n index (λ c. (IsInside P size c → ⊥) ⊎ HasCase P c)

  -- each level below n does
  abbrev pub FailsBelow : ℕ → Type 0
  FailsBelow n = (m : ℕ) → m < n → FailsAt m

  -- the conditions of level n but the network condition are proven by these proofs
  pub record IsProvenBy (n : ℕ) (proofs : List Proof) : Type 0 where
    pub proven : IsProvenAt n
    pub proofs_of : AreProofsOf P (drop 1 (conditions P n)) proofs

  -- the condition of this number of level n, which isn't the network condition, is such, and those between are proven
  pub record IsFirst (n index : ℕ) (Fact : Condition → Type 0) : Type 0 where
    pub some : 0 < index
    pub fact : OfCondition P n index Fact
    pub before : AreProvenTo n index

  -- the condition of this number of level n, of those from number `first` to before number `end`, is such, and those before it
  -- are proven by these proofs
  pub record StopsAt (n first end index : ℕ) (proofs : List Proof) (Fact : Condition → Type 0) : Type 0 where
    pub from : first ≤ index
    pub below : index < end
    pub fact : OfCondition P n index Fact
    pub before : AreProvenByTo n index proofs

  -- how far the conditions of level n from number `first` to before number `end` are proven, behind those before them
  abbrev pub IsLevelEnd : ℕ → ℕ → ℕ → List Proof → LevelEnd → Type 0
  IsLevelEnd n first end proofs ProvenEnd = AreProvenByTo n end proofs
  IsLevelEnd n first end proofs (BrokenEnd index case) = StopsAt n first end index proofs (λ c. IsBrokenBy P size c case)
  IsLevelEnd n first end proofs (UndecidedEnd index why) = StopsAt n first end index proofs (λ c. IsWhy P size c why)

  -- what level n takes over from those below it: each of them fails, and the conditions that it shares with them are proven by
  -- these proofs
  pub record IsKept (n : ℕ) (proofs : List Proof) : Type 0 where
    pub fails : FailsBelow n
    pub proven : AreProvenByTo n (shared P n) proofs

  -- level n is proven by these proofs; or it fails, and they prove what it shares with the next level
  abbrev pub IsLevelProven : ℕ → Bool → List Proof → Type 0
  IsLevelProven n true proofs = IsProvenBy n proofs
  IsLevelProven n false proofs = FailsAt n × AreProvenByTo n (shared P (n + 1)) proofs
