-- What is said of a condition.
use Rattle.std.specs.Prelude.{◌≡◌, ℕ, IsFalse, All}
use Rattle.csdn_core.specs.declared.event.Packet.TheVariants.{Nothing}
use Rattle.csdn_core.specs.declared.program.Parts.{Parts}
use Rattle.csdn_core.specs.declared.syntax.Formula.{Formula}
use Rattle.csdn_core.specs.Truth.{truth}
use Rattle.csdn_core.specs.Network.{IsNetwork, structure}
use Rattle.csdn_core.specs.Run.{no_values}
use Rattle.csdn_core.specs.Satisfied.{IsTrueIn, HasNetwork}
use Rattle.clause_search.specs.Outcomes.{IsRefutationOf}
use Rattle.decision_laws.specs.Laws.{AreTied}
use Rattle.net_structs.specs.declared.case.Case.{Case}
use Rattle.net_structs.specs.Rows.{held}
use Rattle.net_structs.specs.StateTuples.{IsStateTuple}
use Rattle.class_networks.specs.Cases.{HasState, MakesTrue}
use Rattle.csdn_conditions.specs.declared.class.Class.TheVariants.{Inside, Nodes as NodesClass, Outside as OutsideClass, Instances as InstancesClass}
use Rattle.csdn_conditions.specs.declared.sentence.Condition.{Condition}
use Rattle.csdn_conditions.specs.Classes.{IsClass}
use Rattle.csdn_conditions.specs.Conditions.{sentence}
use Rattle.csdn_conditions.specs.Valid.{HasCase}
use Rattle.vericon_decide.specs.declared.verdict.Proof.{Proof}
use Rattle.vericon_decide.specs.declared.solving.Solution.{Solution}
use Rattle.vericon_decide.specs.declared.solving.Solution.TheVariants.{Refuted, Satisfied}
use Rattle.vericon_decide.specs.declared.verdict.Verdict.{Verdict}
use Rattle.vericon_decide.specs.declared.verdict.Verdict.TheVariants.{Valid, Broken, Nodes, Outside, Instances}

-- the clauses are tied to the sentence, and the log refutes them within the limits of log texts
pub record IsProofOf (P : Parts) (F : Formula) (proof : Proof) : Type 0 where
  pub tied : AreTied P F proof.clauses.clauses
  pub refuted : IsRefutationOf proof.clauses proof.log

-- a proof that no network and state make the sentence true, or some that do
abbrev pub IsSettled : Parts → Formula → Solution → Type 0
IsSettled P F (Refuted proof) = (HasNetwork P F → ⊥) × IsProofOf P F proof
IsSettled P F (Satisfied case) = MakesTrue P F case

-- a network of the program, and a state of its elements, in which the hypothesis is true and the goal false
pub record IsCaseOf (P : Parts) (c : Condition) (case : Case) : Type 0 where
  pub network : IsNetwork P case.network
  pub tuples : HasState case.state (All (IsStateTuple P case.network))
  pub hypothesis : HasState case.state (λ rows. IsTrueIn P c.hypothesis case.network (held rows))
  pub goal : HasState case.state (λ rows. IsFalse (truth (structure P case.network (held rows) Nothing) c.goal no_values))
  pub packet : case.packet ≡ Nothing

-- by the size, which is the most atoms and equations that the copies of a sentence may have
module _ (P : Parts) (size : ℕ) (c : Condition) where
  -- the condition can be decided
  abbrev pub IsInside : Type 0
  IsInside = IsClass P size (sentence c) Inside

  -- it is inside and has no case
  pub record IsProven : Type 0 where
    pub inside : IsInside
    pub no_case : HasCase P c → ⊥

  -- it is inside, and this is a case of it
  pub record IsBrokenBy (case : Case) : Type 0 where
    pub inside : IsInside
    pub case_of : IsCaseOf P c case

  -- what a verdict says of it
  abbrev pub IsVerdict : Verdict → Type 0
  IsVerdict (Valid proof) = IsProven × IsProofOf P (sentence c) proof
  IsVerdict (Broken case) = IsBrokenBy case
  IsVerdict Nodes = IsClass P size (sentence c) NodesClass
  IsVerdict Outside = IsClass P size (sentence c) OutsideClass
  IsVerdict (Instances n) = IsClass P size (sentence c) (InstancesClass n)
