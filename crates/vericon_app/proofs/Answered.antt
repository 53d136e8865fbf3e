-- What an answer says of a program.
use Rattle.std.proofs.Common.{◌≡◌, ℕ, subst}
use Rattle.std.specs.Prelude.{Vec}
use Rattle.std.specs.declared.alloc.Global.{Global}
use Rattle.csdn_core.specs.declared.program.Parts.{Parts}
use Rattle.net_structs.specs.declared.case.Case.{Case}
use Rattle.vericon_decide.specs.declared.verdict.Proof.{Proof}
use Rattle.vericon_decide.specs.declared.answer.UnknownWhy.{UnknownWhy}
use Rattle.vericon_decide.specs.declared.answer.Answer.{Answer}
use Rattle.vericon_decide.specs.declared.answer.Answer.TheVariants.{Yes, Counter, Unknown, NoNetwork}
use Rattle.vericon_decide.specs.Levels.{IsUnmet}
use Rattle.vericon_decide.specs.Answers.{IsAnswer, IsYes, IsCounter, IsUnknown}

module _ (P : Parts) (size most : ℕ) (answer : Answer) where
  pub proven_by : (level : ℕ) (proofs : Vec Proof Global) → answer ≡ Yes level proofs → IsAnswer P size most answer → IsYes P size most level proofs.items
  proven_by level proofs is right = subst (λ (a : Answer). IsAnswer P size most a) is right

  pub broken_by : (level index : ℕ) (case : Case) → answer ≡ Counter level index case → IsAnswer P size most answer → IsCounter P size most level index case
  broken_by level index case is right = subst (λ (a : Answer). IsAnswer P size most a) is right

  pub undecided_by : (level index : ℕ) (why : UnknownWhy) → answer ≡ Unknown level index why → IsAnswer P size most answer → IsUnknown P size most level index why
  undecided_by level index why is right = subst (λ (a : Answer). IsAnswer P size most a) is right

  pub unmet_by : (proof : Proof) → answer ≡ NoNetwork proof → IsAnswer P size most answer → IsUnmet P size proof
  unmet_by proof is right = subst (λ (a : Answer). IsAnswer P size most a) is right
