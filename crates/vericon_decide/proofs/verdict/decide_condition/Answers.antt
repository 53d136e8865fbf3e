use Rattle.std.proofs.Common.{sym, subst}
use Rattle.csdn_conditions.specs.declared.class.Class.TheVariants.{Inside}
use Rattle.csdn_conditions.specs.Classes.{IsClass}
use Rattle.decision_laws.specs.Laws.{IsSentence}
use Rattle.vericon_decide.specs.Verdicts.{IsSettled}
use Rattle.vericon_decide.proofs.VerdictLaws.{sentence_of, proven_by, case_of_sentence}
use Rattle.vericon_decide.proofs.verdict.decide_condition.Goals as goal

pub solution_of-requires : goal.solution_of-requires
solution_of-requires c =
    let inside = subst (λ z. IsClass c.args.program.now c.args.size z Inside) c.in_ok-sentence.ensures c.in-Inside.ensures in
    subst (IsSentence c.args.program.now) (sym c.in_ok-sentence.ensures) (sentence_of c.args.program.now c.args.size c.args.condition c.requires.hypothesis c.requires.goal inside)

pub returns-in-Refuted : goal.returns-in-Refuted
returns-in-Refuted c =
    let inside = subst (λ z. IsClass c.args.program.now c.args.size z Inside) c.in_ok-sentence.ensures c.in-Inside.ensures in
    let settled = subst (λ z. IsSettled c.args.program.now z c.in_ok-proof-in-Inside.field-0) c.in_ok-sentence.ensures c.in_ok-proof-in-Inside.ensures in
    let proof = subst (IsSettled c.args.program.now _) c.in-Refuted.is settled in
    (proven_by c.args.program.now c.args.size c.args.condition inside proof.0, proof.1)

pub returns : goal.returns
returns c =
    let inside = subst (λ z. IsClass c.args.program.now c.args.size z Inside) c.in_ok-sentence.ensures c.in-Inside.ensures in
    let settled = subst (λ z. IsSettled c.args.program.now z c.in_ok-proof-in-Inside.field-0) c.in_ok-sentence.ensures c.in_ok-proof-in-Inside.ensures in
    let makes = subst (IsSettled c.args.program.now _) c.in-Satisfied.is settled in
    record { inside = inside; case_of = case_of_sentence c.args.program.now c.args.condition c.in-Satisfied.case makes }
