use Rattle.std.proofs.Common.{ap, subst, sym, ◌∙◌}
use Rattle.decision_laws.specs.Laws.{name}
use Rattle.decision_laws.proofs.Bridge.{part_tied}
use Rattle.vericon_decide.specs.declared.solving.Solution.TheVariants.{Refuted}
use Rattle.vericon_decide.specs.Rounds.{IsRoundEnd}
use Rattle.vericon_decide.specs.Verdicts.{IsSettled}
use Rattle.vericon_decide.proofs.VerdictLaws.{settled_by}
use Rattle.vericon_decide.proofs.solving.solution_of.Goals as goal

pub returns-in-Refuted : goal.returns-in-Refuted
returns-in-Refuted c =
    let P = c.args.program.now in
    let F = c.args.sentence.now in
    let ends = subst (IsRoundEnd P c.rounds.lazy.made.sentence c.rounds.lazy c.round_of.new.lazy) c.in-Refuted.is c.in_ok-round_of.ensures in
    let same = c.into_clauses-clauses.ensures ∙ ap (λ z. z.made.clauses) ends.0 in
    subst (λ z. IsSettled P F (Refuted (record { clauses = z; log = c.in-Refuted.log }))) (sym same)
    (settled_by P F c.rounds.lazy.made.clauses c.in-Refuted.log c.requires (name P F, part_tied P F c.requires c.rounds.lazy.made.clauses.clauses c.rounds.invariant.part) ends.1)
