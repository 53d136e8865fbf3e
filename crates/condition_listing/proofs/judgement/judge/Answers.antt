use Rattle.std.proofs.Common.{◌∙◌, ap, subst}
use Rattle.std.specs.Prelude.{Err}
use Rattle.net_structs.specs.Rows.{held}
use Rattle.fol_forms.specs.Limits.{most_nodes}
use Rattle.fol_forms.specs.declared.refusal.FormRefusal.{FormRefusal}
use Rattle.csdn_conditions.specs.Answers.{Answers}
use Rattle.condition_listing.specs.Judgements.{truths_text}
use Rattle.condition_listing.proofs.Depths.{hypothesis_within, goal_within}
use Rattle.condition_listing.proofs.judgement.judge.Goals as goal

pub truths-requires-clause-hypothesis : goal.truths-requires-clause-hypothesis
truths-requires-clause-hypothesis c = hypothesis_within c.in-Ok.condition c.in-Ok.ensures.condition most_nodes c.in-Ok.ensures.holds.0 c.in-Ok.ensures.holds.1

pub truths-requires-clause-goal : goal.truths-requires-clause-goal
truths-requires-clause-goal c = goal_within c.in-Ok.condition c.in-Ok.ensures.condition most_nodes c.in-Ok.ensures.holds.0 c.in-Ok.ensures.holds.1

pub returns-in_ok-text-in-Ok : goal.returns-in_ok-text-in-Ok
returns-in_ok-text-in-Ok c =
    let found = c.in-Ok.ensures in
    record {
      condition = found.condition;
      there = found.there;
      holds = (found.holds.1, c.in_ok-text-in-Ok.ensures ∙ ap (truths_text c.args.program.now c.args.network.now (held c.args.state.now)) found.holds.0);
    }

pub returns-in_ok-text-in-Err-Large : goal.returns-in_ok-text-in-Err-Large
returns-in_ok-text-in-Err-Large c =
    let found = c.in-Err-Large.ensures in
    record {
      condition = found.condition;
      there = found.there;
      holds = (subst (λ (e : FormRefusal). Answers found.condition (Err e)) c.in-Err-Large.field-0-is found.holds, c.in_ok-text-in-Err-Large.ensures);
    }
