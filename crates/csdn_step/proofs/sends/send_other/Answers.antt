use Rattle.std.proofs.Common.{◌∙◌, ap}
use Rattle.std.proofs.lemmas.Bool.{ne_eqb}
use Rattle.csdn_core.specs.declared.terms.Pred.TheVariants.{Sent}
use Rattle.csdn_core.specs.Execution.{put}
use Rattle.csdn_step.specs.Drafts.{standing}
use Rattle.csdn_step.proofs.Floods.{flooded-other}
use Rattle.csdn_step.proofs.sends.send_other.Goals as goal

pub returns-in_ok-insert-clause-sent : goal.returns-in_ok-insert-clause-sent
returns-in_ok-insert-clause-sent c = c.in_ok-insert.ensures.put ∙ ap (put (standing c.args.draft.now) Sent) c.of.ensures ∙ flooded-other _ _ _ _ _ _ (ne_eqb _ _ c.if-o-i.true)
