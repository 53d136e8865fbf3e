use Rattle.std.proofs.Common.{◌∙◌, sym}
use Rattle.clause_log.specs.Literals.{truths}
use Rattle.lazy_ground.proofs.JoinLaws.{chains_found}
use Rattle.lazy_ground.proofs.equalities.find_joined_chains.Goals as goal

pub returns-then-not-of : goal.returns-then-not-of
returns-then-not-of c = chains_found c.args.constants.now.parts.now c.args.constants.now.facts.now (truths c.args.trues.now) c.args.joined c.requires c.args.sort c.args.rows.now (sym c.of.ensures ∙ c.if-not-of.true)
