use Rattle.std.proofs.Common.{◌∙◌, ap}
use Rattle.log_text.specs.LogText.{is_block}
use Rattle.answer_listing.proofs.Blocks.{fits, block_found}
use Rattle.answer_listing.proofs.log.block_of.Goals as goal

pub returns-clause-block : goal.returns-clause-block
returns-clause-block c = block_found c.args.program.now c.args.level c.args.index c.in_ok-name.name c.args.proof c.named.result c.in_ok-name.ensures.name c.requires.proof c.named.ensures

pub returns-clause-fits : goal.returns-clause-fits
returns-clause-fits c =
    ap is_block c.named.ensures ∙ fits c.in_ok-name.name c.args.proof.clauses c.args.proof.log c.in_ok-name.ensures.fits c.are_over_few_atoms.ensures c.requires.proof.holds.refuted
