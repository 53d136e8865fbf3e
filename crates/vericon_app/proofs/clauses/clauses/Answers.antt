use Rattle.file_loads.specs.declared.read.FileKind.TheVariants.{Logs}
use Rattle.file_loads.proofs.Explaining.{if_ok, bytes_at_last}
use Rattle.file_loads.proofs.Giving.{bytes_ended}
use Rattle.vericon_app.specs.Clauses.{BlocksOutput}
use Rattle.vericon_app.proofs.clauses.clauses.Goals as goal

pub returns-in-Loaded-clause-output : goal.returns-in-Loaded-clause-output
returns-in-Loaded-clause-output g c =
    if_ok c.list_blocks.result _ _ (λ outcome out. bytes_at_last Logs c.args.name.now (BlocksOutput c.args.name.now) _ c.in-Loaded.bytes _ _ _ c.in_ok-bytes.ensures.reads (rw c.in-Loaded.is at c.in_ok-bytes.ensures.load) c.deref.ensures.value out) c.list_blocks.ensures

pub returns-in-Refused-clause-output : goal.returns-in-Refused-clause-output
returns-in-Refused-clause-output g c = bytes_ended _ Logs c.args.name.now c.in_ok-bytes.ensures.reads (BlocksOutput c.args.name.now) _ _ (rw c.in-Refused.is at c.in_ok-bytes.ensures.load)
