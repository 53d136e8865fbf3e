use Rattle.std.proofs.Common.{[], ◌∷◌}
use Rattle.csdn_read.specs.Programs.{Spells}
use Rattle.file_loads.specs.declared.read.FileKind.TheVariants.{Program}
use Rattle.file_loads.specs.Loads.{IsNotProgram}
use Rattle.file_loads.proofs.Explaining.{ended, if_ok}
use Rattle.vericon_run.specs.Outputs.{UnservedProgram}
use Rattle.vericon_run.proofs.Steps.{from_file, network_file}
use Rattle.vericon_run.proofs.preparing.prepare_files.Goals as goal

pub returns-in-Loaded-clause-prepared : goal.returns-in-Loaded-clause-prepared
returns-in-Loaded-clause-prepared g c =
    if_ok c.prepare_program.result _ _ (λ p is. from_file _ _ _ c.args.order.now c.args.name.now c.args.net.now c.in-Loaded.program c.in_ok-program.ensures.reads (rw c.in-Loaded.is at c.in_ok-program.ensures.load) c.prepare_program.ensures.reads.read_faults p is) c.prepare_program.ensures.prepared

pub returns-in-Refused-clause-prepared : goal.returns-in-Refused-clause-prepared
returns-in-Refused-clause-prepared g c =
    let order = c.args.order.now in
    let name = c.args.name.now in
    let net = c.args.net.now in
    ended Program name Spells (IsNotProgram name) (UnservedProgram order.size order.most net) _ (network_file net ∷ []) _ _ (rw c.in-Refused.is at c.in_ok-program.ensures.load)
