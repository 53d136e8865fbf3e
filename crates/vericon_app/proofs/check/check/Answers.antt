use Rattle.std.proofs.Common.{[]}
use Rattle.std.specs.Prelude.{option_map}
use Rattle.csdn_read.specs.Programs.{Spells}
use Rattle.file_loads.specs.declared.read.FileKind.TheVariants.{Program}
use Rattle.file_loads.specs.Loads.{IsNotProgram}
use Rattle.file_loads.proofs.Explaining.{if_ok, behind, ended, touches_behind, only_touches}
use Rattle.vericon_app.specs.Check.{ProgramOutput}
use Rattle.vericon_app.proofs.check.check.Goals as goal

pub returns-in-Loaded-clause-output : goal.returns-in-Loaded-clause-output
returns-in-Loaded-clause-output g c =
    let name = c.args.name.now in
    if_ok c.check_program.result _ _ (λ outcome out. behind _ _ _ Program name Spells (IsNotProgram name) _ [] c.in-Loaded.program _ _
    c.in_ok-program.ensures.reads (rw c.in-Loaded.is at c.in_ok-program.ensures.load) c.check_program.ensures.touches.read_faults out) c.check_program.ensures.output

pub returns-in-Loaded-clause-touches : goal.returns-in-Loaded-clause-touches
returns-in-Loaded-clause-touches g c = touches_behind _ _ _ 1 0 _ c.in_ok-program.ensures.reads c.check_program.ensures.touches

pub returns-in-Refused-clause-output : goal.returns-in-Refused-clause-output
returns-in-Refused-clause-output g c =
    let name = c.args.name.now in
    ended Program name Spells (IsNotProgram name) _ _ [] _ _ (rw c.in-Refused.is at c.in_ok-program.ensures.load)

pub returns-in-Refused-clause-touches : goal.returns-in-Refused-clause-touches
returns-in-Refused-clause-touches g c = only_touches 1 _ _ c.in_ok-program.ensures.reads
