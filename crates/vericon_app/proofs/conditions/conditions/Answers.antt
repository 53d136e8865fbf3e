use Rattle.std.proofs.Common.{[]}
use Rattle.csdn_read.specs.Programs.{Spells}
use Rattle.file_loads.specs.declared.read.FileKind.TheVariants.{Program}
use Rattle.file_loads.specs.Outputs.{Then}
use Rattle.file_loads.specs.Loads.{IsNotProgram}
use Rattle.file_loads.proofs.Explaining.{if_ok, at_last, ended}
use Rattle.vericon_app.specs.Conditions.{ClassesOutput}
use Rattle.vericon_app.proofs.conditions.conditions.Goals as goal

pub returns-in-Loaded-clause-output : goal.returns-in-Loaded-clause-output
returns-in-Loaded-clause-output g c =
    let name = c.args.name.now in
    if_ok c.class_lines.result _ _ (λ outcome out. at_last Program name Spells (IsNotProgram name) (ClassesOutput c.args.size c.args.level) _ c.in-Loaded.program _ _ c.in_ok-program.ensures.reads (rw c.in-Loaded.is at c.in_ok-program.ensures.load) out) c.class_lines.ensures

pub returns-in-Refused-clause-output : goal.returns-in-Refused-clause-output
returns-in-Refused-clause-output g c =
    let name = c.args.name.now in
    ended Program name Spells (IsNotProgram name) (λ P. Then (ClassesOutput c.args.size c.args.level P)) _ [] _ _ (rw c.in-Refused.is at c.in_ok-program.ensures.load)
