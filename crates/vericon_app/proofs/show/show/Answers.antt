use Rattle.std.proofs.Common.{[]}
use Rattle.csdn_read.specs.Programs.{Keeps}
use Rattle.file_loads.specs.declared.read.FileKind.TheVariants.{Program}
use Rattle.file_loads.specs.Outputs.{Then}
use Rattle.file_loads.specs.Loads.{IsNotProgram}
use Rattle.file_loads.proofs.Explaining.{if_ok, at_last, ended}
use Rattle.vericon_app.specs.Show.{PrintedOutput}
use Rattle.vericon_app.proofs.show.show.Goals as goal

pub returns-in-Loaded-clause-output : goal.returns-in-Loaded-clause-output
returns-in-Loaded-clause-output g c =
    let name = c.args.name.now in
    if_ok c.show_tree.result _ _ (λ outcome out. at_last Program name Keeps (IsNotProgram name) PrintedOutput _ c.in-Loaded.tree _ _ c.in_ok-tree.ensures.reads (rw c.in-Loaded.is at c.in_ok-tree.ensures.load) out) c.show_tree.ensures

pub returns-in-Refused-clause-output : goal.returns-in-Refused-clause-output
returns-in-Refused-clause-output g c =
    let name = c.args.name.now in
    ended Program name Keeps (IsNotProgram name) (λ tree. Then (PrintedOutput tree)) _ [] _ _ (rw c.in-Refused.is at c.in_ok-tree.ensures.load)
