use Rattle.std.proofs.Common.{[], ◌∷◌}
use Rattle.csdn_read.specs.Programs.{Spells}
use Rattle.file_loads.specs.declared.read.FileKind.TheVariants.{Program, Network}
use Rattle.file_loads.specs.Outputs.{Then}
use Rattle.file_loads.specs.Loads.{IsNotProgram, WithCase}
use Rattle.file_loads.proofs.Explaining.{if_ok, behind, ended}
use Rattle.vericon_app.specs.Eval.{CaseOutput}
use Rattle.vericon_app.proofs.eval.eval.Goals as goal

pub returns-in-Loaded-clause-output : goal.returns-in-Loaded-clause-output
returns-in-Loaded-clause-output g c =
    let name = c.args.name.now in
    let net = c.args.net.now in
    if_ok c.eval_program.result _ _ (λ outcome out. behind _ _ _ Program name Spells (IsNotProgram name) (λ P. WithCase P net (λ kase. Then (CaseOutput c.args.level c.args.index P kase))) _ c.in-Loaded.program _ _
    c.in_ok-program.ensures.reads (rw c.in-Loaded.is at c.in_ok-program.ensures.load) c.eval_program.ensures.reads.read_faults out) c.eval_program.ensures.output

pub returns-in-Refused-clause-output : goal.returns-in-Refused-clause-output
returns-in-Refused-clause-output g c =
    let name = c.args.name.now in
    let net = c.args.net.now in
    ended Program name Spells (IsNotProgram name) (λ P. WithCase P net (λ kase. Then (CaseOutput c.args.level c.args.index P kase))) _ (record { kind = Network; name = net } ∷ []) _ _ (rw c.in-Refused.is at c.in_ok-program.ensures.load)
