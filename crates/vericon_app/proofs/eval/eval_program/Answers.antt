use Rattle.std.proofs.Common.{[]}
use Rattle.file_loads.specs.declared.read.FileKind.TheVariants.{Network}
use Rattle.file_loads.specs.Outputs.{Then}
use Rattle.file_loads.specs.Loads.{IsCase, IsNotCase}
use Rattle.file_loads.proofs.Explaining.{if_ok, at_last, ended}
use Rattle.vericon_app.specs.Eval.{CaseOutput}
use Rattle.vericon_app.proofs.eval.eval_program.Goals as goal

pub returns-in-Loaded-clause-output : goal.returns-in-Loaded-clause-output
returns-in-Loaded-clause-output g c =
    let P = c.args.program.now in
    let net = c.args.net.now in
    if_ok c.case_lines.result _ _ (λ outcome out. at_last Network net (IsCase P) (IsNotCase P net) (CaseOutput c.args.level c.args.index P) _ c.in-Loaded.case _ _ c.in_ok-case.ensures.reads (rw c.in-Loaded.is at c.in_ok-case.ensures.load) out) c.case_lines.ensures

pub returns-in-Refused-clause-output : goal.returns-in-Refused-clause-output
returns-in-Refused-clause-output g c =
    let P = c.args.program.now in
    let net = c.args.net.now in
    ended Network net (IsCase P) (IsNotCase P net) (λ kase. Then (CaseOutput c.args.level c.args.index P kase)) _ [] _ _ (rw c.in-Refused.is at c.in_ok-case.ensures.load)
