use Rattle.std.proofs.Common.{[]}
use Rattle.file_loads.specs.Outputs.{Then}
use Rattle.file_loads.proofs.Explaining.{if_ok, said_so, unread, untouched}
use Rattle.vericon_app.specs.Check.{IsNotProven, is_proven, is_not_proven}
use Rattle.vericon_app.proofs.check.check_program.Goals as goal

pub proven-requires-clause-proven : goal.proven-requires-clause-proven
proven-requires-clause-proven g c = rw c.in-Proven.is at c.in_ok-level.ensures

pub returns-in-Proven-clause-output : goal.returns-in-Proven-clause-output
returns-in-Proven-clause-output g c =
    if_ok c.proven.result _ _ (λ outcome out. said_so _ [] _ _ _ _ (λ answers write said. is_proven c.in-Proven.level c.in-Proven.proofs.items (rw c.in-Proven.is at c.in_ok-level.ensures) said) out) c.proven.ensures.output

pub returns-in-Told-clause-output : goal.returns-in-Told-clause-output
returns-in-Told-clause-output g c =
    let said = IsNotProven c.args.size c.args.most c.args.program.now in
    said_so _ [] (Then said) _ _ _ (λ answers write out. is_not_proven out) (unread said _ _ _ (rw c.in-Told.is at c.in_ok-level.ensures))

pub returns-in-Told-clause-touches : goal.returns-in-Told-clause-touches
returns-in-Told-clause-touches g c = untouched _ _
