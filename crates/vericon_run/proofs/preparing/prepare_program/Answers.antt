use Rattle.std.proofs.Common.{[], ◌∷◌}
use Rattle.file_loads.specs.Outputs.{Then}
use Rattle.file_loads.proofs.Explaining.{if_ok, said_so, unread_of, untouched_reads}
use Rattle.vericon_app.specs.Check.{IsNotProven}
use Rattle.vericon_run.specs.Outputs.{UnservedProgram, is_not_proven}
use Rattle.vericon_run.proofs.Steps.{network_file, proven_so}
use Rattle.vericon_run.proofs.preparing.prepare_program.Goals as goal

pub returns-in-Proven-clause-prepared : goal.returns-in-Proven-clause-prepared
returns-in-Proven-clause-prepared g c =
    if_ok c.prepare_proven.result _ _ (λ p is. proven_so _ (network_file c.args.net.now ∷ []) c.args.order.now c.args.program c.args.net.now c.in-Proven.level c.in-Proven._proofs.items (rw c.in-Proven.is at c.in_ok-level.ensures) p is) c.prepare_proven.ensures.prepared

pub returns-in-Told-clause-prepared : goal.returns-in-Told-clause-prepared
returns-in-Told-clause-prepared g c =
    let order = c.args.order.now in
    let net = c.args.net.now in
    let said = IsNotProven order.size order.most c.args.program in
    said_so _ (network_file net ∷ []) (Then said) (UnservedProgram order.size order.most net c.args.program) _ _ (λ answers write out. is_not_proven out) (unread_of (network_file net ∷ []) said _ _ _ (rw c.in-Told.is at c.in_ok-level.ensures))

pub returns-in-Told-clause-reads : goal.returns-in-Told-clause-reads
returns-in-Told-clause-reads g c = untouched_reads 1 _
