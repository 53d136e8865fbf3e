use Rattle.file_loads.proofs.Explaining.{if_ok}
use Rattle.vericon_run.proofs.Steps.{for_call}
use Rattle.vericon_run.proofs.preparing.prepare_request.Goals as goal

pub returns-clause-prepared : goal.returns-clause-prepared
returns-clause-prepared g c =
    if_ok c.prepare_files.result _ _ (λ p is. for_call _ c.args.request.now c.order_of-order.result _ _ c.order_of-order.ensures c.operand.ensures c.operand-2.ensures p is) c.prepare_files.ensures.prepared
