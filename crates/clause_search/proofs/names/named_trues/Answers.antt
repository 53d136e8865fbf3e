use Rattle.clause_log.specs.Literals.{truths}
use Rattle.clause_search.proofs.NameLaws.{next_either}
use Rattle.clause_search.proofs.names.named_trues.Goals as goal

pub names-preserved : goal.names-preserved
names-preserved c =
    next_either c.args.most c.args.names.now (truths c.args.valuation.now) c.names.trues.items c.put_if.new.trues.items c.names.at c.value.result c.requires c.names-test.true c.value.ensures c.in_ok-put_if.ensures.put c.in_ok-put_if.ensures.left_out
    c.names.invariant
