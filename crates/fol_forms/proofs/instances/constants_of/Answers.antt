use Rattle.fol_forms.proofs.Copied.{counts_at}
use Rattle.fol_forms.proofs.instances.constants_of.Goals as goal

pub returns : goal.returns
returns c =
    counts_at c.args.parts.now c.args.formula.now (record { sw = c.constants.result; ho = c.constants-2.result; pr = c.constants-3.result })
    c.constants.ensures c.constants-2.ensures c.constants-3.ensures
