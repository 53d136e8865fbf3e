use Rattle.std.proofs.Common.{◌∙◌, length, sym, ap}
use Rattle.clause_log.proofs.Flat.{length-split}
use Rattle.ground_inst.proofs.rows.Rows.len.Goals as goal

pub returns : goal.returns
returns c = c.len.ensures ∙ c.self.inside.ends.ok.0 ∙ sym (length-split 0 c.self.inside.ends.items c.self.inside.literals.items) ∙ ap length c.self.view_is
