use Rattle.std.proofs.Common.{sym, ap₂, ◌∙◌, ◌-◌, take, drop}
use Rattle.clause_log.proofs.Flat.{row_at}
use Rattle.clause_log.proofs.rows.row_of.Goals as goal

pub returns : goal.returns
returns g c =
    ap₂ (λ low high. take (high - low) (drop low c.args.items.now)) c.place_of-start.ensures.start c.place_of-start.ensures.end
    ∙ sym (row_at _ c.args.ends.now c.args.items.now c.args.at c.requires.within)
