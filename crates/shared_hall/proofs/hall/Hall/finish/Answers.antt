use Rattle.std.proofs.Common.{ap, ◌∙◌, sym}
use Rattle.shared_hall.proofs.Rows.{ends_with, never_empty}
use Rattle.shared_hall.proofs.hall.Hall.finish.Goals as goal

pub unreachable-requires : goal.unreachable-requires
unreachable-requires c =
    never_empty c.self.inside.table.shared.key c.args.keeper.id c.args.keeper.me _ _ c.take.result
    c.requires.keeper.1
    (c.requires.all ∙ sym (ap (λ h. h.seats) c.self.view_is))
    c.close_with-closed.ensures.values.2
    c.take.ensures.value
    c.in_default.not-Some

pub returns : goal.returns
returns c =
    ends_with c.self.inside.table.shared.key c.args.self.opening c.args.self.seats c.args.keeper.id c.args.keeper.me _ _ c.in-Some.runtime
    (ap (λ h. h.opening) c.self.view_is)
    (ap (λ h. h.seats) c.self.view_is)
    c.requires.keeper.1
    c.requires.all
    c.close_with-closed.ensures.values.2
    c.in-Some.ensures.value
