use Rattle.std.proofs.Common.{◌∙◌, sym, ap, ◌++◌, ◌∷◌, [], List, arith, ◌<◌, length}
use Rattle.csdn_history.specs.declared.entry.Entry.{Entry}
use Rattle.csdn_run.specs.Histories.{running}
use Rattle.csdn_run.proofs.Settled.{grown}
use Rattle.csdn_run.proofs.runtime.Runtime.apply.Goals as goal

pub invariant_of-self-in-Ok : goal.invariant_of-self-in-Ok
invariant_of-self-in-Ok c =
    grown (running c.self.inside.program c.self.inside.network c.self.inside.room c.self.inside.history.items) c.self.inside.kept c.enter.new.kept c.args.entry.now c.push_reserved.new.self.items c.self.invariant
    (sym c.is_declared.ensures ∙ c.if-not-is_declared.false)
    (let below : length c.self.inside.history.items < c.self.inside.room = omega (arith, c.if-len-self.false, c.len.ensures) in below)
    c.in-Ok.ensures.standing
    (c.push_reserved.ensures.items ∙ ap (λ (entries : List Entry). entries ++ c.args.entry.now ∷ []) c.reserve.ensures.items)
