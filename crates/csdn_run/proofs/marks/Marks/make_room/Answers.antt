use Rattle.std.proofs.Common.{◌∙◌, ap, ℕ, [], ◌∷◌}
use Rattle.csdn_run.specs.Marked.{mark_of}
use Rattle.csdn_run.specs.Standings.{with_marks}
use Rattle.csdn_run.proofs.Markings.{again_is, set_is}
use Rattle.csdn_run.proofs.marks.Marks.make_room.Goals as goal

pub returns-clause-same : goal.returns-clause-same
returns-clause-same c =
    set_is c.args.self.now (record { numbers = c.insert.new.self }) c.of.result c.args.key.now c.get-number.result c.in_ok-insert.ensures.updates.0 c.of.ensures
    ∙ ap (λ (n : ℕ). with_marks (mark_of c.args.self.now) (c.args.key.now ∷ []) n) c.get-number.ensures
    ∙ again_is (mark_of c.args.self.now) c.args.key.now
