use Rattle.std.proofs.Common.{ℕ, List, ◌+◌, ◌*◌, length}
use Rattle.run_listing.specs.Lines.{round_lines}
use Rattle.run_listing.proofs.Rounds.{rounds_more}
use Rattle.run_listing.proofs.listing.put_sessions.Goals as goal

pub loop-before-preserved : goal.loop-before-preserved
loop-before-preserved c =
    let f : ℕ → List ℕ = λ before. round_lines before (1 + length c.args.rows.now * before) c.args.rows.now in
    rounds_more f c.args.out.now.items c.loop-before.out.items c.put_round.new.out.items c.loop-before.before c.loop-before.invariant c.in_ok-put_round.ensures
