use Rattle.std.proofs.Common.{subst}
use Rattle.csdn_wp.specs.Makes.{Gives}
use Rattle.csdn_wp.specs.EventPreconditions.{guard}
use Rattle.csdn_wp.proofs.Slices.{whole}
use Rattle.csdn_wp.proofs.guards.+guards.Goals as goal

pub guard-returns-in-len1-up : goal.guard-returns-in-len1-up
guard-returns-in-len1-up t c = subst (λ ks. Gives (guard ks c.args.port c.args.i) c.guard_from.result) (whole c.args.earlier.now _ c.in-len1-up.len_at_least) c.guard_from.ensures
