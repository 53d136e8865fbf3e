-- The order of matches.
use Rattle.std.specs.Ordering.{nat_cmp, on, then_cmp}
use Rattle.std.specs.declared.cmp.Ordering.{Ordering}
use Rattle.std.specs.Cmp.{IsTotalOrder, nat_cmp_total, on_total, then_total}
use Rattle.csdn_core.specs.declared.event.Match.{Match}

-- by switch, source, destination and port
abbrev pub match_cmp : Match → Match → Ordering
match_cmp = then_cmp (on (λ m. m.s) nat_cmp) (then_cmp (on (λ m. m.a) nat_cmp) (then_cmp (on (λ m. m.b) nat_cmp) (on (λ m. m.i) nat_cmp)))

pub match_total : IsTotalOrder match_cmp
match_total = then_total (on_total (λ (m : Match). m.s) nat_cmp_total) (then_total (on_total (λ (m : Match). m.a) nat_cmp_total) (then_total (on_total (λ (m : Match). m.b) nat_cmp_total) (on_total (λ (m : Match). m.i) nat_cmp_total)))
