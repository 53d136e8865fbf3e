-- The kinds of statistics.
use Rattle.std.specs.Prelude.{ℕ, Bool, ◌==◌, ◌||◌, nat_le}

-- DESC, FLOW, AGGREGATE, TABLE, PORT, QUEUE and VENDOR
abbrev pub is_stats_kind : ℕ → Bool
is_stats_kind kind = nat_le kind 5 || (kind == 65535)
