use Rattle.std.proofs.Common.{◌≤◌, vec_len}
use Rattle.vericon_edge.proofs.host_files.read_rest.Given as goal

abbrev pub invariant-loop-turn : goal.invariant-loop-turn
invariant-loop-turn g l = vec_len l.bytes ≤ l.most
