use Rattle.std.proofs.Common.{◌≡◌, length}
use Rattle.vericon_edge.specs.MemFiles.{told_by}
use Rattle.vericon_edge.proofs.mem_files.content_of.Given as goal

abbrev pub invariant-loop-rest : goal.invariant-loop-rest
invariant-loop-rest l = told_by l.rest l.name ≡ told_by l.files l.name

abbrev pub decreases-loop-rest : goal.decreases-loop-rest
decreases-loop-rest l = length l.rest
