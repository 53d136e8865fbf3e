use Rattle.std.proofs.Common.{refl}
use Rattle.of10_session_tests.proofs.OneByte.{takes_one}
use Rattle.of10_session_tests.proofs.pieces.a_header_comes_byte_by_byte.Goals as goal

pub loop-byte-preserved : goal.loop-byte-preserved
loop-byte-preserved g c = takes_one c.loop-byte.framer c.feed.new.self c.loop-byte.byte-index _ c.in-Ok.fed refl c.loop-byte.invariant c.in-Ok.ensures.taken c.if-fed.false
