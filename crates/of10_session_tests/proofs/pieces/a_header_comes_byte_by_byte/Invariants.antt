use Rattle.of10_session_tests.proofs.OneByte.{IsWaiting}
use Rattle.of10_session_tests.proofs.pieces.a_header_comes_byte_by_byte.Given as goal

abbrev pub invariant-loop-byte : goal.invariant-loop-byte
invariant-loop-byte g l = IsWaiting l.framer l.byte-index
