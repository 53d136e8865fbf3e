-- Workers go to other threads, and what they have in common is shared among threads. Seats and halls are too much for one search, so that
-- both are shown by their fields.
use denote.Ref.{NamedLft}
use denote.RattleType.{RattleType}
use denote.Param.Send.{IsSend, IsSync, sendable}
use denote.Param.SendFields.{as_row_sync, declared_send, declared_sync}
use denote.Struct.Field.{row_field}
use denote.Struct.Tuple.{TupleAt, type_at}
use Rattle.std.specs.Prelude.{ℕ, List, [], ◌∷◌}
use Rattle.std.proofs.Crossing.{crosses}
use Rattle.std.proofs.alloc.Global.TheSendSync as GlobalCrosses
use Rattle.std.specs.declared.sync.ledger.Ledger as ledger
use Rattle.std.proofs.sync.ledger.Share.TheSendSync as ShareCrosses
use Rattle.shared_hall.proofs.Crossing.{hall_sync, seat_send}
use Rattle.link_sessions.proofs.ends.Ended.TheSendSync as EndedCrosses
use Rattle.session_workers.specs.contracts.worker.Worker as Worker
use Rattle.session_workers.specs.contracts.shift.Shift as Shift
use Rattle.session_workers.proofs.terms.Terms.TheSendSync as TermsCross

pub worker_send : (K P : RattleType) (l : ledger.Ghosts P.Denot) → IsSend K → IsSend (Worker.the_row K P l)
worker_send K P l k = declared_send (Worker.the_type K P l) (
  seat_send,
  (
    search (EndedCrosses.the_send, sendable, crosses) depth 40,
    (search (sendable, crosses) depth 40, (ShareCrosses.the_send P l, (search sendable depth 20, tt))),
  ),
)

pub shift_sync : (a : NamedLft) (D R : RattleType) → IsSend D → IsSync R → IsSync (Shift.the_row a D R)
shift_sync a D R d r = declared_sync (Shift.the_type a D R) (
  search sendable depth 20,
  (GlobalCrosses.the_sync, (search (hall_sync, sendable) depth 20, (TermsCross.the_sync, (search (sendable, crosses) depth 20, tt)))),
)

-- a closure that captures one thing
pub closure_sync : (name : List ℕ) (S : RattleType) → IsSync S → IsSync (TupleAt name (S ∷ []))
closure_sync name S s = declared_sync (type_at name (S ∷ [])) (as_row_sync (row_field S) s, tt)
