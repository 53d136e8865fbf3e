use denote.Param.Send.{sendable}
use Rattle.session_workers.proofs.desk.Desk.TheSendSync as DeskCrosses
use Rattle.session_workers.proofs.Crossing.{closure_sync, shift_sync, worker_send}
use Rattle.session_workers.proofs.team.serve_all.Goals as goal

pub for_each_mut-requires-send-T : goal.for_each_mut-requires-send-T
for_each_mut-requires-send-T g c κs within = search (worker_send, sendable) depth 20

pub for_each_mut-requires-sync-F : goal.for_each_mut-requires-sync-F
for_each_mut-requires-sync-F g c κs within = search (closure_sync, shift_sync, DeskCrosses.the_send, sendable) depth 40
