use Rattle.std.proofs.sync.Mutex.TheSendSync as MutexCrosses
use Rattle.shared_hall.proofs.Crossing.{crossing, runtime_send}
use Rattle.hall_bench.proofs.under_lock.act_on_threads.Goals as goal

pub for_each_mut-requires-sync-F : goal.for_each_mut-requires-sync-F
for_each_mut-requires-sync-F g c κs within = search (MutexCrosses.the_sync, runtime_send, crossing) depth 40
