use Rattle.std.proofs.sync.Mutex.TheSendSync as MutexCrosses
use Rattle.shared_hall.proofs.Crossing.{crossing}
use Rattle.shared_hall_tests.proofs.tests.Told.TheSendSync as ToldCrosses
use Rattle.shared_hall_tests.proofs.tests.act_on_threads.Goals as goal

pub for_each_mut-requires-send-T : goal.for_each_mut-requires-send-T
for_each_mut-requires-send-T g c κs within = search crossing depth 40

pub for_each_mut-requires-sync-F : goal.for_each_mut-requires-sync-F
for_each_mut-requires-sync-F g c κs within = search (MutexCrosses.the_sync, ToldCrosses.the_send, crossing) depth 40
