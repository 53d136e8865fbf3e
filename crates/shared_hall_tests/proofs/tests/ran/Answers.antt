use Rattle.shared_hall.proofs.Opened.{seats_sit}
use Rattle.shared_hall_tests.proofs.tests.ran.Goals as goal

pub act_in_row-requires-after_bounds : goal.act_in_row-requires-after_bounds
act_in_row-requires-after_bounds g c κs within = seats_sit c.in-Ok.hall c.args.seats c.in-Ok.row.items c.in-Ok.ensures.seats
