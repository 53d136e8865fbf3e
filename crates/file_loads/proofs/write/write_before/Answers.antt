use Rattle.std.proofs.Common.{refl}
use Rattle.file_loads.proofs.Writings.{done, not_done}
use Rattle.file_loads.proofs.write.write_before.Goals as goal

pub returns-in-Ok-clause-output : goal.returns-in-Ok-clause-output
returns-in-Ok-clause-output g c =
    let e = c.write_all.ensures in
    done _ c.args.name.now e.others e.one_write _ _ _ _ e.no_read c.in-Ok.ensures.answer (refl, refl)

pub returns-in-Err-Failed-clause-output : goal.returns-in-Err-Failed-clause-output
returns-in-Err-Failed-clause-output g c =
    let e = c.write_all.ensures in
    not_done _ c.args.name.now e.others e.one_write _ _ _ _ e.no_read (rw c.in-Err-Failed.field-0-is at c.in-Err-Failed.ensures.answer) c.not_written.ensures.0 c.not_written.ensures.1
