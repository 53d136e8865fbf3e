use Rattle.std.proofs.Common.{ℕ, subst}
use Rattle.vericon_edge.specs.Told.{MayBeLonger}
use Rattle.file_loads.specs.Answers.{missing, longer, failed}
use Rattle.file_loads.specs.Loads.{AreNotBytes}
use Rattle.file_loads.specs.Gives.{AreItems}
use Rattle.file_loads.proofs.Giving.{once, none_given}
use Rattle.file_loads.proofs.read.read_file.Goals as goal

pub returns-in_ok-missing-in-Err-Missing-clause-load : goal.returns-in_ok-missing-in-Err-Missing-clause-load
returns-in_ok-missing-in-Err-Missing-clause-load g c =
    let e = c.read_all.ensures in
    let may = rw c.in-Err-Missing.field-0-is at c.in-Err-Missing.ensures.answer in
    none_given _ c.args.kind c.args.name.now (once _ e.told e.later e.writes e.one_read e.no_write) AreItems AreNotBytes missing _ _ may.0 c.in_ok-missing-in-Err-Missing.ensures

pub returns-in_ok-too_long-in-Err-TooLong-clause-load : goal.returns-in_ok-too_long-in-Err-TooLong-clause-load
returns-in_ok-too_long-in-Err-TooLong-clause-load g c =
    let e = c.read_all.ensures in
    let may = rw c.in-Err-TooLong.field-0-is at c.in-Err-TooLong.ensures.answer in
    none_given _ c.args.kind c.args.name.now (once _ e.told e.later e.writes e.one_read e.no_write) AreItems AreNotBytes longer _ _
    (subst (λ (most : ℕ). MayBeLonger (g.F.Files.told c.args.files.now c.args.name.now) most) c.longest.ensures may.0) c.in_ok-too_long-in-Err-TooLong.ensures

pub returns-in_ok-read_fault-in-Err-Failed-clause-load : goal.returns-in_ok-read_fault-in-Err-Failed-clause-load
returns-in_ok-read_fault-in-Err-Failed-clause-load g c =
    let e = c.read_all.ensures in
    let may = rw c.in-Err-Failed.field-0-is at c.in-Err-Failed.ensures.answer in
    none_given _ c.args.kind c.args.name.now (once _ e.told e.later e.writes e.one_read e.no_write) AreItems AreNotBytes failed _ _ may c.in_ok-read_fault-in-Err-Failed.ensures
