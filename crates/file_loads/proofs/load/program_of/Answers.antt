use Rattle.file_loads.proofs.load.program_of.Goals as goal

pub returns-in_ok-outcome-in-Err-At : goal.returns-in_ok-outcome-in-Err-At
returns-in_ok-outcome-in-Err-At c =
    ((c.in-Err-At.at, c.in-Err-At.why, rw c.in-Err-At.field-0-is at c.in-Err-At.ensures, c.in_ok-outcome-in-Err-At.ensures.0), c.in_ok-outcome-in-Err-At.ensures.1)
