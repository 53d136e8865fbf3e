use Rattle.csdn_types.proofs.WholeProgram.{parts_well_sorted}
use Rattle.csdn_types.proofs.laws.parts_are_well_sorted.Goals as goal

pub returns : goal.returns
returns c = parts_well_sorted
