use Rattle.file_loads.specs.Loads.{IsCase, IsNotCase}
use Rattle.file_loads.specs.declared.read.FileKind.TheVariants.{Network}
use Rattle.file_loads.proofs.Explaining.{if_ok}
use Rattle.file_loads.proofs.Giving.{given, refused_given}
use Rattle.file_loads.proofs.load.load_case.Goals as goal

pub returns-in-Loaded-clause-load : goal.returns-in-Loaded-clause-load
returns-in-Loaded-clause-load g c =
    if_ok c.case_of.result _ _ (λ l is. given _ Network c.args.name.now c.in_ok-bytes.ensures.reads (IsCase c.args.program.now) (IsNotCase c.args.program.now c.args.name.now) c.in-Loaded.bytes _ l (rw c.in-Loaded.is at c.in_ok-bytes.ensures.load) c.deref.ensures.value is) c.case_of.ensures

pub returns-in-Refused-clause-load : goal.returns-in-Refused-clause-load
returns-in-Refused-clause-load g c = refused_given _ Network c.args.name.now c.in_ok-bytes.ensures.reads (IsCase c.args.program.now) (IsNotCase c.args.program.now c.args.name.now) _ _ (rw c.in-Refused.is at c.in_ok-bytes.ensures.load)
