use Rattle.std.proofs.Common.{◌<◌, length, refl, arith}
use Rattle.std.proofs.lemmas.Option.{slice_get_within}
use Rattle.csdn_conditions.specs.Conditions.{conditions}
use Rattle.condition_listing.proofs.Listed.{as_many}
use Rattle.vericon_app.specs.Check.{is_broken}
use Rattle.vericon_app.proofs.Broken.{case_of_counter}
use Rattle.vericon_app.proofs.check.say_broken.Goals as goal

pub counterexample_of-requires-clause-index : goal.counterexample_of-requires-clause-index
counterexample_of-requires-clause-index c =
    let P = c.args.program.now in
    let n = c.args.level in
    let found = c.requires.broken.broken in
    let within : c.args.index < length (conditions P n) = slice_get_within (conditions P n) c.args.index found.condition found.there in
    let many = as_many P n in
    omega (arith, within, many)

pub counterexample_of-requires-clause-case : goal.counterexample_of-requires-clause-case
counterexample_of-requires-clause-case c = case_of_counter c.args.program.now c.args.size c.args.most c.args.level c.args.index c.args.case.now c.requires.broken

pub returns : goal.returns
returns c = is_broken c.args.level c.args.index c.args.case.now c.requires.broken c.in_ok-text.ensures refl
