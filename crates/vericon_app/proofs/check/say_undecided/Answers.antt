use Rattle.std.proofs.Common.{◌<◌, length, refl, arith}
use Rattle.std.proofs.lemmas.Option.{slice_get_within}
use Rattle.csdn_conditions.specs.Conditions.{conditions}
use Rattle.condition_listing.proofs.Listed.{as_many}
use Rattle.vericon_app.specs.Check.{is_not_decided}
use Rattle.vericon_app.proofs.check.say_undecided.Goals as goal

pub unproven_line-requires-clause-index : goal.unproven_line-requires-clause-index
unproven_line-requires-clause-index c =
    let P = c.args.program.now in
    let n = c.args.level in
    let found = c.requires.unknown.undecided in
    let within : c.args.index < length (conditions P n) = slice_get_within (conditions P n) c.args.index found.condition found.there in
    let many = as_many P n in
    omega (arith, within, many)

pub returns : goal.returns
returns c = is_not_decided c.args.level c.args.index c.args.why c.requires.unknown c.in_ok-text.ensures refl
