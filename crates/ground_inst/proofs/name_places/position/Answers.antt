use Rattle.std.proofs.Common.{sym, arith}
use Rattle.ground_inst.proofs.NamesLemmas.{found_there, passed_by}
use Rattle.ground_inst.proofs.name_places.position.Goals as goal

pub returns-then-other-numeral : goal.returns-then-other-numeral
returns-then-other-numeral c = record {
  place = sym (found_there c.args.numeral c.args.numerals.now c.loop-place.place 0 c.loop-place-test.true c.if-other-numeral.true c.loop-place.invariant);
  few = omega (arith, c.loop-place-test.true);
}

pub loop-place-preserved : goal.loop-place-preserved
loop-place-preserved c = passed_by c.args.numeral c.args.numerals.now c.loop-place.place 0 c.loop-place-test.true c.if-other-numeral.false c.loop-place.invariant
