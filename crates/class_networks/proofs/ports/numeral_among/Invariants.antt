use Rattle.std.proofs.Common.{◌≡◌, length}
use Rattle.decision_laws.specs.Classes.{numeral_among}
use Rattle.class_networks.specs.Judgements.{constants_in, says, words_in}
use Rattle.class_networks.proofs.ports.numeral_among.Given as goal

abbrev pub invariant-numerals : goal.invariant-numerals
invariant-numerals l =
    numeral_among (words_in l.judgement) (constants_in l.judgement) (says l.judgement) l.rest l.place
    ≡ numeral_among (words_in l.judgement) (constants_in l.judgement) (says l.judgement) l.fn.numerals l.place

abbrev pub decreases-numerals : goal.decreases-numerals
decreases-numerals l = length l.rest
