use Rattle.std.proofs.Common.{◌≡◌, ◌++◌, length}
use Rattle.std.specs.Prelude.{filter, is_none}
use Rattle.class_networks.specs.Judgements.{numeral_in}
use Rattle.class_networks.proofs.ports.unnumbered.Given as goal

abbrev pub invariant-classes : goal.invariant-classes
invariant-classes l = l.kept ++ filter (λ a. is_none (numeral_in l.judgement a)) l.rest ≡ filter (λ a. is_none (numeral_in l.judgement a)) l.fn.classes

abbrev pub decreases-classes : goal.decreases-classes
decreases-classes l = length l.rest
