use Rattle.std.proofs.Common.{refl}
use Rattle.std.specs.Fmt.{digits}
use Rattle.made_program.specs.Made.{made_text, for_each}
use Rattle.made_program.proofs.examples.made_texts.Goals as goal

pub returns-clause-one : goal.returns-clause-one
unfolding made_text for_each digits
returns-clause-one c = refl

pub returns-clause-two : goal.returns-clause-two
unfolding made_text for_each digits
returns-clause-two c = refl

pub returns-clause-length_of_one : goal.returns-clause-length_of_one
unfolding made_text for_each digits
returns-clause-length_of_one c = refl

pub returns-clause-length_of_two : goal.returns-clause-length_of_two
unfolding made_text for_each digits
returns-clause-length_of_two c = refl

pub returns-clause-length_of_sixty : goal.returns-clause-length_of_sixty
unfolding made_text for_each digits
returns-clause-length_of_sixty c = refl
