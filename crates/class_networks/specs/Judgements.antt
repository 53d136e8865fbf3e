-- What a valuation says of the facts of a sentence, and what its classes are.
use Rattle.std.specs.Prelude.{ℕ, Bool, List, Option}
use Rattle.csdn_core.specs.declared.terms.Sort.{Sort}
use Rattle.clause_log.specs.Literals.{truths}
use Rattle.fol_forms.specs.Counts.{count_of}
use Rattle.decision_laws.specs.Vocabulary.{Vocabulary}
use Rattle.decision_laws.specs.Copies.{Fact}
use Rattle.decision_laws.specs.Classes.{Meaning, class_number, classes_of, first_of, free_numbers, numeral_of, unnumbered}
use Rattle.ground_inst.specs.Facts.{num_of, vocabulary_of}
use Rattle.class_networks.specs.declared.judgement.Judgement.{Judgement}

unfoldable pub says : Judgement → Fact → Bool
says g f = truths g.valuation.now (num_of g.facts.now f)

-- how many constants a sort has
unfoldable pub constants_in : Judgement → Sort → ℕ
constants_in g = count_of g.facts.now.counts

abbrev pub words_in : Judgement → Vocabulary
words_in g = vocabulary_of g.parts.now g.facts.now

-- the first constant of a constant's class
abbrev pub first_in : Judgement → Sort → ℕ → ℕ
first_in g = first_of (words_in g) (constants_in g) (says g)

-- the classes of a sort, by their first constants
abbrev pub classes_in : Judgement → Sort → List ℕ
classes_in g = classes_of (words_in g) (constants_in g) (says g)

-- the numeral of a port's class
abbrev pub numeral_in : Judgement → ℕ → Option ℕ
numeral_in g = numeral_of (words_in g) (constants_in g) (says g)

-- the classes of ports without a numeral
abbrev pub unnumbered_in : Judgement → List ℕ
unnumbered_in g = unnumbered (words_in g) (constants_in g) (says g)

-- the numbers for these
abbrev pub free_in : Judgement → List ℕ
free_in g = free_numbers (words_in g) (constants_in g) (says g)

-- the numbers of classes
abbrev pub numbers_in : Judgement → Meaning
numbers_in g = class_number (words_in g) (constants_in g) (says g)
