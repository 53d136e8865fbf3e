-- Which lists of classes and of their numbers are kept.
use Rattle.std.specs.Prelude.{◌≡◌, ℕ, List, map, slice_index_or}
use Rattle.csdn_core.specs.declared.terms.Sort.{Sort}
use Rattle.csdn_core.specs.declared.terms.Sort.TheVariants.{Sw, Ho, Pr}
use Rattle.decision_laws.specs.Vocabulary.{places_from}
use Rattle.class_networks.specs.declared.judgement.Judgement.{Judgement}
use Rattle.class_networks.specs.declared.numbers.Classes.{Classes}
use Rattle.class_networks.specs.declared.numbers.Numbers.{Numbers}
use Rattle.class_networks.specs.Judgements.{classes_in, constants_in, free_in, numbers_in, unnumbered_in}

pub record AreClasses (g : Judgement) (classes : Classes) : Type 0 where
  pub switches : classes.switches ≡ classes_in g Sw
  pub hosts : classes.hosts ≡ classes_in g Ho
  pub ports : classes.ports ≡ unnumbered_in g
  pub free : classes.free ≡ free_in g

-- the numbers of the constants of a sort
abbrev pub numbers_for : Numbers → Sort → List ℕ
numbers_for numbers Sw = numbers.switches
numbers_for numbers Ho = numbers.hosts
numbers_for numbers Pr = numbers.ports

-- the number of a constant
abbrev pub number_at : Numbers → Sort → ℕ → ℕ
number_at numbers s a = slice_index_or (numbers_for numbers s) a 0

-- the number of each constant is that of its class
pub record AreNumbers (g : Judgement) (numbers : Numbers) : Type 0 where
  pub switches : numbers.switches ≡ map (numbers_in g Sw) (places_from 0 (constants_in g Sw))
  pub hosts : numbers.hosts ≡ map (numbers_in g Ho) (places_from 0 (constants_in g Ho))
  pub ports : numbers.ports ≡ map (numbers_in g Pr) (places_from 0 (constants_in g Pr))
