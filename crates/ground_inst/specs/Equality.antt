-- The clauses of equality, as they are written.
use Rattle.std.specs.Prelude.{ℕ, List, [], ◌∷◌, nat_lt, slice_set, if◌then◌else◌}
use Rattle.csdn_core.specs.declared.program.Parts.{Parts}
use Rattle.csdn_core.specs.declared.terms.Pred.{Pred}
use Rattle.csdn_core.specs.declared.terms.Sort.{Sort}
use Rattle.csdn_core.specs.declared.terms.Sort.TheVariants.{Pr}
use Rattle.csdn_core.specs.declared.terms.Term.TheVariants.{Port}
use Rattle.clause_log.specs.Literals.{Literal}
use Rattle.fol_forms.specs.Constants.{names_of}
use Rattle.fol_forms.specs.Counts.{count_of}
use Rattle.decision_laws.specs.Clauses.{chain_clause, is_chain, may_meet, no, replace_from, yes}
use Rattle.decision_laws.specs.Copies.{Equation, Fact, Tuple, index_of}
use Rattle.decision_laws.specs.Vocabulary.{Vocabulary}
use Rattle.ground_inst.specs.Facts.{num_of, vocabulary_of}
use Rattle.ground_inst.specs.declared.constants.Numeral.{Numeral}
use Rattle.ground_inst.specs.declared.facts.Facts.{Facts}

-- a numeral of a program with its place
abbrev pub numeral_of : Parts → ℕ → Numeral
numeral_of P k = record { number = k; place = index_of (Port k) (names_of P Pr) }

-- the clause of a chain, where it says something new
abbrev pub chain_at : (Fact → ℕ) → Vocabulary → Sort → ℕ → ℕ → ℕ → List (List Literal)
chain_at num voc s a b c = if is_chain voc s a b c then chain_clause num s a b c ∷ [] else []

-- the clause of two numerals, in the order of the numerals
abbrev pub numerals_differ : (Fact → ℕ) → Numeral → Numeral → List (List Literal)
numerals_differ num p q = if nat_lt p.number q.number then (no (num (Equation Pr p.place q.place)) ∷ []) ∷ [] else []

-- the clauses of one tuple of a relation
abbrev pub exchanges : Parts → Facts → Pred → List Sort → List ℕ → List (List Literal)
exchanges P facts r columns xs = replace_from (num_of facts) (count_of facts.counts) (vocabulary_of P facts) r [] columns xs

-- the clause of a tuple, whose negation is this literal, and of the constant at one of its places exchanged for another one
abbrev pub exchange_at : Parts → Facts → Pred → Sort → List ℕ → Literal → ℕ → ℕ → ℕ → List (List Literal)
exchange_at P facts r s xs whole at a b =
    if may_meet (vocabulary_of P facts) s a b then (no (num_of facts (Equation s a b)) ∷ whole ∷ yes (num_of facts (Tuple r (slice_set xs at b))) ∷ []) ∷ [] else []
