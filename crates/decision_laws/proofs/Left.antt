-- Clauses that a valuation breaks are new, so there are fewer left.
use Rattle.std.proofs.Common.{Bool, IsTrue, List, [], arith, inl, inr, length, length-append, refl, sym, ℕ, ◌++◌, ◌+◌, ◌∙◌, ◌∷◌, ◌≡◌}
use Rattle.std.proofs.lemmas.Bool.{false≢true}
use Rattle.decision_laws.proofs.Basics.{all_at, all_from}
use Rattle.decision_laws.proofs.Distinct.{no_more}
use Rattle.clause_log.specs.Literals.{IsModel, Literal, clause_true}
use Rattle.decision_laws.specs.Sublists.{AreBroken, ArePart, left_of}
use Rattle.csdn_core.specs.Members.{AreDistinct, IsIn}
use Rattle.csdn_core.proofs.Members.{distinct_append, in_both}

pub still_part : (whole cs new : List (List Literal)) (v : ℕ → Bool) → ArePart whole cs → IsModel v cs → AreBroken whole v new → ArePart whole (cs ++ new)
still_part whole cs new v p m b = record {
  distinct = distinct_append cs new p.distinct b.part.distinct (λ c i k. false≢true (sym (b.broken c k) ∙ all_at (clause_true v) cs c i m));
  within = λ c i. elim (in_both cs new c i) [ inl a ↦ p.within c a | inr k ↦ b.part.within c k ];
}

pub falls : (whole cs new : List (List Literal)) (v : ℕ → Bool) → ArePart whole cs → IsModel v cs → AreBroken whole v new → left_of whole (cs ++ new) + length new ≡ left_of whole cs
falls whole cs new v p m b =
    let q = still_part whole cs new v p m b in
    omega (arith, no_more (cs ++ new) whole q.distinct q.within, length-append cs new)

pub model_of_all : (whole : List (List Literal)) (v : ℕ → Bool) → ((c : List Literal) → IsIn c whole → IsTrue (clause_true v c)) → IsModel v whole
model_of_all whole v h = all_from (clause_true v) whole h
