-- From rounds to what is settled.
use Rattle.std.proofs.Common.{◌≡◌, ◌∙◌, ℕ, ◌<◌, Bool, ◌&&◌, List, [], ◌∷◌, ◌++◌, length, sym, ap, subst, arith, append-nil}
use mathlib.Core.Path.{fun_ext}
use Rattle.csdn_core.specs.declared.program.Parts.{Parts}
use Rattle.csdn_core.specs.declared.syntax.Formula.{Formula}
use Rattle.clause_log.specs.Literals.{truths}
use Rattle.decision_laws.specs.Laws.{IsJudgement, IsSentence, clauses, judged}
use Rattle.decision_laws.specs.Sublists.{left_of}
use Rattle.lazy_ground.specs.declared.sentence.LazyGround.{LazyGround}
use Rattle.lazy_ground.specs.Completed.{is_named}
use Rattle.lazy_ground.specs.Lazy.{AddsBroken}
use Rattle.lazy_ground.proofs.Agree.{said_judgement}

none_added : {X : Type 0} (xs ys added : List X) (n : ℕ) → ys ≡ xs ++ added → n ≡ length added → n ≡ 0 → ys ≡ xs
none_added xs ys [] n e c z = e ∙ append-nil xs
none_added xs ys (x ∷ added) n e c z = absurd (omega (arith, c, z))

-- what is said of facts is a judgement where nothing was added
pub end_judged : (P : Parts) (F : Formula) → IsSentence P F → (v : ℕ → Bool) (old new : LazyGround) (n : ℕ) → AddsBroken P F v old new n → n ≡ 0 → (atoms : List ℕ) → ((x : ℕ) → truths atoms x ≡ (is_named new.made.clauses.clauses x && v x)) → IsJudgement P F (judged P F (truths atoms))
end_judged P F is v old new n adds zero atoms h =
    let same = none_added old.made.clauses.clauses new.made.clauses.clauses adds.added n adds.behind adds.count zero in
    let e : truths atoms ≡ (λ x. is_named old.made.clauses.clauses x && v x) = fun_ext h ∙ ap (λ cs. λ x. is_named cs x && v x) same in
    subst (λ u. IsJudgement P F (judged P F u)) (sym e) (said_judgement P F is old.made.clauses.clauses v (adds.exact.0 zero))

-- fewer clauses are left where some were added
pub fewer_left : (P : Parts) (F : Formula) (v : ℕ → Bool) (old new : LazyGround) (n : ℕ) → AddsBroken P F v old new n → 0 < n → left_of (clauses P F) new.made.clauses.clauses < left_of (clauses P F) old.made.clauses.clauses
fewer_left P F v old new n adds some = omega (arith, adds.left, some)
