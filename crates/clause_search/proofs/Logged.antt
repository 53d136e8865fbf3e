-- A log with one step more.
use Rattle.std.proofs.Common.{◌≡◌, ℕ, zero, suc, ◌+◌, true, List, [], ◌∷◌, ◌++◌, map, length, Some, refl, sym, ap, ◌∙◌, subst, arith, length-append}
use Rattle.std.specs.Prelude.{slice_get}
use Rattle.std.proofs.lemmas.Bool.{and_parts, and_from}
use Rattle.std.proofs.lemmas.List.{append_assoc, map-append, length-map, append-nil}
use Rattle.clause_log.specs.Literals.{Literal}
use Rattle.clause_log.specs.Assignments.{is_empty}
use Rattle.clause_log.specs.Refutations.{Step, clause_at, step_holds, steps_hold, ends_empty, with_steps}

abbrev pub lits : Step → List Literal
lits s = s.literals

pub steps-append : (cs : List (List Literal)) (log : List Step) (s : Step) → with_steps cs (log ++ s ∷ []) ≡ with_steps cs log ++ s.literals ∷ []
steps-append cs log s = ap (λ z. cs ++ z) (map-append lits log (s ∷ [])) ∙ sym (append_assoc cs (map lits log) (s.literals ∷ []))

pub hold-append : (cs : List (List Literal)) (log : List Step) (s : Step) → steps_hold cs log ≡ true → step_holds (with_steps cs log) s ≡ true → steps_hold cs (log ++ s ∷ []) ≡ true
hold-append cs [] s h k = and_from (step_holds cs s) true (subst (λ z. step_holds z s ≡ true) (append-nil cs) k) refl
hold-append cs (t ∷ ts) s h k =
    let p = and_parts (step_holds cs t) (steps_hold (cs ++ t.literals ∷ []) ts) h in
    and_from (step_holds cs t) (steps_hold (cs ++ t.literals ∷ []) (ts ++ s ∷ [])) p.0
    (hold-append (cs ++ t.literals ∷ []) ts s p.1 (subst (λ z. step_holds z s ≡ true) (sym (append_assoc cs (t.literals ∷ []) (map lits ts))) k))

last_at : {X : Type 0} (xs : List X) (x : X) (i : ℕ) → i ≡ length xs → slice_get (xs ++ x ∷ []) i ≡ Some x
last_at [] x zero e = refl
last_at [] x (suc i) e = absurd (omega (arith, e))
last_at (y ∷ ys) x zero e = absurd (omega (arith, e))
last_at (y ∷ ys) x (suc i) e = last_at ys x i (omega (arith, e))

last_numbered : (cs : List (List Literal)) (c : List Literal) (h : ℕ) → h ≡ length cs + 1 → clause_at (cs ++ c ∷ []) h ≡ Some c
last_numbered cs c zero e = absurd (omega (arith, e))
last_numbered cs c (suc i) e = last_at cs c i (omega (arith, e))

-- the number of the new step
pub new_step_at : (cs : List (List Literal)) (log : List Step) (s : Step) (h : ℕ) → h ≡ length cs + length log + 1 → clause_at (with_steps cs (log ++ s ∷ [])) h ≡ Some s.literals
new_step_at cs log s h e =
    ap (λ z. clause_at z h) (steps-append cs log s)
    ∙ last_numbered (with_steps cs log) s.literals h (omega (arith, e, length-append cs (map lits log), length-map log lits))

pub ends-append : (log : List Step) (s : Step) → s.literals ≡ [] → ends_empty (log ++ s ∷ []) ≡ true
ends-append [] s e = ap is_empty e
ends-append (t ∷ []) s e = ap is_empty e
ends-append (t ∷ u ∷ ts) s e = ends-append (u ∷ ts) s e
