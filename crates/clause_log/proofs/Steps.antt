-- Steps from their literals and their hints.
use Rattle.std.proofs.Common.{◌≡◌, ℕ, zero, suc, get_or, ◌<◌, ◌+◌, true, Result, Ok, Err, OnOk, OnErr, List, [], ◌∷◌, ◌++◌, length, refl, sym, ap, ap₂, ◌∙◌, subst, arith, length-append}
use Rattle.clause_log.specs.Literals.{Literal, has_distinct_atoms}
use Rattle.clause_log.specs.Refutations.{Step, no_step}
use Rattle.clause_log.specs.Rows.{split, steps_of, AreFlatSteps}
use Rattle.clause_log.proofs.Flat.{pushed, pushed_split, length-split, all_more}

pub length-steps_of : (ls : List (List Literal)) (hs : List (List ℕ)) → length ls ≡ length hs → length (steps_of ls hs) ≡ length ls
length-steps_of [] hs e = refl
length-steps_of (l ∷ ls) [] e = absurd (omega arith)
length-steps_of (l ∷ ls) (h ∷ hs) e = ap suc (length-steps_of ls hs (omega arith))

pub steps_of-append : (ls : List (List Literal)) (hs : List (List ℕ)) (l : List Literal) (h : List ℕ) → length ls ≡ length hs → steps_of (ls ++ l ∷ []) (hs ++ h ∷ []) ≡ steps_of ls hs ++ record { literals = l; hints = h } ∷ []
steps_of-append [] [] l h e = refl
steps_of-append [] (k ∷ hs) l h e = absurd (omega arith)
steps_of-append (m ∷ ls) [] l h e = absurd (omega arith)
steps_of-append (m ∷ ls) (k ∷ hs) l h e = (let s : Step = record { literals = m; hints = k } in ap (λ z. s ∷ z) (steps_of-append ls hs l h (omega arith)))

pub step_at : (ls : List (List Literal)) (hs : List (List ℕ)) (i : ℕ) → length ls ≡ length hs → i < length ls → get_or (steps_of ls hs) i no_step ≡ record { literals = get_or ls i []; hints = get_or hs i [] }
step_at [] hs i e h = absurd (omega arith)
step_at (l ∷ ls) [] i e h = absurd (omega arith)
step_at (l ∷ ls) (k ∷ hs) zero e h = refl
step_at (l ∷ ls) (k ∷ hs) (suc i) e h = step_at ls hs i (omega arith) (omega arith)

-- the vectors of a log, after and before a step was appended
pub record IsAppended (es fs : List ℕ) (ls ms : List Literal) (ns os : List ℕ) (hs ks : List ℕ) (lits : List Literal) (named : List ℕ) : Type 0 where
  pub literals : ms ≡ ls ++ lits
  pub literal_ends : fs ≡ es ++ (length ls + length lits) ∷ []
  pub hints : ks ≡ hs ++ named
  pub hint_ends : os ≡ ns ++ (length hs + length named) ∷ []

pub steps_more : (es fs : List ℕ) (ls ms : List Literal) (ns os hs ks : List ℕ) (lits : List Literal) (named : List ℕ) → AreFlatSteps es ls ns hs → IsAppended es fs ls ms ns os hs ks lits named
    → steps_of (split 0 fs ms) (split 0 os ks) ≡ steps_of (split 0 es ls) (split 0 ns hs) ++ record { literals = lits; hints = named } ∷ []
steps_more es fs ls ms ns os hs ks lits named h a =
    ap₂ steps_of (pushed es fs ls ms lits h.literals_split a.literals a.literal_ends) (pushed ns os hs ks named h.hints_split a.hints a.hint_ends)
    ∙ steps_of-append (split 0 es ls) (split 0 ns hs) lits named (length-split 0 es ls ∙ h.even ∙ sym (length-split 0 ns hs))

pub flat_more : (es fs : List ℕ) (ls ms : List Literal) (ns os hs ks : List ℕ) (lits : List Literal) (named : List ℕ) → AreFlatSteps es ls ns hs → has_distinct_atoms lits ≡ true → IsAppended es fs ls ms ns os hs ks lits named → AreFlatSteps fs ms os ks
flat_more es fs ls ms ns os hs ks lits named h d a = record {
  literals_split = pushed_split es fs ls ms lits h.literals_split a.literals a.literal_ends;
  hints_split = pushed_split ns os hs ks named h.hints_split a.hints a.hint_ends;
  even = ap length a.literal_ends ∙ length-append es ((length ls + length lits) ∷ []) ∙ ap (λ n. n + 1) h.even ∙ sym (ap length a.hint_ends ∙ length-append ns ((length hs + length named) ∷ []));
  distinct = all_more has_distinct_atoms (split 0 es ls) (split 0 fs ms) lits (pushed es fs ls ms lits h.literals_split a.literals a.literal_ends) h.distinct d;
}

pub flat_same : (es fs : List ℕ) (ls ms : List Literal) (ns os hs ks : List ℕ) → AreFlatSteps es ls ns hs → fs ≡ es → ms ≡ ls → os ≡ ns → ks ≡ hs → AreFlatSteps fs ms os ks
flat_same es fs ls ms ns os hs ks h a b c d =
    subst (λ z. AreFlatSteps fs ms os z) (sym d) (subst (λ z. AreFlatSteps fs ms z hs) (sym c) (subst (λ z. AreFlatSteps fs z ns hs) (sym b) (subst (λ z. AreFlatSteps z ls ns hs) (sym a) h)))

-- what a call did to the vectors of a log, on each way
pub by_ways : {T E : Type 0} (r : Result T E) (A B C D E' F G H P : Type 0) → OnOk r A → OnOk r B → OnOk r C → OnOk r D → OnErr r E' → OnErr r F → OnErr r G → OnErr r H → (A → B → C → D → P) → (E' → F → G → H → P) → P
by_ways (Ok x) A B C D E' F G H P a b c d e f g h f_ok f_err = f_ok a b c d
by_ways (Err x) A B C D E' F G H P a b c d e f g h f_ok f_err = f_err e f g h

pub on_all : {T E : Type 0} (r : Result T E) (A B C D P : Type 0) → OnOk r A → OnOk r B → OnOk r C → OnOk r D → (A → B → C → D → P) → OnOk r P
on_all (Ok x) A B C D P a b c d f_ok = f_ok a b c d
on_all (Err x) A B C D P a b c d f_ok = a

-- how many steps a log's vectors hold
pub steps_count : (es : List ℕ) (ls : List Literal) (ns hs : List ℕ) → AreFlatSteps es ls ns hs → length (steps_of (split 0 es ls) (split 0 ns hs)) ≡ length es
steps_count es ls ns hs h = length-steps_of (split 0 es ls) (split 0 ns hs) (length-split 0 es ls ∙ h.even ∙ sym (length-split 0 ns hs)) ∙ length-split 0 es ls

-- the step at a place of a log's vectors
pub step_is : (es : List ℕ) (ls : List Literal) (ns hs : List ℕ) (i : ℕ) → AreFlatSteps es ls ns hs → i < length es
    → get_or (steps_of (split 0 es ls) (split 0 ns hs)) i no_step ≡ record { literals = get_or (split 0 es ls) i []; hints = get_or (split 0 ns hs) i [] }
step_is es ls ns hs i h l =
    step_at (split 0 es ls) (split 0 ns hs) i (length-split 0 es ls ∙ h.even ∙ sym (length-split 0 ns hs)) (subst (λ n. i < n) (sym (length-split 0 es ls)) l)
