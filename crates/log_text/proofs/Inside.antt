-- What is read of a clause or a step keeps the limits of its block.
use Rattle.std.proofs.Common.{◌≡◌, ℕ, ◌<◌, ◌≤◌, Bool, true, false, cond, eqb, leb, ltb, ◌&&◌, List, [], ◌∷◌, ◌++◌, Some, None, refl, subst}
use Rattle.std.specs.List.{list_all}
use Rattle.std.proofs.lemmas.Bool.{and_from, le-leb, lt-ltb}
use Rattle.std.proofs.lemmas.Option.{same_Some, cond_some}
use Rattle.text_lines.specs.Text.{ended}
use Rattle.text_lines.specs.Numbers.{◌>>=◌, number_of}
use Rattle.text_lines.proofs.Cuts.{some_from_test}
use Rattle.text_lines.proofs.Numerals.{number_is}
use Rattle.text_lines.proofs.Inverse.{bind_some}
use Rattle.clause_log.specs.Literals.{Literal, has_distinct_atoms, is_within, is_clause}
use Rattle.clause_log.specs.Refutations.{Step}
use Rattle.clause_log.proofs.Flat.{all_more}
use Rattle.log_text.specs.Words.{positive_of, literal_of, is_zero, literals_from, hints_from, clause_of, step_of}

positive_by : (most n m : ℕ) (t : Bool) → t ≡ eqb n 0 → cond t None (Some n) ≡ Some m → n ≤ most → (ltb 0 m && leb m most) ≡ true
positive_by most n m true q e l = absurd cc
positive_by most n m false q e l =
    let some : 0 < n = some_from_test n q in
    subst (λ k. (ltb 0 k && leb k most) ≡ true) (same_Some n m e) (and_from (ltb 0 n) (leb n most) (lt-ltb 0 n some) (le-leb n most l))

positive_within : (most : ℕ) (w : List ℕ) (m : ℕ) → positive_of most w ≡ Some m → (ltb 0 m && leb m most) ≡ true
unfolding positive_of
positive_within most w m e =
    let x = bind_some (number_of most w) (λ n. cond (eqb n 0) None (Some n)) m e in
    positive_by most x.0 m (eqb x.0 0) refl x.2 (number_is most x.0 w x.1).1

signed_within : (atoms : ℕ) (sign : Bool) (w : List ℕ) (l : Literal) → (positive_of atoms w >>= λ n. Some (record { positive = sign; atom = n })) ≡ Some l → is_within atoms l ≡ true
signed_within atoms sign w l e =
    let x = bind_some (positive_of atoms w) (λ n. Some (record { positive = sign; atom = n })) l e in
    subst (λ k. is_within atoms k ≡ true) (same_Some (record { positive = sign; atom = x.0 }) l x.2) (positive_within atoms w x.0 x.1)

literal_by : (atoms b : ℕ) (bs : List ℕ) (l : Literal) (t : Bool) → cond t (positive_of atoms bs >>= λ n. Some (record { positive = false; atom = n })) (positive_of atoms (b ∷ bs) >>= λ n. Some (record { positive = true; atom = n })) ≡ Some l → is_within atoms l ≡ true
literal_by atoms b bs l true e = signed_within atoms false bs l e
literal_by atoms b bs l false e = signed_within atoms true (b ∷ bs) l e

literal_within : (atoms : ℕ) (w : List ℕ) (l : Literal) → literal_of atoms w ≡ Some l → is_within atoms l ≡ true
unfolding literal_of
literal_within atoms [] l e = absurd cc
literal_within atoms (b ∷ bs) l e = literal_by atoms b bs l (eqb b 45) e

literals_by : (atoms : ℕ) (found : List Literal) (w : List ℕ) (ws : List (List ℕ)) (x : List Literal × List (List ℕ)) (t : Bool) → list_all (is_within atoms) found ≡ true
    → ((more : List Literal) → list_all (is_within atoms) more ≡ true → literals_from atoms more ws ≡ Some x → list_all (is_within atoms) x.0 ≡ true)
    → cond t (Some (found, ws)) (literal_of atoms w >>= λ l. literals_from atoms (found ++ l ∷ []) ws) ≡ Some x → list_all (is_within atoms) x.0 ≡ true
literals_by atoms found w ws x true h k e = subst (λ y. list_all (is_within atoms) y.0 ≡ true) (same_Some (found, ws) x e) h
literals_by atoms found w ws x false h k e =
    let y = bind_some (literal_of atoms w) (λ l. literals_from atoms (found ++ l ∷ []) ws) x e in
    k (found ++ y.0 ∷ []) (all_more (is_within atoms) found (found ++ y.0 ∷ []) y.0 refl h (literal_within atoms w y.0 y.1)) y.2

literals_within : (atoms : ℕ) (found : List Literal) (ws : List (List ℕ)) (x : List Literal × List (List ℕ)) → list_all (is_within atoms) found ≡ true → literals_from atoms found ws ≡ Some x → list_all (is_within atoms) x.0 ≡ true
literals_within atoms found [] x h e = absurd cc
literals_within atoms found (w ∷ ws) x h e = literals_by atoms found w ws x (is_zero w) h (λ more k. literals_within atoms more ws x k) e

pub clause_within : (atoms : ℕ) (ws : List (List ℕ)) (c : List Literal) → clause_of atoms ws ≡ Some c → is_clause atoms c ≡ true
unfolding clause_of
clause_within atoms ws c e =
    let x = bind_some (literals_from atoms [] ws) (λ x. ended x.1 >>= λ u. cond (has_distinct_atoms x.0) (Some x.0) None) c e in
    let y = bind_some (ended x.0.1) (λ u. cond (has_distinct_atoms x.0.0) (Some x.0.0) None) c x.2 in
    let z = cond_some (has_distinct_atoms x.0.0) x.0.0 c y.2 in
    subst (λ d. is_clause atoms d ≡ true) z.1 (and_from (has_distinct_atoms x.0.0) (list_all (is_within atoms) x.0.0) z.0 (literals_within atoms [] ws x.0 refl x.1))

pub step_distinct : (atoms : ℕ) (ws : List (List ℕ)) (s : Step) → step_of atoms ws ≡ Some s → has_distinct_atoms s.literals ≡ true
unfolding step_of
step_distinct atoms ws s e =
    let x = bind_some (literals_from atoms [] ws) (λ x. hints_from [] x.1 >>= λ y. ended y.1 >>= λ u. cond (has_distinct_atoms x.0) (Some (record { literals = x.0; hints = y.0 })) None) s e in
    let y = bind_some (hints_from [] x.0.1) (λ y. ended y.1 >>= λ u. cond (has_distinct_atoms x.0.0) (Some (record { literals = x.0.0; hints = y.0 })) None) s x.2 in
    let u = bind_some (ended y.0.1) (λ u. cond (has_distinct_atoms x.0.0) (Some (record { literals = x.0.0; hints = y.0.0 })) None) s y.2 in
    let z = cond_some (has_distinct_atoms x.0.0) (record { literals = x.0.0; hints = y.0.0 }) s u.2 in
    subst (λ t. has_distinct_atoms t.literals ≡ true) z.1 z.0
