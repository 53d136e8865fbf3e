-- A row more in a flat list.
use Rattle.std.proofs.Common.{Bool, true, ◌&&◌, ◌≡◌, ℕ, zero, suc, get_or, ◌<◌, Result, Ok, Err, OnOk, OnErr, ◌+◌, ◌-◌, ◌≤◌, List, [], ◌∷◌, ◌++◌, length, take, drop, refl, sym, ap, ap₂, ◌∙◌, subst, arith, length-append, length-drop}
use Rattle.std.proofs.Math.Seq.{drop-append_seam, take-length}
use Rattle.std.proofs.lemmas.List.{drop-append-le, take-append-le}
use Rattle.std.proofs.lemmas.Bool.{and_from}
use Rattle.std.proofs.lemmas.List.Folds.{list_all-append}
use Rattle.std.specs.List.{list_all}
use Rattle.clause_log.specs.Literals.{Literal, is_clause}
use Rattle.clause_log.specs.Rows.{split, IsSplit, begins, AreFlatClauses}

pub split_below : (low : ℕ) (es : List ℕ) (n : ℕ) → IsSplit low es n → low ≤ n
split_below low [] n h = omega arith
split_below low (e ∷ es) n h = (let r = split_below e es n h.1 in omega (arith, h.0))

pub split_more : (low : ℕ) (es : List ℕ) (n m : ℕ) → IsSplit low es n → n ≤ m → IsSplit low (es ++ m ∷ []) m
split_more low [] n m h l = (omega arith, refl)
split_more low (e ∷ es) n m h l = (h.0, split_more e es n m h.1 l)

last_part : {X : Type 0} (xs ys : List X) → take (length xs + length ys - length xs) (drop (length xs) (xs ++ ys)) ≡ ys
last_part xs ys =
    let e : length xs + length ys - length xs ≡ length ys = omega arith in
    ap₂ (λ n zs. take n zs) e (drop-append_seam xs ys) ∙ take-length ys

pub split-append : {X : Type 0} (low : ℕ) (es : List ℕ) (xs ys : List X) → IsSplit low es (length xs) → split low (es ++ (length xs + length ys) ∷ []) (xs ++ ys) ≡ split low es xs ++ ys ∷ []
split-append low [] xs ys h = ap (λ z. z ∷ []) (ap (λ k. take (length xs + length ys - k) (drop k (xs ++ ys))) h ∙ last_part xs ys)
split-append low (e ∷ es) xs ys h =
    let l = split_below e es (length xs) h.1 in
    let k : low ≤ length xs = omega (arith, h.0) in
    let m : e - low ≤ length (drop low xs) = omega (arith, length-drop low xs, h.0) in
    ap₂ (λ z zs. z ∷ zs) (ap (take (e - low)) (drop-append-le low xs ys k) ∙ take-append-le (e - low) (drop low xs) ys m) (split-append e es xs ys h.1)

pub pushed : {X : Type 0} (es fs : List ℕ) (xs ys row : List X) → IsSplit 0 es (length xs) → ys ≡ xs ++ row → fs ≡ es ++ (length xs + length row) ∷ [] → split 0 fs ys ≡ split 0 es xs ++ row ∷ []
pushed es fs xs ys row h e f = ap₂ (split 0) f e ∙ split-append 0 es xs row h

pub pushed_split : {X : Type 0} (es fs : List ℕ) (xs ys row : List X) → IsSplit 0 es (length xs) → ys ≡ xs ++ row → fs ≡ es ++ (length xs + length row) ∷ [] → IsSplit 0 fs (length ys)
pushed_split es fs xs ys row h e f =
    subst (λ z. IsSplit 0 z (length ys)) (sym f) (subst (λ n. IsSplit 0 (es ++ (length xs + length row) ∷ []) n) (sym (ap length e ∙ length-append xs row)) (split_more 0 es (length xs) (length xs + length row) h (omega arith)))

pub on_ok : {T E : Type 0} (r : Result T E) (A B C : Type 0) → OnOk r A → OnOk r B → (A → B → C) → OnOk r C
on_ok (Ok x) A B C a b f = f a b
on_ok (Err e) A B C a b f = a

pub either_way : {T E : Type 0} (r : Result T E) (A B C D P : Type 0) → OnOk r A → OnOk r B → OnErr r C → OnErr r D → (A → B → P) → (C → D → P) → P
either_way (Ok x) A B C D P a b c d f g = f a b
either_way (Err e) A B C D P a b c d f g = g c d

pub length-split : {X : Type 0} (low : ℕ) (es : List ℕ) (xs : List X) → length (split low es xs) ≡ length es
length-split low [] xs = refl
length-split low (e ∷ es) xs = ap suc (length-split e es xs)

pub row_at : {X : Type 0} (low : ℕ) (es : List ℕ) (xs : List X) (i : ℕ) → i < length es → get_or (split low es xs) i [] ≡ take (get_or es i 0 - begins low es i) (drop (begins low es i) xs)
row_at low [] xs i h = absurd (omega arith)
row_at low (e ∷ es) xs zero h = refl
row_at low (e ∷ []) xs (suc i) h = absurd (omega arith)
row_at low (e ∷ f ∷ es) xs (suc zero) h = refl
row_at low (e ∷ f ∷ es) xs (suc (suc i)) h = row_at e (f ∷ es) xs (suc i) (omega arith)

pub row_in : (low : ℕ) (es : List ℕ) (n i : ℕ) → IsSplit low es n → i < length es → (begins low es i ≤ get_or es i 0) × (get_or es i 0 ≤ n)
row_in low [] n i s h = absurd (omega arith)
row_in low (e ∷ es) n zero s h = (s.0, split_below e es n s.1)
row_in low (e ∷ []) n (suc i) s h = absurd (omega arith)
row_in low (e ∷ f ∷ es) n (suc zero) s h = row_in e (f ∷ es) n zero s.1 (omega arith)
row_in low (e ∷ f ∷ es) n (suc (suc i)) s h = row_in e (f ∷ es) n (suc i) s.1 (omega arith)

pub begins_later : (es : List ℕ) (i : ℕ) → (i ≡ 0 → ⊥) → get_or es (i - 1) 0 ≡ begins 0 es i
begins_later es zero h = absurd (h refl)
begins_later es (suc i) h = let e : suc i - 1 ≡ i = omega arith in ap (λ k. get_or es k 0) e

-- one more item that passes
pub all_more : {X : Type 0} (p : X → Bool) (xs ys : List X) (x : X) → ys ≡ xs ++ x ∷ [] → list_all p xs ≡ true → p x ≡ true → list_all p ys ≡ true
all_more p xs ys x e h k = ap (list_all p) e ∙ list_all-append p xs (x ∷ []) ∙ and_from (list_all p xs) (p x && true) h (and_from (p x) true k refl)

pub clause_more : (atoms : ℕ) (es fs : List ℕ) (xs ys row : List Literal) → AreFlatClauses atoms es xs → is_clause atoms row ≡ true → ys ≡ xs ++ row → fs ≡ es ++ (length xs + length row) ∷ [] → AreFlatClauses atoms fs ys
clause_more atoms es fs xs ys row h k e f = record {
  split_up = pushed_split es fs xs ys row h.split_up e f;
  small = h.small;
  clauses = all_more (is_clause atoms) (split 0 es xs) (split 0 fs ys) row (pushed es fs xs ys row h.split_up e f) h.clauses k;
}

pub clauses_same : (atoms : ℕ) (es fs : List ℕ) (xs ys : List Literal) → AreFlatClauses atoms es xs → ys ≡ xs → fs ≡ es → AreFlatClauses atoms fs ys
clauses_same atoms es fs xs ys h e f = subst (λ z. AreFlatClauses atoms z ys) (sym f) (subst (λ z. AreFlatClauses atoms es z) (sym e) h)
