-- Pieces that are written one after another.
use Rattle.std.proofs.Common.{◌≡◌, ℕ, ◌+◌, ◌-◌, ◌≤◌, List, [], ◌++◌, length, take, drop, Option, Some, None, refl, sym, ◌∙◌, ap, append_assoc, arith, subst, length-drop}
use Rattle.std.proofs.lemmas.Grind.{common_steps}
use Rattle.std.proofs.Math.Seq.{take-add}
use Rattle.std.proofs.lemmas.List.{take_rest}
use Rattle.std.proofs.lemmas.Option.{same_Some}
use Rattle.vericon_edge.specs.Written.{Grown}

pub grown_nothing : (old : Option (List ℕ)) → Grown old old []
grown_nothing None = refl
grown_nothing (Some bytes) = grind (arith, common_steps)

pub grown_more : (old mid new : Option (List ℕ)) (xs ys : List ℕ) → Grown old mid xs → Grown mid new ys → Grown old new (xs ++ ys)
grown_more None mid new xs ys to_mid to_new = grown_none mid new ys to_mid to_new
  where
    grown_none : (mid new : Option (List ℕ)) (ys : List ℕ) → mid ≡ None → Grown mid new ys → new ≡ None
    grown_none None new ys is h = h
    grown_none (Some m) new ys is h = cc
grown_more (Some old) None new xs ys to_mid to_new = cc
grown_more (Some old) (Some mid) new xs ys to_mid to_new = to_new ∙ ap Some (ap (λ m. m ++ ys) (same_Some mid (old ++ xs) to_mid) ∙ append_assoc old xs ys)

pub grown_front : (old mid new : Option (List ℕ)) (piece : List ℕ) (done n : ℕ) → Grown old mid (take done piece) → Grown mid new (take n (take (length piece - done) (drop done piece))) → Grown old new (take (done + n) piece)
grown_front old mid new piece done n to_mid to_new =
    let P : List ℕ → Type 0 = λ xs. Grown old new xs in
    let Q : List ℕ → Type 0 = λ xs. Grown mid new (take n xs) in
    subst P (sym (take-add done n piece)) (grown_more old mid new (take done piece) (take n (drop done piece)) to_mid (subst Q (take_rest piece done) to_new))

pub within_front : (piece : List ℕ) (done n : ℕ) → done ≤ length piece → n ≤ length (take (length piece - done) (drop done piece)) → done + n ≤ length piece
within_front piece done n le h =
    let Q : List ℕ → Type 0 = λ xs. n ≤ length xs in
    let short : n ≤ length (drop done piece) = subst Q (take_rest piece done) h in
    omega (arith, length-drop done piece)
