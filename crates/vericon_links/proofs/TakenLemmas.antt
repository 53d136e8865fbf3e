-- Bytes that are taken one read after another.
use Rattle.std.proofs.Common.{◌≡◌, ℕ, ◌+◌, ◌-◌, List, ◌++◌, length, take, drop, sym, ◌∙◌, ap, subst}
use Rattle.std.proofs.Math.Seq.{take-add}
use Rattle.std.proofs.lemmas.List.{take_rest}

-- n bytes were taken behind the first ones, from a slice that lends all of them
pub taken_more : (gives lent into : List ℕ) (at n : ℕ) → lent ≡ gives → take n into ≡ take n (take (length lent - at) (drop at lent)) → take (at + n) gives ≡ take at gives ++ take n into
taken_more gives lent into at n is front =
    let P : List ℕ → Type 0 = λ xs. take n into ≡ take n (take (length xs - at) (drop at xs)) in
    let left : take n into ≡ take n (drop at gives) = subst P is front ∙ ap (take n) (take_rest gives at) in
    take-add at n gives ∙ ap (λ xs. take at gives ++ xs) (sym left)
