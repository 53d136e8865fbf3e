-- Numerals of a list, one item more at a time.
use Rattle.std.proofs.Common.{◌≡◌, ℕ, ◌+◌, ◌<◌, ◌≤◌, List, [], ◌∷◌, ◌++◌, length, drop, get_or, sym, ap, ◌∙◌}
use Rattle.std.proofs.Math.ListN.{drop_of_length-le}
use Rattle.csdn_types.specs.Numerals.{with_numerals, with_numerals-append}
use Rattle.csdn_types.proofs.Lists.{drop-item}

module _ {X : Type 0} (numerals : List X → List ℕ) (of_item : X → List ℕ) (none : numerals [] ≡ []) (each : (x : X) (xs : List X) → numerals (x ∷ xs) ≡ of_item x ++ numerals xs) where
  pub next_numerals : (ns whole : List ℕ) (raw : List X) (i : ℕ) (x : X) → i < length raw → x ≡ get_or raw i x → whole ≡ with_numerals ns (numerals (drop i raw)) → whole ≡ with_numerals (with_numerals ns (of_item x)) (numerals (drop (i + 1) raw))
  next_numerals ns whole raw i x within is rest =
      let opened : numerals (drop i raw) ≡ of_item x ++ numerals (drop (i + 1) raw) = ap numerals (drop-item raw i x within is) ∙ each x (drop (i + 1) raw) in
      rest ∙ ap (with_numerals ns) opened ∙ with_numerals-append ns (of_item x) (numerals (drop (i + 1) raw))

  pub no_more_numerals : (ns whole : List ℕ) (raw : List X) (i : ℕ) → length raw ≤ i → whole ≡ with_numerals ns (numerals (drop i raw)) → ns ≡ whole
  no_more_numerals ns whole raw i past rest =
      sym (rest ∙ ap (with_numerals ns) (ap numerals (drop_of_length-le raw past) ∙ none))
