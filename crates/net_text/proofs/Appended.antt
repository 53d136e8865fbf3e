-- Lines that are appended one after another.
use Rattle.std.proofs.Common.{◌≡◌, ◌∙◌, ap, sym, ℕ, List, [], ◌∷◌, ◌++◌, append_assoc, append-nil}
use Rattle.std.specs.List.{flat_map}
use Rattle.std.proofs.lemmas.List.Concat.{flat_map-append}
use Rattle.text_lines.specs.Printed.{line_text}

pub two : (old mid new : List ℕ) (A B : List (List (List ℕ))) → mid ≡ old ++ flat_map line_text A → new ≡ mid ++ flat_map line_text B → new ≡ old ++ flat_map line_text (A ++ B)
two old mid new A B first second =
    second ∙ ap (λ o. o ++ flat_map line_text B) first ∙ append_assoc old (flat_map line_text A) (flat_map line_text B) ∙ ap (λ t. old ++ t) (sym (flat_map-append line_text A B))

pub five : (o a b c d e : List ℕ) (A B C D E : List (List (List ℕ))) → a ≡ o ++ flat_map line_text A → b ≡ a ++ flat_map line_text B → c ≡ b ++ flat_map line_text C → d ≡ c ++ flat_map line_text D → e ≡ d ++ flat_map line_text E
    → e ≡ o ++ flat_map line_text (A ++ (B ++ (C ++ (D ++ E))))
five o a b c d e A B C D E is_a is_b is_c is_d is_e =
    two o a e A (B ++ (C ++ (D ++ E))) is_a (two a b e B (C ++ (D ++ E)) is_b (two b c e C (D ++ E) is_c (two c d e D E is_d is_e)))

-- a line as a list of lines
pub one : (old new : List ℕ) (ws : List (List ℕ)) → new ≡ old ++ line_text ws → new ≡ old ++ flat_map line_text (ws ∷ [])
one old new ws is = is ∙ ap (λ t. old ++ t) (sym (append-nil (line_text ws)))

pub four : (o a b c d : List ℕ) (v w x y : List (List ℕ)) → a ≡ o ++ line_text v → b ≡ a ++ line_text w → c ≡ b ++ line_text x → d ≡ c ++ line_text y → d ≡ o ++ flat_map line_text (v ∷ w ∷ x ∷ y ∷ [])
four o a b c d v w x y is_a is_b is_c is_d =
    two o a d (v ∷ []) (w ∷ x ∷ y ∷ []) (one o a v is_a) (two a b d (w ∷ []) (x ∷ y ∷ []) (one a b w is_b) (two b c d (x ∷ []) (y ∷ []) (one b c x is_c) (one c d y is_d)))
