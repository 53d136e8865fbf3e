-- The parts of a line, appended one after another.
use Rattle.std.proofs.Common.{◌≡◌, ◌∙◌, ap, sym, ℕ, List, [], ◌∷◌, ◌++◌, append_assoc}
use Rattle.std.specs.Prelude.{decimal}
use Rattle.std.proofs.lemmas.List.Concat.{flat_map-append}
use Rattle.text_lines.specs.Printed.{spaced, line_text}
use Rattle.csdn_core.specs.declared.program.Parts.{Parts}
use Rattle.csdn_conditions.specs.declared.kinds.CondKind.{CondKind}
use Rattle.csdn_conditions.specs.declared.class.Class.{Class}
use Rattle.condition_listing.specs.Words.{kind_words, class_words, condition_words}

appended : (o a b c e number kind class : List ℕ) → a ≡ o ++ number → b ≡ a ++ kind → c ≡ b ++ class → e ≡ c ++ 10 ∷ [] → e ≡ o ++ ((number ++ (kind ++ class)) ++ 10 ∷ [])
appended o a b c e number kind class is_a is_b is_c is_e = rw (is_e, is_c, is_b, is_a) (simp append_assoc)

pub whole_line : (P : Parts) (i : ℕ) (kind : CondKind) (class : Class) (o a b c e : List ℕ) → a ≡ o ++ decimal i → b ≡ a ++ spaced (kind_words P kind) → c ≡ b ++ spaced (class_words class) → e ≡ c ++ 10 ∷ []
    → e ≡ o ++ line_text (condition_words P i kind class)
whole_line P i kind class o a b c e is_a is_b is_c is_e =
    appended o a b c e (decimal i) (spaced (kind_words P kind)) (spaced (class_words class)) is_a is_b is_c is_e
    ∙ ap (λ t. o ++ ((decimal i ++ t) ++ 10 ∷ [])) (sym (flat_map-append (λ w. 32 ∷ w) (kind_words P kind) (class_words class)))
