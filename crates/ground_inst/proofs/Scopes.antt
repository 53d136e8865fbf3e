-- The constants of variables, the innermost first.
use Rattle.std.proofs.Common.{◌≡◌, ℕ, ◌==◌, true, false, List, [], ◌∷◌, ◌++◌, length, map, cond, ap, sym, ◌∙◌, arith}
use Rattle.std.proofs.lemmas.List.{reverse-append}
use Rattle.csdn_core.specs.declared.terms.Sort.{Sort}
use Rattle.decision_laws.specs.Copies.{nothing}
use Rattle.decision_laws.specs.Vocabulary.{find_or}
use Rattle.ground_inst.specs.declared.places.Binding.{Binding}
use Rattle.ground_inst.specs.Walk.{entry, scope}

pub scope_more : (bs : List Binding) (b : Binding) → scope (bs ++ b ∷ []) ≡ entry b ∷ scope bs
scope_more bs b = ap (map entry) (reverse-append bs (b ∷ []))

-- what a variable stands for, where the innermost binding is taken away
abbrev pub stands : List Binding → ℕ → Sort × ℕ
stands bs v = find_or nothing (scope bs) v

stands_more : (bs more : List Binding) (b : Binding) (v : ℕ) → bs ≡ more ++ b ∷ [] → stands bs v ≡ cond (v == b.var.0) (b.sort, b.place) (stands more v)
stands_more bs more b v e = ap (λ z. find_or nothing z v) (ap scope e ∙ scope_more more b)

pub stands_here : (bs more : List Binding) (b : Binding) (v : ℕ) (whole : Sort × ℕ) → bs ≡ more ++ b ∷ [] → (v == b.var.0) ≡ true → stands bs v ≡ whole → (b.sort, b.place) ≡ whole
stands_here bs more b v whole e h i = ap (λ t. cond t (b.sort, b.place) (stands more v)) (sym h) ∙ sym (stands_more bs more b v e) ∙ i

pub stands_there : (bs more : List Binding) (b : Binding) (v : ℕ) (whole : Sort × ℕ) → bs ≡ more ++ b ∷ [] → (v == b.var.0) ≡ false → stands bs v ≡ whole → stands more v ≡ whole
stands_there bs more b v whole e h i = ap (λ t. cond t (b.sort, b.place) (stands more v)) (sym h) ∙ sym (stands_more bs more b v e) ∙ i

pub stands_nowhere : (bs : List Binding) (v : ℕ) (whole : Sort × ℕ) → length bs ≡ 0 → stands bs v ≡ whole → nothing ≡ whole
stands_nowhere [] v whole e i = i
stands_nowhere (b ∷ bs) v whole e i = absurd (omega arith)
