-- One invariant more is listed.
use Rattle.std.proofs.Common.{◌≡◌, ◌∙◌, ap, ap₂, ℕ, ◌-◌, ◌≤◌, List, [], ◌∷◌, ◌++◌, length, take, drop, get_or, arith, append_assoc}
use Rattle.std.specs.List.{flat_map, All}
use Rattle.std.proofs.lemmas.List.Elements.{All-take, All-drop}
use Rattle.general_facts.proofs.Lists.{rest_is}
use Rattle.text_lines.specs.Printed.{line_text}
use Rattle.csdn_core.specs.declared.program.Invariant.{Invariant}
use Rattle.csdn_core.specs.Truth.{Structure}
use Rattle.net_listing.specs.Listings.{truth_lines, truth_words}

pub one_more : (kind : List ℕ) (M : Structure) (rest : List Invariant) (v : Invariant) (out new whole : List ℕ) → 1 ≤ length rest → v ≡ get_or rest 0 v → new ≡ out ++ line_text (truth_words kind M v)
    → out ++ flat_map line_text (truth_lines kind M rest) ≡ whole → new ++ flat_map line_text (truth_lines kind M (take (length rest - 1) (drop 1 rest))) ≡ whole
one_more kind M [] v out new whole some is made h = absurd (omega (arith, some))
one_more kind M (x ∷ xs) v out new whole some is made h =
    ap₂ (λ t vs. t ++ flat_map line_text (truth_lines kind M vs)) (made ∙ ap (λ w. out ++ line_text (truth_words kind M w)) is) (rest_is x xs)
    ∙ append_assoc out (line_text (truth_words kind M x)) (flat_map line_text (truth_lines kind M xs)) ∙ h

-- what holds of all holds of those that are left
pub all_left : (P : Invariant → Type 0) (rest : List Invariant) → All P rest → All P (take (length rest - 1) (drop 1 rest))
all_left P rest all = All-take P (length rest - 1) (drop 1 rest) (All-drop P 1 rest all)
