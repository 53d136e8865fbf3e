use Rattle.std.proofs.Common.{◌∙◌, ◌++◌, ◌-◌, ◌+◌, ◌∷◌, ◌==◌, ℕ, Bool, List, [], ap, not, cond}
use Rattle.std.specs.Prelude.{filter}
use Rattle.std.specs.List.{list_any}
use Rattle.decision_laws.specs.Vocabulary.{places_from}
use Rattle.class_networks.proofs.Ranges.{next_step}
use Rattle.class_networks.proofs.ports.free_numbers.Goals as goal

pub loop-before-preserved : goal.loop-before-preserved
loop-before-preserved c =
    let i = c.loop-before.before in
    let n = c.in_ok-count.count in
    let free_by : List ℕ → ℕ → Bool = λ ks k. not (list_any (λ m. k == m) ks) in
    let test = free_by c.args.judgement.now.parts.now.numerals in
    ap (λ xs. xs ++ filter test (places_from (i + 1 + 1) (n - (i + 1)))) c.in_ok-push_free.ensures
    ∙ ap (λ ks. (c.loop-before.free ++ cond (free_by ks (i + 1)) ((i + 1) ∷ []) []) ++ filter test (places_from (i + 1 + 1) (n - (i + 1)))) c.as_slice-numerals.ensures
    ∙ next_step test c.loop-before.free i n c.loop-before-test.true ∙ c.loop-before.invariant
