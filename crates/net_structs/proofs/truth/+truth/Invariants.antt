use Rattle.std.proofs.Common.{◌≡◌, ◌+◌, ◌*◌, take, true, false}
use Rattle.std.specs.List.{list_any, list_all}
use Rattle.csdn_core.specs.Nodes.{nodes}
use Rattle.csdn_core.specs.Truth.{truth as truth_of, with_var}
use Rattle.net_structs.specs.Binds.{assignment}
use Rattle.net_structs.specs.Views.{world}
use Rattle.net_structs.proofs.truth.+truth.Given as goal

abbrev pub invariant-is_true_of_all-loop-element : goal.invariant-is_true_of_all-loop-element
invariant-is_true_of_all-loop-element l =
    (l.env ≡ l.fn.env) × (list_all (λ m. truth_of (world l.view) l.formula (with_var (assignment l.fn.env.pairs) l.var m)) (take l.element-index l.elements) ≡ true)

abbrev pub invariant-is_true_of_some-loop-element : goal.invariant-is_true_of_some-loop-element
invariant-is_true_of_some-loop-element l =
    (l.env ≡ l.fn.env) × (list_any (λ m. truth_of (world l.view) l.formula (with_var (assignment l.fn.env.pairs) l.var m)) (take l.element-index l.elements) ≡ false)

abbrev pub decreases-is_true : goal.decreases-is_true
decreases-is_true l = 3 * nodes l.formula.now

abbrev pub decreases-is_true_of : goal.decreases-is_true_of
decreases-is_true_of l = 3 * nodes l.formula.now + 1

abbrev pub decreases-is_true_of_all : goal.decreases-is_true_of_all
decreases-is_true_of_all l = 3 * nodes l.formula.now + 2

abbrev pub decreases-is_true_of_some : goal.decreases-is_true_of_some
decreases-is_true_of_some l = 3 * nodes l.formula.now + 2
