-- States of finitely many tuples.
use Rattle.std.specs.Prelude.{◌≡◌, ℕ, ◌&&◌, List}
use Rattle.std.specs.List.{list_any}
use Rattle.csdn_core.specs.declared.terms.Pred.{Pred}
use Rattle.csdn_core.specs.Network.{State, same_cells, same_pred}

-- a tuple and the relation that it is in
pub record Tuple : Type 0 where
  pub rel : Pred
  pub cells : List ℕ

-- the state in which exactly the tuples of a list are
abbrev pub state_of_tuples : List Tuple → State
state_of_tuples tuples r cells = list_any (λ t. same_pred r t.rel && same_cells cells t.cells) tuples

-- finitely many tuples are in the relations: those of a list
pub record IsFinite (x : State) : Type 0 where
  pub tuples : List Tuple
  pub same : (r : Pred) (cells : List ℕ) → x r cells ≡ state_of_tuples tuples r cells
