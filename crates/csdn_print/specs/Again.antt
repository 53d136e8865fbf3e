-- What is printed reads as what it prints.
use Rattle.std.specs.Prelude.{◌≡◌, ℕ, List}
use Rattle.csdn_tree.specs.declared.syntax.RawProgram.{RawProgram}
use Rattle.csdn_text.specs.Reading.{Reads}
use Rattle.csdn_print.specs.Placeless.{bare_program}

-- the text reads as a tree that is this one, places aside
pub record ReadsAgain (text : List ℕ) (raw : RawProgram) : Type 0 where
  pub tree : RawProgram
  pub reads : Reads text tree
  pub same : bare_program tree ≡ bare_program raw
