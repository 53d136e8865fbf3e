-- Outcomes that the files explain.
use Rattle.std.specs.Prelude.{ℕ, ◌+◌, ◌≤◌, List, length, Option}
use Rattle.file_loads.specs.Views.{Change}
use Rattle.file_loads.specs.Answers.{Answer, File, MayAnswerAll}
use Rattle.file_loads.specs.Writes.{Write, MayWrite}

-- Of a relation of answers, a write, a text and a status, and of the files that a call reads, in their order: the text and the status go with some answers and some write that the files allow, and there was no read beside those that gave the answers.
pub record IsExplained (change : Change) (files : List File) (output : List Answer → Option Write → List ℕ → ℕ → Type 0) (text : List ℕ) (status : ℕ) : Type 0 where
  pub answers : List Answer
  pub write : Option Write
  pub answered : MayAnswerAll change files answers
  pub counted : change.after.read_calls ≤ change.before.read_calls + length answers
  pub written : MayWrite change write
  pub said : output answers write text status
