-- What a yes leaves in a log.
use Rattle.std.specs.Prelude.{ℕ, ◌≤◌, List}
use Rattle.csdn_core.specs.declared.program.Parts.{Parts}
use Rattle.answer_listing.specs.Logs.{IsLogOf}
use Rattle.vericon_edge.specs.FileAnswers.{NowHolds}
use Rattle.vericon_edge.specs.Told.{Told, MayHold}
use Rattle.csdn_read.specs.Programs.{Spells}

-- Of what was told of the program's file, and of the log's before and after: the program's bytes spell a program, and the log's file now holds a log of it, at a level of at most `most`.
pub record IsLogged (most : ℕ) (program before after : Told) : Type 0 where
  pub bytes : List ℕ
  pub parts : Parts
  pub level : ℕ
  pub text : List ℕ
  pub told_bytes : MayHold program bytes
  pub spells : Spells bytes parts
  pub within : level ≤ most
  pub log_of : IsLogOf parts level text
  pub holds : NowHolds before after text
