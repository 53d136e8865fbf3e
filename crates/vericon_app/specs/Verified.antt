-- What a yes means.
use Rattle.std.specs.Prelude.{ℕ, ◌≤◌, List}
use Rattle.csdn_core.specs.declared.program.Parts.{Parts}
use Rattle.csdn_core.specs.Network.{Network}
use Rattle.csdn_core.specs.Holds.{IsTopology, IsInductive, Holds}
use Rattle.vericon_edge.specs.Told.{Told, MayHold}
use Rattle.csdn_read.specs.Programs.{Spells}

-- The file's bytes spell a program that is inductive at a level of at most `most`, and that holds each invariant in every network and every run. Some network meets its topology invariants.
pub record IsVerified (most : ℕ) (told : Told) : Type 0 where
  pub bytes : List ℕ
  pub told_bytes : MayHold told bytes
  pub program : Parts
  pub spells : Spells bytes program
  pub level : ℕ
  pub within : level ≤ most
  pub inductive : IsInductive level program
  pub holds : Holds program
  pub network : (N : Network) × IsTopology program N
