-- What the calls of files answer, and why.
use Rattle.std.specs.Prelude.{◌≡◌, ℕ, ◌≤◌, List, length, Vec, Result, Ok, Err}
use Rattle.std.specs.declared.alloc.Global.{Global}
use Rattle.vericon_edge.specs.declared.files.FileFault.{FileFault}
use Rattle.vericon_edge.specs.declared.files.FileFault.TheVariants.{Memory, Missing, TooLong, Failed}
use Rattle.vericon_edge.specs.Counts.{Rose}
use Rattle.vericon_edge.specs.Told.{Told, untold, absent, holds, MayHold, MayBeMissing, MayBeLonger}

-- where the name is told, the count of faults is as before
abbrev pub IsSteadyWhereTold : Told → ℕ → ℕ → Type 0
IsSteadyWhereTold untold before now = Unit {0}
IsSteadyWhereTold absent before now = now ≡ before
IsSteadyWhereTold (holds held) before now = now ≡ before

-- Of a read: what was told of the name, how many bytes were asked for at most, and the count of read faults before and after.
abbrev pub ReadAnswers : Told → ℕ → ℕ → ℕ → Result (Vec ℕ Global) FileFault → Type 0
ReadAnswers told most before now (Ok bytes) = MayHold told bytes.items × (length bytes.items ≤ most) × (now ≡ before)
ReadAnswers told most before now (Err Memory) = now ≡ before
ReadAnswers told most before now (Err Missing) = MayBeMissing told before now × IsSteadyWhereTold told before now
ReadAnswers told most before now (Err TooLong) = MayBeLonger told most × (now ≡ before)
ReadAnswers told most before now (Err Failed) = Rose before now

-- what is told of a name after these bytes were written to it: that it holds them, or, where nothing was told, still nothing
abbrev pub NowHolds : Told → Told → List ℕ → Type 0
NowHolds untold now bytes = MayHold now bytes
NowHolds absent now bytes = now ≡ holds bytes
NowHolds (holds held) now bytes = now ≡ holds bytes

-- Of a write: what was told of the name before, what is after, the bytes, and the count of write faults before and after.
abbrev pub WriteAnswers : Told → Told → List ℕ → ℕ → ℕ → Result Unit FileFault → Type 0
WriteAnswers old new bytes before now (Ok done) = NowHolds old new bytes × (now ≡ before)
WriteAnswers old new bytes before now (Err Memory) = (new ≡ old) × (now ≡ before)
WriteAnswers old new bytes before now (Err Missing) = ⊥
WriteAnswers old new bytes before now (Err TooLong) = ⊥
WriteAnswers old new bytes before now (Err Failed) = (new ≡ untold) × Rose before now
