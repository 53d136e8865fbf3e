-- What bytes are as a program.
use Rattle.std.specs.Prelude.{◌≡◌, ℕ, List, Result, Ok, Err}
use Rattle.csdn_core.specs.declared.program.Parts.{Parts}
use Rattle.csdn_tree.specs.declared.syntax.RawProgram.{RawProgram}
use Rattle.csdn_text.specs.declared.TextRefusal.{TextRefusal}
use Rattle.csdn_text.specs.Reading.{Reads, IsRefusedText}
use Rattle.csdn_types.specs.declared.refusal.SortRefusal.{SortRefusal}
use Rattle.csdn_types.specs.Order.{IsLeast}
use Rattle.csdn_types.specs.Resolved.{Types, broken_rules}
use Rattle.csdn_read.specs.declared.refusal.ProgramWhy.{ProgramWhy}
use Rattle.csdn_read.specs.declared.refusal.ProgramRefusal.{ProgramRefusal}
use Rattle.csdn_read.specs.declared.refusal.ProgramRefusal.TheVariants.{Memory, At}
use Rattle.csdn_read.specs.Refusals.{told_text, told_sorts}

-- The bytes spell the program: they read as a tree, and the tree keeps the rules on names and sorts.
pub record Spells (bytes : List ℕ) (P : Parts) : Type 0 where
  pub tree : RawProgram
  pub reads : Reads bytes tree
  pub types : Types tree P

-- The bytes read as a tree that keeps the rules on names and sorts.
pub record Keeps (bytes : List ℕ) (tree : RawProgram) : Type 0 where
  pub reads : Reads bytes tree
  pub program : Parts
  pub types : Types tree program

-- The bytes spell no program: they are refused at this place, for this reason.
pub data IsNoProgram (bytes : List ℕ) (at : ℕ) (why : ProgramWhy) : Type 0 where
  -- they are no text of the grammar
  has_no_tree : (refusal : TextRefusal) → IsRefusedText bytes refusal → At at why ≡ told_text refusal → IsNoProgram bytes at why
  -- the tree breaks a rule, and this is the first
  breaks_a_rule : (tree : RawProgram) (refusal : SortRefusal) → Reads bytes tree → IsLeast (broken_rules tree) refusal → At at why ≡ told_sorts refusal → IsNoProgram bytes at why

-- what bytes are: a program that they spell, or none, for a reason at a place
abbrev pub IsProgramAnswer : List ℕ → Result Parts ProgramRefusal → Type 0
IsProgramAnswer bytes (Ok P) = Spells bytes P
IsProgramAnswer bytes (Err Memory) = ⊥
IsProgramAnswer bytes (Err (At at why)) = IsNoProgram bytes at why

-- Bytes have one answer: one program that they spell, or one reason at one place for which they spell none, and not both.
pub record HasOneAnswer (bytes : List ℕ) : Type 0 where
  pub answer : Result Parts ProgramRefusal
  pub is : IsProgramAnswer bytes answer
  pub only : (other : Result Parts ProgramRefusal) → IsProgramAnswer bytes other → other ≡ answer

-- why there is no program: want of memory, or the bytes are none
abbrev pub IsProgramRefusal : List ℕ → ProgramRefusal → Type 0
IsProgramRefusal bytes Memory = Unit {0}
IsProgramRefusal bytes (At at why) = IsNoProgram bytes at why
