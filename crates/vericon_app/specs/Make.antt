-- The output of `make`.
use Rattle.std.specs.Prelude.{◌≡◌, ℕ, List, [], ◌++◌, length, codes, decimal, Option, None}
use Rattle.csdn_core.specs.declared.program.Parts.{Parts}
use Rattle.csdn_read.specs.declared.refusal.ProgramWhy.{ProgramWhy}
use Rattle.csdn_read.specs.Programs.{Spells, IsNoProgram}
use Rattle.csdn_conditions.specs.Classes.{usual_size}
use Rattle.csdn_conditions.specs.Kinds.{kinds}
use Rattle.made_program.specs.Made.{made_text}
use Rattle.file_loads.specs.Lines.{refused_text}
use Rattle.file_loads.specs.Answers.{Answer}
use Rattle.file_loads.specs.Writes.{Write}
use Rattle.file_loads.specs.Outputs.{Writing}
use Rattle.vericon_app.specs.Check.{ProgramOutput}

-- `made N bytes B`
abbrev pub made_line : ℕ → ℕ → List ℕ
made_line count bytes = codes "made " ++ decimal count ++ codes " bytes " ++ decimal bytes ++ codes "\n"

-- `conditions C`
abbrev pub conditions_line : ℕ → List ℕ
conditions_line count = codes "conditions " ++ decimal count ++ codes "\n"

-- how long a text is, how many conditions of level 0 the program that it spells has, and what `check` says of that program
pub record IsProgramLines (count bytes : ℕ) (P : Parts) (text : List ℕ) (status : ℕ) : Type 0 where
  pub said : List ℕ
  pub checked : ProgramOutput usual_size 0 None P [] None said status
  pub text_is : text ≡ made_line count bytes ++ conditions_line (length (kinds P 0)) ++ said

-- What is said of a text of this count, once it stands in the file of this name: the lines of the program that it spells; or its length, and, as `check` says it, that it spells none.
pub data MadeOutput (count : ℕ) (bytes name text : List ℕ) (status : ℕ) : Type 0 where
  is_program : (P : Parts) → Spells bytes P → IsProgramLines count (length bytes) P text status → MadeOutput count bytes name text status
  is_no_program : (at : ℕ) (why : ProgramWhy) → IsNoProgram bytes at why → text ≡ made_line count (length bytes) ++ refused_text name at why → status ≡ 3 → MadeOutput count bytes name text status

-- `make N FILE`: the text is written first, and nothing is said where it wasn't
abbrev pub MakeOutput : ℕ → List ℕ → List Answer → Option Write → List ℕ → ℕ → Type 0
MakeOutput count name = Writing name (made_text count) (MadeOutput count (made_text count) name)
