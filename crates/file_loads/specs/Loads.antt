-- Calls that need the program, the case, the notes or the bytes of a file.
use Rattle.std.specs.Prelude.{◌≡◌, ℕ, List, Option, Ok, Err}
use Rattle.text_lines.specs.Machine.{reading}
use Rattle.csdn_core.specs.declared.program.Parts.{Parts}
use Rattle.csdn_tree.specs.declared.syntax.RawProgram.{RawProgram}
use Rattle.net_structs.specs.declared.case.Case.{Case}
use Rattle.net_text.specs.declared.refusal.NetWhy.{NetWhy}
use Rattle.net_text.specs.NetText.{net_format}
use Rattle.net_listing.specs.Listings.{network_refusal_text}
use Rattle.journal_text.specs.declared.note.Note.{Note}
use Rattle.journal_text.specs.JournalText.{journal_format}
use Rattle.csdn_read.specs.declared.refusal.ProgramWhy.{ProgramWhy}
use Rattle.file_loads.specs.declared.read.FileKind.{FileKind}
use Rattle.file_loads.specs.declared.read.FileKind.TheVariants.{Program, Network, Journal}
use Rattle.csdn_read.specs.Programs.{Spells, Keeps, IsNoProgram}
use Rattle.file_loads.specs.Lines.{refused_text, refused_line_text}
use Rattle.file_loads.specs.Answers.{Answer}
use Rattle.file_loads.specs.Writes.{Write}
use Rattle.file_loads.specs.Outputs.{With}

-- ---- what bytes are, and the line where they are refused

-- the bytes spell no program
abbrev pub IsNotProgram : List ℕ → List ℕ → List ℕ → Type 0
IsNotProgram name bytes text = (at : ℕ) × (why : ProgramWhy) × IsNoProgram bytes at why × (text ≡ refused_text name at why)

-- the bytes are the case
abbrev pub IsCase : Parts → List ℕ → Case → Type 0
IsCase P bytes kase = reading (net_format P) bytes ≡ Ok kase

-- they have a bad line
abbrev pub IsNotCase : Parts → List ℕ → List ℕ → List ℕ → Type 0
IsNotCase P name bytes text = (line : ℕ) × (why : NetWhy) × (reading (net_format P) bytes ≡ Err (record { number = line; reason = why })) × (text ≡ network_refusal_text name line why)

-- the bytes are the notes
abbrev pub AreNotes : List ℕ → List Note → Type 0
AreNotes bytes notes = reading journal_format bytes ≡ Ok notes

-- they have a bad line
abbrev pub AreNotNotes : List ℕ → List ℕ → List ℕ → Type 0
AreNotNotes name bytes text = (line : ℕ) × (reading journal_format bytes ≡ Err (record { number = line; reason = tt })) × (text ≡ refused_line_text name line)

-- any bytes are bytes
abbrev pub AreBytes : List ℕ → List ℕ → Type 0
AreBytes bytes found = found ≡ bytes

abbrev pub AreNotBytes : List ℕ → List ℕ → Type 0
AreNotBytes bytes text = ⊥

-- ---- what follows from a file

abbrev pub WithProgram : List ℕ → (Parts → List Answer → Option Write → List ℕ → ℕ → Type 0) → List Answer → Option Write → List ℕ → ℕ → Type 0
WithProgram name next = With Program name Spells (IsNotProgram name) next

-- .. from the tree of its program
abbrev pub WithTree : List ℕ → (RawProgram → List Answer → Option Write → List ℕ → ℕ → Type 0) → List Answer → Option Write → List ℕ → ℕ → Type 0
WithTree name next = With Program name Keeps (IsNotProgram name) next

abbrev pub WithCase : Parts → List ℕ → (Case → List Answer → Option Write → List ℕ → ℕ → Type 0) → List Answer → Option Write → List ℕ → ℕ → Type 0
WithCase P name next = With Network name (IsCase P) (IsNotCase P name) next

abbrev pub WithNotes : List ℕ → (List Note → List Answer → Option Write → List ℕ → ℕ → Type 0) → List Answer → Option Write → List ℕ → ℕ → Type 0
WithNotes name next = With Journal name AreNotes (AreNotNotes name) next

abbrev pub WithBytes : FileKind → List ℕ → (List ℕ → List Answer → Option Write → List ℕ → ℕ → Type 0) → List Answer → Option Write → List ℕ → ℕ → Type 0
WithBytes kind name next = With kind name AreBytes AreNotBytes next
