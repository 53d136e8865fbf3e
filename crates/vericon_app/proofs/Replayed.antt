-- What a replay is made from.
use Rattle.std.proofs.Common.{◌≡◌, List, ℕ, Option, sym, subst}
use Rattle.csdn_core.specs.declared.program.Parts.{Parts}
use Rattle.csdn_core.specs.Network.{Network, IsNetwork}
use Rattle.journal_text.specs.declared.note.Note.{Note}
use Rattle.net_facts.specs.Cases.{IsCase}
use Rattle.file_loads.specs.Views.{Change}
use Rattle.file_loads.specs.Answers.{Answer, File}
use Rattle.file_loads.specs.Writes.{Write}
use Rattle.file_loads.specs.Explained.{IsExplained}
use Rattle.file_loads.specs.Networks.{IsOpenNetwork}

-- what a text reads as has a network of the program
pub network_of_text : (P : Parts) (bytes : List ℕ) (N : Network) → (is : IsOpenNetwork P bytes N) → IsCase P is.case → IsNetwork P N
network_of_text P bytes N is case = subst (IsNetwork P) (sym is.network) case.network

-- what is explained of notes is explained of the same notes
pub of_same_notes : (change : Change) (files : List File) (said : List Note → List Answer → Option Write → List ℕ → ℕ → Type 0) (notes others : List Note) (text : List ℕ) (status : ℕ)
    → notes ≡ others → IsExplained change files (said notes) text status → IsExplained change files (said others) text status
of_same_notes change files said notes others text status same out = subst (λ (ns : List Note). IsExplained change files (said ns) text status) same out
