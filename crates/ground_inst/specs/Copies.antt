-- The copies of a form over so many constants of each sort, by the names of a program.
use Rattle.std.specs.Prelude.{ℕ, []}
use Rattle.csdn_core.specs.declared.terms.Sort.{Sort}
use Rattle.csdn_core.specs.declared.program.Parts.{Parts}
use Rattle.fol_forms.specs.Forms.{Form}
use Rattle.decision_laws.specs.Vocabulary.{vocabulary}
use Rattle.decision_laws.specs.Copies.{Copy, copies, known}

abbrev pub copies_over : Parts → (Sort → ℕ) → Form → Copy
copies_over P n f = copies (vocabulary P f) n f [] (known (vocabulary P f))
