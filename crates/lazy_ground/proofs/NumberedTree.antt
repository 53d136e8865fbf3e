-- A sentence that is numbered anew has the sentence's copies, and binds each variable once.
use Rattle.std.proofs.Common.{◌≡◌, ◌∙◌, true, [], sym, ap₂, subst}
use mathlib.Core.Path.{fun_ext}
use Rattle.csdn_core.specs.declared.program.Parts.{Parts}
use Rattle.csdn_core.specs.declared.syntax.Formula.{Formula}
use Rattle.fol_forms.specs.Constants.{counts}
use Rattle.fol_forms.specs.Counts.{count_of}
use Rattle.fol_forms.specs.Forms.{Form, form_of}
use Rattle.decision_laws.specs.Copies.{known}
use Rattle.decision_laws.specs.Laws.{IsSentence, sentence_copies, words}
use Rattle.decision_laws.specs.Simplified.{simplified}
use Rattle.decision_laws.proofs.Fits.{fits}
use Rattle.decision_laws.proofs.Fitting.{is_closed}
use Rattle.decision_laws.proofs.Simplify.{fits-simplified}
use Rattle.form_trees.specs.Numbered.{numbered}
use Rattle.form_trees.specs.Plain.{IsRectified}
use Rattle.form_trees.proofs.NumberedLaws.{copies_numbered, rectified_numbered}
use Rattle.ground_inst.specs.Copies.{copies_over}
use Rattle.ground_inst.specs.Facts.{AreFactsOf}
use Rattle.ground_inst.specs.declared.facts.Facts.{Facts}
use Rattle.ground_inst.proofs.Wholes.{copies_same}

module _ (P : Parts) (F : Formula) (is : IsSentence P F) (f : Form) (form : f ≡ numbered (simplified (form_of F))) where
  simple_fits : fits (words P F) [] (simplified (form_of F)) ≡ true
  simple_fits = fits-simplified (words P F) (form_of F) [] (is_closed P F is).closed

  pub numbered_copies : (facts : Facts) → AreFactsOf P F facts → copies_over P (count_of facts.counts) f ≡ sentence_copies P F
  numbered_copies facts are =
      ap₂ (λ n g. copies_over P n g) (fun_ext are.constants) form
      ∙ copies_same P (numbered (simplified (form_of F))) (form_of F) (counts P F) (numbered (simplified (form_of F))) [] (known (words P F))
      ∙ copies_numbered (words P F) (counts P F) (simplified (form_of F)) (known (words P F)) simple_fits

  pub numbered_rectified : IsRectified f
  numbered_rectified = subst IsRectified (sym form) (rectified_numbered (words P F) (simplified (form_of F)) simple_fits)
