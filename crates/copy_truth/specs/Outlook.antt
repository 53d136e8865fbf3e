-- What is seen of a matrix with open variables.
use Rattle.std.specs.Prelude.{◌≡◌}
use Rattle.fol_forms.specs.Forms.{Form}
use Rattle.decision_laws.specs.Vocabulary.{find_or}
use Rattle.decision_laws.specs.Copies.{Scope, nothing}
use Rattle.copy_truth.specs.declared.opened.TheConstants.{OPEN}
use Rattle.copy_truth.specs.declared.literals.Outlook.{Outlook}
use Rattle.copy_truth.specs.declared.literals.Outlook.TheVariants as outlook
use Rattle.copy_truth.specs.declared.opened.Variable.{Variable}
use Rattle.copy_truth.specs.declared.reading.Reading.{Reading}
use Rattle.copy_truth.specs.Early.{HoldsOutside, IsFalseThroughout, IsTrueThroughout}

-- a variable is open, and of its sort
abbrev pub IsOpenIn : Scope → Variable → Type 0
IsOpenIn env x = find_or nothing env x.var.0 ≡ (x.sort, OPEN)

abbrev pub IsOutlook : Reading → Form → Scope → Outlook → Type 0
IsOutlook r f env outlook.True = IsTrueThroughout r f env
IsOutlook r f env outlook.False = IsFalseThroughout r f env
IsOutlook r f env (outlook.Open x c) = IsOpenIn env x × HoldsOutside r f env x c
