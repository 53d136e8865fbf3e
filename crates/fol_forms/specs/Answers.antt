-- Answers of calls that make a form.
use Rattle.std.specs.Prelude.{Result, Ok, Err}
use Rattle.std.specs.declared.alloc.AllocError.{AllocError}
use Rattle.csdn_core.specs.declared.syntax.Formula.{Formula}
use Rattle.fol_forms.specs.declared.refusal.FormRefusal.{FormRefusal}
use Rattle.fol_forms.specs.declared.refusal.FormRefusal.TheVariants.{Memory}

-- the same, with want of memory as a refusal
abbrev pub widened : Result Formula AllocError → Result Formula FormRefusal
widened (Ok p) = Ok p
widened (Err e) = Err Memory
