use Rattle.std.proofs.Common.{ℕ, subst}
use Rattle.file_loads.specs.Status.{code_of}
use Rattle.file_loads.proofs.Explaining.{if_ok}
use Rattle.vericon_app.specs.Make.{IsProgramLines, is_program, is_no_program}
use Rattle.vericon_app.proofs.make.lines_of.Goals as goal

pub returns-in-Ok : goal.returns-in-Ok
returns-in-Ok c = if_ok c.program_lines.result _ _ (λ outcome lines. is_program c.in-Ok.program c.in-Ok.ensures lines) c.program_lines.ensures

pub returns-in-Err-At : goal.returns-in-Err-At
returns-in-Err-At c =
    if_ok c.refused_lines.result _ _ (λ outcome says. is_no_program c.in-Err-At.at c.in-Err-At.why (rw c.in-Err-At.field-0-is at c.in-Err-At.ensures) says.0 says.1) c.refused_lines.ensures
