use Rattle.std.proofs.Common.{◌≡◌, List, ℕ, ◌∙◌, subst}
use Rattle.file_loads.specs.Status.{code_of}
use Rattle.file_loads.proofs.Explaining.{if_ok}
use Rattle.file_loads.proofs.Writings.{writing_so}
use Rattle.made_program.specs.Made.{made_text}
use Rattle.vericon_app.specs.Make.{MadeOutput}
use Rattle.vericon_app.proofs.make.make.Goals as goal

pub returns-clause-output : goal.returns-clause-output
returns-clause-output g c =
    let count = c.args.count in
    let name = c.args.name.now in
    let made = c.in_ok-outcome.outcome in
    let text = made_text count in
    if_ok c.write_before.result _ _ (λ outcome out. writing_so _ name _ text made (MadeOutput count text name) _ _ (c.deref-2.ensures.value ∙ c.in_ok-text.ensures)
    (subst (λ (bytes : List ℕ). MadeOutput count bytes name made.text.items (code_of made.status)) (c.deref.ensures.value ∙ c.in_ok-text.ensures) c.in_ok-outcome.ensures) out) c.write_before.ensures.output
