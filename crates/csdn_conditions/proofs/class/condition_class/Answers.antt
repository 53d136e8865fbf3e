use Rattle.std.proofs.Common.{◌∙◌, inl, ap, subst}
use Rattle.fol_forms.specs.declared.refusal.FormRefusal.{FormRefusal}
use Rattle.std.specs.Prelude.{Err}
use Rattle.csdn_conditions.specs.Answers.{Answers}
use Rattle.csdn_conditions.specs.Classes.{IsClass}
use Rattle.csdn_conditions.specs.Conditions.{sentence}
use Rattle.csdn_conditions.proofs.class.condition_class.Goals as goal

pub returns-in_ok-sentence-in-Ok : goal.returns-in_ok-sentence-in-Ok
returns-in_ok-sentence-in-Ok c =
    let found = c.in-Ok.ensures in
    record {
      condition = found.condition;
      there = found.there;
      holds = subst (λ z. IsClass c.args.program.now c.args.size z c.class_of.result) (c.in_ok-sentence-in-Ok.ensures ∙ ap sentence found.holds.0) c.class_of.ensures;
    }

pub returns-in-Err-Large : goal.returns-in-Err-Large
returns-in-Err-Large c =
    let found = c.in-Err-Large.ensures in
    record {
      condition = found.condition;
      there = found.there;
      holds = inl (subst (λ (e : FormRefusal). Answers found.condition (Err e)) c.in-Err-Large.field-0-is found.holds);
    }
