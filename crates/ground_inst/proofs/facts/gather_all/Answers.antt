use Rattle.std.proofs.lemmas.Result.{on_ok_weaker}
use Rattle.fol_forms.specs.Forms.{form_of}
use Rattle.decision_laws.specs.Vocabulary.{uses}
use Rattle.ground_inst.proofs.FactSteps.{gathered_all}
use Rattle.ground_inst.proofs.facts.gather_all.Goals as goal

pub returns : goal.returns
returns c =
    on_ok_weaker c.gather-2.result
    (gathered_all (uses (form_of c.args.sentence.now)) c.args.parts.now c.args.facts.now c.gather_declared.new.facts c.gather.new.facts c.gather-2.new.facts c.in_ok-gather_declared.ensures c.in_ok-gather.ensures)
    c.gather-2.ensures
