use Rattle.std.proofs.Common.{◌∙◌, ap, sym}
use Rattle.clause_log.specs.Literals.{is_clause}
use Rattle.log_text.proofs.Inside.{clause_within}
use Rattle.log_text.proofs.read.with_clause.Goals as goal

pub push-requires : goal.push-requires
push-requires c =
    ap (is_clause c.args.block.clauses.atoms) c.deref.ensures.value
    ∙ ap (λ n. is_clause n c.in_ok-literals.literals.items) (sym c.atoms.ensures.value) ∙ clause_within c.atoms.result _ c.in_ok-literals.literals.items c.in_ok-literals.ensures
