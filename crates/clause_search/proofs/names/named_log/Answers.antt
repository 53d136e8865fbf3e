use Rattle.std.proofs.Common.{◌≡◌, ◌∙◌, ◌<◌, true, get_or, length, arith}
use Rattle.std.proofs.lemmas.List.Sums.{AllPass-from_list_all}
use Rattle.clause_log.specs.Refutations.{no_step}
use Rattle.clause_log.specs.Limits.{is_step}
use Rattle.clause_search.proofs.NameLaws.{named_distinct}
use Rattle.clause_search.proofs.names.named_log.Goals as goal

pub push-requires : goal.push-requires
push-requires c =
    let inside : c.steps.at < length c.args.log.now = omega (arith, c.len-count.ensures, c.steps-test.true) in
    let fits : is_step (length c.args.names.now) (get_or c.args.log.now c.steps.at no_step) ≡ true = AllPass-from_list_all (is_step (length c.args.names.now)) c.args.log.now c.requires.within c.steps.at no_step inside in
    named_distinct c.args.most c.args.names.now (get_or c.args.log.now c.steps.at no_step) c.literals.result.now c.deref.result.now c.requires.names fits c.literals.ensures.value (c.deref.ensures.value ∙ c.in_ok-literals.ensures)
