use Rattle.std.proofs.Common.{◌≡◌, ◌∙◌, ◌<◌, true, [], ap, length, arith}
use Rattle.std.specs.List.{list_all}
use Rattle.std.proofs.lemmas.List.Sums.{AllPass-from_list_all}
use Rattle.clause_log.specs.Literals.{is_clause, is_within}
use Rattle.clause_search.specs.Names.{named_clause}
use Rattle.clause_search.proofs.NameLaws.{small_fits}
use Rattle.clause_search.proofs.names.small_clauses.Goals as goal

pub push-requires : goal.push-requires
push-requires c =
    let atoms = c.args.clauses.now.atoms in
    let cs = c.args.clauses.now.clauses in
    let names = c.args.names.now in
    let inside : c.clauses.at < length cs = omega (arith, c.len-count.ensures, c.clauses-test.true) in
    let wide : is_clause atoms c.clause.result.now ≡ true = ap (is_clause atoms) c.clause.ensures ∙ AllPass-from_list_all (is_clause atoms) cs c.atoms.ensures.clauses c.clauses.at [] inside in
    small_fits atoms c.clauses.found.atoms names c.deref.result.now c.clause.result.now c.requires c.clauses.invariant.1 (ap (list_all (is_within (length names))) c.deref.ensures.value ∙ c.in_ok-literals.ensures.within)
    (ap (named_clause names) c.deref.ensures.value ∙ c.in_ok-literals.ensures.named) wide
