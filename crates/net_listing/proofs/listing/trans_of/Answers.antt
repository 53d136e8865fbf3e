use Rattle.std.proofs.Common.{◌∙◌, ◌≤◌, ap}
use Rattle.std.proofs.lemmas.List.Elements.{All-same}
use Rattle.csdn_core.specs.declared.terms.FormulaPlace.TheVariants.{Trans}
use Rattle.csdn_core.specs.WellSorted.{signature}
use Rattle.csdn_core.specs.Depth.{depth}
use Rattle.net_structs.proofs.Depths.{all_shallow}
use Rattle.net_listing.proofs.listing.trans_of.Goals as goal

pub returns-clause-shallow : goal.returns-clause-shallow
returns-clause-shallow c =
    let P = c.args.program.now in
    All-same (λ v. depth v.formula ≤ 24) c.as_slice.result.now P.trans (c.as_slice.ensures ∙ ap (λ p. p.trans) c.parts.ensures.value) (all_shallow (signature P) Trans P.trans c.parts.ensures.well_sorted.trans)
