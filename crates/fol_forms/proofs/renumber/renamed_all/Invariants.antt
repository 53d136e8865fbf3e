use Rattle.std.proofs.Common.{◌≡◌, map, take}
use Rattle.fol_forms.specs.Names.{new_numbers}
use Rattle.fol_forms.specs.Renumber.{renamed}
use Rattle.fol_forms.proofs.renumber.renamed_all.Given as goal

abbrev pub invariant-loop-term : goal.invariant-loop-term
invariant-loop-term l = l.all ≡ map (renamed (new_numbers l.scope)) (take l.term-index l.terms)
