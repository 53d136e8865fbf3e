-- A program that no event changes.
--
--   rel q(); safety never: not q();
use Rattle.std.specs.Prelude.{[], ◌∷◌, None, false}
use Rattle.csdn_core.specs.declared.terms.Pred.TheVariants.{Stored}
use Rattle.csdn_core.specs.declared.program.Parts.{Parts}
use Rattle.csdn_core.specs.declared.syntax.Formula.{Formula}
use Rattle.csdn_core.specs.declared.syntax.Formula.TheVariants.{Atom}
use Rattle.csdn_core.specs.Tree.{negation}

abbrev pub never : Formula
never = negation (Atom (Stored (record { 0 = 0 })) [])

abbrev pub quiet_program : Parts
quiet_program = record {
  relations = record { name = 113 ∷ []; sorts = []; fixed = false } ∷ [];
  constants = [];
  start = [];
  topology = [];
  safety = record { name = 110 ∷ 101 ∷ 118 ∷ 101 ∷ 114 ∷ []; formula = never } ∷ [];
  trans = [];
  handlers = [];
  numerals = [];
  timeout = None;
}
