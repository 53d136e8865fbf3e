-- What `resolve` answers.
use Rattle.std.specs.Prelude.{◌≡◌, ◌⊎◌, ℕ, List, [], None}
use Rattle.csdn_core.specs.declared.program.Parts.{Parts}
use Rattle.csdn_types.specs.declared.refusal.SortRefusal.{SortRefusal}
use Rattle.csdn_types.specs.declared.refusal.SortRefusal.TheVariants.{Memory}
use Rattle.csdn_tree.specs.declared.syntax.RawProgram.{RawProgram}
use Rattle.csdn_types.specs.Programs.{ProgramDraft, items_faults, with_items}
use Rattle.csdn_types.specs.Numerals.{with_numerals}
use Rattle.csdn_tree.specs.Numerals.{items_numerals}
use Rattle.csdn_types.specs.Order.{IsLeast}

-- before the first item
abbrev pub nothing_declared : ProgramDraft
nothing_declared = record {
  scope = record { relations = []; constants = []; variables = []; next = 0 };
  invariants = [];
  start = [];
  topology = [];
  safety = [];
  trans = [];
  handlers = [];
  timeout = None;
}

-- every rule that the program breaks, and where
abbrev pub broken_rules : RawProgram → List SortRefusal
broken_rules raw = items_faults nothing_declared raw.items

abbrev pub parts_of_draft : List ℕ → ProgramDraft → Parts
parts_of_draft numerals d = record {
  relations = d.scope.relations;
  constants = d.scope.constants;
  start = d.start;
  topology = d.topology;
  safety = d.safety;
  trans = d.trans;
  handlers = d.handlers;
  numerals = numerals;
  timeout = d.timeout;
}

-- the parts in which each name stands for its declaration, and each bound variable has a number of its own
abbrev pub parts_of : RawProgram → Parts
parts_of raw = parts_of_draft (with_numerals [] (items_numerals raw.items)) (with_items nothing_declared raw.items)

-- the tree keeps the rules, and these are its parts
pub record Types (raw : RawProgram) (parts : Parts) : Type 0 where
  pub keeps : broken_rules raw ≡ []
  pub is : parts ≡ parts_of raw

-- the least of the broken rules, or want of memory
pub record IsRefusal (raw : RawProgram) (e : SortRefusal) : Type 0 where
  pub is : (e ≡ Memory) ⊎ IsLeast (broken_rules raw) e
