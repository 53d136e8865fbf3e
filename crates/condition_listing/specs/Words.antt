-- The words of kinds and classes.
use Rattle.std.specs.Prelude.{ℕ, List, [], ◌∷◌, ◌++◌, Option, Some, None, codes, decimal, slice_get}
use Rattle.csdn_core.specs.declared.program.Parts.{Parts}
use Rattle.csdn_core.specs.declared.program.Invariant.{Invariant}
use Rattle.csdn_conditions.specs.declared.kinds.EventKind.{EventKind}
use Rattle.csdn_conditions.specs.declared.kinds.EventKind.TheVariants.{PktIn, PktFlow, Expire}
use Rattle.csdn_conditions.specs.declared.kinds.CondKind.{CondKind}
use Rattle.csdn_conditions.specs.declared.kinds.CondKind.TheVariants.{Network, Init, Step, Trans}
use Rattle.csdn_conditions.specs.declared.class.Class.{Class}
use Rattle.csdn_conditions.specs.declared.class.Class.TheVariants.{Inside, Nodes, Outside, Instances}

abbrev pub event_word : EventKind → List ℕ
event_word PktIn = codes "pktIn"
event_word PktFlow = codes "pktFlow"
event_word Expire = codes "expire"

abbrev pub name_in : Option Invariant → List ℕ
name_in None = []
name_in (Some v) = v.name

-- the name of the invariant of this number
abbrev pub name_at : List Invariant → ℕ → List ℕ
name_at vs v = name_in (slice_get vs v)

-- `network`, `init K NAME`, `step NAME EVENT` or `trans NAME EVENT`
abbrev pub kind_words : Parts → CondKind → List (List ℕ)
kind_words P Network = codes "network" ∷ []
kind_words P (Init k v) = codes "init" ∷ decimal k ∷ name_at P.safety v ∷ []
kind_words P (Step v event) = codes "step" ∷ name_at P.safety v ∷ event_word event ∷ []
kind_words P (Trans t event) = codes "trans" ∷ name_at P.trans t ∷ event_word event ∷ []

-- `inside`, `nodes`, `outside` or `instances N`
abbrev pub class_words : Class → List (List ℕ)
class_words Inside = codes "inside" ∷ []
class_words Nodes = codes "nodes" ∷ []
class_words Outside = codes "outside" ∷ []
class_words (Instances n) = codes "instances" ∷ decimal n ∷ []

-- `I KIND CLASS`
abbrev pub condition_words : Parts → ℕ → CondKind → Class → List (List ℕ)
condition_words P i kind class = decimal i ∷ (kind_words P kind ++ class_words class)
