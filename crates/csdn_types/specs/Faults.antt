-- The rules on names and sorts: what is broken, and where, in the order of the text.
use Rattle.std.specs.Prelude.{ℕ, ◌==◌, nat_le, Bool, true, false, not, List, [], ◌∷◌, ◌++◌, length, Option, Some, None, is_some, slice_get}
use Rattle.csdn_core.specs.declared.terms.FormulaPlace.{FormulaPlace}
use Rattle.csdn_core.specs.declared.terms.FormulaPlace.TheVariants.{Topology, Trans, Handler}
use Rattle.csdn_core.specs.declared.terms.Sort.{Sort}
use Rattle.csdn_core.specs.declared.terms.Sort.TheVariants.{Sw, Ho, Pr}
use Rattle.csdn_core.specs.declared.program.Relation.{Relation}
use Rattle.csdn_core.specs.Same.{same_sort}
use Rattle.csdn_core.specs.Sorted.{most_variables}
use Rattle.csdn_tree.specs.declared.names.RawTerm.TheVariants.{Name}
use Rattle.csdn_tree.specs.declared.names.RawName.{RawName}
use Rattle.csdn_tree.specs.declared.names.RawTerm.{RawTerm}
use Rattle.csdn_types.specs.declared.refusal.SortRefusal.{SortRefusal}
use Rattle.csdn_types.specs.declared.refusal.SortRefusal.TheVariants.{Duplicate, Unknown, WrongArity, WrongSort, NotAllowed, TooMany}
use Rattle.csdn_tree.specs.declared.syntax.FlowWord.{FlowWord}
use Rattle.csdn_tree.specs.declared.syntax.FlowWord.TheVariants.{Sent}
use Rattle.csdn_tree.specs.declared.syntax.RawFlow.{RawFlow}
use Rattle.csdn_tree.specs.declared.syntax.RawPacket.{RawPacket}
use Rattle.csdn_tree.specs.declared.syntax.RawFormula.{RawFormula}
use Rattle.csdn_tree.specs.declared.syntax.RawFormula.TheVariants as f
use Rattle.csdn_tree.specs.RawTree.{raw_not, raw_two, raw_bind}
use Rattle.csdn_tree.specs.Places.{place as place_of}
use Rattle.csdn_types.specs.declared.scope.SortedTerm.{SortedTerm}
use Rattle.csdn_types.specs.declared.terms.Use.{Use}
use Rattle.csdn_types.specs.declared.terms.Use.TheVariants.{InFormula, Write}
use Rattle.csdn_types.specs.Scope.{Scope, relation_named, named, meaning, bound}
use Rattle.csdn_types.specs.Typed.{after}

-- a refusal where a rule is broken
abbrev pub fault_if : Bool → SortRefusal → List SortRefusal
fault_if true fault = fault ∷ []
fault_if false fault = []

-- ---- terms

abbrev pub known_faults : ℕ → Option SortedTerm → List SortRefusal
known_faults at None = Unknown at ∷ []
known_faults at (Some known) = []

abbrev pub sort_faults : ℕ → Sort → Option SortedTerm → List SortRefusal
sort_faults at sort None = Unknown at ∷ []
sort_faults at sort (Some known) = fault_if (not (same_sort known.sort sort)) (WrongSort at)

-- a term where one of a sort belongs
abbrev pub term_faults : Scope → Sort → RawTerm → List SortRefusal
term_faults s sort t = sort_faults (place_of t) sort (meaning s t)

-- terms one after another
unfoldable pub terms_faults : Scope → List Sort → List RawTerm → List SortRefusal
terms_faults s [] ts = []
terms_faults s (sort ∷ sorts) [] = []
terms_faults s (sort ∷ sorts) (t ∷ ts) = term_faults s sort t ++ terms_faults s sorts ts

-- the right side of `=` is of the sort of the left side
abbrev pub right_faults : Scope → Option SortedTerm → RawTerm → List SortRefusal
right_faults s None u = known_faults (place_of u) (meaning s u)
right_faults s (Some known) u = term_faults s known.sort u

abbrev pub same_faults : Scope → RawTerm → RawTerm → List SortRefusal
same_faults s t u = known_faults (place_of t) (meaning s t) ++ right_faults s (meaning s t) u

-- ---- atoms

-- a `rel` in a topology invariant
abbrev pub stands_outside : FormulaPlace → Relation → Bool
stands_outside Topology d = not d.fixed
stands_outside _ d = false

abbrev pub word_is_outside : FormulaPlace → FlowWord → Bool
word_is_outside Topology word = true
word_is_outside Handler Sent = true
word_is_outside _ word = false

abbrev pub packet_is_outside : FormulaPlace → Bool
packet_is_outside Trans = false
packet_is_outside _ = true

-- whether a relation may not be used there
abbrev pub is_forbidden : Use → Relation → Bool
is_forbidden (InFormula place) d = stands_outside place d
is_forbidden Write d = d.fixed

-- the use of a declared relation
abbrev pub use_faults : Use → Scope → ℕ → List RawTerm → Option Relation → List SortRefusal
use_faults use_of s at ts None = Unknown at ∷ []
use_faults use_of s at ts (Some d) =
    fault_if (not (length ts == length d.sorts)) (WrongArity at) ++ (fault_if (is_forbidden use_of d) (NotAllowed at) ++ terms_faults s d.sorts ts)

abbrev pub relation_faults : Use → Scope → ℕ → List RawTerm → Option ℕ → List SortRefusal
relation_faults use_of s at ts None = Unknown at ∷ []
relation_faults use_of s at ts (Some id) = use_faults use_of s at ts (slice_get s.relations id)

-- a relation and its terms
abbrev pub atom_faults : Use → Scope → RawName → List RawTerm → List SortRefusal
atom_faults use_of s name ts = relation_faults use_of s name.at ts (relation_named s name.text)

abbrev pub flow_faults : Scope → RawFlow → List SortRefusal
flow_faults s w = term_faults s Ho w.source ++ (term_faults s Ho w.target ++ (term_faults s Pr w.ingress ++ term_faults s Pr w.egress))

abbrev pub packet_faults : Scope → RawPacket → List SortRefusal
packet_faults s w = term_faults s Ho w.source ++ (term_faults s Ho w.target ++ term_faults s Pr w.ingress)

-- ---- variables

-- a name that is bound
abbrev pub variable_faults : Scope → RawName → List SortRefusal
variable_faults s name =
    fault_if (is_some (named s name.text)) (Duplicate name.at) ++ fault_if (nat_le most_variables (length s.variables)) (TooMany name.at)

-- ---- formulas

unfoldable pub faults : FormulaPlace → Scope → RawFormula → List SortRefusal
faults place s f.True = []
faults place s f.False = []
faults place s (f.Atom name ts) = atom_faults (InFormula place) s name ts
faults place s (f.Same t u) = same_faults s t u
faults place s (f.Flow at word w) = term_faults s Sw (Name w.switch) ++ (fault_if (word_is_outside place word) (NotAllowed at) ++ flow_faults s w)
faults place s (f.RcvThis at w) = term_faults s Sw (Name w.switch) ++ (fault_if (packet_is_outside place) (NotAllowed at) ++ packet_faults s w)
faults place s (raw_not p) = faults place s p
faults place s (raw_two k p q) = faults place s p ++ faults place (after s p) q
faults place s (raw_bind which name sort p) = variable_faults s name ++ faults place (bound s name sort) p
