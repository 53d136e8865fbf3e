-- What breaks no rule is well-sorted.
use Rattle.std.proofs.Common.{◌≡◌, sym, ℕ, ◌+◌, ◌<◌, ◌≤◌, max, Bool, true, false, not, ◌==◌, List, [], ◌∷◌, ◌++◌, length, map, Option, Some, None, option_map, option_and_then, slice_get, is_some, nat_le, position, unwrap_or, Contains, if◌then◌else◌, refl, ap, subst, arith, zero, suc, add-zero, zero-add}
use Rattle.std.proofs.lemmas.Bool.{eqb-true}
use Rattle.std.proofs.lemmas.List.{map-append, length_push}
use Rattle.std.proofs.lemmas.List.Elements.{Contains-append_right}
use Rattle.std.specs.Str.{bytes_eq}
use Rattle.csdn_core.specs.Same.{same_sort}
use Rattle.csdn_core.proofs.Same.{same_sort-is}
use Rattle.csdn_core.specs.declared.terms.FormulaPlace.{FormulaPlace}
use Rattle.csdn_core.specs.declared.terms.FormulaPlace.TheVariants.{Topology, Safety, Trans, Handler}
use Rattle.csdn_core.specs.declared.terms.Sort.{Sort}
use Rattle.csdn_core.specs.declared.terms.Sort.TheVariants.{Sw, Ho, Pr}
use Rattle.csdn_core.specs.declared.terms.Term.TheVariants.{Var, Const, Port as PortTerm}
use Rattle.csdn_core.specs.declared.terms.Pred.TheVariants as pred
use Rattle.csdn_core.specs.declared.program.Relation.{Relation}
use Rattle.csdn_core.specs.declared.program.Constant.{Constant}
use Rattle.csdn_core.specs.Sorted.{Signature, IsAllowed, sorts_of, flow_sorts, packet_sorts, most_variables}
use Rattle.csdn_core.specs.SortedIn.{Scope as SortedScope, no_scope, with_sort, HasSortIn, HaveSortsIn, IsAtomIn, IsSortedIn}
use Rattle.csdn_core.specs.Depth.{depth}
use Rattle.csdn_core.specs.Tree.{universal}
use Rattle.csdn_core.proofs.Scopes.{AreInScope, AreInScope-more, still_none}
use Rattle.csdn_types.specs.Commands.{later}
use Rattle.csdn_tree.specs.declared.names.RawName.{RawName}
use Rattle.csdn_tree.specs.declared.names.RawTerm.{RawTerm}
use Rattle.csdn_tree.specs.declared.names.RawTerm.TheVariants.{Name, Port}
use Rattle.csdn_types.specs.declared.refusal.SortRefusal.{SortRefusal}
use Rattle.csdn_types.specs.declared.refusal.SortRefusal.TheVariants.{Duplicate, WrongArity, WrongSort, NotAllowed, TooMany}
use Rattle.csdn_types.specs.declared.scope.SortedTerm.{SortedTerm}
use Rattle.csdn_types.specs.declared.scope.Variable.{Variable}
use Rattle.csdn_types.specs.Scope.{Scope, variable, variable_named, constant_at, constant_named, or_else, named, meaning}
use Rattle.csdn_types.specs.Faults.{fault_if, sort_faults, term_faults, terms_faults, known_faults, right_faults, stands_outside, is_forbidden, use_faults, relation_faults, flow_faults, packet_faults, word_is_outside, packet_is_outside, variable_faults, faults}
use Rattle.csdn_types.specs.declared.terms.Use.TheVariants.{InFormula}
use Rattle.std.proofs.lemmas.Bool.Decides.{nat_tests}
use Rattle.csdn_types.specs.Scope.{relation_named, bound}
use Rattle.csdn_types.specs.Typed.{known_term, term_of, terms_of, typed, after, stored, pred_of, flow_of, packet_of, next_var}
use Rattle.csdn_tree.specs.Binders.{binders}
use Rattle.csdn_types.proofs.Twins.{joined_by, quantified_by}
use Rattle.csdn_types.specs.Signed.{bind_of, IsPart, IsScopeOf, HasNumeral, HaveNumerals, FormulaNumerals, counted}
use Rattle.csdn_core.specs.Sorted.{bound_in}
use Rattle.csdn_core.proofs.Shapes.{Not-is}
use Rattle.csdn_tree.specs.declared.syntax.RawFormula.{RawFormula}
use Rattle.csdn_tree.specs.declared.syntax.RawFormula.TheVariants as f
use Rattle.csdn_tree.specs.declared.syntax.FlowWord.{FlowWord}
use Rattle.csdn_tree.specs.declared.syntax.FlowWord.TheVariants.{Ft, Sent}
use Rattle.csdn_tree.specs.declared.syntax.RawFlow.{RawFlow}
use Rattle.csdn_tree.specs.declared.syntax.RawPacket.{RawPacket}
use Rattle.csdn_tree.specs.RawTree.{raw_not, raw_two, raw_bind}
use Rattle.csdn_core.specs.declared.syntax.Formula.{Formula}
use Rattle.csdn_tree.specs.Places.{place as place_of}

-- the sort of what is known
abbrev Has : Signature → SortedScope → SortedTerm → Type 0
Has S Γ known = HasSortIn S Γ known.sort known.term

chosen : (S : Signature) (Γ : SortedScope) (b : Bool) (x known : SortedTerm) (other : Option SortedTerm) → (if b then Some x else other) ≡ Some known → Has S Γ x → (other ≡ Some known → Has S Γ known) → Has S Γ known
chosen S Γ true x known other is here rest = let same : x ≡ known = cc in subst (Has S Γ) same here
chosen S Γ false x known other is here rest = rest is

variable_has : (S : Signature) (Γ : SortedScope) (vs : List Variable) → AreInScope (map bind_of vs) Γ → (name : List ℕ) (known : SortedTerm) → variable_named vs name ≡ Some known → Has S Γ known
variable_has S Γ [] all name known is = absurd cc
variable_has S Γ (v ∷ vs) all name known is =
    chosen S Γ (bytes_eq name v.name) (record { term = Var v.var; sort = v.sort }) known (variable_named vs name) is
    (all (bind_of v) (0, omega arith, refl))
    (variable_has S Γ vs (λ b there. all b (Contains-append_right (bind_of v ∷ []) (map bind_of vs) b there)) name known)

constant_found : (s : Scope) (S : Signature) (Γ : SortedScope) → IsPart s S → (at : ℕ) (d : Option Constant) (known : SortedTerm) → slice_get s.constants at ≡ d → option_map (λ e. record { term = Const (record { 0 = at }); sort = e.sort }) d ≡ Some known → Has S Γ known
constant_found s S Γ part at None known is made = absurd cc
constant_found s S Γ part at (Some d) known is made =
    let same : record { term = Const (record { 0 = at }); sort = d.sort } ≡ known = cc in
    subst (Has S Γ) same (rw (part.constants at d is) refl)

constant_has : (s : Scope) (S : Signature) (Γ : SortedScope) → IsPart s S → (at : Option ℕ) (known : SortedTerm) → option_and_then (constant_at s.constants) at ≡ Some known → Has S Γ known
constant_has s S Γ part None known is = absurd cc
constant_has s S Γ part (Some at) known is = constant_found s S Γ part at (slice_get s.constants at) known refl is

either_has : (S : Signature) (Γ : SortedScope) (known : SortedTerm) (a b : Option SortedTerm) → (a ≡ Some known → Has S Γ known) → (b ≡ Some known → Has S Γ known) → or_else a b ≡ Some known → Has S Γ known
either_has S Γ known None b left right is = right is
either_has S Γ known (Some x) b left right is = left is

meaning_has : (s : Scope) (S : Signature) (Γ : SortedScope) → IsPart s S → IsScopeOf s Γ → (t : RawTerm) → HasNumeral S t → (known : SortedTerm) → meaning s t ≡ Some known → Has S Γ known
meaning_has s S Γ part scope (Name n) numeral known is =
    either_has S Γ known (variable_named s.variables n.text) (constant_named s.constants n.text)
    (variable_has S Γ s.variables scope.known n.text known) (constant_has s S Γ part (position (bytes_eq n.text) (map (λ d. d.name) s.constants)) known) is
meaning_has s S Γ part scope (Port k) numeral known is =
    let same : record { term = PortTerm k.number; sort = Pr } ≡ known = cc in
    subst (Has S Γ) same (refl, numeral)

pub no_fault : (b : Bool) (e : SortRefusal) → fault_if (not b) e ≡ [] → b ≡ true
no_fault true e free = refl
no_fault false e free = absurd cc

known_has : (S : Signature) (Γ : SortedScope) (at : ℕ) (sort : Sort) (k : Option SortedTerm) → ((known : SortedTerm) → k ≡ Some known → Has S Γ known) → sort_faults at sort k ≡ [] → HasSortIn S Γ sort (known_term k)
known_has S Γ at sort None has free = absurd cc
known_has S Γ at sort (Some known) has free =
    let same : known.sort ≡ sort = same_sort-is known.sort sort (no_fault (same_sort known.sort sort) (WrongSort at) free) in
    subst (λ x. HasSortIn S Γ x known.term) same (has known refl)

-- a term that breaks no rule has its sort
pub term_has : (s : Scope) (S : Signature) (Γ : SortedScope) → IsPart s S → IsScopeOf s Γ → (sort : Sort) (t : RawTerm) → HasNumeral S t → term_faults s sort t ≡ [] → HasSortIn S Γ sort (term_of s t)
term_has s S Γ part scope sort t numeral free = known_has S Γ _ sort (meaning s t) (meaning_has s S Γ part scope t numeral) free

-- ---- lists of terms

-- two lists of faults that are both empty
pub free_left : (xs ys : List SortRefusal) → xs ++ ys ≡ [] → xs ≡ []
free_left [] ys free = refl
free_left (x ∷ xs) ys free = absurd cc

pub free_right : (xs ys : List SortRefusal) → xs ++ ys ≡ [] → ys ≡ []
free_right [] ys free = free
free_right (x ∷ xs) ys free = absurd cc

pub terms_have : (s : Scope) (S : Signature) (Γ : SortedScope) → IsPart s S → IsScopeOf s Γ → (sorts : List Sort) (ts : List RawTerm) → length ts ≡ length sorts → HaveNumerals S ts → terms_faults s sorts ts ≡ [] → HaveSortsIn S Γ sorts (terms_of s ts)
unfolding terms_faults HaveSortsIn
terms_have s S Γ part scope [] [] as_many numerals free = tt
terms_have s S Γ part scope [] (t ∷ ts) as_many numerals free = absurd (omega (arith, as_many))
terms_have s S Γ part scope (sort ∷ sorts) [] as_many numerals free = absurd (omega (arith, as_many))
terms_have s S Γ part scope (sort ∷ sorts) (t ∷ ts) as_many numerals free = (
  term_has s S Γ part scope sort t numerals.0 (free_left (term_faults s sort t) (terms_faults s sorts ts) free),
  terms_have s S Γ part scope sorts ts (omega (arith, as_many)) numerals.1 (free_right (term_faults s sort t) (terms_faults s sorts ts) free),
)

-- ---- atoms

pub fault_free : (b : Bool) (e : SortRefusal) → fault_if b e ≡ [] → b ≡ false
fault_free true e free = absurd cc
fault_free false e free = refl

-- a limit that is kept
pub below : (m n : ℕ) (e : SortRefusal) → fault_if (nat_le m n) e ≡ [] → n < m
below m n e free = let b = fault_free (nat_le m n) e free in grind (arith, nat_tests)

-- a declared relation, with its faults
pub use_is_atom : (place : FormulaPlace) (s : Scope) (S : Signature) (Γ : SortedScope) → IsPart s S → IsScopeOf s Γ → (at : ℕ) (ts : List RawTerm) (id : ℕ) (d : Option Relation) → slice_get s.relations id ≡ d → HaveNumerals S ts → use_faults (InFormula place) s at ts d ≡ [] → IsAtomIn S Γ (pred.Stored (record { 0 = id })) (terms_of s ts) × IsAllowed S place (pred.Stored (record { 0 = id }))
use_is_atom place s S Γ part scope at ts id None is numerals free = absurd cc
use_is_atom place s S Γ part scope at ts id (Some d) is numerals free =
    let arity = fault_if (not (length ts == length d.sorts)) (WrongArity at) in
    let allowed = fault_if (is_forbidden (InFormula place) d) (NotAllowed at) in
    let rest = free_right arity (allowed ++ terms_faults s d.sorts ts) free in
    let stands : slice_get S.relations id ≡ Some d = part.relations id d is in
    let many : length ts ≡ length d.sorts = eqb-true (length ts) (length d.sorts) (no_fault (length ts == length d.sorts) (WrongArity at) (free_left arity (allowed ++ terms_faults s d.sorts ts) free)) in (
      record { sorts = d.sorts; declared = rw stands refl; terms = terms_have s S Γ part scope d.sorts ts many numerals (free_right allowed (terms_faults s d.sorts ts) rest) },
      atom_allowed place d id stands (fault_free (is_forbidden (InFormula place) d) (NotAllowed at) (free_left allowed (terms_faults s d.sorts ts) rest)),
    )
  where
    is_static : (b : Bool) → not b ≡ false → b ≡ true
    is_static true no_more = refl
    is_static false no_more = absurd cc

    atom_allowed : (place : FormulaPlace) (d : Relation) (id : ℕ) → slice_get S.relations id ≡ Some d → stands_outside place d ≡ false → IsAllowed S place (pred.Stored (record { 0 = id }))
    atom_allowed Topology d id stands inside = rw stands (ap (λ b. Some b) (is_static d.fixed inside))
    atom_allowed Safety d id stands inside = tt
    atom_allowed Trans d id stands inside = tt
    atom_allowed Handler d id stands inside = tt

relation_is_atom : (place : FormulaPlace) (s : Scope) (S : Signature) (Γ : SortedScope) → IsPart s S → IsScopeOf s Γ → (at : ℕ) (ts : List RawTerm) (id : Option ℕ) → HaveNumerals S ts → relation_faults (InFormula place) s at ts id ≡ [] → IsAtomIn S Γ (stored (unwrap_or id 0)) (terms_of s ts) × IsAllowed S place (stored (unwrap_or id 0))
relation_is_atom place s S Γ part scope at ts None numerals free = absurd cc
relation_is_atom place s S Γ part scope at ts (Some id) numerals free = use_is_atom place s S Γ part scope at ts id (slice_get s.relations id) refl numerals free

-- ---- equations

same_sorted : (s : Scope) (S : Signature) (Γ : SortedScope) → IsPart s S → IsScopeOf s Γ → (t u : RawTerm) (k : Option SortedTerm) → meaning s t ≡ k → HasNumeral S t → HasNumeral S u → known_faults (place_of t) k ++ right_faults s k u ≡ [] → (sort : Sort) × HasSortIn S Γ sort (known_term k) × HasSortIn S Γ sort (term_of s u)
same_sorted s S Γ part scope t u None is left right free = absurd cc
same_sorted s S Γ part scope t u (Some known) is left right free = (known.sort, meaning_has s S Γ part scope t left known is, term_has s S Γ part scope known.sort u right free)

-- ---- built-in relations

pub flow_have : (s : Scope) (S : Signature) (Γ : SortedScope) → IsPart s S → IsScopeOf s Γ → (w : RawFlow) → HaveNumerals S (Name w.switch ∷ w.source ∷ w.target ∷ w.ingress ∷ w.egress ∷ []) → term_faults s Sw (Name w.switch) ≡ [] → flow_faults s w ≡ [] → HaveSortsIn S Γ flow_sorts (term_of s (Name w.switch) ∷ flow_of s w)
unfolding HaveSortsIn
flow_have s S Γ part scope w numerals first free =
    let after_source = free_right (term_faults s Ho w.source) _ free in
    let after_target = free_right (term_faults s Ho w.target) _ after_source in (
      term_has s S Γ part scope Sw (Name w.switch) numerals.0 first,
      (
        term_has s S Γ part scope Ho w.source numerals.1.0 (free_left (term_faults s Ho w.source) _ free),
        (
          term_has s S Γ part scope Ho w.target numerals.1.1.0 (free_left (term_faults s Ho w.target) _ after_source),
          (
            term_has s S Γ part scope Pr w.ingress numerals.1.1.1.0 (free_left (term_faults s Pr w.ingress) (term_faults s Pr w.egress) after_target),
            (term_has s S Γ part scope Pr w.egress numerals.1.1.1.1.0 (free_right (term_faults s Pr w.ingress) (term_faults s Pr w.egress) after_target), tt),
          ),
        ),
      ),
    )

pub packet_have : (s : Scope) (S : Signature) (Γ : SortedScope) → IsPart s S → IsScopeOf s Γ → (w : RawPacket) → HaveNumerals S (Name w.switch ∷ w.source ∷ w.target ∷ w.ingress ∷ []) → term_faults s Sw (Name w.switch) ≡ [] → packet_faults s w ≡ [] → HaveSortsIn S Γ packet_sorts (term_of s (Name w.switch) ∷ packet_of s w)
unfolding HaveSortsIn
packet_have s S Γ part scope w numerals first free =
    let after_source = free_right (term_faults s Ho w.source) _ free in (
      term_has s S Γ part scope Sw (Name w.switch) numerals.0 first,
      (
        term_has s S Γ part scope Ho w.source numerals.1.0 (free_left (term_faults s Ho w.source) _ free),
        (
          term_has s S Γ part scope Ho w.target numerals.1.1.0 (free_left (term_faults s Ho w.target) (term_faults s Pr w.ingress) after_source),
          (term_has s S Γ part scope Pr w.ingress numerals.1.1.1.0 (free_right (term_faults s Ho w.target) (term_faults s Pr w.ingress) after_source), tt),
        ),
      ),
    )

word_sorted : (S : Signature) (place : FormulaPlace) (word : FlowWord) → word_is_outside place word ≡ false → (sorts_of S (pred_of word) ≡ Some flow_sorts) × IsAllowed S place (pred_of word)
word_sorted S Topology word inside = absurd cc
word_sorted S Handler Ft inside = (refl, tt)
word_sorted S Handler Sent inside = absurd cc
word_sorted S Safety Ft inside = (refl, tt)
word_sorted S Safety Sent inside = (refl, tt)
word_sorted S Trans Ft inside = (refl, tt)
word_sorted S Trans Sent inside = (refl, tt)

packet_allowed : (S : Signature) (place : FormulaPlace) → packet_is_outside place ≡ false → IsAllowed S place pred.RcvThis
packet_allowed S Topology inside = absurd cc
packet_allowed S Safety inside = absurd cc
packet_allowed S Handler inside = absurd cc
packet_allowed S Trans inside = tt

-- ---- formulas

pub part_after : (s : Scope) (S : Signature) (p : RawFormula) → IsPart s S → IsPart (after s p) S
part_after s S p part = record { relations = part.relations; constants = part.constants }

pub part_bound : (s : Scope) (S : Signature) (name : RawName) (sort : Sort) → IsPart s S → IsPart (bound s name sort) S
part_bound s S name sort part = record { relations = part.relations; constants = part.constants }

-- the scopes of a tree

pub scope_none : (s : Scope) → s.variables ≡ [] → IsScopeOf s no_scope
scope_none s none = record {
  known = λ b there. absurd (let here : Contains [] b = subst (λ vs. Contains (map bind_of vs) b) none there in let within : here.0 < 0 = here.1 in omega arith);
  free = λ n above. refl;
  few = rw none (omega arith);
}

pub scope_later : (s : Scope) (Γ : SortedScope) (n : ℕ) → IsScopeOf s Γ → IsScopeOf (later s n) Γ
scope_later s Γ n scope = record { known = scope.known; free = λ m above. scope.free m (let later : s.next + n ≤ m = above in omega arith); few = scope.few }

pub room_left : (s : Scope) (name : RawName) → variable_faults s name ≡ [] → length s.variables < most_variables
room_left s name free = below most_variables (length s.variables) (TooMany name.at) (free_right (fault_if (is_some (named s name.text)) (Duplicate name.at)) _ free)

pub scope_bound : (s : Scope) (Γ : SortedScope) (name : RawName) (sort : Sort) → length s.variables < most_variables → IsScopeOf s Γ → IsScopeOf (bound s name sort) (with_sort Γ (next_var s) sort)
scope_bound s Γ name sort room scope = record {
  known = subst (λ bs. AreInScope bs (with_sort Γ (next_var s) sort)) (sym (map-append bind_of s.variables _)) (AreInScope-more (map bind_of s.variables) Γ (next_var s) sort (scope.free s.next (omega arith)) scope.known);
  free = λ n above. (let later : s.next + 1 ≤ n = above in still_none Γ (next_var s) sort n (λ is. (let same : n ≡ s.next = is in omega arith)) (scope.free n (omega arith)));
  few = let e = length_push s.variables (variable s name sort) in omega (arith, e, room);
}

-- what fits beside each of two fits beside the greater
pub greater : (n a b : ℕ) → n + a ≤ most_variables → n + b ≤ most_variables → n + max a b ≤ most_variables
greater n a b first second = grind (arith, first, second)

-- one variable more
pub pushed : (s : Scope) (name : RawName) (sort : Sort) (n : ℕ) → length (bound s name sort).variables + n ≤ most_variables → length s.variables + (n + 1) ≤ most_variables
pushed s name sort n fits = let e = length_push s.variables (variable s name sort) in omega (arith, e, fits)

pub none_bound : (s : Scope) (Γ : SortedScope) → IsScopeOf s Γ → length s.variables + 0 ≤ most_variables
none_bound s Γ scope = let few = scope.few in omega (arith, few)

-- well-sorted in the scope, with room for the variables that it binds
abbrev pub Fits : Signature → FormulaPlace → Scope → SortedScope → Formula → Type 0
Fits S place s Γ q = IsSortedIn S (IsAllowed S place) Γ q × (length s.variables + depth q ≤ most_variables)

both : {A B : Type 0} (n a b : ℕ) → A × (n + a ≤ most_variables) → B × (n + b ≤ most_variables) → (A × B) × (n + max a b ≤ most_variables)
both n a b left right = ((left.0, right.0), greater n a b left.1 right.1)

pub typed_is_sorted : (S : Signature) (place : FormulaPlace) (s : Scope) (Γ : SortedScope) (p : RawFormula) → IsPart s S → IsScopeOf s Γ → FormulaNumerals S p → faults place s p ≡ [] → Fits S place s Γ (typed s p)
unfolding FormulaNumerals faults typed IsSortedIn depth
typed_is_sorted S place s Γ f.True part scope numerals free = (tt, none_bound s Γ scope)
typed_is_sorted S place s Γ f.False part scope numerals free = (tt, none_bound s Γ scope)
typed_is_sorted S place s Γ (f.Atom name ts) part scope numerals free = (relation_is_atom place s S Γ part scope name.at ts (relation_named s name.text) numerals free, none_bound s Γ scope)
typed_is_sorted S place s Γ (f.Same t u) part scope numerals free = (same_sorted s S Γ part scope t u (meaning s t) refl numerals.0 numerals.1 free, none_bound s Γ scope)
typed_is_sorted S place s Γ (f.Flow at word w) part scope numerals free =
    let outside = fault_if (word_is_outside place word) (NotAllowed at) in
    let rest = free_right (term_faults s Sw (Name w.switch)) (outside ++ flow_faults s w) free in
    let inside = word_sorted S place word (fault_free (word_is_outside place word) (NotAllowed at) (free_left outside (flow_faults s w) rest)) in
    ((record { sorts = flow_sorts; declared = inside.0; terms = flow_have s S Γ part scope w numerals (free_left (term_faults s Sw (Name w.switch)) _ free) (free_right outside (flow_faults s w) rest) }, inside.1), none_bound s Γ scope)
typed_is_sorted S place s Γ (f.RcvThis at w) part scope numerals free =
    let outside = fault_if (packet_is_outside place) (NotAllowed at) in
    let rest = free_right (term_faults s Sw (Name w.switch)) (outside ++ packet_faults s w) free in
    ((record { sorts = packet_sorts; declared = refl; terms = packet_have s S Γ part scope w numerals (free_left (term_faults s Sw (Name w.switch)) _ free) (free_right outside (packet_faults s w) rest) }, packet_allowed S place (fault_free (packet_is_outside place) (NotAllowed at) (free_left outside (packet_faults s w) rest))), none_bound s Γ scope)
typed_is_sorted S place s Γ (raw_not p) part scope numerals free = rw Not-is (typed_is_sorted S place s Γ p part scope numerals free)
typed_is_sorted S place s Γ (raw_two k p q) part scope numerals free =
    let left = typed_is_sorted S place s Γ p part scope numerals.0 (free_left (faults place s p) _ free) in
    let right = typed_is_sorted S place (after s p) Γ q (part_after s S p part) (scope_later s Γ (binders p) scope) numerals.1 (free_right (faults place s p) _ free) in
    let whole = both (length s.variables) (depth (typed s p)) (depth (typed (after s p) q)) left right in
    joined_by (Fits S place s Γ) k (typed s p) (typed (after s p) q) whole whole whole whole
typed_is_sorted S place s Γ (raw_bind which name sort p) part scope numerals free =
    let room = room_left s name (free_left (variable_faults s name) _ free) in
    let body = typed_is_sorted S place (bound s name sort) (with_sort Γ (next_var s) sort) p (part_bound s S name sort part) (scope_bound s Γ name sort room scope) numerals (free_right (variable_faults s name) _ free) in
    let whole : Fits S place s Γ (universal (next_var s) sort (typed (bound s name sort) p)) = (body.0, pushed s name sort (depth (typed (bound s name sort) p)) body.1) in
    quantified_by (Fits S place s Γ) which (next_var s) sort (typed (bound s name sort) p) whole whole

-- ---- numbers

pub counted-add : (from m n : ℕ) → counted from m ++ counted (from + m) n ≡ counted from (m + n)
unfolding counted
counted-add from zero n = rw (add-zero, zero-add) refl
counted-add from (suc m) n =
    let shifted : from + suc m ≡ (from + 1) + m = omega arith in
    let more : suc m + n ≡ suc (m + n) = omega arith in
    rw (shifted, more) (ap (λ ns. from ∷ ns) (counted-add (from + 1) m n))

pub counted-next : (from n : ℕ) → from ∷ counted (from + 1) n ≡ counted from (1 + n)
unfolding counted
counted-next from n = let next : 1 + n ≡ suc n = omega arith in rw next

-- each bound variable has a number of its own: they are the numbers from the next one on
pub bound_in-typed : (s : Scope) (p : RawFormula) → bound_in (typed s p) ≡ counted s.next (binders p)
unfolding bound_in typed binders counted
bound_in-typed s f.True = refl
bound_in-typed s f.False = refl
bound_in-typed s (f.Atom name ts) = refl
bound_in-typed s (f.Same t u) = refl
bound_in-typed s (f.Flow at word w) = refl
bound_in-typed s (f.RcvThis at w) = refl
bound_in-typed s (raw_not p) = rw Not-is (bound_in-typed s p)
bound_in-typed s (raw_two k p q) =
    let whole : bound_in (typed s p) ++ bound_in (typed (after s p) q) ≡ counted s.next (binders p + binders q) = rw (bound_in-typed s p, bound_in-typed (after s p) q) (counted-add s.next (binders p) (binders q)) in
    joined_by (λ r. bound_in r ≡ counted s.next (binders p + binders q)) k (typed s p) (typed (after s p) q) whole whole whole whole
bound_in-typed s (raw_bind which name sort p) =
    let whole : s.next ∷ bound_in (typed (bound s name sort) p) ≡ counted s.next (1 + binders p) = rw (bound_in-typed (bound s name sort) p) (counted-next s.next (binders p)) in
    quantified_by (λ r. bound_in r ≡ counted s.next (1 + binders p)) which (next_var s) sort (typed (bound s name sort) p) whole whole
