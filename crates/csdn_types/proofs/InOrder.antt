-- The faults of a tree stand in the order of refusals, where its places rise in the order of the text.
use Rattle.std.proofs.Common.{◌≡◌, ◌⊎◌, ℕ, ◌+◌, ◌*◌, ◌<◌, ◌≤◌, Bool, true, false, not, ◌==◌, List, [], ◌∷◌, ◌++◌, length, Option, Some, None, slice_get, is_some, nat_le, All, refl, subst, inl, inr, arith}
use Rattle.std.proofs.lemmas.List.Elements.{All-nil, All-cons}
use Rattle.csdn_core.specs.Same.{same_sort}
use Rattle.csdn_core.specs.declared.terms.FormulaPlace.{FormulaPlace}
use Rattle.csdn_core.specs.declared.terms.Sort.{Sort}
use Rattle.csdn_core.specs.declared.terms.Sort.TheVariants.{Sw, Ho, Pr}
use Rattle.csdn_core.specs.declared.program.Relation.{Relation}
use Rattle.csdn_core.specs.Sorted.{most_variables}
use Rattle.csdn_tree.specs.declared.names.RawTerm.TheVariants.{Name}
use Rattle.csdn_tree.specs.declared.names.RawName.{RawName}
use Rattle.csdn_tree.specs.declared.names.RawTerm.{RawTerm}
use Rattle.csdn_types.specs.declared.refusal.SortRefusal.{SortRefusal}
use Rattle.csdn_types.specs.declared.refusal.SortRefusal.TheVariants.{Memory, Duplicate, Unknown, WrongArity, WrongSort, NotAllowed, TooMany}
use Rattle.csdn_tree.specs.declared.syntax.RawFormula.{RawFormula}
use Rattle.csdn_tree.specs.declared.syntax.RawFormula.TheVariants as f
use Rattle.csdn_tree.specs.RawTree.{raw_not, raw_two, raw_bind}
use Rattle.csdn_tree.specs.Places.{place as place_of}
use Rattle.csdn_types.specs.declared.scope.SortedTerm.{SortedTerm}
use Rattle.csdn_types.specs.declared.terms.Use.{Use}
use Rattle.csdn_types.specs.declared.terms.Use.TheVariants.{InFormula}
use Rattle.csdn_types.specs.Answers.{head, IsFirst}
use Rattle.csdn_types.specs.Scope.{Scope, relation_named, named, meaning, bound}
use Rattle.csdn_types.specs.Typed.{after}
use Rattle.csdn_types.specs.Faults.{fault_if, known_faults, sort_faults, term_faults, terms_faults, right_faults, same_faults, is_forbidden, use_faults, relation_faults, atom_faults, flow_faults, packet_faults, variable_faults, word_is_outside, packet_is_outside, faults}
use Rattle.csdn_types.specs.Order.{at_of, rank, ComesFirst, IsLeast}
use Rattle.csdn_tree.specs.Within.{TermsWithin, Within}
use Rattle.csdn_tree.proofs.Ends.{terms_end}

-- place and rank as one number
abbrev pub key : SortRefusal → ℕ
key e = 8 * at_of e + rank e

-- keys rise, above one number and at most to another
unfoldable pub Ordered : ℕ → List SortRefusal → ℕ → Type 0
Ordered from [] to = from ≤ to
Ordered from (e ∷ es) to = (from < key e) × Ordered (key e) es to

pub ordered_from : (from later : ℕ) (es : List SortRefusal) (to : ℕ) → from ≤ later → Ordered later es to → Ordered from es to
unfolding Ordered
ordered_from from later [] to sooner ordered = omega arith
ordered_from from later (e ∷ es) to sooner ordered = (omega (arith, ordered.0), ordered.1)

pub joined : (from middle to : ℕ) (xs ys : List SortRefusal) → Ordered from xs middle → Ordered middle ys to → Ordered from (xs ++ ys) to
unfolding Ordered
joined from middle to [] ys left right = ordered_from from middle ys to left right
joined from middle to (x ∷ xs) ys left right = (left.0, joined (key x) middle to xs ys left.1 right)

pub none : (from to : ℕ) → from ≤ to → Ordered from [] to
unfolding Ordered
none from to fits = fits

pub one : (from to : ℕ) (e : SortRefusal) → from < key e → key e ≤ to → Ordered from (e ∷ []) to
unfolding Ordered
one from to e low high = (low, high)

pub if_one : (b : Bool) (from to : ℕ) (e : SortRefusal) → from < key e → key e ≤ to → Ordered from (fault_if b e) to
if_one true from to e low high = one from to e low high
if_one false from to e low high = none from to (omega arith)

-- ---- terms

pub known_ordered : (at : ℕ) (known : Option SortedTerm) → Ordered (8 * at) (known_faults at known) (8 * at + 8)
known_ordered at None = one _ _ (Unknown at) (omega arith) (omega arith)
known_ordered at (Some k) = none _ _ (omega arith)

sort_ordered : (at : ℕ) (sort : Sort) (known : Option SortedTerm) → Ordered (8 * at) (sort_faults at sort known) (8 * at + 8)
sort_ordered at sort None = one _ _ (Unknown at) (omega arith) (omega arith)
sort_ordered at sort (Some k) = if_one (not (same_sort k.sort sort)) _ _ (WrongSort at) (omega arith) (omega arith)

pub sort_low : (at : ℕ) (sort : Sort) (known : Option SortedTerm) → Ordered (8 * at) (sort_faults at sort known) (8 * at + 4)
sort_low at sort None = one _ _ (Unknown at) (omega arith) (omega arith)
sort_low at sort (Some k) = if_one (not (same_sort k.sort sort)) _ _ (WrongSort at) (omega arith) (omega arith)

pub ordered_to : (from nearer to : ℕ) (es : List SortRefusal) → Ordered from es nearer → nearer ≤ to → Ordered from es to
unfolding Ordered
ordered_to from nearer to [] ordered fits = omega arith
ordered_to from nearer to (e ∷ es) ordered fits = (ordered.0, ordered_to (key e) nearer to es ordered.1 fits)

-- between two places
pub between : (from at to : ℕ) (es : List SortRefusal) → from ≤ at → at < to → Ordered (8 * at) es (8 * at + 8) → Ordered (8 * from) es (8 * to)
between from at to es low high ordered = ordered_from _ (8 * at) es _ (omega arith) (ordered_to _ (8 * at + 8) _ es ordered (omega arith))

pub term_ordered : (s : Scope) (sort : Sort) (t : RawTerm) → Ordered (8 * place_of t) (term_faults s sort t) (8 * place_of t + 8)
term_ordered s sort t = sort_ordered (place_of t) sort (meaning s t)

-- a list at one place, and then a list of later ones
pub then_later : (from at to : ℕ) (xs ys : List SortRefusal) → from ≤ at → Ordered (8 * at) xs (8 * at + 8) → Ordered (8 * (at + 1)) ys (8 * to) → Ordered (8 * from) (xs ++ ys) (8 * to)
then_later from at to xs ys low here later =
    joined _ (8 * at + 8) _ xs ys (ordered_from _ (8 * at) xs _ (omega arith) here) (ordered_from _ (8 * (at + 1)) ys _ (omega arith) later)

-- terms one after another, of which some may be left out at the end
pub terms_ordered : (s : Scope) (sorts : List Sort) (ts : List RawTerm) (from to : ℕ) → TermsWithin from ts to → Ordered (8 * from) (terms_faults s sorts ts) (8 * to)
unfolding TermsWithin terms_faults
terms_ordered s [] ts from to within = none _ _ (omega (arith, terms_end from to ts within))
terms_ordered s (sort ∷ sorts) [] from to within = none _ _ (omega (arith, within))
terms_ordered s (sort ∷ sorts) (t ∷ ts) from to within =
    then_later from (place_of t) to (term_faults s sort t) (terms_faults s sorts ts) within.0 (term_ordered s sort t) (terms_ordered s sorts ts (place_of t + 1) to within.1)

right_ordered : (s : Scope) (known : Option SortedTerm) (u : RawTerm) → Ordered (8 * place_of u) (right_faults s known u) (8 * place_of u + 8)
right_ordered s None u = known_ordered (place_of u) (meaning s u)
right_ordered s (Some k) u = term_ordered s k.sort u

same_ordered : (s : Scope) (t u : RawTerm) (from to : ℕ) → TermsWithin from (t ∷ u ∷ []) to → Ordered (8 * from) (same_faults s t u) (8 * to)
unfolding TermsWithin
same_ordered s t u from to within =
    then_later from (place_of t) to _ _ within.0 (known_ordered (place_of t) (meaning s t)) (between _ (place_of u) _ _ within.1.0 (omega (arith, within.1.1)) (right_ordered s (meaning s t) u))

-- ---- atoms

use_ordered : (use_of : Use) (s : Scope) (at : ℕ) (ts : List RawTerm) (d : Option Relation) (to : ℕ) → TermsWithin (at + 1) ts to → Ordered (8 * at) (use_faults use_of s at ts d) (8 * to)
use_ordered use_of s at ts None to within = one _ _ (Unknown at) (omega arith) (omega (arith, terms_end (at + 1) to ts within))
use_ordered use_of s at ts (Some d) to within =
    joined _ (8 * at + 4) _ (fault_if (not (length ts == length d.sorts)) (WrongArity at)) _ (if_one (not (length ts == length d.sorts)) _ _ (WrongArity at) (omega arith) (omega arith))
    (joined _ (8 * at + 6) _ (fault_if (is_forbidden use_of d) (NotAllowed at)) _ (if_one (is_forbidden use_of d) _ _ (NotAllowed at) (omega arith) (omega arith))
    (ordered_from _ (8 * (at + 1)) _ _ (omega arith) (terms_ordered s d.sorts ts (at + 1) to within)))

relation_ordered : (use_of : Use) (s : Scope) (at : ℕ) (ts : List RawTerm) (id : Option ℕ) (to : ℕ) → TermsWithin (at + 1) ts to → Ordered (8 * at) (relation_faults use_of s at ts id) (8 * to)
relation_ordered use_of s at ts None to within = one _ _ (Unknown at) (omega arith) (omega (arith, terms_end (at + 1) to ts within))
relation_ordered use_of s at ts (Some id) to within = use_ordered use_of s at ts (slice_get s.relations id) to within

pub atom_ordered : (use_of : Use) (s : Scope) (name : RawName) (ts : List RawTerm) (from to : ℕ) → from ≤ name.at → TermsWithin (name.at + 1) ts to → Ordered (8 * from) (atom_faults use_of s name ts) (8 * to)
atom_ordered use_of s name ts from to low within = ordered_from _ (8 * name.at) _ _ (omega arith) (relation_ordered use_of s name.at ts (relation_named s name.text) to within)

-- the term before a word, the word, and the rest
word_ordered : (s : Scope) (switch : RawTerm) (at : ℕ) (b : Bool) (rest : List SortRefusal) (from to : ℕ) → from ≤ place_of switch → place_of switch < at → Ordered (8 * (at + 1)) rest (8 * to) → Ordered (8 * from) (term_faults s Sw switch ++ (fault_if b (NotAllowed at) ++ rest)) (8 * to)
word_ordered s switch at b rest from to low next later =
    then_later from (place_of switch) to (term_faults s Sw switch) _ low (term_ordered s Sw switch)
    (then_later _ at to (fault_if b (NotAllowed at)) rest (omega arith) (if_one b _ _ (NotAllowed at) (omega arith) (omega arith)) later)

pub variable_ordered : (s : Scope) (name : RawName) → Ordered (8 * name.at) (variable_faults s name) (8 * name.at + 8)
variable_ordered s name =
    joined _ (8 * name.at + 2) _ (fault_if (is_some (named s name.text)) (Duplicate name.at)) _ (if_one (is_some (named s name.text)) _ _ (Duplicate name.at) (omega arith) (omega arith))
    (if_one (nat_le most_variables (length s.variables)) _ _ (TooMany name.at) (omega arith) (omega arith))

-- ---- formulas

pub faults_ordered : (place : FormulaPlace) (s : Scope) (p : RawFormula) (from to : ℕ) → Within from p to → Ordered (8 * from) (faults place s p) (8 * to)
unfolding Within faults TermsWithin
faults_ordered place s f.True from to within = none _ _ (omega arith)
faults_ordered place s f.False from to within = none _ _ (omega arith)
faults_ordered place s (f.Atom name ts) from to within = atom_ordered (InFormula place) s name ts from to within.0 within.1
faults_ordered place s (f.Same t u) from to within = same_ordered s t u from to within
faults_ordered place s (f.Flow at word w) from to within =
    word_ordered s (Name w.switch) at (word_is_outside place word) (flow_faults s w) from to within.0 within.1
    (then_later _ (place_of w.source) to _ _ within.2.0 (term_ordered s Ho w.source)
    (then_later _ (place_of w.target) to _ _ within.2.1.0 (term_ordered s Ho w.target)
    (then_later _ (place_of w.ingress) to _ _ within.2.1.1.0 (term_ordered s Pr w.ingress)
    (between _ (place_of w.egress) to _ within.2.1.1.1.0 (omega (arith, within.2.1.1.1.1)) (term_ordered s Pr w.egress)))))
faults_ordered place s (f.RcvThis at w) from to within =
    word_ordered s (Name w.switch) at (packet_is_outside place) (packet_faults s w) from to within.0 within.1
    (then_later _ (place_of w.source) to _ _ within.2.0 (term_ordered s Ho w.source)
    (then_later _ (place_of w.target) to _ _ within.2.1.0 (term_ordered s Ho w.target)
    (between _ (place_of w.ingress) to _ within.2.1.1.0 (omega (arith, within.2.1.1.1)) (term_ordered s Pr w.ingress))))
faults_ordered place s (raw_not p) from to within = faults_ordered place s p from to within
faults_ordered place s (raw_two k p q) from to (m, left, right) = joined _ (8 * m) _ (faults place s p) _ (faults_ordered place s p from m left) (faults_ordered place (after s p) q m to right)
faults_ordered place s (raw_bind which name sort p) from to within = then_later from name.at to (variable_faults s name) _ within.0 (variable_ordered s name) (faults_ordered place (bound s name sort) p (name.at + 1) to within.1)

-- ---- the first is the least

rank_small : (e : SortRefusal) → rank e < 8
rank_small Memory = omega arith
rank_small (Duplicate at) = omega arith
rank_small (Unknown at) = omega arith
rank_small (WrongArity at) = omega arith
rank_small (WrongSort at) = omega arith
rank_small (NotAllowed at) = omega arith
rank_small (TooMany at) = omega arith

split : (a b m n : ℕ) → m < 8 → n < 8 → 8 * a + m ≤ 8 * b + n → (a < b) ⊎ ((a ≡ b) × (m ≤ n))
split a b m n small small' le = grind arith

comes_first : (e d : SortRefusal) → key e ≤ key d → ComesFirst e d
comes_first e d le = record { is = split (at_of e) (at_of d) (rank e) (rank d) (rank_small e) (rank_small d) le }

all_later : (e : SortRefusal) (from to : ℕ) (es : List SortRefusal) → key e ≤ from → Ordered from es to → All (ComesFirst e) es
unfolding Ordered
all_later e from to [] low ordered = All-nil (ComesFirst e)
all_later e from to (d ∷ es) low ordered = All-cons (ComesFirst e) d es (comes_first e d (omega (arith, low, ordered.0))) (all_later e (key d) to es (omega (arith, low, ordered.0)) ordered.1)

head_is_least : (e : SortRefusal) (es : List SortRefusal) (to : ℕ) → Ordered (key e) es to → IsLeast (e ∷ es) e
head_is_least e es to ordered =
    record { among = (0, omega arith, refl); first = All-cons (ComesFirst e) e es (comes_first e e (omega arith)) (all_later e (key e) to es (omega arith) ordered) }

pub least : (es : List SortRefusal) (e : SortRefusal) (from to : ℕ) → Ordered from es to → head es ≡ Some e → IsLeast es e
unfolding Ordered
least [] e from to ordered is = absurd cc
least (d ∷ es) e from to ordered is =
    let same : d ≡ e = cc in
    rw (← same) (head_is_least d es to ordered.1)

above_none : (from : ℕ) (e : SortRefusal) → from < key e → e ≡ Memory → ⊥
above_none from e low is = let low' : from < key Memory = subst (λ (x : SortRefusal). from < key x) is low in omega arith

-- there is no fault, or a least one, which is not want of memory
pub none_or_least : (from to : ℕ) (es : List SortRefusal) → Ordered from es to → (es ≡ []) ⊎ ((e : SortRefusal) × IsLeast es e × (e ≡ Memory → ⊥))
unfolding Ordered
none_or_least from to [] ordered = inl refl
none_or_least from to (e ∷ es) ordered = inr (e, head_is_least e es to ordered.1, above_none from e ordered.0)

-- where the places rise, the first fault is the refusal to answer
pub first_is_least : (place : FormulaPlace) (s : Scope) (p : RawFormula) (from to : ℕ) → Within from p to → (e : SortRefusal) → IsFirst (faults place s p) e → (e ≡ Memory) ⊎ IsLeast (faults place s p) e
first_is_least place s p from to within e first = elim first.is [ inl memory ↦ inl memory | inr is ↦ inr (least (faults place s p) e _ _ (faults_ordered place s p from to within) is) ]
