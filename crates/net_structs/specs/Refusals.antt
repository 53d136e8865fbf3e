-- Which of the parts of a network is refused first.
use Rattle.std.specs.Prelude.{◌≡◌, ℕ, ◌+◌, ◌==◌, Bool, true, false, ◌&&◌, ◌||◌, if◌then◌else◌, List, [], ◌∷◌, Option, Some, None, option_map, slice_get, Result, Ok, Err}
use Rattle.std.specs.Option.{option_or}
use Rattle.csdn_core.specs.declared.terms.Sort.{Sort}
use Rattle.csdn_core.specs.declared.terms.Sort.TheVariants.{Sw, Ho, Pr}
use Rattle.csdn_core.specs.declared.terms.Pred.{Pred}
use Rattle.csdn_core.specs.declared.terms.Pred.TheVariants.{Stored, Ft, Sent, RcvThis}
use Rattle.csdn_core.specs.declared.program.Parts.{Parts}
use Rattle.csdn_core.specs.declared.program.Relation.{Relation}
use Rattle.csdn_core.specs.declared.program.Constant.{Constant}
use Rattle.csdn_core.specs.Network.{Network, elements}
use Rattle.net_structs.specs.declared.row.Row.{Row}
use Rattle.net_structs.specs.declared.read.NetParts.{NetParts}
use Rattle.net_structs.specs.declared.read.NetRefusal.{NetRefusal}
use Rattle.net_structs.specs.declared.read.NetRefusal.TheVariants as refusal
use Rattle.net_structs.specs.Networks.{has, network_of}

abbrev pub is_empty : List ℕ → Bool
is_empty [] = true
is_empty (m ∷ ms) = false

-- the first sort without elements
abbrev pub empty_sort : NetParts → Option Sort
empty_sort parts = if is_empty parts.sw then Some Sw else if is_empty parts.ho then Some Ho else if is_empty parts.pr then Some Pr else None

-- the first element of a list that stands earlier in it, or is among those seen before it
abbrev pub repeated_from : (ℕ → Bool) → List ℕ → Option ℕ
repeated_from seen [] = None
repeated_from seen (m ∷ ms) = if seen m then Some m else repeated_from (λ n. seen n || n == m) ms

abbrev pub first_repeated : List ℕ → Option ℕ
first_repeated elements = repeated_from (λ m. false) elements

-- the first numeral that is no port
abbrev pub missing_port : List ℕ → List ℕ → Option ℕ
missing_port ports [] = None
missing_port ports (k ∷ ks) = if has ports k then missing_port ports ks else Some k

-- the first constant without a value of its sort, or the place of a value without a constant
abbrev pub strange_const_from : ℕ → Network → List Constant → List ℕ → Option ℕ
strange_const_from at N [] [] = None
strange_const_from at N [] (m ∷ ms) = Some at
strange_const_from at N (d ∷ ds) [] = Some at
strange_const_from at N (d ∷ ds) (m ∷ ms) = if has (elements N d.sort) m then strange_const_from (at + 1) N ds ms else Some at

-- as many cells as sorts, each an element of its sort
abbrev pub have_elements : Network → List Sort → List ℕ → Bool
have_elements N [] [] = true
have_elements N [] (m ∷ ms) = false
have_elements N (s ∷ ss) [] = false
have_elements N (s ∷ ss) (m ∷ ms) = has (elements N s) m && have_elements N ss ms

abbrev pub is_static_in : Network → Option Relation → List ℕ → Bool
is_static_in N None cells = false
is_static_in N (Some relation) cells = relation.fixed && have_elements N relation.sorts cells

-- whether a row is a tuple of a static relation, of elements of its sorts
abbrev pub is_static_tuple : Parts → Network → Pred → List ℕ → Bool
is_static_tuple P N (Stored r) cells = is_static_in N (slice_get P.relations r.0) cells
is_static_tuple P N Ft cells = false
is_static_tuple P N Sent cells = false
is_static_tuple P N RcvThis cells = false

-- the first row that isn't such a tuple
abbrev pub strange_row_from : ℕ → Parts → Network → List Row → Option ℕ
strange_row_from at P N [] = None
strange_row_from at P N (row ∷ rows) = if is_static_tuple P N row.pred row.cells then strange_row_from (at + 1) P N rows else Some at

abbrev pub repeated_in : Sort → List ℕ → Option NetRefusal
repeated_in s elements = option_map (λ m. refusal.RepeatedElement s m) (first_repeated elements)

-- what is wrong with a network beside its program, where its sorts are in order
abbrev pub fault_in : Parts → Network → List Row → Option NetRefusal
fault_in P N rows =
    option_or (option_map (λ k. refusal.MissingPort k) (missing_port N.ports P.numerals))
    (option_or (option_map (λ at. refusal.StrangeConst at) (strange_const_from 0 N P.constants N.constants))
    (option_map (λ at. refusal.StrangeElement at) (strange_row_from 0 P N rows)))

-- the first refusal: empty sorts, repeated elements, missing ports, strange constants, strange rows
abbrev pub first_refusal : Parts → NetParts → Option NetRefusal
first_refusal P parts =
    option_or (option_map (λ s. refusal.EmptySort s) (empty_sort parts))
    (option_or (repeated_in Sw parts.sw)
    (option_or (repeated_in Ho parts.ho)
    (option_or (repeated_in Pr parts.pr) (fault_in P (network_of parts) parts.rows))))

-- the refusal is the first, unless memory ran out
abbrev pub IsRefusal : Option NetRefusal → NetRefusal → Type 0
IsRefusal first refusal.Memory = Unit {0}
IsRefusal first why = first ≡ Some why

-- the network of the parts where nothing is to be refused, and else the first refusal
abbrev pub IsAnswer : Parts → NetParts → Result Network NetRefusal → Type 0
IsAnswer P parts (Ok N) = (first_refusal P parts ≡ None) × (N ≡ network_of parts)
IsAnswer P parts (Err why) = IsRefusal (first_refusal P parts) why

-- the elements of a sort in order, or the first that is repeated
abbrev pub IsRising : Sort → List ℕ → Result (List ℕ) NetRefusal → List ℕ → Type 0
IsRising s elements (Ok rising) ordered = (first_repeated elements ≡ None) × (rising ≡ ordered)
IsRising s elements (Err why) ordered = IsRefusal (repeated_in s elements) why
