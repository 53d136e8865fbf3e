-- Networks, their states, and the structure that the two make.
use Rattle.std.specs.Prelude.{◌≡◌, ◌≢◌, ℕ, ◌==◌, Bool, true, false, ◌&&◌, List, [], ◌∷◌, if◌then◌else◌, All, AllPairs, Contains, slice_index, slice_get, length, Option, Some, None}
use Rattle.std.specs.List.{list_any}
use Rattle.csdn_core.specs.declared.terms.Sort.{Sort}
use Rattle.csdn_core.specs.declared.terms.Sort.TheVariants.{Sw, Ho, Pr}
use Rattle.csdn_core.specs.declared.terms.Pred.{Pred}
use Rattle.csdn_core.specs.declared.terms.Pred.TheVariants.{Stored, Ft, Sent, RcvThis}
use Rattle.csdn_core.specs.declared.event.Packet.{Packet}
use Rattle.csdn_core.specs.declared.event.Packet.TheVariants.{Nothing, At}
use Rattle.csdn_core.specs.declared.program.Parts.{Parts}
use Rattle.csdn_core.specs.declared.program.Relation.{Relation}
use Rattle.csdn_core.specs.declared.program.Constant.{Constant}
use Rattle.csdn_core.specs.Truth.{Structure}

-- a tuple of a static relation, by the relation's number
pub record StaticRow : Type 0 where
  pub rel : ℕ
  pub cells : List ℕ

pub record Network : Type 0 where
  pub switches : List ℕ
  pub hosts : List ℕ
  pub ports : List ℕ
  -- in the order of the program's constants
  pub constants : List ℕ
  pub rows : List StaticRow

abbrev pub elements : Network → Sort → List ℕ
elements N Sw = N.switches
elements N Ho = N.hosts
elements N Pr = N.ports

-- Whether a tuple is in a relation: a `rel`, `ft` or `sent`. A state is any such function, of which truth looks only at
-- tuples of a network's elements: those are finitely many, so no more is said than of finite lists of tuples.
abbrev pub State : Type 0
State = Pred → List ℕ → Bool

abbrev pub same_cells : List ℕ → List ℕ → Bool
same_cells [] [] = true
same_cells (m ∷ ms) (n ∷ ns) = (m == n) && same_cells ms ns
same_cells [] (n ∷ ns) = false
same_cells (m ∷ ms) [] = false

abbrev pub same_pred : Pred → Pred → Bool
same_pred (Stored r) (Stored q) = r.0 == q.0
same_pred Ft Ft = true
same_pred Sent Sent = true
same_pred RcvThis RcvThis = true
same_pred _ _ = false

abbrev pub is_fixed_in : Option Relation → Bool
is_fixed_in (Some r) = r.fixed
is_fixed_in None = false

-- whether a relation is static
abbrev pub is_fixed : Parts → ℕ → Bool
is_fixed P r = is_fixed_in (slice_get P.relations r)

abbrev pub is_static_row : Network → ℕ → List ℕ → Bool
is_static_row N r cells = list_any (λ row. (row.rel == r) && same_cells row.cells cells) N.rows

abbrev pub is_packet : Packet → List ℕ → Bool
is_packet Nothing cells = false
is_packet (At s a b i) cells = same_cells cells (s ∷ a ∷ b ∷ i ∷ [])

-- a static relation belongs to the network, the others to the state, and `rcv_this` is the packet
abbrev pub holds_in : Parts → Network → State → Packet → Pred → List ℕ → Bool
holds_in P N x packet (Stored r) cells = if is_fixed P r.0 then is_static_row N r.0 cells else x (Stored r) cells
holds_in P N x packet Ft cells = x Ft cells
holds_in P N x packet Sent cells = x Sent cells
holds_in P N x packet RcvThis cells = is_packet packet cells

abbrev pub structure : Parts → Network → State → Packet → Structure
structure P N x packet = record {
  elements = elements N;
  constant = slice_index N.constants;
  holds = holds_in P N x packet;
}

-- each cell is an element of its sort
unfoldable pub HaveElements : Network → List Sort → List ℕ → Type 0
HaveElements N [] [] = Unit {0}
HaveElements N (s ∷ ss) (m ∷ ms) = Contains (elements N s) m × HaveElements N ss ms
HaveElements N [] (m ∷ ms) = ⊥
HaveElements N (s ∷ ss) [] = ⊥

-- a tuple of a static relation, of its sorts
pub record IsStaticTuple (P : Parts) (N : Network) (row : StaticRow) : Type 0 where
  pub relation : Relation
  pub declared : slice_get P.relations row.rel ≡ Some relation
  pub static : relation.fixed ≡ true
  pub cells : HaveElements N relation.sorts row.cells

-- what a network of a program has
pub record IsNetwork (P : Parts) (N : Network) : Type 0 where
  -- no sort is empty, and each element is listed once
  pub some : (s : Sort) → elements N s ≢ []
  pub distinct : (s : Sort) → AllPairs (λ m n. m ≢ n) (elements N s)
  -- each port that the program names is a port of the network
  pub numerals : All (Contains N.ports) P.numerals
  -- each constant has a value of its sort
  pub as_many : length N.constants ≡ length P.constants
  pub sorted : (k : ℕ) (c : Constant) → slice_get P.constants k ≡ Some c → Contains (elements N c.sort) (slice_index N.constants k)
  pub rows : All (IsStaticTuple P N) N.rows
