-- What a network is read from.
use Rattle.std.specs.Prelude.{ℕ, ◌<◌, ◌≤◌, ◌^◌, ◌==◌, Bool, List, [], ◌∷◌, map, length, All}
use Rattle.std.specs.List.{list_any, flat_map}
use Rattle.std.specs.Ordering.{nat_cmp, on, then_cmp}
use Rattle.std.specs.declared.cmp.Ordering.{Ordering}
use Rattle.std.specs.Cmp.{IsTotalOrder, nat_cmp_total, on_total, then_total}
use Rattle.std.specs.Cmp.Lexicographic.{nat_list_cmp_total, slice_cmp}
use Rattle.std.specs.BTreeSet.{insert_key}
use Rattle.csdn_core.specs.declared.terms.Pred.{Pred}
use Rattle.csdn_core.specs.declared.terms.Pred.TheVariants.{Stored, Ft, Sent, RcvThis}
use Rattle.csdn_core.specs.Network.{Network, StaticRow}
use Rattle.net_structs.specs.declared.row.Row.{Row}
use Rattle.net_structs.specs.declared.network.FixedRow.{FixedRow}
use Rattle.net_structs.specs.declared.read.NetParts.{NetParts}

-- whether an element is in a list
abbrev pub has : List ℕ → ℕ → Bool
has elements m = list_any (λ n. m == n) elements

-- into an ordered list, the members of another, each once
abbrev pub put_in_order : {X : Type 0} → (X → X → Ordering) → List X → List X → List X
put_in_order cmp done [] = done
put_in_order cmp done (x ∷ xs) = put_in_order cmp (insert_key cmp done x) xs

-- the members of a list in order, each once
abbrev pub in_order : {X : Type 0} → (X → X → Ordering) → List X → List X
in_order cmp xs = put_in_order cmp [] xs

-- by their relations, and then by their elements
abbrev pub fixed_cmp : FixedRow → FixedRow → Ordering
fixed_cmp = then_cmp (on (λ row. row.rel.0) nat_cmp) (on (λ row. row.cells) (slice_cmp nat_cmp))

pub fixed_total : IsTotalOrder fixed_cmp
fixed_total = then_total (on_total (λ (row : FixedRow). row.rel.0) nat_cmp_total) (on_total (λ (row : FixedRow). row.cells) nat_list_cmp_total)

abbrev pub static_of : FixedRow → StaticRow
static_of row = record { rel = row.rel.0; cells = row.cells }

-- the tuple of a declared relation, as one of a static relation
abbrev pub fixed_row : Pred → List ℕ → List FixedRow
fixed_row (Stored r) cells = record { rel = r; cells = cells } ∷ []
fixed_row Ft cells = []
fixed_row Sent cells = []
fixed_row RcvThis cells = []

abbrev pub fixed_rows : List Row → List FixedRow
fixed_rows rows = flat_map (λ row. fixed_row row.pred row.cells) rows

abbrev pub as_stored : List StaticRow → List Row
as_stored rows = map (λ row. record { pred = Stored (record { 0 = row.rel }); cells = row.cells }) rows

-- the network of these parts: elements and tuples in order and each once, and the values of the constants
abbrev pub network_of : NetParts → Network
network_of parts = record {
  switches = in_order nat_cmp parts.sw;
  hosts = in_order nat_cmp parts.ho;
  ports = in_order nat_cmp parts.pr;
  constants = parts.consts;
  rows = map static_of (in_order fixed_cmp (fixed_rows parts.rows));
}

-- the network of these sorts, without values of constants and without tuples
abbrev pub bare_network : List ℕ → List ℕ → List ℕ → Network
bare_network sw ho pr = record { switches = in_order nat_cmp sw; hosts = in_order nat_cmp ho; ports = in_order nat_cmp pr; constants = []; rows = [] }

-- by their relations, and then by their elements
abbrev pub static_cmp : StaticRow → StaticRow → Ordering
static_cmp = then_cmp (on (λ row. row.rel) nat_cmp) (on (λ row. row.cells) (slice_cmp nat_cmp))

-- the network with a tuple of a static relation at its place in the order, unless it is there
abbrev pub with_static : Network → ℕ → List ℕ → Network
with_static N r cells = record N { rows = insert_key static_cmp N.rows (record { rel = r; cells = cells }) }

-- the parts as a network, as they are listed
abbrev pub as_listed : NetParts → Network
as_listed parts = record {
  switches = parts.sw;
  hosts = parts.ho;
  ports = parts.pr;
  constants = parts.consts;
  rows = map static_of (fixed_rows parts.rows);
}

-- a declared relation
abbrev pub IsDeclared : Pred → Type 0
IsDeclared (Stored r) = Unit {0}
IsDeclared Ft = ⊥
IsDeclared Sent = ⊥
IsDeclared RcvThis = ⊥

-- hosts are addresses of 48 bits, ports have numbers that OpenFlow doesn't reserve, and these are not too many
pub record IsServable (N : Network) : Type 0 where
  pub hosts : All (λ m. m < 2 ^ 48) N.hosts
  pub ports : All (λ k. (1 ≤ k) × (k ≤ 65280)) N.ports
  pub few : length N.ports ≤ 4096
