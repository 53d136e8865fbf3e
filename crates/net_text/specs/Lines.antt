-- What the words of a network's lines say, with the reasons of a refusal in their order.
use Rattle.std.specs.Prelude.{ℕ, ◌+◌, Bool, true, false, not, ◌&&◌, ◌==◌, if◌then◌else◌, List, [], ◌∷◌, ◌++◌, length, map, Option, Some, None, is_none, Result, Ok, Err, slice_get, slice_set, codes}
use Rattle.std.specs.Str.{bytes_eq}
use Rattle.text_lines.specs.Text.{next, ended}
use Rattle.text_lines.specs.Numbers.{number_of}
use Rattle.text_lines.specs.Distinct.{are_distinct}
use Rattle.csdn_core.specs.declared.terms.Sort.{Sort}
use Rattle.csdn_core.specs.declared.event.Packet.{Packet}
use Rattle.csdn_core.specs.declared.event.Packet.TheVariants.{At}
use Rattle.csdn_core.specs.declared.program.Parts.{Parts}
use Rattle.csdn_core.specs.declared.program.Relation.{Relation}
use Rattle.csdn_core.specs.declared.program.Constant.{Constant}
use Rattle.csdn_core.specs.Truth.{same_truth}
use Rattle.csdn_core.specs.Network.{Network, elements}
use Rattle.csdn_core.specs.Sorted.{flow_sorts, packet_sorts}
use Rattle.net_structs.specs.Networks.{has, bare_network}
use Rattle.net_structs.specs.Refusals.{is_empty, have_elements, missing_port}
use Rattle.net_text.specs.declared.place.Open.{Open}
use Rattle.net_text.specs.declared.refusal.NetWhy.{NetWhy}
use Rattle.net_text.specs.declared.refusal.NetWhy.TheVariants as why

infixl 10 ◌>>=◌
abbrev pub ◌>>=◌ : {A B : Type 0} → Result A NetWhy → (A → Result B NetWhy) → Result B NetWhy
(Ok x) >>= f = f x
(Err e) >>= f = Err e

-- refused for this reason, unless the test holds
abbrev pub wants : Bool → NetWhy → Result (Unit {0}) NetWhy
wants true e = Ok tt
wants false e = Err e

abbrev pub or_why : {A : Type 0} → Option A → NetWhy → Result A NetWhy
or_why (Some x) e = Ok x
or_why None e = Err e

-- 2 ^ 64 - 1
abbrev pub most : ℕ
most = 18446744073709551615

-- behind those read before, the elements that the words are
abbrev pub elements_from : List ℕ → List (List ℕ) → Result (List ℕ) NetWhy
elements_from found [] = Ok found
elements_from found (w ∷ ws) = or_why (number_of most w) why.Number >>= (λ n. elements_from (found ++ n ∷ []) ws)

-- the words `vericon-net 1`
unfoldable pub header_of : List (List ℕ) → Result (Unit {0}) NetWhy
header_of ws = do
  name ← or_why (next ws) why.Header
  version ← or_why (next name.1) why.Header
  is ← wants (bytes_eq name.0 (codes "vericon-net") && bytes_eq version.0 (codes "1")) why.Header
  or_why (ended version.1) why.Header

-- the words behind a first word
unfoldable pub behind : List ℕ → List (List ℕ) → Result (List (List ℕ)) NetWhy
behind key ws = do
  word ← or_why (next ws) why.Shape
  is ← wants (bytes_eq word.0 key) why.Shape
  Ok word.1

-- ---- the lines of the sorts, behind their first words

unfoldable pub sort_of : List (List ℕ) → Result (List ℕ) NetWhy
sort_of ws = do
  es ← elements_from [] ws
  some ← wants (not (is_empty es)) why.Empty
  once ← wants (are_distinct es) why.Repeated
  Ok es

abbrev pub no_values : List Constant → List (Option ℕ)
no_values ds = map (λ d. None) ds

-- the network of the three sorts, which has the ports that the program names
unfoldable pub ports_of : Parts → List ℕ → List ℕ → List (List ℕ) → Result Open NetWhy
ports_of P sw ho ws = do
  es ← sort_of ws
  ports ← wants (is_none (missing_port (bare_network sw ho es).ports P.numerals)) why.NoPort
  Ok (record { network = bare_network sw ho es; values = no_values P.constants })

-- ---- constants

abbrev pub constant_from : ℕ → List Constant → List ℕ → Option (ℕ × Sort)
constant_from at [] name = None
constant_from at (d ∷ ds) name = if bytes_eq d.name name then Some (at, d.sort) else constant_from (at + 1) ds name

abbrev pub is_given : Option (Option ℕ) → Bool
is_given None = false
is_given (Some None) = false
is_given (Some (Some e)) = true

-- whether the constant of this name has its value already
abbrev pub has_value : List (Option ℕ) → Option (ℕ × Sort) → Bool
has_value values None = false
has_value values (Some c) = is_given (slice_get values c.0)

-- `c NAME E` behind its first word
unfoldable pub constant_of : Parts → Open → List (List ℕ) → Result Open NetWhy
constant_of P draft ws = do
  name ← or_why (next ws) why.Shape
  word ← or_why (next name.1) why.Shape
  end ← or_why (ended word.1) why.Shape
  once ← wants (not (has_value draft.values (constant_from 0 P.constants name.0))) why.Shape
  e ← or_why (number_of most word.0) why.Number
  c ← or_why (constant_from 0 P.constants name.0) why.Name
  known ← wants (has (elements draft.network c.1) e) why.Stranger
  Ok (record { network = draft.network; values = slice_set draft.values c.0 (Some e) })

-- the values, where each constant has one
abbrev pub values_from : List ℕ → List (Option ℕ) → Option (List ℕ)
values_from found [] = Some found
values_from found (None ∷ vs) = None
values_from found (Some e ∷ vs) = values_from (found ++ e ∷ []) vs

-- ---- tuples

abbrev pub relation_from : ℕ → List Relation → List ℕ → Option (ℕ × Relation)
relation_from at [] name = None
relation_from at (r ∷ rs) name = if bytes_eq r.name name then Some (at, r) else relation_from (at + 1) rs name

-- a tuple's cells: as many as the relation has, each of its sort
unfoldable pub cells_of : Network → List Sort → List ℕ → Result (List ℕ) NetWhy
cells_of N sorts es = do
  arity ← wants (length es == length sorts) why.Arity
  known ← wants (have_elements N sorts es) why.Stranger
  Ok es

-- the relation's number and the tuple of `t NAME E ..` behind its first word; the relation is static, or it isn't
unfoldable pub tuple_of : Parts → Bool → Network → List (List ℕ) → Result (ℕ × List ℕ) NetWhy
tuple_of P static N ws = do
  name ← or_why (next ws) why.Shape
  es ← elements_from [] name.1
  r ← or_why (relation_from 0 P.relations name.0) why.Name
  kind ← wants (same_truth r.1.fixed static) why.Name
  cells ← cells_of N r.1.sorts es
  Ok (r.0, cells)

-- the tuple of `ft E E E E E` and `sent E E E E E` behind their first words
unfoldable pub flow_of : Network → List (List ℕ) → Result (List ℕ) NetWhy
flow_of N ws = do
  es ← elements_from [] ws
  cells_of N flow_sorts es

-- `packet E E E E` behind its first word
unfoldable pub packet_of : Network → List (List ℕ) → Result Packet NetWhy
packet_of N ws = do
  s ← or_why (next ws) why.Shape
  a ← or_why (next s.1) why.Shape
  b ← or_why (next a.1) why.Shape
  i ← or_why (next b.1) why.Shape
  end ← or_why (ended i.1) why.Shape
  m ← or_why (number_of most s.0) why.Number
  x ← or_why (number_of most a.0) why.Number
  y ← or_why (number_of most b.0) why.Number
  k ← or_why (number_of most i.0) why.Number
  known ← wants (have_elements N packet_sorts (m ∷ x ∷ y ∷ k ∷ [])) why.Stranger
  Ok (At m x y k)
