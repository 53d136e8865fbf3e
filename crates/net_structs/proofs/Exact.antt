-- Parts are accepted exactly where they are a network.
use Rattle.std.proofs.Common.{◌≡◌, ◌≢◌, ◌∙◌, ◌↔◌, ap, sym, refl, subst, ℕ, zero, suc, ◌+◌, ◌<◌, ◌==◌, Bool, true, false, true≢false, ◌||◌, if◌then◌else◌, List, [], ◌∷◌, ◌++◌, length, get_or, map, Option, Some, None, slice_get, slice_index, arith}
use Rattle.std.specs.Option.{option_map}
use Rattle.std.specs.List.{All, AllByRecursion, AllPairs, Contains}
use Rattle.std.proofs.lemmas.Bool.{or_right, or_parts, eqb-true, ne_eqb}
use Rattle.std.proofs.lemmas.Cmp.{nat_eq_equiv}
use Rattle.std.proofs.lemmas.List.Elements.{All-head, All-tail, All-map, All-from_recursion, recursion_from_All}
use Rattle.std.proofs.lemmas.Map.Views.{list_any-from_Contains}
use Rattle.general_facts.proofs.Lists.{AllPairs-tail}
use Rattle.general_facts.proofs.Numbers.{self_equal}
use Rattle.csdn_core.specs.declared.terms.Sort.{Sort}
use Rattle.csdn_core.specs.declared.terms.Sort.TheVariants.{Sw, Ho, Pr}
use Rattle.csdn_core.specs.declared.terms.Pred.{Pred}
use Rattle.csdn_core.specs.declared.terms.Pred.TheVariants.{Stored, Ft, Sent, RcvThis}
use Rattle.csdn_core.specs.declared.program.Parts.{Parts}
use Rattle.csdn_core.specs.declared.program.Constant.{Constant}
use Rattle.csdn_core.specs.Network.{Network, elements, HaveElements, IsStaticTuple, IsNetwork}
use Rattle.net_structs.specs.declared.row.Row.{Row}
use Rattle.net_structs.specs.declared.network.FixedRow.{FixedRow}
use Rattle.net_structs.specs.declared.read.NetParts.{NetParts}
use Rattle.net_structs.specs.declared.read.NetRefusal.TheVariants as refusal
use Rattle.net_structs.specs.Networks.{has, fixed_row, fixed_rows, static_of, network_of, as_listed, IsDeclared}
use Rattle.net_structs.specs.Refusals.{is_empty, repeated_from, first_repeated, missing_port, strange_const_from, have_elements, is_static_in, is_static_tuple, strange_row_from, repeated_in, first_refusal}
use Rattle.net_structs.proofs.Ordered.{has-in_order}
use Rattle.net_structs.proofs.Accepted.{none_left, none_right, none_mapped, fails_then, some_switches, some_hosts, some_ports, all_ports, of_their_sorts, as_many_values, all_static, after_empty, no_empty, no_missing, no_strange_const, no_strange_row}

same_elements : (parts : NetParts) (s : Sort) (m : ℕ) → has (elements (network_of parts) s) m ≡ has (elements (as_listed parts) s) m
same_elements parts Sw m = has-in_order parts.sw m
same_elements parts Ho m = has-in_order parts.ho m
same_elements parts Pr m = has-in_order parts.pr m

has_at : (xs : List ℕ) (k d : ℕ) → k < length xs → has xs (get_or xs k d) ≡ true
has_at [] k d within = absurd (omega (arith, within))
has_at (x ∷ xs) zero d within = rw (self_equal x) refl
has_at (x ∷ xs) (suc k) d within = or_right (get_or xs k d == x) (has xs (get_or xs k d)) (has_at xs k d (omega (arith, within)))

-- no element is repeated

apart-cons : (x : ℕ) (xs : List ℕ) → ((m : ℕ) → has xs m ≡ true → x ≢ m) → AllPairs (λ m n. m ≢ n) xs → AllPairs (λ m n. m ≢ n) (x ∷ xs)
apart-cons x xs other apart i zero d before within = absurd (omega (arith, before))
apart-cons x xs other apart zero (suc j) d before within = other (get_or xs j d) (has_at xs j d (omega (arith, within)))
apart-cons x xs other apart (suc i) (suc j) d before within = apart i j d (omega (arith, before)) (omega (arith, within))

-- none of the elements was seen
abbrev AreNew : (ℕ → Bool) → List ℕ → Type 0
AreNew seen xs = (m : ℕ) → has xs m ≡ true → seen m ≡ false

new-cons : (seen : ℕ → Bool) (x : ℕ) (xs : List ℕ) → seen x ≡ false → AreNew (λ n. seen n || n == x) xs → AreNew seen (x ∷ xs)
new-cons seen x xs first rest m there = elim (m == x) as (λ b. (m == x) ≡ b → (b || has xs m) ≡ true → seen m ≡ false) [
  | true ↦ λ is at. subst (λ n. seen n ≡ false) (sym (eqb-true m x is)) first
  | false ↦ λ is at. (or_parts (seen m) (m == x) (rest m at)).0
] refl there

apart_from : (seen : ℕ → Bool) (xs : List ℕ) → repeated_from seen xs ≡ None → AllPairs (λ m n. m ≢ n) xs × AreNew seen xs
apart_from seen [] none = ((λ i j d before within. absurd (omega (arith, within))), λ m there. absurd (true≢false (sym there)))
apart_from seen (x ∷ xs) none =
    let parts = fails_then (seen x) x (repeated_from (λ n. seen n || n == x) xs) none in
    let more = apart_from (λ n. seen n || n == x) xs parts.1 in
    (apart-cons x xs (λ m there is. differs x m ((or_parts (seen m) (m == x) (more.1 m there)).1) is) more.0, new-cons seen x xs parts.0 more.1)
  where
    differs : (x m : ℕ) → (m == x) ≡ false → x ≡ m → ⊥
    differs x m apart is = true≢false (sym (self_equal m) ∙ ap (λ n. m == n) (sym is) ∙ apart)

none_repeated : (seen : ℕ → Bool) (xs : List ℕ) → AllPairs (λ m n. m ≢ n) xs → ((k : ℕ) (d : ℕ) → k < length xs → seen (get_or xs k d) ≡ false) → repeated_from seen xs ≡ None
none_repeated seen [] apart new = refl
none_repeated seen (x ∷ xs) apart new =
    ap (λ b. if b then Some x else repeated_from (λ n. seen n || n == x) xs) (new 0 0 (omega arith))
    ∙ none_repeated (λ n. seen n || n == x) xs (AllPairs-tail (λ m n. m ≢ n) x xs apart) (λ k d within.
    rw (new (suc k) d (omega (arith, within)), ne_eqb (get_or xs k d) x (λ is. apart 0 (suc k) d (omega arith) (omega (arith, within)) (sym is))) refl)

-- what a network has passes the tests

module _ (N M : Network) (same : (s : Sort) (m : ℕ) → has (elements N s) m ≡ has (elements M s) m) where
  passes : (s : Sort) (m : ℕ) → Contains (elements M s) m → has (elements N s) m ≡ true
  passes s m there = same s m ∙ list_any-from_Contains {eq = λ x y. x == y} nat_eq_equiv m (elements M s) there

  no_port_missing : (ks : List ℕ) → All (Contains M.ports) ks → missing_port N.ports ks ≡ None
  no_port_missing [] all = refl
  no_port_missing (k ∷ ks) all =
      ap (λ b. if b then missing_port N.ports ks else Some k) (passes Pr k (All-head (Contains M.ports) k ks all))
      ∙ no_port_missing ks (All-tail (Contains M.ports) k ks all)

  no_const_strange : (at : ℕ) (ds : List Constant) (ms : List ℕ) → length ms ≡ length ds → ((k : ℕ) (d : Constant) → slice_get ds k ≡ Some d → Contains (elements M d.sort) (slice_index ms k)) → strange_const_from at N ds ms ≡ None
  no_const_strange at [] [] many sorted = refl
  no_const_strange at [] (m ∷ ms) many sorted = absurd (omega (arith, many))
  no_const_strange at (d ∷ ds) [] many sorted = absurd (omega (arith, many))
  no_const_strange at (d ∷ ds) (m ∷ ms) many sorted =
      ap (λ b. if b then strange_const_from (at + 1) N ds ms else Some at) (passes d.sort m (sorted 0 d refl))
      ∙ no_const_strange (at + 1) ds ms (omega (arith, many)) (λ k c is. sorted (suc k) c is)

  cells_pass : (ss : List Sort) (ms : List ℕ) → HaveElements M ss ms → have_elements N ss ms ≡ true
  unfolding HaveElements
  cells_pass [] [] all = refl
  cells_pass [] (m ∷ ms) all = absurd all
  cells_pass (s ∷ ss) [] all = absurd all
  cells_pass (s ∷ ss) (m ∷ ms) all = rw (passes s m all.0, cells_pass ss ms all.1) refl

  row_passes : (P : Parts) (row : FixedRow) → IsStaticTuple P M (static_of row) → is_static_in N (slice_get P.relations row.rel.0) row.cells ≡ true
  row_passes P row is = rw (is.declared, is.static, cells_pass is.relation.sorts row.cells is.cells) refl

  one_row : (at : ℕ) (P : Parts) (pred : Pred) (cells : List ℕ) (rest : List FixedRow) (left : Option ℕ) → IsDeclared pred → AllByRecursion (λ row. IsStaticTuple P M (static_of row)) (fixed_row pred cells ++ rest) → (AllByRecursion (λ row. IsStaticTuple P M (static_of row)) rest → left ≡ None) → (if is_static_tuple P N pred cells then left else Some at) ≡ None
  one_row at P (Stored r) cells rest left declared all onward =
      ap (λ b. if b then left else Some at) (row_passes P (record { rel = r; cells = cells }) all.0) ∙ onward all.1
  one_row at P Ft cells rest left declared all onward = absurd declared
  one_row at P Sent cells rest left declared all onward = absurd declared
  one_row at P RcvThis cells rest left declared all onward = absurd declared

  no_row_strange : (at : ℕ) (P : Parts) (rows : List Row) → AllByRecursion (λ row. IsDeclared row.pred) rows → AllByRecursion (λ row. IsStaticTuple P M (static_of row)) (fixed_rows rows) → strange_row_from at P N rows ≡ None
  no_row_strange at P [] declared all = refl
  no_row_strange at P (row ∷ rows) declared all =
      one_row at P row.pred row.cells (fixed_rows rows) (strange_row_from (at + 1) P N rows) declared.0 all (λ rest. no_row_strange (at + 1) P rows declared.1 rest)

-- both ways

is_some_list : (xs : List ℕ) → is_empty xs ≡ false → xs ≢ []
is_some_list [] some is = true≢false some
is_some_list (x ∷ xs) some is = cc

has_some : (xs : List ℕ) → xs ≢ [] → is_empty xs ≡ false
has_some [] some = absurd (some refl)
has_some (x ∷ xs) some = refl

none_repeated_in : (s : Sort) (xs : List ℕ) → AllPairs (λ m n. m ≢ n) xs → repeated_in s xs ≡ None
none_repeated_in s xs apart = ap (λ o. option_map (λ m. refusal.RepeatedElement s m) o) (none_repeated (λ m. false) xs apart (λ k d within. refl))

module _ (P : Parts) (parts : NetParts) where
  abbrev N : Network
  N = network_of parts

  abbrev M : Network
  M = as_listed parts

  -- nothing refused, a network

  module _ (none : first_refusal P parts ≡ None) where
    some_of : (s : Sort) → elements M s ≢ []
    some_of Sw = is_some_list parts.sw (some_switches parts (no_empty P parts none))
    some_of Ho = is_some_list parts.ho (some_hosts parts (no_empty P parts none))
    some_of Pr = is_some_list parts.pr (some_ports parts (no_empty P parts none))

    apart_in : (s : Sort) (xs : List ℕ) → repeated_in s xs ≡ None → AllPairs (λ m n. m ≢ n) xs
    apart_in s xs unrepeated = (apart_from (λ m. false) xs (none_mapped (λ m. refusal.RepeatedElement s m) (first_repeated xs) unrepeated)).0

    distinct_of : (s : Sort) → AllPairs (λ m n. m ≢ n) (elements M s)
    distinct_of Sw = apart_in Sw parts.sw (none_left (repeated_in Sw parts.sw) _ (after_empty P parts none))
    distinct_of Ho = apart_in Ho parts.ho (none_left (repeated_in Ho parts.ho) _ (none_right (repeated_in Sw parts.sw) _ (after_empty P parts none)))
    distinct_of Pr = apart_in Pr parts.pr (none_left (repeated_in Pr parts.pr) _ (none_right (repeated_in Ho parts.ho) _ (none_right (repeated_in Sw parts.sw) _ (after_empty P parts none))))

    is_network : IsNetwork P M
    is_network = record {
      some = some_of;
      distinct = distinct_of;
      numerals = all_ports N M (same_elements parts) P.numerals (no_missing P parts none);
      as_many = as_many_values 0 N P.constants N.constants (no_strange_const P parts none);
      sorted = of_their_sorts N M (same_elements parts) 0 P.constants N.constants (no_strange_const P parts none);
      rows = All-map (IsStaticTuple P M) static_of (fixed_rows parts.rows) (All-from_recursion (λ row. IsStaticTuple P M (static_of row)) (fixed_rows parts.rows) (all_static N M (same_elements parts) 0 P parts.rows (no_strange_row P parts none)));
    }

  -- a network, nothing refused

  unmapped : (rows : List FixedRow) → All (IsStaticTuple P M) (map static_of rows) → AllByRecursion (λ row. IsStaticTuple P M (static_of row)) rows
  unmapped [] all = tt
  unmapped (row ∷ rows) all = (All-head (IsStaticTuple P M) (static_of row) (map static_of rows) all, unmapped rows (All-tail (IsStaticTuple P M) (static_of row) (map static_of rows) all))

  is_accepted : All (λ row. IsDeclared row.pred) parts.rows → IsNetwork P M → first_refusal P parts ≡ None
  is_accepted declared net =
      rw (
        has_some parts.sw (net.some Sw),
        has_some parts.ho (net.some Ho),
        has_some parts.pr (net.some Pr),
        none_repeated_in Sw parts.sw (net.distinct Sw),
        none_repeated_in Ho parts.ho (net.distinct Ho),
        none_repeated_in Pr parts.pr (net.distinct Pr),
        no_port_missing N M (same_elements parts) P.numerals net.numerals,
        no_const_strange N M (same_elements parts) 0 P.constants parts.consts net.as_many net.sorted,
        no_row_strange N M (same_elements parts) 0 P parts.rows (recursion_from_All (λ row. IsDeclared row.pred) parts.rows declared) (unmapped (fixed_rows parts.rows) net.rows),
      ) refl

  pub exact : All (λ row. IsDeclared row.pred) parts.rows → first_refusal P parts ≡ None ↔ IsNetwork P M
  exact declared = (is_network, is_accepted declared)
