-- Parts of which none is refused are a network.
use Rattle.std.proofs.Common.{◌≡◌, ◌≢◌, ◌∙◌, ap, sym, refl, subst, ℕ, zero, suc, ◌+◌, ◌==◌, Bool, true, false, true≢false, if◌then◌else◌, List, [], ◌∷◌, ◌++◌, length, Option, Some, None, Result, Ok, Err, IfOk, slice_get, slice_index, arith}
use Rattle.std.specs.Option.{option_or, option_map}
use Rattle.std.specs.List.{All, AllByRecursion, AllPairs, Contains}
use Rattle.std.specs.Ordering.{nat_cmp}
use Rattle.std.proofs.lemmas.Bool.{and_parts, eqb-true}
use Rattle.std.proofs.lemmas.List.Elements.{All-nil, All-cons, All-map}
use Rattle.std.proofs.lemmas.Map.Views.{Contains-from_any}
use Rattle.csdn_core.specs.declared.terms.Sort.{Sort}
use Rattle.csdn_core.specs.declared.terms.Sort.TheVariants.{Sw, Ho, Pr}
use Rattle.csdn_core.specs.declared.terms.Pred.{Pred}
use Rattle.csdn_core.specs.declared.terms.Pred.TheVariants.{Stored, Ft, Sent, RcvThis}
use Rattle.csdn_core.specs.declared.program.Parts.{Parts}
use Rattle.csdn_core.specs.declared.program.Relation.{Relation}
use Rattle.csdn_core.specs.declared.program.Constant.{Constant}
use Rattle.csdn_core.specs.Network.{Network, elements, HaveElements, IsStaticTuple, IsNetwork}
use Rattle.net_structs.specs.declared.row.Row.{Row}
use Rattle.net_structs.specs.declared.network.FixedRow.{FixedRow}
use Rattle.net_structs.specs.declared.read.NetParts.{NetParts}
use Rattle.net_structs.specs.declared.read.NetRefusal.{NetRefusal}
use Rattle.net_structs.specs.declared.read.NetRefusal.TheVariants as refusal
use Rattle.net_structs.specs.Networks.{has, in_order, fixed_cmp, fixed_row, fixed_rows, static_of, network_of}
use Rattle.net_structs.specs.Refusals.{IsAnswer, is_empty, empty_sort, missing_port, strange_const_from, have_elements, is_static_in, is_static_tuple, strange_row_from, repeated_in, fault_in, first_refusal}
use Rattle.net_structs.proofs.Ordered.{has-in_order, distinct-in_order, all-put}

-- the parts of a chain that finds nothing

pub none_left : {A : Type 0} (a b : Option A) → option_or a b ≡ None → a ≡ None
none_left None b is = refl
none_left (Some x) b is = absurd cc

pub none_right : {A : Type 0} (a b : Option A) → option_or a b ≡ None → b ≡ None
none_right None b is = is
none_right (Some x) b is = absurd cc

pub none_mapped : {A B : Type 0} (f : A → B) (a : Option A) → option_map f a ≡ None → a ≡ None
none_mapped f None is = refl
none_mapped f (Some x) is = absurd cc

-- a test that goes on where it holds

pub holds_then : {A : Type 0} (b : Bool) (rest : Option A) (at : A) → (if b then rest else Some at) ≡ None → (b ≡ true) × (rest ≡ None)
holds_then true rest at is = (refl, is)
holds_then false rest at is = absurd cc

pub fails_then : {A : Type 0} (b : Bool) (at : A) (rest : Option A) → (if b then Some at else rest) ≡ None → (b ≡ false) × (rest ≡ None)
fails_then true at rest is = absurd cc
fails_then false at rest is = (refl, is)

pub there : (xs : List ℕ) (m : ℕ) → has xs m ≡ true → Contains xs m
there xs m is = Contains-from_any {eq = λ x y. x == y} eqb-true m xs is

-- sorts

not_empty : (xs : List ℕ) → is_empty xs ≡ false → in_order nat_cmp xs ≢ []
not_empty [] some is = absurd (true≢false some)
not_empty (x ∷ xs) some is =
    let there : has (x ∷ xs) x ≡ true = grind arith in
    absurd (true≢false (sym there ∙ sym (has-in_order (x ∷ xs) x) ∙ ap (λ ys. has ys x) is))

module _ (parts : NetParts) (none : empty_sort parts ≡ None) where
  pub some_switches : is_empty parts.sw ≡ false
  some_switches = (fails_then (is_empty parts.sw) Sw _ none).0

  pub some_hosts : is_empty parts.ho ≡ false
  some_hosts = (fails_then (is_empty parts.ho) Ho _ (fails_then (is_empty parts.sw) Sw _ none).1).0

  pub some_ports : is_empty parts.pr ≡ false
  some_ports = (fails_then (is_empty parts.pr) Pr _ (fails_then (is_empty parts.ho) Ho _ (fails_then (is_empty parts.sw) Sw _ none).1).1).0

  some_of : (s : Sort) → elements (network_of parts) s ≢ []
  some_of Sw = not_empty parts.sw some_switches
  some_of Ho = not_empty parts.ho some_hosts
  some_of Pr = not_empty parts.pr some_ports

distinct_of : (parts : NetParts) (s : Sort) → AllPairs (λ m n. m ≢ n) (elements (network_of parts) s)
distinct_of parts Sw = distinct-in_order parts.sw
distinct_of parts Ho = distinct-in_order parts.ho
distinct_of parts Pr = distinct-in_order parts.pr

-- Tests in a network N, of what another network M has, where both have the same elements.

module _ (N M : Network) (same : (s : Sort) (m : ℕ) → has (elements N s) m ≡ has (elements M s) m) where
  there_too : (s : Sort) (m : ℕ) → has (elements N s) m ≡ true → Contains (elements M s) m
  there_too s m is = there (elements M s) m (sym (same s m) ∙ is)

  -- numerals and constants

  pub all_ports : (ks : List ℕ) → missing_port N.ports ks ≡ None → All (Contains M.ports) ks
  all_ports [] none = All-nil (Contains M.ports)
  all_ports (k ∷ ks) none =
      let parts = holds_then (has N.ports k) (missing_port N.ports ks) k none in
      All-cons (Contains M.ports) k ks (there_too Pr k parts.0) (all_ports ks parts.1)

  pub of_their_sorts : (at : ℕ) (ds : List Constant) (ms : List ℕ) → strange_const_from at N ds ms ≡ None → (k : ℕ) (d : Constant) → slice_get ds k ≡ Some d → Contains (elements M d.sort) (slice_index ms k)
  of_their_sorts at [] [] none k d is = absurd cc
  of_their_sorts at [] (m ∷ ms) none k d is = absurd cc
  of_their_sorts at (c ∷ ds) [] none k d is = absurd cc
  of_their_sorts at (c ∷ ds) (m ∷ ms) none zero d is =
      let one : c ≡ d = some_is c d is in
      subst (λ (e : Constant). Contains (elements M e.sort) m) one (there_too c.sort m (holds_then (has (elements N c.sort) m) _ at none).0)
    where
      some_is : (a b : Constant) → Some a ≡ Some b → a ≡ b
      some_is a b is = cc
  of_their_sorts at (c ∷ ds) (m ∷ ms) none (suc k) d is = of_their_sorts (at + 1) ds ms (holds_then (has (elements N c.sort) m) _ at none).1 k d is

  -- rows

  cells_of_sorts : (ss : List Sort) (ms : List ℕ) → have_elements N ss ms ≡ true → HaveElements M ss ms
  unfolding HaveElements
  cells_of_sorts [] [] is = tt
  cells_of_sorts [] (m ∷ ms) is = absurd (true≢false (sym is))
  cells_of_sorts (s ∷ ss) [] is = absurd (true≢false (sym is))
  cells_of_sorts (s ∷ ss) (m ∷ ms) is =
      let parts = and_parts (has (elements N s) m) (have_elements N ss ms) is in
      (there_too s m parts.0, cells_of_sorts ss ms parts.1)

  static_row : (P : Parts) (row : FixedRow) (found : Option Relation) → slice_get P.relations row.rel.0 ≡ found → is_static_in N found row.cells ≡ true → IsStaticTuple P M (static_of row)
  static_row P row None is static = absurd (true≢false (sym static))
  static_row P row (Some relation) is static =
      let parts = and_parts relation.fixed (have_elements N relation.sorts row.cells) static in
      record { relation = relation; declared = is; static = parts.0; cells = cells_of_sorts relation.sorts row.cells parts.1 }

  static_rows_of : (P : Parts) (pred : Pred) (cells : List ℕ) → is_static_tuple P N pred cells ≡ true → (rest : List FixedRow) → AllByRecursion (λ row. IsStaticTuple P M (static_of row)) rest → AllByRecursion (λ row. IsStaticTuple P M (static_of row)) (fixed_row pred cells ++ rest)
  static_rows_of P (Stored r) cells is rest all = (static_row P (record { rel = r; cells = cells }) (slice_get P.relations r.0) refl is, all)
  static_rows_of P Ft cells is rest all = all
  static_rows_of P Sent cells is rest all = all
  static_rows_of P RcvThis cells is rest all = all

  pub all_static : (at : ℕ) (P : Parts) (rows : List Row) → strange_row_from at P N rows ≡ None → AllByRecursion (λ row. IsStaticTuple P M (static_of row)) (fixed_rows rows)
  all_static at P [] none = tt
  all_static at P (row ∷ rows) none =
      let parts = holds_then (is_static_tuple P N row.pred row.cells) (strange_row_from (at + 1) P N rows) at none in
      static_rows_of P row.pred row.cells parts.0 (fixed_rows rows) (all_static (at + 1) P rows parts.1)

pub as_many_values : (at : ℕ) (N : Network) (ds : List Constant) (ms : List ℕ) → strange_const_from at N ds ms ≡ None → length ms ≡ length ds
as_many_values at N [] [] none = refl
as_many_values at N [] (m ∷ ms) none = absurd cc
as_many_values at N (d ∷ ds) [] none = absurd cc
as_many_values at N (d ∷ ds) (m ∷ ms) none = ap suc (as_many_values (at + 1) N ds ms (holds_then (has (elements N d.sort) m) _ at none).1)

-- the network

module _ (P : Parts) (parts : NetParts) (none : first_refusal P parts ≡ None) where
  abbrev N : Network
  N = network_of parts

  pub after_empty : option_or (repeated_in Sw parts.sw) (option_or (repeated_in Ho parts.ho) (option_or (repeated_in Pr parts.pr) (fault_in P N parts.rows))) ≡ None
  after_empty = none_right (option_map (λ s. refusal.EmptySort s) (empty_sort parts)) _ none

  no_fault : fault_in P N parts.rows ≡ None
  no_fault = none_right (repeated_in Pr parts.pr) _ (none_right (repeated_in Ho parts.ho) _ (none_right (repeated_in Sw parts.sw) _ after_empty))

  pub no_empty : empty_sort parts ≡ None
  no_empty = none_mapped (λ s. refusal.EmptySort s) (empty_sort parts) (none_left (option_map (λ s. refusal.EmptySort s) (empty_sort parts)) _ none)

  pub no_missing : missing_port N.ports P.numerals ≡ None
  no_missing = none_mapped (λ k. refusal.MissingPort k) _ (none_left (option_map (λ k. refusal.MissingPort k) (missing_port N.ports P.numerals)) _ no_fault)

  after_missing : option_or (option_map (λ at. refusal.StrangeConst at) (strange_const_from 0 N P.constants N.constants)) (option_map (λ at. refusal.StrangeElement at) (strange_row_from 0 P N parts.rows)) ≡ None
  after_missing = none_right (option_map (λ k. refusal.MissingPort k) (missing_port N.ports P.numerals)) _ no_fault

  pub no_strange_const : strange_const_from 0 N P.constants N.constants ≡ None
  no_strange_const = none_mapped (λ at. refusal.StrangeConst at) _ (none_left (option_map (λ at. refusal.StrangeConst at) (strange_const_from 0 N P.constants N.constants)) _ after_missing)

  pub no_strange_row : strange_row_from 0 P N parts.rows ≡ None
  no_strange_row = none_mapped (λ at. refusal.StrangeElement at) _ (none_right (option_map (λ at. refusal.StrangeConst at) (strange_const_from 0 N P.constants N.constants)) _ after_missing)

  itself : (s : Sort) (m : ℕ) → has (elements N s) m ≡ has (elements N s) m
  itself s m = refl

  pub accepted : IsNetwork P (network_of parts)
  accepted = record {
    some = some_of parts no_empty;
    distinct = distinct_of parts;
    numerals = all_ports N N itself P.numerals no_missing;
    as_many = as_many_values 0 N P.constants N.constants no_strange_const;
    sorted = of_their_sorts N N itself 0 P.constants N.constants no_strange_const;
    rows = All-map (IsStaticTuple P N) static_of (in_order fixed_cmp (fixed_rows parts.rows)) (all-put fixed_cmp (λ row. IsStaticTuple P N (static_of row)) [] (fixed_rows parts.rows) (All-nil (λ row. IsStaticTuple P N (static_of row))) (all_static N N itself 0 P parts.rows no_strange_row));
  }

-- an answer that is Ok is a network
pub answered : (P : Parts) (parts : NetParts) (r : Result Network NetRefusal) → IsAnswer P parts r → IfOk r (IsNetwork P)
answered P parts (Ok N) (none, is) = subst (IsNetwork P) (sym is) (accepted P parts none)
answered P parts (Err why) answer = tt
