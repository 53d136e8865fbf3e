-- Each state has the truth of a list of tuples: of all tuples of elements, those that are in it.
use Rattle.std.proofs.Common.{◌≡◌, ◌∙◌, ap, ap₂, sym, subst, refl, ℕ, zero, suc, ◌+◌, ◌<◌, ◌==◌, Bool, true, false, true≢false, cond, not, ◌&&◌, ◌||◌, List, [], ◌∷◌, length, get_or, map, Option, Some, None, All, Contains, slice_get, slice_index, ◌⊎◌, inl, inr, arith, if◌then◌else◌}
use Rattle.std.proofs.Math.Path.{fun_ext}
use Rattle.std.specs.Prelude.{option_map}
use Rattle.std.specs.List.{AllByRecursion, list_any, filter, flat_map}
use Rattle.std.proofs.lemmas.Bool.{and_parts, and_from, or_left, or_right, or_cases, not-true}
use Rattle.std.proofs.lemmas.Option.{same_Some}
use Rattle.std.proofs.lemmas.List.Elements.{All-nil, All-cons, All-append, All-map, All-weaker, All-filter, All-contains_itself, recursion_from_All}
use Rattle.std.proofs.lemmas.List.Folds.{list_any-append}
use Rattle.general_facts.proofs.Lists.{list_any-map}
use Rattle.general_facts.proofs.Numbers.{self_equal}
use Rattle.std.proofs.Math.Bool.{and-false}
use Rattle.csdn_core.proofs.Same.{same_pred-refl, same_cells-is, same_pred-is}
use Rattle.csdn_core.specs.declared.terms.Sort.{Sort}
use Rattle.csdn_core.specs.declared.terms.Pred.{Pred}
use Rattle.csdn_core.specs.declared.terms.Pred.TheVariants.{Stored, Ft, Sent, RcvThis}
use Rattle.csdn_core.specs.declared.event.Packet.{Packet}
use Rattle.csdn_core.specs.declared.program.Parts.{Parts}
use Rattle.csdn_core.specs.declared.program.Relation.{Relation}
use Rattle.csdn_core.specs.Truth.{truth}
use Rattle.csdn_core.specs.Network.{Network, State, elements, structure, holds_in, same_pred, same_cells, is_fixed, is_fixed_in, is_static_row, HaveElements, IsNetwork}
use Rattle.csdn_core.specs.Sorted.{sorts_of, flow_sorts}
use Rattle.csdn_core.specs.WellSorted.{signature}
use Rattle.csdn_core.specs.SortedIn.{any_relation}
use Rattle.csdn_core.proofs.Agreement.{truth_sees, structure_of, structures_agree}
use Rattle.net_structs.specs.declared.row.Row.{Row}
use Rattle.net_structs.specs.Rows.{tuple_of, held}
use Rattle.net_structs.specs.StateTuples.{IsKept, IsStateTuple}
use Rattle.net_facts.specs.Listed.{HasTruthOfList}

-- ---- tests of lists

any_weaker : {X : Type 0} (p q : X → Bool) (xs : List X) → ((x : X) → p x ≡ true → q x ≡ true) → list_any p xs ≡ true → list_any q xs ≡ true
any_weaker p q [] weaker is = is
any_weaker p q (x ∷ xs) weaker is = by_case (or_cases (p x) (list_any p xs) is) (any_weaker p q xs weaker)
  where
    by_case : (p x ≡ true) ⊎ (list_any p xs ≡ true) → (list_any p xs ≡ true → list_any q xs ≡ true) → (q x || list_any q xs) ≡ true
    by_case (inl here) rest = or_left (q x) (list_any q xs) (weaker x here)
    by_case (inr later) rest = or_right (q x) (list_any q xs) (rest later)

any_flat : {X Y : Type 0} (p : Y → Bool) (f : X → List Y) (xs : List X) (x : X) (k : ℕ) → k < length xs → get_or xs k x ≡ x → list_any p (f x) ≡ true → list_any p (flat_map f xs) ≡ true
any_flat p f [] x k within here is = absurd (omega (arith, within))
any_flat p f (y ∷ ys) x zero within here is =
    list_any-append p (f y) (flat_map f ys) ∙ or_left (list_any p (f y)) (list_any p (flat_map f ys)) (ap (λ z. list_any p (f z)) here ∙ is)
any_flat p f (y ∷ ys) x (suc k) within here is =
    list_any-append p (f y) (flat_map f ys) ∙ or_right (list_any p (f y)) (list_any p (flat_map f ys)) (any_flat p f ys x k (omega (arith, within)) here is)

all_flat : {X Y : Type 0} (Q : Y → Type 0) (f : X → List Y) (xs : List X) → AllByRecursion (λ x. All Q (f x)) xs → All Q (flat_map f xs)
all_flat Q f [] all = All-nil Q
all_flat Q f (x ∷ xs) all = All-append Q (f x) (flat_map f xs) all.0 (all_flat Q f xs all.1)

-- ---- all tuples of elements

module _ (N : Network) where
  tuples_of : List Sort → List (List ℕ)
  tuples_of [] = [] ∷ []
  tuples_of (s ∷ ss) = flat_map (λ m. map (λ ms. m ∷ ms) (tuples_of ss)) (elements N s)

  -- each of them is a tuple of elements
  tuples_have : (ss : List Sort) → All (HaveElements N ss) (tuples_of ss)
  unfolding HaveElements tuples_of
  tuples_have [] = All-cons (HaveElements N []) [] [] tt (All-nil (HaveElements N []))
  tuples_have (s ∷ ss) =
      let rest = tuples_have ss in
      let Q : ℕ → Type 0 = λ m. All (HaveElements N (s ∷ ss)) (map (λ ms. m ∷ ms) (tuples_of ss)) in
      let each : (m : ℕ) → Contains (elements N s) m → Q m =
      λ m there. All-map (HaveElements N (s ∷ ss)) (λ ms. m ∷ ms) (tuples_of ss) (All-weaker (HaveElements N ss) (λ ms. HaveElements N (s ∷ ss) (m ∷ ms)) (λ ms all. (there, all)) (tuples_of ss) rest) in
      all_flat (HaveElements N (s ∷ ss)) (λ m. map (λ ms. m ∷ ms) (tuples_of ss)) (elements N s)
      (recursion_from_All Q (elements N s) (All-weaker (Contains (elements N s)) Q each (elements N s) (All-contains_itself (elements N s))))

  -- and each tuple of elements is one of them
  tuples_are_all : (ss : List Sort) (ms : List ℕ) → HaveElements N ss ms → list_any (λ ns. same_cells ms ns) (tuples_of ss) ≡ true
  unfolding HaveElements tuples_of
  tuples_are_all [] [] all = refl
  tuples_are_all [] (m ∷ ms) all = absurd all
  tuples_are_all (s ∷ ss) [] all = absurd all
  tuples_are_all (s ∷ ss) (m ∷ ms) (there, all) =
      let front : list_any (λ ns. same_cells (m ∷ ms) ns) (map (λ ns. m ∷ ns) (tuples_of ss)) ≡ true =
      list_any-map (λ ns. same_cells (m ∷ ms) ns) (λ ns. m ∷ ns) (tuples_of ss)
      ∙ any_weaker (λ ns. same_cells ms ns) (λ ns. same_cells (m ∷ ms) (m ∷ ns)) (tuples_of ss) (λ ns is. and_from (m == m) (same_cells ms ns) (self_equal m) is) (tuples_are_all ss ms all) in
      any_flat (λ ns. same_cells (m ∷ ms) ns) (λ n. map (λ ns. n ∷ ns) (tuples_of ss)) (elements N s) m there.0 there.1 there.2 front

-- ---- the relations that a state has tuples of, with their sorts

stored_from : ℕ → List Relation → List (Pred × List Sort)
stored_from at [] = []
stored_from at (r ∷ rs) = cond r.fixed (stored_from (at + 1) rs) ((Stored (record { 0 = at }), r.sorts) ∷ stored_from (at + 1) rs)

kept : Parts → List (Pred × List Sort)
kept P = (Ft, flow_sorts) ∷ (Sent, flow_sorts) ∷ stored_from 0 P.relations

abbrev IsKeptWith : Parts → Pred × List Sort → Type 0
IsKeptWith P r = IsKept P r.0 × (sorts_of (signature P) r.0 ≡ Some r.1)

stored_are_kept : (P : Parts) (at : ℕ) (rs : List Relation) → ((k j : ℕ) → j ≡ at + k → slice_get P.relations j ≡ slice_get rs k) → AllByRecursion (IsKeptWith P) (stored_from at rs)
unfolding stored_from
stored_are_kept P at [] same = tt
stored_are_kept P at (r ∷ rs) same =
    by_kind r.fixed refl (stored_are_kept P (at + 1) rs (λ k j is. same (suc k) j (omega (arith, is))))
  where
    here : slice_get P.relations at ≡ Some r
    here = same 0 at (omega arith)

    by_kind : (b : Bool) → r.fixed ≡ b → AllByRecursion (IsKeptWith P) (stored_from (at + 1) rs) → AllByRecursion (IsKeptWith P) (cond b (stored_from (at + 1) rs) ((Stored (record { 0 = at }), r.sorts) ∷ stored_from (at + 1) rs))
    by_kind true is rest = rest
    by_kind false is rest = ((ap is_fixed_in here ∙ is, ap (λ o. option_map (λ d. d.sorts) o) here), rest)

kept_are_kept : (P : Parts) → AllByRecursion (IsKeptWith P) (kept P)
unfolding kept
kept_are_kept P = ((tt, refl), ((tt, refl), stored_are_kept P 0 P.relations (λ k j is. ap (slice_get P.relations) (let e : j ≡ k = omega (arith, is) in e))))

stored_there : (at : ℕ) (rs : List Relation) (k : ℕ) (r : Relation) (j : ℕ) → j ≡ at + k → slice_get rs k ≡ Some r → r.fixed ≡ false → Contains (stored_from at rs) (Stored (record { 0 = j }), r.sorts)
unfolding stored_from
stored_there at [] k r j is here kind = absurd cc
stored_there at (q ∷ rs) zero r j is here kind =
    let same : q ≡ r = same_Some q r here in
    let place : at ≡ j = omega (arith, is) in
    subst (λ (d : Relation). Contains (cond q.fixed (stored_from (at + 1) rs) ((Stored (record { 0 = at }), q.sorts) ∷ stored_from (at + 1) rs)) (Stored (record { 0 = j }), d.sorts)) same
    (subst (λ n. Contains (cond q.fixed (stored_from (at + 1) rs) ((Stored (record { 0 = at }), q.sorts) ∷ stored_from (at + 1) rs)) (Stored (record { 0 = n }), q.sorts)) place
    (subst (λ b. Contains (cond b (stored_from (at + 1) rs) ((Stored (record { 0 = at }), q.sorts) ∷ stored_from (at + 1) rs)) (Stored (record { 0 = at }), q.sorts)) (sym (ap (λ d. d.fixed) same ∙ kind)) (0, (omega arith), refl)))
stored_there at (q ∷ rs) (suc k) r j is here kind = by_kind q.fixed (stored_there (at + 1) rs k r j (omega (arith, is)) here kind)
  where
    by_kind : (b : Bool) → Contains (stored_from (at + 1) rs) (Stored (record { 0 = j }), r.sorts) → Contains (cond b (stored_from (at + 1) rs) ((Stored (record { 0 = at }), q.sorts) ∷ stored_from (at + 1) rs)) (Stored (record { 0 = j }), r.sorts)
    by_kind true there = there
    by_kind false there = (suc there.0, (omega (arith, there.1)), there.2)

kept_there : (P : Parts) (r : Pred) (ss : List Sort) → IsKept P r → sorts_of (signature P) r ≡ Some ss → Contains (kept P) (r, ss)
unfolding kept
kept_there P (Stored r) ss free declared = at (slice_get P.relations r.0) refl free declared
  where
    at : (o : Option Relation) → slice_get P.relations r.0 ≡ o → is_fixed_in o ≡ false → option_map (λ d. d.sorts) o ≡ Some ss → Contains ((Ft, flow_sorts) ∷ (Sent, flow_sorts) ∷ stored_from 0 P.relations) (Stored r, ss)
    at None here kind is = absurd cc
    at (Some d) here kind is =
        let there = stored_there 0 P.relations r.0 d r.0 (omega arith) here kind in
        subst (λ ts. Contains ((Ft, flow_sorts) ∷ (Sent, flow_sorts) ∷ stored_from 0 P.relations) (Stored r, ts)) (same_Some d.sorts ss is) (suc (suc there.0), (omega (arith, there.1)), there.2)
kept_there P Ft ss free declared = (0, (omega arith), ap (λ ts. (Ft, ts)) (same_Some flow_sorts ss declared))
kept_there P Sent ss free declared = (1, (omega arith), ap (λ ts. (Sent, ts)) (same_Some flow_sorts ss declared))
kept_there P RcvThis ss free declared = absurd free

-- ---- all rows

abbrev as_row : Pred → List ℕ → Row
as_row r cells = record { pred = r; cells = cells }

rows_of_relation : Network → Pred × List Sort → List Row
rows_of_relation N r = map (as_row r.0) (tuples_of N r.1)

all_rows : Parts → Network → List Row
all_rows P N = flat_map (rows_of_relation N) (kept P)

all_are_tuples : (P : Parts) (N : Network) → All (IsStateTuple P N) (all_rows P N)
unfolding all_rows rows_of_relation
all_are_tuples P N = all_flat (IsStateTuple P N) (rows_of_relation N) (kept P) (each (kept P) (kept_are_kept P))
  where
    of_relation : (r : Pred × List Sort) → IsKeptWith P r → All (IsStateTuple P N) (rows_of_relation N r)
    of_relation r is = All-map (IsStateTuple P N) (as_row r.0) (tuples_of N r.1) (All-weaker (HaveElements N r.1) (λ cells. IsStateTuple P N (as_row r.0 cells)) (λ cells all. record { kept = is.0; sorts = r.1; declared = is.1; cells = all }) (tuples_of N r.1) (tuples_have N r.1))

    each : (rs : List (Pred × List Sort)) → AllByRecursion (IsKeptWith P) rs → AllByRecursion (λ r. All (IsStateTuple P N) (rows_of_relation N r)) rs
    each [] all = tt
    each (r ∷ rs) all = (of_relation r all.0, each rs all.1)

-- whether a row is this tuple
abbrev is_row : Pred → List ℕ → Row → Bool
is_row r cells row = same_pred r row.pred && same_cells cells row.cells

held_any : (rows : List Row) (r : Pred) (cells : List ℕ) → held rows r cells ≡ list_any (is_row r cells) rows
held_any rows r cells = list_any-map (λ t. same_pred r t.rel && same_cells cells t.cells) tuple_of rows

all_held : (P : Parts) (N : Network) (r : Pred) (ss : List Sort) (cells : List ℕ) → IsKept P r → sorts_of (signature P) r ≡ Some ss → HaveElements N ss cells → held (all_rows P N) r cells ≡ true
unfolding all_rows rows_of_relation
all_held P N r ss cells free declared all =
    let there = kept_there P r ss free declared in
    let front : list_any (is_row r cells) (map (as_row r) (tuples_of N ss)) ≡ true =
    list_any-map (is_row r cells) (as_row r) (tuples_of N ss)
    ∙ any_weaker (λ ns. same_cells cells ns) (λ ns. same_pred r r && same_cells cells ns) (tuples_of N ss) (λ ns is. and_from (same_pred r r) (same_cells cells ns) (same_pred-refl r) is) (tuples_are_all N ss cells all) in
    held_any (flat_map (λ q. map (as_row q.0) (tuples_of N q.1)) (kept P)) r cells
    ∙ any_flat (is_row r cells) (λ q. map (as_row q.0) (tuples_of N q.1)) (kept P) (r, ss) there.0 there.1 there.2 front

-- ---- those that are in a state

abbrev is_in : State → Row → Bool
is_in x row = x row.pred row.cells

one_held : (x : State) (r : Pred) (cells : List ℕ) (row : Row) (a b : Bool) → is_row r cells row ≡ a → is_in x row ≡ b → (rest left : Bool) → left ≡ (rest && x r cells) → cond b (a || left) left ≡ ((a || rest) && x r cells)
one_held x r cells row true true same there rest left is = mine ∙ true_and (x r cells)
  where
    mine : true ≡ x r cells
    mine =
        let parts = and_parts (same_pred r row.pred) (same_cells cells row.cells) same in
        sym (ap₂ x (same_pred-is r row.pred parts.0) (same_cells-is cells row.cells parts.1) ∙ there)

    true_and : (b : Bool) → b ≡ (true && b)
    true_and b = refl
one_held x r cells row true false same there rest left is =
    let parts = and_parts (same_pred r row.pred) (same_cells cells row.cells) same in
    let absent : x r cells ≡ false = ap₂ x (same_pred-is r row.pred parts.0) (same_cells-is cells row.cells parts.1) ∙ there in
    is ∙ ap (λ b. rest && b) absent ∙ and-false rest ∙ sym absent
one_held x r cells row false true same there rest left is = is
one_held x r cells row false false same there rest left is = is

held_in : (x : State) (rows : List Row) (r : Pred) (cells : List ℕ) → held (filter (is_in x) rows) r cells ≡ (held rows r cells && x r cells)
held_in x [] r cells = refl
held_in x (row ∷ rows) r cells =
    choose (is_in x row) ∙ one_held x r cells row (is_row r cells row) (is_in x row) refl refl (held rows r cells) (held (filter (is_in x) rows) r cells) (held_in x rows r cells)
  where
    choose : (b : Bool) → held (cond b (row ∷ filter (is_in x) rows) (filter (is_in x) rows)) r cells ≡ cond b (is_row r cells row || held (filter (is_in x) rows) r cells) (held (filter (is_in x) rows) r cells)
    choose true = refl
    choose false = refl

-- ---- the same truth

is_kept : Parts → Pred → Bool
is_kept P (Stored r) = not (is_fixed P r.0)
is_kept P Ft = true
is_kept P Sent = true
is_kept P RcvThis = false

kept_by_test : (P : Parts) (r : Pred) → is_kept P r ≡ true → IsKept P r
unfolding is_kept
kept_by_test P (Stored r) is = not-true (is_fixed P r.0) is
kept_by_test P Ft is = tt
kept_by_test P Sent is = tt
kept_by_test P RcvThis is = true≢false (sym is)

module _ (P : Parts) (N : Network) (network : IsNetwork P N) (x : State) where
  rows : List Row
  rows = filter (is_in x) (all_rows P N)

  -- the listed tuples, and in other relations what the state has
  mixed : State
  mixed r cells = cond (is_kept P r) (held rows r cells) (x r cells)

  agrees : (r : Pred) (ss : List Sort) (cells : List ℕ) → sorts_of (signature P) r ≡ Some ss → HaveElements N ss cells → x r cells ≡ mixed r cells
  unfolding mixed rows
  agrees r ss cells declared all = by_kind (is_kept P r) refl
    where
      by_kind : (b : Bool) → is_kept P r ≡ b → x r cells ≡ cond b (held (filter (is_in x) (all_rows P N)) r cells) (x r cells)
      by_kind true is =
          sym (held_in x (all_rows P N) r cells ∙ ap (λ b. b && x r cells) (all_held P N r ss cells (kept_by_test P r is) declared all))
      by_kind false is = refl

  -- formulas look at the tuples of these relations alone
  same_holds : (packet : Packet) (r : Pred) (cells : List ℕ) → holds_in P N mixed packet r cells ≡ holds_in P N (held rows) packet r cells
  unfolding mixed is_kept
  same_holds packet (Stored r) cells = by_kind (is_fixed P r.0) (is_static_row N r.0 cells) (held rows (Stored r) cells) (x (Stored r) cells)
    where
      by_kind : (b u y z : Bool) → (if b then u else cond (not b) y z) ≡ (if b then u else y)
      by_kind true u y z = refl
      by_kind false u y z = refl
  same_holds packet Ft cells = refl
  same_holds packet Sent cells = refl
  same_holds packet RcvThis cells = refl

  same_structure : (packet : Packet) → structure P N mixed packet ≡ structure P N (held rows) packet
  same_structure packet =
      ap (λ holds. record { elements = elements N; constant = slice_index N.constants; holds = holds }) (fun_ext (λ r. fun_ext (λ cells. same_holds packet r cells)))

  pub listed : HasTruthOfList P N x
  unfolding rows
  listed = record {
    rows = rows;
    tuples = All-filter (is_in x) (IsStateTuple P N) (all_rows P N) (all_are_tuples P N);
    same = λ packet Γ p sorted e keeps.
        truth_sees (signature P) any_relation (structure P N x packet) (structure P N mixed packet) (structure_of P N network x packet) (structures_agree P N network x mixed agrees packet any_relation)
        Γ p e e sorted (record { there = keeps; same = λ v s is. refl }) ∙ ap (λ M. truth M p e) (same_structure packet);
  }
