-- What a text reads as is a case of the program.
use Rattle.std.proofs.Common.{◌≡◌, ◌≢◌, ◌∙◌, ap, sym, subst, refl, ℕ, zero, suc, ◌+◌, ◌<◌, ◌^◌, Bool, true, false, true≢false, List, [], ◌∷◌, ◌++◌, length, get_or, map, Option, Some, None, Result, Ok, Err, IfOk, All, AllPairs, Contains, ◌⊎◌, inl, inr, not, append_assoc, append-nil, slice_get, slice_index, arith, cond, length-set}
use Rattle.std.specs.Prelude.{codes, is_none, slice_set, option_map}
use Rattle.std.specs.Str.{bytes_eq}
use Rattle.std.specs.Ordering.{nat_cmp}
use Rattle.std.specs.Cmp.{nat_cmp_total}
use Rattle.std.specs.List.Sorted.{IsStrictlySortedBy}
use Rattle.std.proofs.lemmas.Bool.{cases_eq}
use Rattle.std.proofs.lemmas.Option.{same_Some, slice_get_within, slice_get-get_or, slice_get-map, get_or_from_slice_get}
use Rattle.std.proofs.lemmas.List.{length-map, get_or-set_same, get_or-set_other}
use Rattle.std.proofs.lemmas.List.Elements.{All-nil, All-weaker, recursion_from_All}
use Rattle.std.proofs.lemmas.Map.Views.{All-insert_key}
use Rattle.text_lines.specs.Text.{Line, words, next, ended, lines_left}
use Rattle.text_lines.specs.Machine.{Refused, run, after_step, ended_at, reading}
use Rattle.text_lines.specs.Gives.{Gives}
use Rattle.text_lines.specs.declared.read.LineRefusal.{LineRefusal}
use Rattle.text_lines.specs.Numbers.{number_of}
use Rattle.csdn_core.specs.declared.terms.Sort.{Sort}
use Rattle.csdn_core.specs.declared.terms.Sort.TheVariants.{Sw, Ho, Pr}
use Rattle.csdn_core.specs.declared.terms.Pred.{Pred}
use Rattle.csdn_core.specs.declared.terms.Pred.TheVariants.{Stored, Ft, Sent}
use Rattle.csdn_core.specs.declared.event.Packet.{Packet}
use Rattle.csdn_core.specs.declared.event.Packet.TheVariants.{Nothing, At}
use Rattle.csdn_core.specs.declared.program.Parts.{Parts}
use Rattle.csdn_core.specs.declared.program.Constant.{Constant}
use Rattle.csdn_core.specs.Network.{Network, StaticRow, elements, is_fixed_in, IsStaticTuple, IsNetwork}
use Rattle.csdn_core.specs.Sorted.{sorts_of, flow_sorts, packet_sorts}
use Rattle.csdn_core.specs.WellSorted.{signature, IsWellSorted}
use Rattle.net_structs.specs.declared.row.Row.{Row}
use Rattle.net_structs.specs.declared.case.Case.{Case}
use Rattle.net_structs.specs.Rows.{row_cmp, row_total}
use Rattle.net_structs.specs.Networks.{has, in_order, bare_network, static_cmp, with_static}
use Rattle.net_structs.specs.Refusals.{is_empty, missing_port}
use Rattle.net_structs.proofs.Accepted.{there, all_ports}
use Rattle.net_structs.proofs.Ordered.{has-in_order, distinct-in_order, sorted-in_order, all-put}
use Rattle.net_text.specs.declared.place.Open.{Open}
use Rattle.net_text.specs.declared.place.NetPlace.{NetPlace}
use Rattle.net_text.specs.declared.place.NetPlace.TheVariants as place
use Rattle.net_text.specs.declared.refusal.NetWhy.{NetWhy}
use Rattle.net_text.specs.declared.refusal.NetWhy.TheVariants as why
use Rattle.net_text.specs.Lines.{most, or_why, wants, header_of, behind, sort_of, no_values, ports_of, constant_from, has_value, constant_of, values_from, tuple_of, flow_of, packet_of}
use Rattle.net_text.specs.NetText.{end_of, static_of_line, with_fact, stored_of_line, flow_of_line, item_by, fact_by, item_line, fact_line, step, finish, net_format, net_text}
use Rattle.net_facts.specs.Cases.{IsKept, IsStateTuple, IsState, IsPacket, IsCase, IsRisingState, IsInOrder}
use Rattle.net_structs.proofs.Ordered.{sorted-insert}
use Rattle.net_facts.proofs.LinesAgain.{static_total}
use Rattle.net_facts.proofs.ReadBack.{read_back}
use Rattle.net_facts.proofs.GivenLines.{bound, wanted, found, given, IsSmall, IsSort, sort_given, same_cells_given, IsTold, tuple_given, flow_given, packet_given}

-- ---- the network so far

pub record IsBare (P : Parts) (N : Network) : Type 0 where
  pub some : (s : Sort) → elements N s ≢ []
  pub distinct : (s : Sort) → AllPairs (λ m n. m ≢ n) (elements N s)
  pub rise : (s : Sort) → IsStrictlySortedBy nat_cmp (elements N s)
  pub small : (s : Sort) → All (λ m. m < 2 ^ 64) (elements N s)
  pub numerals : All (Contains N.ports) P.numerals
  pub rows : All (IsStaticTuple P N) N.rows
  pub static_rise : IsStrictlySortedBy static_cmp N.rows

pub record IsOpen (P : Parts) (draft : Open) : Type 0 where
  pub bare : IsBare P draft.network
  pub many : length draft.values ≡ length P.constants
  pub sorted : (k : ℕ) (d : Constant) (e : ℕ) → slice_get P.constants k ≡ Some d → get_or draft.values k None ≡ Some e → Contains (elements draft.network d.sort) e

some_in_order : (xs : List ℕ) → not (is_empty xs) ≡ true → in_order nat_cmp xs ≢ []
some_in_order [] some is = true≢false (sym some)
some_in_order (x ∷ xs) some is =
    let there : has (x ∷ xs) x ≡ true = grind arith in
    true≢false (sym there ∙ sym (has-in_order (x ∷ xs) x) ∙ ap (λ ys. has ys x) is)

small_in_order : (xs : List ℕ) → All IsSmall xs → All IsSmall (in_order nat_cmp xs)
small_in_order xs all = all-put nat_cmp IsSmall [] xs (All-nil IsSmall) (recursion_from_All IsSmall xs all)

-- what holds of each of the three sorts
each_sort : (Q : List ℕ → Type 0) (N : Network) → Q N.switches → Q N.hosts → Q N.ports → (s : Sort) → Q (elements N s)
each_sort Q N sw ho pr Sw = sw
each_sort Q N sw ho pr Ho = ho
each_sort Q N sw ho pr Pr = pr

no_value : (ds : List Constant) (k e : ℕ) → get_or (no_values ds) k None ≡ Some e → ⊥
no_value [] k e is = cc
no_value (d ∷ ds) zero e is = cc
no_value (d ∷ ds) (suc k) e is = no_value ds k e is

none_missing : (o : Option ℕ) → is_none o ≡ true → o ≡ None
none_missing None is = refl
none_missing (Some k) is = absurd (true≢false (sym is))

ports_given : (P : Parts) (sw ho : List ℕ) (ws : List (List ℕ)) (draft : Open) → ports_of P sw ho ws ≡ Ok draft → IsSort sw → IsSort ho → IsOpen P draft
unfolding ports_of IsStrictlySortedBy
ports_given P sw ho ws draft is switches hosts =
    let es = bound (sort_of ws) _ draft is in
    let pr = es.0 in
    let N = bare_network sw ho pr in
    let known = bound (wants (is_none (missing_port N.ports P.numerals)) why.NoPort) _ draft es.2 in
    let ports : IsSort pr = sort_given ws pr es.1 in
    subst (IsOpen P) (given (record { network = N; values = no_values P.constants }) draft known.2)
    (record {
      bare = record {
        some = each_sort (λ xs. xs ≢ []) N (some_in_order sw switches.some) (some_in_order ho hosts.some) (some_in_order pr ports.some);
        distinct = each_sort (AllPairs (λ m n. m ≢ n)) N (distinct-in_order sw) (distinct-in_order ho) (distinct-in_order pr);
        rise = each_sort (IsStrictlySortedBy nat_cmp) N (sorted-in_order nat_cmp_total sw) (sorted-in_order nat_cmp_total ho) (sorted-in_order nat_cmp_total pr);
        small = each_sort (All IsSmall) N (small_in_order sw switches.small) (small_in_order ho hosts.small) (small_in_order pr ports.small);
        numerals = all_ports N N (λ s m. refl) P.numerals (none_missing (missing_port N.ports P.numerals) (wanted (is_none (missing_port N.ports P.numerals)) why.NoPort known.0 known.1));
        rows = All-nil (IsStaticTuple P N);
        static_rise = tt;
      };
      many = length-map P.constants (λ d. None);
      sorted = λ k d e here there. absurd (no_value P.constants k e there);
    })

-- ---- constants

constant_at : (at : ℕ) (ds : List Constant) (name : List ℕ) (c : ℕ × Sort) → constant_from at ds name ≡ Some c → (k : ℕ) × (d : Constant) × (c.0 ≡ at + k) × (slice_get ds k ≡ Some d) × (d.sort ≡ c.1)
constant_at at [] name c is = absurd cc
constant_at at (d ∷ ds) name c is = by_test (bytes_eq d.name name) is (constant_at (at + 1) ds name c)
  where
    by_test : (b : Bool) → cond b (Some (at, d.sort)) (constant_from (at + 1) ds name) ≡ Some c
        → (constant_from (at + 1) ds name ≡ Some c → (k : ℕ) × (e : Constant) × (c.0 ≡ at + 1 + k) × (slice_get ds k ≡ Some e) × (e.sort ≡ c.1))
        → (k : ℕ) × (e : Constant) × (c.0 ≡ at + k) × (slice_get (d ∷ ds) k ≡ Some e) × (e.sort ≡ c.1)
    by_test true here later = let same : (at, d.sort) ≡ c = same_Some (at, d.sort) c here in (0, d, (ap (λ p. p.0) (sym same) ∙ (omega arith)), refl, ap (λ p. p.1) same)
    by_test false there later = let rest = later there in (suc rest.0, rest.1, (omega (arith, rest.2)), rest.3, rest.4)

-- one value more
value_put : (P : Parts) (draft : Open) (at e : ℕ) (c : Constant) → IsOpen P draft → slice_get P.constants at ≡ Some c → Contains (elements draft.network c.sort) e
    → IsOpen P (record { network = draft.network; values = slice_set draft.values at (Some e) })
value_put P draft at e c draft_is here known = record {
  bare = draft_is.bare;
  many = length-set draft.values at (Some e) ∙ draft_is.many;
  sorted = λ k d m there is. by_place k d m there is (cases_eq k at);
}
  where
    by_place : (k : ℕ) (d : Constant) (m : ℕ) → slice_get P.constants k ≡ Some d → get_or (slice_set draft.values at (Some e)) k None ≡ Some m → (k ≡ at) ⊎ (k ≡ at → ⊥) → Contains (elements draft.network d.sort) m
    by_place k d m there is (inl same) =
        let within : at < length P.constants = slice_get_within P.constants at c here in
        let inside : at < length draft.values = (let many = draft_is.many in omega arith) in
        let value : Some e ≡ Some m = sym (get_or-set_same draft.values at (Some e) None inside) ∙ ap (λ j. get_or (slice_set draft.values at (Some e)) j None) (sym same) ∙ is in
        let mine : c ≡ d = same_Some c d (sym here ∙ ap (slice_get P.constants) (sym same) ∙ there) in
        subst (λ (b : Constant). Contains (elements draft.network b.sort) m) mine (subst (λ n. Contains (elements draft.network c.sort) n) (same_Some e m value) known)
    by_place k d m there is (inr other) = draft_is.sorted k d m there (sym (get_or-set_other draft.values at k (Some e) None other) ∙ is)

constant_given : (P : Parts) (draft new : Open) (ws : List (List ℕ)) → constant_of P draft ws ≡ Ok new → IsOpen P draft → IsOpen P new
unfolding constant_of
constant_given P draft new ws is draft_is =
    let name = bound (or_why (next ws) why.Shape) _ new is in
    let word = bound (or_why (next name.0.1) why.Shape) _ new name.2 in
    let end = bound (or_why (ended word.0.1) why.Shape) _ new word.2 in
    let once = bound (wants (not (has_value draft.values (constant_from 0 P.constants name.0.0))) why.Shape) _ new end.2 in
    let e = bound (or_why (number_of most word.0.0) why.Number) _ new once.2 in
    let c = bound (or_why (constant_from 0 P.constants name.0.0) why.Name) _ new e.2 in
    let known = bound (wants (has (elements draft.network c.0.1) e.0) why.Stranger) _ new c.2 in
    let at = constant_at 0 P.constants name.0.0 c.0 (found (constant_from 0 P.constants name.0.0) why.Name c.0 c.1) in
    let number : at.0 ≡ c.0.0 = (let place = at.2 in omega arith) in
    let there_is : Contains (elements draft.network c.0.1) e.0 = there (elements draft.network c.0.1) e.0 (wanted (has (elements draft.network c.0.1) e.0) why.Stranger known.0 known.1) in
    subst (IsOpen P) (given (record { network = draft.network; values = slice_set draft.values c.0.0 (Some e.0) }) new known.2)
    (value_put P draft c.0.0 e.0 at.1 draft_is (ap (slice_get P.constants) (sym number) ∙ at.3) (subst (λ s. Contains (elements draft.network s) e.0) (sym at.4) there_is))

-- ---- tuples

same_elements : (N : Network) (t : ℕ × List ℕ) (s : Sort) → elements N s ≡ elements (with_static N t.0 t.1) s
same_elements N t Sw = refl
same_elements N t Ho = refl
same_elements N t Pr = refl

-- a tuple more in a static relation
static_put : (P : Parts) (N : Network) (t : ℕ × List ℕ) → IsBare P N → IsTold P N true t → IsBare P (with_static N t.0 t.1)
static_put P N t bare told =
    let M = with_static N t.0 t.1 in
    let moved : (row : StaticRow) → IsStaticTuple P N row → IsStaticTuple P M row =
    λ row is. record { relation = is.relation; declared = is.declared; static = is.static; cells = same_cells_given N M (same_elements N t) is.relation.sorts row.cells is.cells } in
    let row : StaticRow = record { rel = t.0; cells = t.1 } in
    let new : IsStaticTuple P N row = record { relation = told.relation; declared = told.declared; static = told.fixed; cells = told.cells } in
    record {
      some = each_sort (λ xs. xs ≢ []) M (bare.some Sw) (bare.some Ho) (bare.some Pr);
      distinct = each_sort (AllPairs (λ m n. m ≢ n)) M (bare.distinct Sw) (bare.distinct Ho) (bare.distinct Pr);
      rise = each_sort (IsStrictlySortedBy nat_cmp) M (bare.rise Sw) (bare.rise Ho) (bare.rise Pr);
      small = each_sort (All IsSmall) M (bare.small Sw) (bare.small Ho) (bare.small Pr);
      numerals = bare.numerals;
      rows = All-weaker (IsStaticTuple P N) (IsStaticTuple P M) moved M.rows (All-insert_key static_cmp row (IsStaticTuple P N) N.rows bare.rows new);
      static_rise = sorted-insert static_total N.rows row bare.static_rise;
    }

static_given : (P : Parts) (draft new : Open) (ws : List (List ℕ)) → static_of_line P draft ws ≡ Ok new → IsOpen P draft → IsOpen P new
unfolding static_of_line
static_given P draft new ws is draft_is =
    let t = bound (tuple_of P true draft.network ws) _ new is in
    subst (IsOpen P) (given (record { network = with_static draft.network t.0.0 t.0.1; values = draft.values }) new t.2)
    (record {
      bare = static_put P draft.network t.0 draft_is.bare (tuple_given P true draft.network ws t.0 t.1);
      many = draft_is.many;
      sorted = λ k d e here there. subst (λ (es : List ℕ). Contains es e) (same_elements draft.network t.0 d.sort) (draft_is.sorted k d e here there);
    })

-- ---- the state

none_rise : IsStrictlySortedBy row_cmp []
unfolding IsStrictlySortedBy
none_rise = tt

pub record IsStateSoFar (P : Parts) (N : Network) (rows : List Row) : Type 0 where
  pub tuples : All (IsStateTuple P N) rows
  pub rise : IsStrictlySortedBy row_cmp rows

fact_put : (P : Parts) (N : Network) (rows : List Row) (pred : Pred) (cells : List ℕ) → IsStateSoFar P N rows → IsStateTuple P N (record { pred = pred; cells = cells }) → IsStateSoFar P N (with_fact rows pred cells)
fact_put P N rows pred cells state new = record {
  tuples = All-insert_key row_cmp (record { pred = pred; cells = cells }) (IsStateTuple P N) rows state.tuples new;
  rise = sorted-insert row_total rows (record { pred = pred; cells = cells }) state.rise;
}

stored_given : (P : Parts) (draft : Open) (rows new : List Row) (ws : List (List ℕ)) → stored_of_line P draft rows ws ≡ Ok new → IsStateSoFar P draft.network rows → IsStateSoFar P draft.network new
unfolding stored_of_line
stored_given P draft rows new ws is state =
    let t = bound (tuple_of P false draft.network ws) _ new is in
    let told = tuple_given P false draft.network ws t.0 t.1 in
    subst (IsStateSoFar P draft.network) (given (with_fact rows (Stored (record { 0 = t.0.0 })) t.0.1) new t.2)
    (fact_put P draft.network rows (Stored (record { 0 = t.0.0 })) t.0.1 state (record {
      kept = ap is_fixed_in told.declared ∙ told.fixed;
      sorts = told.relation.sorts;
      declared = ap (λ o. option_map (λ r. r.sorts) o) told.declared;
      cells = told.cells;
    }))

-- of `ft` and `sent`
flow_line_given : (P : Parts) (pred : Pred) (draft : Open) (rows new : List Row) (ws : List (List ℕ)) → IsKept P pred → sorts_of (signature P) pred ≡ Some flow_sorts → flow_of_line pred draft rows ws ≡ Ok new → IsStateSoFar P draft.network rows → IsStateSoFar P draft.network new
unfolding flow_of_line
flow_line_given P pred draft rows new ws kept declared is state =
    let cells = bound (flow_of draft.network ws) _ new is in
    subst (IsStateSoFar P draft.network) (given (with_fact rows pred cells.0) new cells.2)
    (fact_put P draft.network rows pred cells.0 state (record { kept = kept; sorts = flow_sorts; declared = declared; cells = flow_given draft.network ws cells.0 cells.1 }))

-- ---- the end

pub record IsWhole (P : Parts) (case : Case) : Type 0 where
  pub is_case : IsCase P case
  pub is_in_order : IsInOrder case

values_given : (found : List ℕ) (vs : List (Option ℕ)) (ms : List ℕ) → values_from found vs ≡ Some ms → (es : List ℕ) × (ms ≡ found ++ es) × (vs ≡ map Some es)
values_given found [] ms is = ([], (sym (same_Some found ms is) ∙ sym (append-nil found)), refl)
values_given found (None ∷ vs) ms is = absurd cc
values_given found (Some e ∷ vs) ms is =
    let rest = values_given (found ++ e ∷ []) vs ms is in
    (e ∷ rest.0, (rest.1 ∙ append_assoc found (e ∷ []) rest.0), ap (λ xs. Some e ∷ xs) rest.2)

abbrev AreTuples : Parts → Network → Option (List Row) → Type 0
AreTuples P N None = Unit {0}
AreTuples P N (Some rows) = IsStateSoFar P N rows

-- the network with the values of its constants
module _ (P : Parts) (draft : Open) (draft_is : IsOpen P draft) (ms : List ℕ) (values : draft.values ≡ map Some ms) where
  abbrev N : Network
  N = draft.network

  abbrev M : Network
  M = record N { constants = ms }

  same_sorts : (s : Sort) → elements N s ≡ elements M s
  same_sorts Sw = refl
  same_sorts Ho = refl
  same_sorts Pr = refl

  network_whole : IsNetwork P M
  network_whole =
      let bare = draft_is.bare in
      let many : length ms ≡ length P.constants = sym (length-map ms Some) ∙ ap length (sym values) ∙ draft_is.many in
      record {
        some = each_sort (λ xs. xs ≢ []) M (bare.some Sw) (bare.some Ho) (bare.some Pr);
        distinct = each_sort (AllPairs (λ m n. m ≢ n)) M (bare.distinct Sw) (bare.distinct Ho) (bare.distinct Pr);
        numerals = bare.numerals;
        as_many = many;
        sorted = λ k d here.
            let within : k < length P.constants = slice_get_within P.constants k d here in
            let inside : k < length ms = omega arith in
            let value : slice_get (map Some ms) k ≡ Some (Some (slice_index ms k)) = slice_get-map Some ms k ∙ ap (λ o. option_map Some o) (slice_get-get_or ms k 0 inside) in
            let read : get_or draft.values k None ≡ Some (slice_index ms k) = ap (λ vs. get_or vs k None) values ∙ get_or_from_slice_get (map Some ms) k (Some (slice_index ms k)) None value in
            subst (λ (es : List ℕ). Contains es (slice_index ms k)) (same_sorts d.sort) (draft_is.sorted k d (slice_index ms k) here read);
        rows = All-weaker (IsStaticTuple P N) (IsStaticTuple P M)
            (λ row is. record { relation = is.relation; declared = is.declared; static = is.static; cells = same_cells_given N M same_sorts is.relation.sorts row.cells is.cells })
            N.rows bare.rows;
      }

  state_whole : (state : Option (List Row)) → AreTuples P N state → IsState P M state
  state_whole None all = tt
  state_whole (Some rows) all =
      All-weaker (IsStateTuple P N) (IsStateTuple P M)
      (λ row is. record { kept = is.kept; sorts = is.sorts; declared = is.declared; cells = same_cells_given N M same_sorts is.sorts row.cells is.cells })
      rows all.tuples

  state_rising : (state : Option (List Row)) → AreTuples P N state → IsRisingState state
  state_rising None all = tt
  state_rising (Some rows) all = all.rise

  packet_whole : (state : Option (List Row)) (packet : Packet) → IsPacket N state packet → IsPacket M state packet
  packet_whole state Nothing is = tt
  packet_whole None (At s a b i) is = absurd is
  packet_whole (Some rows) (At s a b i) is = same_cells_given N M same_sorts packet_sorts (s ∷ a ∷ b ∷ i ∷ []) is

  whole : (state : Option (List Row)) (packet : Packet) → AreTuples P N state → IsPacket N state packet → IsWhole P (record { network = M; state = state; packet = packet })
  whole state packet all is =
      let bare = draft_is.bare in
      record {
        is_case = record { network = network_whole; state = state_whole state all; packet = packet_whole state packet is };
        is_in_order = record {
          elements_rise = each_sort (IsStrictlySortedBy nat_cmp) M (bare.rise Sw) (bare.rise Ho) (bare.rise Pr);
          static_rise = bare.static_rise;
          state_rises = state_rising state all;
          small = each_sort (All IsSmall) M (bare.small Sw) (bare.small Ho) (bare.small Pr);
        };
      }

-- ---- places

abbrev pub IsFine : Parts → NetPlace → Type 0
IsFine P place.Header = Unit {0}
IsFine P place.Switches = Unit {0}
IsFine P (place.Hosts sw) = IsSort sw
IsFine P (place.Ports sw ho) = IsSort sw × IsSort ho
IsFine P (place.Items draft) = IsOpen P draft
IsFine P (place.Facts draft rows) = IsOpen P draft × IsStateSoFar P draft.network rows
IsFine P (place.Closing draft rows packet) = IsOpen P draft × IsStateSoFar P draft.network rows × IsPacket draft.network (Some rows) packet
IsFine P (place.Ended case) = IsWhole P case

end_given : (P : Parts) (draft : Open) (state : Option (List Row)) (packet : Packet) (ws : List (List ℕ)) (to : NetPlace) → end_of draft state packet ws ≡ Ok to → IsOpen P draft → AreTuples P draft.network state → IsPacket draft.network state packet → IsFine P to
unfolding end_of
end_given P draft state packet ws to is draft_is all there =
    let alone = bound (or_why (ended ws) why.Shape) _ to is in
    let values = bound (or_why (values_from [] draft.values) why.Missing) _ to alone.2 in
    let ms = values.0 in
    let some = values_given [] draft.values ms (found (values_from [] draft.values) why.Missing ms values.1) in
    subst (IsFine P) (given (place.Ended (record { network = record draft.network { constants = ms }; state = state; packet = packet })) to values.2)
    (whole P draft draft_is ms (some.2 ∙ ap (map Some) (sym some.1)) state packet all there)

-- one of the two
by_test : {A : Type 0} (Q : A → Type 0) (b : Bool) (x y : Result A NetWhy) (to : A) → cond b x y ≡ Ok to → (x ≡ Ok to → Q to) → (y ≡ Ok to → Q to) → Q to
by_test Q true x y to is left right = left is
by_test Q false x y to is left right = right is

none_given : {A : Type 0} (e : NetWhy) (to : A) (Q : Type 0) → Err e ≡ Ok to → Q
none_given e to Q is = absurd cc

item_given : (P : Parts) (draft : Open) (key : List ℕ) (ws : List (List ℕ)) (to : NetPlace) → item_by P draft key ws ≡ Ok to → IsOpen P draft → IsFine P to
unfolding item_by
item_given P draft key ws to is draft_is =
    by_test (IsFine P) (bytes_eq key (codes "c")) _ _ to is
    (λ is. let new = bound (constant_of P draft ws) _ to is in subst (IsFine P) (given (place.Items new.0) to new.2) (constant_given P draft new.0 ws new.1 draft_is))
    (λ is. by_test (IsFine P) (bytes_eq key (codes "t")) _ _ to is
    (λ is. let new = bound (static_of_line P draft ws) _ to is in subst (IsFine P) (given (place.Items new.0) to new.2) (static_given P draft new.0 ws new.1 draft_is))
    (λ is. by_test (IsFine P) (bytes_eq key (codes "state")) _ _ to is
    (λ is. let u = bound (or_why (ended ws) why.Shape) _ to is in subst (IsFine P) (given (place.Facts draft []) to u.2) (draft_is, record { tuples = All-nil (IsStateTuple P draft.network); rise = none_rise }))
    (λ is. by_test (IsFine P) (bytes_eq key (codes "end")) _ _ to is
    (λ is. end_given P draft None Nothing ws to is draft_is tt tt)
    (λ is. none_given why.Shape to (IsFine P to) is))))

fact_given : (P : Parts) (draft : Open) (rows : List Row) (key : List ℕ) (ws : List (List ℕ)) (to : NetPlace) → fact_by P draft rows key ws ≡ Ok to → IsOpen P draft → IsStateSoFar P draft.network rows → IsFine P to
unfolding fact_by
fact_given P draft rows key ws to is draft_is state =
    by_test (IsFine P) (bytes_eq key (codes "t")) _ _ to is
    (λ is. let new = bound (stored_of_line P draft rows ws) _ to is in subst (IsFine P) (given (place.Facts draft new.0) to new.2) (draft_is, stored_given P draft rows new.0 ws new.1 state))
    (λ is. by_test (IsFine P) (bytes_eq key (codes "ft")) _ _ to is
    (λ is. let new = bound (flow_of_line Ft draft rows ws) _ to is in subst (IsFine P) (given (place.Facts draft new.0) to new.2) (draft_is, flow_line_given P Ft draft rows new.0 ws tt refl new.1 state))
    (λ is. by_test (IsFine P) (bytes_eq key (codes "sent")) _ _ to is
    (λ is. let new = bound (flow_of_line Sent draft rows ws) _ to is in subst (IsFine P) (given (place.Facts draft new.0) to new.2) (draft_is, flow_line_given P Sent draft rows new.0 ws tt refl new.1 state))
    (λ is. by_test (IsFine P) (bytes_eq key (codes "packet")) _ _ to is
    (λ is. let packet = bound (packet_of draft.network ws) _ to is in subst (IsFine P) (given (place.Closing draft rows packet.0) to packet.2) (draft_is, state, packet_given draft.network ws packet.0 rows packet.1))
    (λ is. by_test (IsFine P) (bytes_eq key (codes "end")) _ _ to is
    (λ is. end_given P draft (Some rows) Nothing ws to is draft_is state tt)
    (λ is. none_given why.Shape to (IsFine P to) is)))))

item_line_given : (P : Parts) (draft : Open) (ws : List (List ℕ)) (to : NetPlace) → item_line P draft ws ≡ Ok to → IsOpen P draft → IsFine P to
unfolding item_line
item_line_given P draft ws to is draft_is =
    let key = bound (or_why (next ws) why.Shape) _ to is in
    item_given P draft key.0.0 key.0.1 to key.2 draft_is

fact_line_given : (P : Parts) (draft : Open) (rows : List Row) (ws : List (List ℕ)) (to : NetPlace) → fact_line P draft rows ws ≡ Ok to → IsOpen P draft → IsStateSoFar P draft.network rows → IsFine P to
unfolding fact_line
fact_line_given P draft rows ws to is draft_is state =
    let key = bound (or_why (next ws) why.Shape) _ to is in
    fact_given P draft rows key.0.0 key.0.1 to key.2 draft_is state

step_given : (P : Parts) (from : NetPlace) (ws : List (List ℕ)) (to : NetPlace) → step P from ws ≡ Ok to → IsFine P from → IsFine P to
step_given P place.Header ws to is fine =
    let u = bound (header_of ws) _ to is in
    subst (IsFine P) (given place.Switches to u.2) tt
step_given P place.Switches ws to is fine =
    let rest = bound (behind (codes "sw") ws) _ to is in
    let es = bound (sort_of rest.0) _ to rest.2 in
    subst (IsFine P) (given (place.Hosts es.0) to es.2) (sort_given rest.0 es.0 es.1)
step_given P (place.Hosts sw) ws to is fine =
    let rest = bound (behind (codes "ho") ws) _ to is in
    let es = bound (sort_of rest.0) _ to rest.2 in
    subst (IsFine P) (given (place.Ports sw es.0) to es.2) (fine, sort_given rest.0 es.0 es.1)
step_given P (place.Ports sw ho) ws to is fine =
    let rest = bound (behind (codes "pr") ws) _ to is in
    let draft = bound (ports_of P sw ho rest.0) _ to rest.2 in
    subst (IsFine P) (given (place.Items draft.0) to draft.2) (ports_given P sw ho rest.0 draft.0 draft.1 fine.0 fine.1)
step_given P (place.Items draft) ws to is fine = item_line_given P draft ws to is fine
step_given P (place.Facts draft rows) ws to is fine = fact_line_given P draft rows ws to is fine.0 fine.1
step_given P (place.Closing draft rows packet) ws to is fine =
    let rest = bound (behind (codes "end") ws) _ to is in
    end_given P draft (Some rows) packet rest.0 to rest.2 fine.0 fine.1 fine.2
step_given P (place.Ended case) ws to is fine = none_given why.Shape to (IsFine P to) is

-- ---- texts

refused : {A : Type 0} (e : Refused NetWhy) (v : Case) → Err e ≡ Ok v → A
refused e v is = absurd cc

finish_given : (P : Parts) (past : ℕ) (from : NetPlace) (v : Case) → ended_at past (finish from) ≡ Ok v → IsFine P from → IsWhole P v
finish_given P past place.Header v is fine = refused _ v is
finish_given P past place.Switches v is fine = refused _ v is
finish_given P past (place.Hosts sw) v is fine = refused _ v is
finish_given P past (place.Ports sw ho) v is fine = refused _ v is
finish_given P past (place.Items draft) v is fine = refused _ v is
finish_given P past (place.Facts draft rows) v is fine = refused _ v is
finish_given P past (place.Closing draft rows packet) v is fine = refused _ v is
finish_given P past (place.Ended case) v is fine = subst (IsWhole P) (one case v is) fine
  where
    one : (case v : Case) → ◌≡◌ {A = Result Case (Refused NetWhy)} (Ok case) (Ok v) → case ≡ v
    one case v is = cc

run_given : (P : Parts) (past : ℕ) (ls : List Line) (from : NetPlace) (v : Case) → run (net_format P) past ls from ≡ Ok v → IsFine P from → IsWhole P v
run_given P past [] from v is fine = finish_given P past from v is fine
run_given P past (l ∷ ls) from v is fine = by_step (step P from (words l.text)) refl is (λ to goes. run_given P past ls to v goes)
  where
    by_step : (r : Result NetPlace NetWhy) → step P from (words l.text) ≡ r → after_step l.number r (run (net_format P) past ls) ≡ Ok v
        → ((to : NetPlace) → run (net_format P) past ls to ≡ Ok v → IsFine P to → IsWhole P v) → IsWhole P v
    by_step (Ok to) stepped goes on = on to goes (step_given P from (words l.text) to stepped fine)
    by_step (Err e) stepped goes on = refused _ v goes

-- what a text reads as
pub text_given : (P : Parts) (text : List ℕ) (v : Case) → reading (net_format P) text ≡ Ok v → IsWhole P v
text_given P text v is = let t = lines_left 1 text in run_given P t.past t.lines place.Header v is tt

pub answer_is_case : (P : Parts) (text : List ℕ) (answer : Result Case (LineRefusal NetWhy)) → Gives answer (reading (net_format P) text) → IfOk answer (IsCase P)
answer_is_case P text (Ok v) is = (text_given P text v is).is_case
answer_is_case P text (Err why) is = tt

pub answer_in_order : (P : Parts) (text : List ℕ) (answer : Result Case (LineRefusal NetWhy)) → Gives answer (reading (net_format P) text) → IfOk answer IsInOrder
answer_in_order P text (Ok v) is = (text_given P text v is).is_in_order
answer_in_order P text (Err why) is = tt

pub answer_again : (P : Parts) (text : List ℕ) (answer : Result Case (LineRefusal NetWhy)) → IsWellSorted P → Gives answer (reading (net_format P) text) → IfOk answer (λ case. reading (net_format P) (net_text P case) ≡ Ok case)
answer_again P text (Ok v) well is = let whole = text_given P text v is in read_back P v well whole.is_case whole.is_in_order
answer_again P text (Err why) well is = tt
