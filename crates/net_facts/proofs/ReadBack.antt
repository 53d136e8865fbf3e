-- What is printed of a case reads as that case.
use Rattle.std.proofs.Common.{◌≡◌, ◌≢◌, ◌∙◌, ap, sym, subst, refl, ℕ, suc, ◌+◌, ◌<◌, ◌^◌, Bool, true, false, not, List, [], ◌∷◌, ◌++◌, length, map, Option, Some, None, Ok, All, Contains, slice_get, slice_index, arith, append_assoc, append-nil, Result, Err}
use Rattle.std.specs.Prelude.{decimal, codes, option_map}
use Rattle.std.specs.Ordering.{nat_cmp}
use Rattle.std.specs.List.{list_all, AllByRecursion}
use Rattle.std.specs.List.Sorted.{IsStrictlySortedBy}
use Rattle.std.proofs.lemmas.Bool.{and_from}
use Rattle.std.proofs.lemmas.List.{length_push}
use Rattle.std.proofs.lemmas.List.Elements.{All-weaker, All-contains, recursion_from_All}
use Rattle.std.proofs.lemmas.Option.{same_Some, slice_get_within, slice_get-map, get_or_from_slice_get}
use Rattle.std.specs.Result.{MatchResult}
use Rattle.text_lines.specs.Text.{lines_left}
use Rattle.text_lines.specs.Machine.{Refused, run, after_step, reading}
use Rattle.text_lines.specs.Gives.{Gives}
use Rattle.text_lines.specs.declared.read.LineRefusal.{LineRefusal}
use Rattle.text_lines.specs.declared.read.LineRefusal.TheVariants as refusal
use Rattle.text_lines.specs.Printed.{is_word, is_line, are_lines, numbered}
use Rattle.text_lines.proofs.PrintedLaws.{words_joined, lines_printed, word_decimal, words_decimal}
use Rattle.csdn_core.specs.declared.terms.Sort.{Sort}
use Rattle.csdn_core.specs.declared.terms.Sort.TheVariants.{Sw, Ho, Pr}
use Rattle.csdn_core.specs.declared.terms.Pred.{Pred}
use Rattle.csdn_core.specs.declared.terms.Pred.TheVariants.{Stored, Ft, Sent, RcvThis}
use Rattle.csdn_core.specs.declared.event.Packet.{Packet}
use Rattle.csdn_core.specs.declared.event.Packet.TheVariants.{Nothing, At}
use Rattle.csdn_core.specs.declared.program.Parts.{Parts}
use Rattle.csdn_core.specs.declared.program.Relation.{Relation}
use Rattle.csdn_core.specs.declared.program.Constant.{Constant}
use Rattle.csdn_core.specs.Truth.{same_truth}
use Rattle.csdn_core.specs.Names.{IsName}
use Rattle.csdn_core.specs.Network.{Network, StaticRow, elements, is_fixed_in, HaveElements, IsStaticTuple, IsNetwork}
use Rattle.csdn_core.specs.Sorted.{flow_sorts, packet_sorts, sorts_of}
use Rattle.csdn_core.specs.WellSorted.{signature, IsWellSorted}
use Rattle.net_structs.specs.declared.row.Row.{Row}
use Rattle.net_structs.specs.declared.case.Case.{Case}
use Rattle.net_structs.specs.Rows.{row_cmp, row_total}
use Rattle.net_structs.specs.Networks.{as_stored, static_cmp}
use Rattle.net_text.specs.declared.place.NetPlace.{NetPlace}
use Rattle.net_text.specs.declared.place.NetPlace.TheVariants as place
use Rattle.net_text.specs.declared.refusal.NetWhy.{NetWhy}
use Rattle.net_structs.specs.Refusals.{is_empty}
use Rattle.net_text.specs.Lines.{◌>>=◌, sort_of, no_values, ports_of, relation_from}
use Rattle.net_text.specs.NetText.{step, net_format, name_in, name_of, tuple_words, row_words, constant_lines, state_lines, packet_lines, header_words, end_words, head_lines, part_lines, case_lines, net_text}
use Rattle.net_facts.specs.Cases.{IsKept, IsStateTuple, IsState, IsPacket, IsCase, IsRisingState, IsInOrder}
use Rattle.net_facts.proofs.Rising.{insert_next, rises_on}
use Rattle.net_facts.proofs.WordsAgain.{are_small, small_all, cells_small, name_word, constant_found, relation_found}
use Rattle.net_facts.proofs.LinesAgain.{opened, partly, IsGiven, IsSaid, IsFact, header_again, behind_again, sort_again, ports_again, constant_line_again, static_line_again, state_line_again, fact_again, packet_line_again, end_of_network_again, end_of_state_again, end_of_packet_again}

-- the name of a declared relation is a word
abbrev IsNamed : Parts → Pred → Type 0
IsNamed P (Stored r) = is_word (name_of P r.0) ≡ true
IsNamed P Ft = Unit {0}
IsNamed P Sent = Unit {0}
IsNamed P RcvThis = Unit {0}

module _ (P : Parts) (N : Network) where
  -- each constant with its value, from the place `at` on
  abbrev AreGiven : ℕ → List Constant → List ℕ → Type 0
  AreGiven at [] [] = Unit {0}
  AreGiven at [] (m ∷ ms) = ⊥
  AreGiven at (d ∷ ds) [] = ⊥
  AreGiven at (d ∷ ds) (m ∷ ms) = (IsGiven P N at d m × (is_word d.name ≡ true)) × AreGiven (at + 1) ds ms

  -- a tuple of a static relation, whose line is right
  abbrev IsFixed : StaticRow → Type 0
  IsFixed row = IsSaid P N true (name_of P row.rel) row.rel row.cells × (is_word (name_of P row.rel) ≡ true)

  -- a tuple of the state, whose line is right
  abbrev IsRight : Row → Type 0
  IsRight row = IsFact P N row.pred row.cells × IsNamed P row.pred

module _ (P : Parts) (past : ℕ) (v : Case) where
  -- the lines are lines that count, and reading them from a place gives v, whatever their numbers
  record Reads (ls : List (List (List ℕ))) (place : NetPlace) : Type 0 where
    fine : are_lines ls ≡ true
    ends : (at : ℕ) → run (net_format P) past (numbered at ls) place ≡ Ok v

  -- one line more at the front
  line_reads : (ws : List (List ℕ)) (ls : List (List (List ℕ))) (from to : NetPlace) → is_line ws ≡ true → step P from ws ≡ Ok to → Reads ls to → Reads (ws ∷ ls) from
  line_reads ws ls from to fine is reads = record {
    fine = and_from (is_line ws) (are_lines ls) fine reads.fine;
    ends = λ at.
        ap (λ words. after_step at (step P from words) (run (net_format P) past (numbered (at + 1) ls))) (words_joined ws fine)
        ∙ ap (λ r. after_step at r (run (net_format P) past (numbered (at + 1) ls))) is
        ∙ reads.ends (at + 1);
  }

  -- ---- the parts of a text

  module _ (N : Network) where
    constants_read : (found : List ℕ) (at : ℕ) (ds : List Constant) (ms : List ℕ) (rest : List (List (List ℕ))) → length found ≡ at → AreGiven P N at ds ms
        → Reads rest (place.Items (opened N [] (map Some (found ++ ms)))) → Reads (constant_lines ds ms ++ rest) (place.Items (opened N [] (partly found ds)))
    constants_read found at [] [] rest many given reads =
        subst (λ vs. Reads rest (place.Items (opened N [] vs))) (ap (λ es. map Some es) (append-nil found) ∙ sym (append-nil (map Some found))) reads
    constants_read found at [] (m ∷ ms) rest many given reads = absurd given
    constants_read found at (d ∷ ds) [] rest many given reads = absurd given
    constants_read found at (d ∷ ds) (m ∷ ms) rest many given reads =
        line_reads (codes "c" ∷ d.name ∷ decimal m ∷ []) (constant_lines ds ms ++ rest) (place.Items (opened N [] (partly found (d ∷ ds)))) (place.Items (opened N [] (partly (found ++ m ∷ []) ds)))
        (constant_fine d.name m given.0.1 given.0.0.small)
        (constant_line_again P N [] found d ds m (subst (λ n. IsGiven P N n d m) (sym many) given.0.0))
        (constants_read (found ++ m ∷ []) (at + 1) ds ms rest (length_push found m ∙ ap (λ n. n + 1) many) given.1
        (subst (λ es. Reads rest (place.Items (opened N [] (map Some es)))) (sym (append_assoc found (m ∷ []) ms)) reads))
      where
        constant_fine : (name : List ℕ) (m : ℕ) → is_word name ≡ true → m < 2 ^ 64 → is_line (codes "c" ∷ name ∷ decimal m ∷ []) ≡ true
        constant_fine name m word small = rw (word, word_decimal m small) refl

    tuple_fine : (name cells : List ℕ) → is_word name ≡ true → are_small cells ≡ true → is_line (codes "t" ∷ name ∷ map decimal cells) ≡ true
    tuple_fine name cells word small = and_from (is_word name) (list_all is_word (map decimal cells)) word (words_decimal cells small)

    statics_read : (values : List (Option ℕ)) (done left : List StaticRow) (rest : List (List (List ℕ))) → IsStrictlySortedBy static_cmp (done ++ left) → AllByRecursion (IsFixed P N) left
        → Reads rest (place.Items (opened N (done ++ left) values)) → Reads (map (row_words P) (as_stored left) ++ rest) (place.Items (opened N done values))
    statics_read values done [] rest rising all reads = subst (λ rows. Reads rest (place.Items (opened N rows values))) (append-nil done) reads
    statics_read values done (row ∷ left) rest rising all reads =
        line_reads (codes "t" ∷ name_of P row.rel ∷ map decimal row.cells) (map (row_words P) (as_stored left) ++ rest) (place.Items (opened N done values)) (place.Items (opened N (done ++ row ∷ []) values))
        (tuple_fine (name_of P row.rel) row.cells all.0.1 all.0.0.small)
        (static_line_again P N done values (name_of P row.rel) row left rising all.0.0)
        (statics_read values (done ++ row ∷ []) left rest (rises_on static_cmp done row left rising) all.1
        (subst (λ rows. Reads rest (place.Items (opened N rows values))) (sym (append_assoc done (row ∷ []) left)) reads))

    fact_fine : (pred : Pred) (cells : List ℕ) → IsFact P N pred cells → IsNamed P pred → is_line (tuple_words P pred cells) ≡ true
    fact_fine (Stored r) cells fact word = tuple_fine (name_of P r.0) cells word fact.small
    fact_fine Ft cells fact word = words_decimal cells fact.1
    fact_fine Sent cells fact word = words_decimal cells fact.1
    fact_fine RcvThis cells fact word = absurd fact

    facts_read : (rows : List StaticRow) (values : List (Option ℕ)) (done left : List Row) (rest : List (List (List ℕ))) → IsStrictlySortedBy row_cmp (done ++ left) → AllByRecursion (IsRight P N) left
        → Reads rest (place.Facts (opened N rows values) (done ++ left)) → Reads (map (row_words P) left ++ rest) (place.Facts (opened N rows values) done)
    facts_read rows values done [] rest rising all reads = subst (λ facts. Reads rest (place.Facts (opened N rows values) facts)) (append-nil done) reads
    facts_read rows values done (row ∷ left) rest rising all reads =
        line_reads (row_words P row) (map (row_words P) left ++ rest) (place.Facts (opened N rows values) done) (place.Facts (opened N rows values) (done ++ row ∷ []))
        (fact_fine row.pred row.cells all.0.0 all.0.1)
        (fact_again P N rows values done row.pred row.cells all.0.0 ∙ ap (λ facts. Ok (place.Facts (opened N rows values) facts)) (insert_next row_total done row left rising))
        (facts_read rows values (done ++ row ∷ []) left rest (rises_on row_cmp done row left rising) all.1
        (subst (λ facts. Reads rest (place.Facts (opened N rows values) facts)) (sym (append_assoc done (row ∷ []) left)) reads))

end_reads : (P : Parts) (past : ℕ) (v : Case) (from : NetPlace) → step P from end_words ≡ Ok (place.Ended v) → Reads P past v (end_words ∷ []) from
end_reads P past v from is = line_reads P past v end_words [] from (place.Ended v) refl is (record { fine = refl; ends = λ at. refl })

-- ---- what a case gives

all_at : {X : Type 0} (Q : X → Type 0) (xs : List X) (k : ℕ) (x : X) → All Q xs → slice_get xs k ≡ Some x → Q x
all_at Q xs k x all here = subst Q (get_or_from_slice_get xs k x x here) (all k x (slice_get_within xs k x here))

same_itself : (b : Bool) → same_truth b b ≡ true
same_itself true = refl
same_itself false = refl

some_list : (xs : List ℕ) → xs ≢ [] → not (is_empty xs) ≡ true
some_list [] some = absurd (some refl)
some_list (x ∷ xs) some = refl

module _ (P : Parts) (well : IsWellSorted P) (N : Network) (network : IsNetwork P N) (small : (s : Sort) → All (λ m. m < 2 ^ 64) (elements N s)) where
  given_from : (at : ℕ) (ds : List Constant) (ms : List ℕ) → length ms ≡ length ds
      → ((k j : ℕ) (d : Constant) → j ≡ at + k → slice_get ds k ≡ Some d → IsGiven P N j d (slice_index ms k) × (is_word d.name ≡ true)) → AreGiven P N at ds ms
  given_from at [] [] many each = tt
  given_from at [] (m ∷ ms) many each = absurd (omega (arith, many))
  given_from at (d ∷ ds) [] many each = absurd (omega (arith, many))
  given_from at (d ∷ ds) (m ∷ ms) many each =
      (each 0 at d (omega arith) refl, given_from (at + 1) ds ms (omega (arith, many)) (λ k j c is here. each (suc k) j c (omega (arith, is)) here))

  one_given : (k j : ℕ) (d : Constant) → j ≡ 0 + k → slice_get P.constants k ≡ Some d → IsGiven P N j d (slice_index N.constants k) × (is_word d.name ≡ true)
  one_given k j d is here =
      let named : slice_get (map (λ d. d.name) P.constants) k ≡ Some d.name = slice_get-map (λ d. d.name) P.constants k ∙ ap (λ o. option_map (λ d. d.name) o) here in
      let known : Contains (elements N d.sort) (slice_index N.constants k) = network.sorted k d here in (
        record {
          found = constant_found 0 P.constants k j d well.constant_names is here;
          known = known;
          small = All-contains (λ m. m < 2 ^ 64) (elements N d.sort) (slice_index N.constants k) (small d.sort) known;
        },
        name_word d.name (all_at IsName (map (λ d. d.name) P.constants) k d.name well.constant_words named),
      )

  given : AreGiven P N 0 P.constants N.constants
  given = given_from 0 P.constants N.constants network.as_many one_given

  said : (static : Bool) (r : ℕ) (relation : Relation) (cells : List ℕ) → slice_get P.relations r ≡ Some relation → relation.fixed ≡ static → HaveElements N relation.sorts cells
      → IsSaid P N static (name_of P r) r cells × (is_word (name_of P r) ≡ true)
  said static r relation cells here fixed all =
      let name : name_of P r ≡ relation.name = ap name_in here in
      let named : slice_get (map (λ q. q.name) P.relations) r ≡ Some relation.name = slice_get-map (λ q. q.name) P.relations r ∙ ap (λ o. option_map (λ q. q.name) o) here in (
        record {
          relation = relation;
          found = subst (λ w. relation_from 0 P.relations w ≡ Some (r, relation)) (sym name) (relation_found 0 P.relations r r relation well.relation_names (omega arith) here);
          kind = ap (λ b. same_truth b static) fixed ∙ same_itself static;
          cells = all;
          small = cells_small N small relation.sorts cells all;
        },
        ap is_word name ∙ name_word relation.name (all_at IsName (map (λ q. q.name) P.relations) r relation.name well.relation_words named),
      )

  fixed_rows : AllByRecursion (IsFixed P N) N.rows
  fixed_rows = recursion_from_All (IsFixed P N) N.rows (All-weaker (IsStaticTuple P N) (IsFixed P N) (λ row is. said true row.rel is.relation row.cells is.declared is.static is.cells) N.rows network.rows)

  state_right : (pred : Pred) (cells : List ℕ) (sorts : List Sort) → IsKept P pred → sorts_of (signature P) pred ≡ Some sorts → HaveElements N sorts cells → IsFact P N pred cells × IsNamed P pred
  state_right (Stored r) cells sorts kept declared all = at (slice_get P.relations r.0) refl kept declared
    where
      at : (o : Option Relation) → slice_get P.relations r.0 ≡ o → is_fixed_in o ≡ false → option_map (λ d. d.sorts) o ≡ Some sorts → IsSaid P N false (name_of P r.0) r.0 cells × (is_word (name_of P r.0) ≡ true)
      at None here free is = absurd cc
      at (Some d) here free is = said false r.0 d cells here free (subst (λ ss. HaveElements N ss cells) (sym (same_Some d.sorts sorts is)) all)
  state_right Ft cells sorts kept declared all = ((subst (λ ss. HaveElements N ss cells) (sym (same_Some flow_sorts sorts declared)) all, cells_small N small sorts cells all), tt)
  state_right Sent cells sorts kept declared all = ((subst (λ ss. HaveElements N ss cells) (sym (same_Some flow_sorts sorts declared)) all, cells_small N small sorts cells all), tt)
  state_right RcvThis cells sorts kept declared all = absurd kept

  right_rows : (rows : List Row) → All (IsStateTuple P N) rows → AllByRecursion (IsRight P N) rows
  right_rows rows all = recursion_from_All (IsRight P N) rows (All-weaker (IsStateTuple P N) (IsRight P N) (λ row is. state_right row.pred row.cells is.sorts is.kept is.declared is.cells) rows all)

  packet_small : (s a b i : ℕ) → HaveElements N packet_sorts (s ∷ a ∷ b ∷ i ∷ []) → (s < 2 ^ 64) × (a < 2 ^ 64) × (b < 2 ^ 64) × (i < 2 ^ 64)
  unfolding HaveElements
  packet_small s a b i all = (of Sw s all.0, of Ho a all.1.0, of Ho b all.1.1.0, of Pr i all.1.1.1.0)
    where
      of : (sort : Sort) (m : ℕ) → Contains (elements N sort) m → m < 2 ^ 64
      of sort m there = All-contains (λ m. m < 2 ^ 64) (elements N sort) m (small sort) there

  abbrev whole : Option (List Row) → Packet → Case
  whole state packet = record { network = N; state = state; packet = packet }

  abbrev ready : NetPlace
  ready = place.Items (opened N N.rows (map Some N.constants))

  module _ (past : ℕ) where
    -- behind the tuples of the state
    packet_reads : (rows : List Row) (packet : Packet) → IsPacket N (Some rows) packet → Reads P past (whole (Some rows) packet) (packet_lines packet ++ end_words ∷ []) (place.Facts (opened N N.rows (map Some N.constants)) rows)
    packet_reads rows Nothing is = end_reads P past (whole (Some rows) Nothing) (place.Facts (opened N N.rows (map Some N.constants)) rows) (end_of_state_again P N rows)
    packet_reads rows (At s a b i) is =
        let p = packet_small s a b i is in
        line_reads P past (whole (Some rows) (At s a b i)) (codes "packet" ∷ map decimal (s ∷ a ∷ b ∷ i ∷ [])) (end_words ∷ []) (place.Facts (opened N N.rows (map Some N.constants)) rows) (place.Closing (opened N N.rows (map Some N.constants)) rows (At s a b i))
        (words_decimal (s ∷ a ∷ b ∷ i ∷ []) (cells_small N small packet_sorts (s ∷ a ∷ b ∷ i ∷ []) is))
        (packet_line_again P N N.rows (map Some N.constants) rows s a b i is p.0 p.1 p.2 p.3)
        (end_reads P past (whole (Some rows) (At s a b i)) (place.Closing (opened N N.rows (map Some N.constants)) rows (At s a b i)) (end_of_packet_again P N rows (At s a b i)))

    -- behind the network
    state_reads : (state : Option (List Row)) (packet : Packet) → IsState P N state → IsRisingState state → IsPacket N state packet → Reads P past (whole state packet) (state_lines P state ++ (packet_lines packet ++ end_words ∷ [])) ready
    state_reads None Nothing tuples rising is = end_reads P past (whole None Nothing) ready (end_of_network_again P N)
    state_reads None (At s a b i) tuples rising is = absurd is
    state_reads (Some rows) packet tuples rising is =
        line_reads P past (whole (Some rows) packet) (codes "state" ∷ []) (map (row_words P) rows ++ (packet_lines packet ++ end_words ∷ [])) ready (place.Facts (opened N N.rows (map Some N.constants)) [])
        refl (state_line_again P (opened N N.rows (map Some N.constants)))
        (facts_read P past (whole (Some rows) packet) N N.rows (map Some N.constants) [] rows (packet_lines packet ++ end_words ∷ []) rising (right_rows rows tuples) (packet_reads rows packet is))

    parts_read : (case : Case) → IsState P N case.state → IsRisingState case.state → IsPacket N case.state case.packet → IsStrictlySortedBy static_cmp N.rows
        → Reads P past (whole case.state case.packet) (part_lines P (whole case.state case.packet)) (place.Items (opened N [] (no_values P.constants)))
    parts_read case tuples rising packet static =
        constants_read P past (whole case.state case.packet) N [] 0 P.constants N.constants (map (row_words P) (as_stored N.rows) ++ (state_lines P case.state ++ (packet_lines case.packet ++ end_words ∷ []))) refl given
        (statics_read P past (whole case.state case.packet) N (map Some N.constants) [] N.rows (state_lines P case.state ++ (packet_lines case.packet ++ end_words ∷ [])) static fixed_rows
        (state_reads case.state case.packet tuples rising packet))

    abbrev hosts_line : List (List ℕ)
    hosts_line = codes "ho" ∷ map decimal N.hosts

    abbrev ports_line : List (List ℕ)
    ports_line = codes "pr" ∷ map decimal N.ports

    head_reads : (v : Case) (rest : List (List (List ℕ))) → ((s : Sort) → IsStrictlySortedBy nat_cmp (elements N s))
        → Reads P past v rest (place.Items (opened N [] (no_values P.constants))) → Reads P past v (head_lines N ++ rest) place.Header
    head_reads v rest rising reads =
        let sw = small_all N.switches (small Sw) in
        let ho = small_all N.hosts (small Ho) in
        let pr = small_all N.ports (small Pr) in
        line_reads P past v header_words ((codes "sw" ∷ map decimal N.switches) ∷ hosts_line ∷ ports_line ∷ rest) place.Header place.Switches refl (header_again P)
        (line_reads P past v (codes "sw" ∷ map decimal N.switches) (hosts_line ∷ ports_line ∷ rest) place.Switches (place.Hosts N.switches) (words_decimal N.switches sw)
        (ap (λ r. r >>= (λ ws. sort_of ws >>= (λ es. Ok (place.Hosts es)))) (behind_again (codes "sw") (map decimal N.switches))
        ∙ ap (λ r. r >>= (λ es. Ok (place.Hosts es))) (sort_again N.switches (some_list N.switches (network.some Sw)) (rising Sw) sw))
        (line_reads P past v hosts_line (ports_line ∷ rest) (place.Hosts N.switches) (place.Ports N.switches N.hosts) (words_decimal N.hosts ho)
        (ap (λ r. r >>= (λ ws. sort_of ws >>= (λ es. Ok (place.Ports N.switches es)))) (behind_again (codes "ho") (map decimal N.hosts))
        ∙ ap (λ r. r >>= (λ es. Ok (place.Ports N.switches es))) (sort_again N.hosts (some_list N.hosts (network.some Ho)) (rising Ho) ho))
        (line_reads P past v ports_line rest (place.Ports N.switches N.hosts) (place.Items (opened N [] (no_values P.constants))) (words_decimal N.ports pr)
        (ap (λ r. r >>= (λ ws. ports_of P N.switches N.hosts ws >>= (λ draft. Ok (place.Items draft)))) (behind_again (codes "pr") (map decimal N.ports))
        ∙ ap (λ r. r >>= (λ draft. Ok (place.Items draft))) (ports_again P N (some_list N.ports (network.some Pr)) rising pr network.numerals))
        reads)))

pub read_back : (P : Parts) (case : Case) → IsWellSorted P → IsCase P case → IsInOrder case → reading (net_format P) (net_text P case) ≡ Ok case
read_back P case well is order =
    let N = case.network in
    let past = (lines_left 1 (net_text P case)).past in
    let reads : Reads P past case (case_lines P case) place.Header =
    head_reads P well N is.network order.small past case (part_lines P case) order.elements_rise
    (parts_read P well N is.network order.small past case is.state order.state_rises is.packet order.static_rise) in
    ap (λ ls. run (net_format P) past ls place.Header) (lines_printed 1 (case_lines P case) reads.fine) ∙ reads.ends 1

-- .. and so the reader answers it, or that there is no memory
pub answered_back : (P : Parts) (case : Case) → IsWellSorted P → IsCase P case → IsInOrder case → (answer : Result Case (LineRefusal NetWhy)) → Gives answer (reading (net_format P) (net_text P case)) → MatchResult answer (λ again. again ≡ case) (λ why. why ≡ refusal.Memory)
answered_back P case well is order (Ok v) gives = let same : Ok v ≡ Ok case = sym gives ∙ read_back P case well is order in one v case same
  where
    one : (v w : Case) → ◌≡◌ {A = Result Case (Refused NetWhy)} (Ok v) (Ok w) → v ≡ w
    one v w is = cc
answered_back P case well is order (Err (refusal.Line n e)) gives = none (record { number = n; reason = e }) (sym gives ∙ read_back P case well is order)
  where
    none : {A : Type 0} (e : Refused NetWhy) → ◌≡◌ {A = Result Case (Refused NetWhy)} (Err e) (Ok case) → A
    none e is = absurd cc
answered_back P case well is order (Err refusal.Memory) gives = refl
