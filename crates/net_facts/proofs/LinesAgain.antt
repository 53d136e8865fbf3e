-- Printed lines of network texts are read again.
use Rattle.std.proofs.Common.{◌≡◌, ◌∙◌, ap, subst, refl, ℕ, zero, suc, ◌<◌, ◌^◌, Bool, true, false, not, List, [], ◌∷◌, ◌++◌, length, map, Option, Some, None, Ok, All, Contains, slice_get, arith}
use Rattle.std.specs.Prelude.{decimal, codes, is_none}
use Rattle.std.specs.Ordering.{nat_cmp}
use Rattle.std.specs.Cmp.{nat_cmp_total, IsTotalOrder, on_total, then_total}
use Rattle.std.specs.Cmp.Lexicographic.{nat_list_cmp_total}
use Rattle.std.specs.List.Sorted.{IsStrictlySortedBy}
use Rattle.std.proofs.lemmas.Bool.{eq-eqb}
use Rattle.std.proofs.lemmas.List.{length-map, set_at}
use Rattle.csdn_core.specs.declared.terms.Sort.{Sort}
use Rattle.csdn_core.specs.declared.terms.Sort.TheVariants.{Sw, Ho, Pr}
use Rattle.csdn_core.specs.declared.terms.Pred.{Pred}
use Rattle.csdn_core.specs.declared.terms.Pred.TheVariants.{Stored, Ft, Sent, RcvThis}
use Rattle.csdn_core.specs.declared.event.Packet.{Packet}
use Rattle.csdn_core.specs.declared.event.Packet.TheVariants.{Nothing, At}
use Rattle.csdn_core.specs.declared.program.Parts.{Parts}
use Rattle.csdn_core.specs.declared.program.Relation.{Relation}
use Rattle.csdn_core.specs.declared.program.Constant.{Constant}
use Rattle.csdn_core.specs.Truth.{same_truth}
use Rattle.csdn_core.specs.Network.{Network, StaticRow, elements, HaveElements}
use Rattle.csdn_core.specs.Sorted.{flow_sorts, packet_sorts}
use Rattle.text_lines.specs.Numbers.{number_of}
use Rattle.text_lines.proofs.Numerals.{number_some}
use Rattle.net_structs.specs.declared.row.Row.{Row}
use Rattle.net_structs.specs.Networks.{has, in_order, bare_network, static_cmp, with_static}
use Rattle.net_structs.specs.Refusals.{is_empty, missing_port}
use Rattle.net_text.specs.declared.place.Open.{Open}
use Rattle.net_text.specs.declared.place.NetPlace.TheVariants as place
use Rattle.net_text.specs.declared.refusal.NetWhy.TheVariants as why
use Rattle.net_text.specs.Lines.{◌>>=◌, most, wants, header_of, behind, sort_of, no_values, ports_of, constant_from, is_given, constant_of, relation_from, cells_of, tuple_of, flow_of, packet_of}
use Rattle.net_text.specs.NetText.{end_of, static_of_line, with_fact, stored_of_line, flow_of_line, item_by, fact_by, item_line, fact_line, step, name_of, tuple_words, header_words, end_words}
use Rattle.net_facts.proofs.Rising.{insert_next, in_order_rising, distinct_rising}
use Rattle.net_facts.proofs.WordsAgain.{are_small, elements_again, there_has, no_missing, cells_known, cells_length, values_again, bytes_itself}

pub static_total : IsTotalOrder static_cmp
static_total = then_total (on_total (λ (row : StaticRow). row.rel) nat_cmp_total) (on_total (λ (row : StaticRow). row.cells) nat_list_cmp_total)

-- ---- header and sorts

pub header_again : (P : Parts) → step P place.Header header_words ≡ Ok place.Switches
unfolding header_of
header_again P = refl

pub behind_again : (key : List ℕ) (ws : List (List ℕ)) → behind key (key ∷ ws) ≡ Ok ws
unfolding behind
behind_again key ws = rw (bytes_itself key) refl

pub sort_again : (es : List ℕ) → not (is_empty es) ≡ true → IsStrictlySortedBy nat_cmp es → are_small es ≡ true → sort_of (map decimal es) ≡ Ok es
unfolding sort_of
sort_again es some rising small = rw (elements_again [] es small, some, distinct_rising es rising) refl

-- a network of which the tuples of static relations were read so far, and no values
abbrev pub bare : Network → List StaticRow → Network
bare N rows = record { switches = N.switches; hosts = N.hosts; ports = N.ports; constants = []; rows = rows }

pub same_sorts : (N : Network) (rows : List StaticRow) (s : Sort) → elements N s ≡ elements (bare N rows) s
same_sorts N rows Sw = refl
same_sorts N rows Ho = refl
same_sorts N rows Pr = refl

bare_again : (N : Network) → ((s : Sort) → IsStrictlySortedBy nat_cmp (elements N s)) → bare_network N.switches N.hosts N.ports ≡ bare N []
bare_again N rising =
    ap (λ es. record { switches = es; hosts = in_order nat_cmp N.hosts; ports = in_order nat_cmp N.ports; constants = []; rows = [] }) (in_order_rising nat_cmp_total N.switches (rising Sw))
    ∙ ap (λ es. record { switches = N.switches; hosts = es; ports = in_order nat_cmp N.ports; constants = []; rows = [] }) (in_order_rising nat_cmp_total N.hosts (rising Ho))
    ∙ ap (λ es. record { switches = N.switches; hosts = N.hosts; ports = es; constants = []; rows = [] }) (in_order_rising nat_cmp_total N.ports (rising Pr))

pub ports_again : (P : Parts) (N : Network) → not (is_empty N.ports) ≡ true → ((s : Sort) → IsStrictlySortedBy nat_cmp (elements N s)) → are_small N.ports ≡ true → All (Contains N.ports) P.numerals
    → ports_of P N.switches N.hosts (map decimal N.ports) ≡ Ok (record { network = bare N []; values = no_values P.constants })
unfolding ports_of
ports_again P N some rising small numerals =
    ap (λ r. r >>= λ es. wants (is_none (missing_port (bare_network N.switches N.hosts es).ports P.numerals)) why.NoPort >>= λ u. Ok (record { network = bare_network N.switches N.hosts es; values = no_values P.constants }))
    (sort_again N.ports some (rising Pr) small)
    ∙ ap (λ M. wants (is_none (missing_port M.ports P.numerals)) why.NoPort >>= λ u. Ok (record { network = M; values = no_values P.constants })) (bare_again N rising)
    ∙ ap (λ o. wants (is_none o) why.NoPort >>= λ u. Ok (record { network = bare N []; values = no_values P.constants })) (no_missing N.ports P.numerals numerals)

-- ---- constants

-- what the line of a constant says is right
pub record IsGiven (P : Parts) (N : Network) (at : ℕ) (d : Constant) (m : ℕ) : Type 0 where
  pub found : constant_from 0 P.constants d.name ≡ Some (at, d.sort)
  pub known : Contains (elements N d.sort) m
  pub small : m < 2 ^ 64

-- the values, of which some are there
abbrev pub partly : List ℕ → List Constant → List (Option ℕ)
partly found ds = map Some found ++ no_values ds

not_given : (xs : List (Option ℕ)) (ys : List (Option ℕ)) (at : ℕ) → length xs ≡ at → is_given (slice_get (xs ++ None ∷ ys) at) ≡ false
not_given [] ys zero is = refl
not_given [] ys (suc at) is = absurd (omega (arith, is))
not_given (x ∷ xs) ys zero is = absurd (omega (arith, is))
not_given (x ∷ xs) ys (suc at) is = not_given xs ys at (omega (arith, is))

one_more : (found : List ℕ) (m : ℕ) (rest : List (Option ℕ)) → map Some found ++ (Some m ∷ rest) ≡ map Some (found ++ m ∷ []) ++ rest
one_more [] m rest = refl
one_more (e ∷ found) m rest = ap (λ vs. Some e ∷ vs) (one_more found m rest)

pub constant_again : (P : Parts) (N : Network) (rows : List StaticRow) (found : List ℕ) (d : Constant) (ds : List Constant) (m : ℕ) → IsGiven P N (length found) d m
    → constant_of P (record { network = bare N rows; values = partly found (d ∷ ds) }) (d.name ∷ decimal m ∷ []) ≡ Ok (record { network = bare N rows; values = partly (found ++ m ∷ []) ds })
unfolding constant_of
constant_again P N rows found d ds m given =
    let at = length found in
    let values = partly found (d ∷ ds) in
    let many : length (map Some found) ≡ at = length-map found Some in
    let number : number_of most (decimal m) ≡ Some m = (let below : m < 2 ^ 64 = given.small in number_some most m (decimal m) (omega arith) (omega arith) refl) in
    let known : has (elements (bare N rows) d.sort) m ≡ true = there_has (elements (bare N rows) d.sort) m (subst (λ (es : List ℕ). Contains es m) (same_sorts N rows d.sort) given.known) in
    rw (given.found, not_given (map Some found) (no_values ds) at many, number, known)
    (ap (λ vs. Ok (record { network = bare N rows; values = vs })) (set_at (map Some found) None (no_values ds) (Some m) at many ∙ one_more found m (no_values ds)))

-- ---- tuples

-- what the line of a tuple of a declared relation says is right; the relation is static, or it isn't
pub record IsSaid (P : Parts) (N : Network) (static : Bool) (name : List ℕ) (r : ℕ) (es : List ℕ) : Type 0 where
  pub relation : Relation
  pub found : relation_from 0 P.relations name ≡ Some (r, relation)
  pub kind : same_truth relation.fixed static ≡ true
  pub cells : HaveElements N relation.sorts es
  pub small : are_small es ≡ true

cells_again : (N : Network) (rows : List StaticRow) (ss : List Sort) (cells : List ℕ) → HaveElements N ss cells → cells_of (bare N rows) ss cells ≡ Ok cells
unfolding cells_of
cells_again N rows ss cells all =
    rw (eq-eqb (length cells) (length ss) (cells_length N ss cells all), cells_known N (bare N rows) (same_sorts N rows) ss cells all) refl

pub tuple_again : (P : Parts) (N : Network) (rows : List StaticRow) (static : Bool) (name : List ℕ) (r : ℕ) (cells : List ℕ) → IsSaid P N static name r cells
    → tuple_of P static (bare N rows) (name ∷ map decimal cells) ≡ Ok (r, cells)
unfolding tuple_of
tuple_again P N rows static name r cells said =
    rw (elements_again [] cells said.small, said.found, said.kind, cells_again N rows said.relation.sorts cells said.cells) refl

pub flow_again : (N : Network) (rows : List StaticRow) (cells : List ℕ) → HaveElements N flow_sorts cells → are_small cells ≡ true → flow_of (bare N rows) (map decimal cells) ≡ Ok cells
unfolding flow_of
flow_again N rows cells all small = rw (elements_again [] cells small, cells_again N rows flow_sorts cells all) refl

-- ---- lines

abbrev pub opened : Network → List StaticRow → List (Option ℕ) → Open
opened N rows values = record { network = bare N rows; values = values }

item_c : (P : Parts) (draft : Open) (ws : List (List ℕ)) → step P (place.Items draft) (codes "c" ∷ ws) ≡ (constant_of P draft ws >>= (λ new. Ok (place.Items new)))
unfolding item_line item_by
item_c P draft ws = refl

item_t : (P : Parts) (draft : Open) (ws : List (List ℕ)) → step P (place.Items draft) (codes "t" ∷ ws) ≡ (static_of_line P draft ws >>= (λ new. Ok (place.Items new)))
unfolding item_line item_by
item_t P draft ws = refl

pub state_line_again : (P : Parts) (draft : Open) → step P (place.Items draft) (codes "state" ∷ []) ≡ Ok (place.Facts draft [])
unfolding item_line item_by
state_line_again P draft = refl

item_end : (P : Parts) (draft : Open) (ws : List (List ℕ)) → step P (place.Items draft) (codes "end" ∷ ws) ≡ end_of draft None Nothing ws
unfolding item_line item_by
item_end P draft ws = refl

fact_t : (P : Parts) (draft : Open) (rows : List Row) (ws : List (List ℕ)) → step P (place.Facts draft rows) (codes "t" ∷ ws) ≡ (stored_of_line P draft rows ws >>= (λ new. Ok (place.Facts draft new)))
unfolding fact_line fact_by
fact_t P draft rows ws = refl

fact_ft : (P : Parts) (draft : Open) (rows : List Row) (ws : List (List ℕ)) → step P (place.Facts draft rows) (codes "ft" ∷ ws) ≡ (flow_of_line Ft draft rows ws >>= (λ new. Ok (place.Facts draft new)))
unfolding fact_line fact_by
fact_ft P draft rows ws = refl

fact_sent : (P : Parts) (draft : Open) (rows : List Row) (ws : List (List ℕ)) → step P (place.Facts draft rows) (codes "sent" ∷ ws) ≡ (flow_of_line Sent draft rows ws >>= (λ new. Ok (place.Facts draft new)))
unfolding fact_line fact_by
fact_sent P draft rows ws = refl

fact_packet : (P : Parts) (draft : Open) (rows : List Row) (ws : List (List ℕ)) → step P (place.Facts draft rows) (codes "packet" ∷ ws) ≡ (packet_of draft.network ws >>= (λ packet. Ok (place.Closing draft rows packet)))
unfolding fact_line fact_by
fact_packet P draft rows ws = refl

fact_end : (P : Parts) (draft : Open) (rows : List Row) (ws : List (List ℕ)) → step P (place.Facts draft rows) (codes "end" ∷ ws) ≡ end_of draft (Some rows) Nothing ws
unfolding fact_line fact_by
fact_end P draft rows ws = refl

pub constant_line_again : (P : Parts) (N : Network) (rows : List StaticRow) (found : List ℕ) (d : Constant) (ds : List Constant) (m : ℕ) → IsGiven P N (length found) d m
    → step P (place.Items (opened N rows (partly found (d ∷ ds)))) (codes "c" ∷ d.name ∷ decimal m ∷ []) ≡ Ok (place.Items (opened N rows (partly (found ++ m ∷ []) ds)))
constant_line_again P N rows found d ds m given =
    item_c P (opened N rows (partly found (d ∷ ds))) (d.name ∷ decimal m ∷ [])
    ∙ ap (λ r. r >>= (λ new. Ok (place.Items new))) (constant_again P N rows found d ds m given)

static_again : (P : Parts) (N : Network) (rows : List StaticRow) (values : List (Option ℕ)) (name : List ℕ) (r : ℕ) (cells : List ℕ) → IsSaid P N true name r cells
    → static_of_line P (opened N rows values) (name ∷ map decimal cells) ≡ Ok (record { network = with_static (bare N rows) r cells; values = values })
unfolding static_of_line
static_again P N rows values name r cells said =
    ap (λ o. o >>= (λ t. Ok (record { network = with_static (bare N rows) t.0 t.1; values = values }))) (tuple_again P N rows true name r cells said)

pub static_line_again : (P : Parts) (N : Network) (done : List StaticRow) (values : List (Option ℕ)) (name : List ℕ) (row : StaticRow) (rest : List StaticRow) → IsStrictlySortedBy static_cmp (done ++ row ∷ rest) → IsSaid P N true name row.rel row.cells
    → step P (place.Items (opened N done values)) (codes "t" ∷ name ∷ map decimal row.cells) ≡ Ok (place.Items (opened N (done ++ row ∷ []) values))
static_line_again P N done values name row rest rising said =
    item_t P (opened N done values) (name ∷ map decimal row.cells)
    ∙ ap (λ r. r >>= (λ new. Ok (place.Items new))) (static_again P N done values name row.rel row.cells said)
    ∙ ap (λ rows. Ok (place.Items (opened N rows values))) (insert_next static_total done row rest rising)

stored_again : (P : Parts) (N : Network) (rows : List StaticRow) (values : List (Option ℕ)) (done : List Row) (name : List ℕ) (r : ℕ) (cells : List ℕ) → IsSaid P N false name r cells
    → stored_of_line P (opened N rows values) done (name ∷ map decimal cells) ≡ Ok (with_fact done (Stored (record { 0 = r })) cells)
unfolding stored_of_line
stored_again P N rows values done name r cells said =
    ap (λ o. o >>= (λ t. Ok (with_fact done (Stored (record { 0 = t.0 })) t.1))) (tuple_again P N rows false name r cells said)

flow_line : (pred : Pred) (N : Network) (rows : List StaticRow) (values : List (Option ℕ)) (done : List Row) (cells : List ℕ) → HaveElements N flow_sorts cells → are_small cells ≡ true
    → flow_of_line pred (opened N rows values) done (map decimal cells) ≡ Ok (with_fact done pred cells)
unfolding flow_of_line
flow_line pred N rows values done cells all small = ap (λ o. o >>= (λ es. Ok (with_fact done pred es))) (flow_again N rows cells all small)

-- what the line of a tuple of a state says is right
abbrev pub IsFact : Parts → Network → Pred → List ℕ → Type 0
IsFact P N (Stored r) cells = IsSaid P N false (name_of P r.0) r.0 cells
IsFact P N Ft cells = HaveElements N flow_sorts cells × (are_small cells ≡ true)
IsFact P N Sent cells = HaveElements N flow_sorts cells × (are_small cells ≡ true)
IsFact P N RcvThis cells = ⊥

pub fact_again : (P : Parts) (N : Network) (rows : List StaticRow) (values : List (Option ℕ)) (done : List Row) (pred : Pred) (cells : List ℕ) → IsFact P N pred cells
    → step P (place.Facts (opened N rows values) done) (tuple_words P pred cells) ≡ Ok (place.Facts (opened N rows values) (with_fact done pred cells))
fact_again P N rows values done (Stored r) cells fact =
    fact_t P (opened N rows values) done (name_of P r.0 ∷ map decimal cells)
    ∙ ap (λ o. o >>= (λ new. Ok (place.Facts (opened N rows values) new))) (stored_again P N rows values done (name_of P r.0) r.0 cells fact)
fact_again P N rows values done Ft cells fact =
    fact_ft P (opened N rows values) done (map decimal cells)
    ∙ ap (λ o. o >>= (λ new. Ok (place.Facts (opened N rows values) new))) (flow_line Ft N rows values done cells fact.0 fact.1)
fact_again P N rows values done Sent cells fact =
    fact_sent P (opened N rows values) done (map decimal cells)
    ∙ ap (λ o. o >>= (λ new. Ok (place.Facts (opened N rows values) new))) (flow_line Sent N rows values done cells fact.0 fact.1)
fact_again P N rows values done RcvThis cells fact = absurd fact

packet_again : (N : Network) (rows : List StaticRow) (s a b i : ℕ) → HaveElements N packet_sorts (s ∷ a ∷ b ∷ i ∷ []) → s < 2 ^ 64 → a < 2 ^ 64 → b < 2 ^ 64 → i < 2 ^ 64
    → packet_of (bare N rows) (map decimal (s ∷ a ∷ b ∷ i ∷ [])) ≡ Ok (At s a b i)
unfolding packet_of
packet_again N rows s a b i all small_s small_a small_b small_i =
    rw (
      number_some most s (decimal s) (omega arith) (omega arith) refl,
      number_some most a (decimal a) (omega arith) (omega arith) refl,
      number_some most b (decimal b) (omega arith) (omega arith) refl,
      number_some most i (decimal i) (omega arith) (omega arith) refl,
      cells_known N (bare N rows) (same_sorts N rows) packet_sorts (s ∷ a ∷ b ∷ i ∷ []) all,
    ) refl

pub packet_line_again : (P : Parts) (N : Network) (rows : List StaticRow) (values : List (Option ℕ)) (facts : List Row) (s a b i : ℕ) → HaveElements N packet_sorts (s ∷ a ∷ b ∷ i ∷ []) → s < 2 ^ 64 → a < 2 ^ 64 → b < 2 ^ 64 → i < 2 ^ 64
    → step P (place.Facts (opened N rows values) facts) (codes "packet" ∷ map decimal (s ∷ a ∷ b ∷ i ∷ [])) ≡ Ok (place.Closing (opened N rows values) facts (At s a b i))
packet_line_again P N rows values facts s a b i all small_s small_a small_b small_i =
    fact_packet P (opened N rows values) facts (map decimal (s ∷ a ∷ b ∷ i ∷ []))
    ∙ ap (λ o. o >>= (λ packet. Ok (place.Closing (opened N rows values) facts packet))) (packet_again N rows s a b i all small_s small_a small_b small_i)

-- ---- the end

end_again : (N : Network) (state : Option (List Row)) (packet : Packet) → end_of (opened N N.rows (map Some N.constants)) state packet [] ≡ Ok (place.Ended (record { network = N; state = state; packet = packet }))
unfolding end_of
end_again N state packet = rw (values_again [] N.constants) refl

pub end_of_network_again : (P : Parts) (N : Network) → step P (place.Items (opened N N.rows (map Some N.constants))) end_words ≡ Ok (place.Ended (record { network = N; state = None; packet = Nothing }))
end_of_network_again P N = item_end P (opened N N.rows (map Some N.constants)) [] ∙ end_again N None Nothing

pub end_of_state_again : (P : Parts) (N : Network) (facts : List Row) → step P (place.Facts (opened N N.rows (map Some N.constants)) facts) end_words ≡ Ok (place.Ended (record { network = N; state = Some facts; packet = Nothing }))
end_of_state_again P N facts = fact_end P (opened N N.rows (map Some N.constants)) facts [] ∙ end_again N (Some facts) Nothing

pub end_of_packet_again : (P : Parts) (N : Network) (facts : List Row) (packet : Packet) → step P (place.Closing (opened N N.rows (map Some N.constants)) facts packet) end_words ≡ Ok (place.Ended (record { network = N; state = Some facts; packet = packet }))
end_of_packet_again P N facts packet =
    ap (λ r. r >>= end_of (opened N N.rows (map Some N.constants)) (Some facts) packet) (behind_again (codes "end") [])
    ∙ end_again N (Some facts) packet
