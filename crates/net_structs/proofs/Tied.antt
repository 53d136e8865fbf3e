-- The queries of an ordered set of rows, and what the rows hold.
use Rattle.std.proofs.Common.{◌≡◌, ◌∙◌, ap, ap₂, sym, refl, ℕ, ◌==◌, Bool, true, false, not, cond, ◌&&◌, ◌||◌, List, [], ◌∷◌, map}
use Rattle.std.proofs.Math.Bool.{and_assoc}
use Rattle.std.proofs.Math.Path.{fun_ext}
use Rattle.std.specs.List.{list_any}
use Rattle.std.specs.Ordering.{is_eq, nat_cmp, ordering_then}
use Rattle.std.specs.declared.cmp.Ordering.{Ordering}
use Rattle.std.specs.declared.cmp.Ordering.TheVariants.{Less, Equal, Greater}
use Rattle.std.specs.Cmp.{unsigned_ties}
use Rattle.std.specs.Cmp.Lexicographic.{slice_cmp}
use Rattle.std.specs.BTreeMap.{is_at}
use Rattle.std.proofs.lemmas.Cmp.{eq_by_cmp_equiv}
use Rattle.csdn_core.specs.declared.terms.RelId.{RelId}
use Rattle.csdn_core.specs.declared.terms.Pred.{Pred}
use Rattle.csdn_core.specs.declared.terms.Pred.TheVariants.{Stored, Ft, Sent, RcvThis}
use Rattle.csdn_core.specs.Network.{StaticRow, same_pred, same_cells}
use Rattle.csdn_core.specs.Execution.{put, take_out}
use Rattle.net_structs.specs.declared.row.Row.{Row}
use Rattle.net_structs.specs.declared.network.FixedRow.{FixedRow}
use Rattle.net_structs.specs.Rows.{kind_of, number_of, row_cmp, row_total, held}
use Rattle.net_structs.specs.Networks.{fixed_cmp, fixed_total, static_of}

is_eq-then : (a b : Ordering) → is_eq (ordering_then a b) ≡ (is_eq a && is_eq b)
is_eq-then Less b = refl
is_eq-then Equal b = refl
is_eq-then Greater b = refl

pub is_eq-nat_cmp : (m n : ℕ) → is_eq (nat_cmp m n) ≡ (m == n)
is_eq-nat_cmp m n = sym (unsigned_ties m n)

is_eq-cells : (ms ns : List ℕ) → is_eq (slice_cmp nat_cmp ms ns) ≡ same_cells ms ns
is_eq-cells [] [] = refl
is_eq-cells [] (n ∷ ns) = refl
is_eq-cells (m ∷ ms) [] = refl
is_eq-cells (m ∷ ms) (n ∷ ns) = is_eq-then (nat_cmp m n) (slice_cmp nat_cmp ms ns) ∙ ap₂ (λ a b. a && b) (is_eq-nat_cmp m n) (is_eq-cells ms ns)

same_place : (q r : Pred) → ((kind_of q == kind_of r) && (number_of q == number_of r)) ≡ same_pred q r
same_place (Stored a) (Stored b) = refl
same_place (Stored a) Ft = refl
same_place (Stored a) Sent = refl
same_place (Stored a) RcvThis = refl
same_place Ft (Stored b) = refl
same_place Ft Ft = refl
same_place Ft Sent = refl
same_place Ft RcvThis = refl
same_place Sent (Stored b) = refl
same_place Sent Ft = refl
same_place Sent Sent = refl
same_place Sent RcvThis = refl
same_place RcvThis (Stored b) = refl
same_place RcvThis Ft = refl
same_place RcvThis Sent = refl
same_place RcvThis RcvThis = refl

-- whether two rows are one
pub row_is : (q row : Row) → is_eq (row_cmp q row) ≡ (same_pred q.pred row.pred && same_cells q.cells row.cells)
row_is q row =
    is_eq-then (nat_cmp (kind_of q.pred) (kind_of row.pred)) (ordering_then (nat_cmp (number_of q.pred) (number_of row.pred)) (slice_cmp nat_cmp q.cells row.cells))
    ∙ ap₂ (λ a b. a && b) (is_eq-nat_cmp (kind_of q.pred) (kind_of row.pred))
    (is_eq-then (nat_cmp (number_of q.pred) (number_of row.pred)) (slice_cmp nat_cmp q.cells row.cells)
    ∙ ap₂ (λ a b. a && b) (is_eq-nat_cmp (number_of q.pred) (number_of row.pred)) (is_eq-cells q.cells row.cells))
    ∙ sym (and_assoc (kind_of q.pred == kind_of row.pred) (number_of q.pred == number_of row.pred) (same_cells q.cells row.cells))
    ∙ ap (λ a. a && same_cells q.cells row.cells) (same_place q.pred row.pred)

row_flip : (q row : Row) → is_eq (row_cmp q row) ≡ is_eq (row_cmp row q)
row_flip q row = (eq_by_cmp_equiv row_total).symm q row

-- what the set answers is what its rows hold
pub held_tied : (q : Row) (rows : List Row) → list_any (is_at (row_cmp q)) rows ≡ held rows q.pred q.cells
held_tied q [] = refl
held_tied q (row ∷ rows) = ap₂ (λ a b. a || b) (row_is q row) (held_tied q rows)

abbrev as_row : Pred → List ℕ → Row
as_row r cells = record { pred = r; cells = cells }

or_into : (a b : Bool) → cond a true b ≡ (b || a)
or_into true true = refl
or_into true false = refl
or_into false true = refl
or_into false false = refl

and_out : (a b : Bool) → cond a false b ≡ (b && not a)
and_out true true = refl
and_out true false = refl
and_out false true = refl
and_out false false = refl

-- a query of the set of a state
pub has_is : (rows seen : List Row) (r : Pred) (copied cells : List ℕ) (b : Bool) → b ≡ list_any (is_at (row_cmp (record { pred = r; cells = copied }))) rows → rows ≡ seen → copied ≡ cells → b ≡ held seen r cells
has_is rows seen r copied cells b is view copy = is ∙ held_tied (as_row r copied) rows ∙ ap₂ (λ a c. held a r c) view copy

it_is : (r q : Pred) (cells ds : List ℕ) → is_eq (row_cmp (as_row r cells) (as_row q ds)) ≡ (same_pred q r && same_cells ds cells)
it_is r q cells ds = row_flip (as_row r cells) (as_row q ds) ∙ row_is (as_row q ds) (as_row r cells)

-- the set with a row more, or one less
pub put_is : (old new seen : List Row) (r : Pred) (copied cells : List ℕ) → ((q : Row) → list_any (is_at (row_cmp q)) new ≡ cond (is_at (row_cmp (record { pred = r; cells = copied })) q) true (list_any (is_at (row_cmp q)) old)) → old ≡ seen → copied ≡ cells → held new ≡ put (held seen) r cells
put_is old new seen r copied cells up view copy =
    fun_ext (λ q. fun_ext (λ ds.
    sym (held_tied (as_row q ds) new) ∙ up (as_row q ds)
    ∙ ap₂ (λ a b. cond a true b) (it_is r q copied ds) (held_tied (as_row q ds) old)
    ∙ or_into (same_pred q r && same_cells ds copied) (held old q ds)))
    ∙ ap₂ (λ a c. put (held a) r c) view copy

pub take_is : (old new seen : List Row) (r : Pred) (copied cells : List ℕ) → ((q : Row) → list_any (is_at (row_cmp q)) new ≡ cond (is_at (row_cmp (record { pred = r; cells = copied })) q) false (list_any (is_at (row_cmp q)) old)) → old ≡ seen → copied ≡ cells → held new ≡ take_out (held seen) r cells
take_is old new seen r copied cells up view copy =
    fun_ext (λ q. fun_ext (λ ds.
    sym (held_tied (as_row q ds) new) ∙ up (as_row q ds)
    ∙ ap₂ (λ a b. cond a false b) (it_is r q copied ds) (held_tied (as_row q ds) old)
    ∙ and_out (same_pred q r && same_cells ds copied) (held old q ds)))
    ∙ ap₂ (λ a c. take_out (held a) r c) view copy

-- static rows

fixed_is : (q row : FixedRow) → is_eq (fixed_cmp q row) ≡ ((q.rel.0 == row.rel.0) && same_cells q.cells row.cells)
fixed_is q row =
    is_eq-then (nat_cmp q.rel.0 row.rel.0) (slice_cmp nat_cmp q.cells row.cells) ∙ ap₂ (λ a b. a && b) (is_eq-nat_cmp q.rel.0 row.rel.0) (is_eq-cells q.cells row.cells)

fixed_flip : (q row : FixedRow) → is_eq (fixed_cmp q row) ≡ is_eq (fixed_cmp row q)
fixed_flip q row = (eq_by_cmp_equiv fixed_total).symm q row

static_tied : (q : FixedRow) (rows : List FixedRow) → list_any (is_at (fixed_cmp q)) rows ≡ list_any (λ row. (row.rel == q.rel.0) && same_cells row.cells q.cells) (map static_of rows)
static_tied q [] = refl
static_tied q (row ∷ rows) = ap₂ (λ a b. a || b) (fixed_flip q row ∙ fixed_is row q) (static_tied q rows)

-- a query of the set of a network
pub holds_is : (rows : List FixedRow) (seen : List StaticRow) (r : RelId) (copied cells : List ℕ) (b : Bool) → b ≡ list_any (is_at (fixed_cmp (record { rel = r; cells = copied }))) rows → map static_of rows ≡ seen → copied ≡ cells → b ≡ list_any (λ row. (row.rel == r.0) && same_cells row.cells cells) seen
holds_is rows seen r copied cells b is view copy = is ∙ static_tied (record { rel = r; cells = copied }) rows ∙ ap₂ (λ a c. list_any (λ row. (row.rel == r.0) && same_cells row.cells c) a) view copy
