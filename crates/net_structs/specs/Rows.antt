-- Tuples of relations, their order, and what a list of them holds.
use Rattle.std.specs.Prelude.{ℕ, List, map}
use Rattle.std.specs.List.{filter}
use Rattle.std.specs.Ordering.{nat_cmp, on, then_cmp}
use Rattle.std.specs.declared.cmp.Ordering.{Ordering}
use Rattle.std.specs.Cmp.{IsTotalOrder, nat_cmp_total, on_total, then_total}
use Rattle.std.specs.Cmp.Lexicographic.{nat_list_cmp_total, slice_cmp}
use Rattle.csdn_core.specs.declared.terms.Pred.{Pred}
use Rattle.csdn_core.specs.declared.terms.Pred.TheVariants.{Stored, Ft, Sent, RcvThis}
use Rattle.csdn_core.specs.Network.{State, same_pred}
use Rattle.csdn_core.specs.Finite.{Tuple, state_of_tuples}
use Rattle.net_structs.specs.declared.row.Row.{Row}

-- the declared relations come before `ft`, `sent` and `rcv_this`
abbrev pub kind_of : Pred → ℕ
kind_of (Stored r) = 0
kind_of Ft = 1
kind_of Sent = 2
kind_of RcvThis = 3

abbrev pub number_of : Pred → ℕ
number_of (Stored r) = r.0
number_of Ft = 0
number_of Sent = 0
number_of RcvThis = 0

-- by their relations, and then by their elements
abbrev pub row_cmp : Row → Row → Ordering
row_cmp = then_cmp (on (λ row. kind_of row.pred) nat_cmp) (then_cmp (on (λ row. number_of row.pred) nat_cmp) (on (λ row. row.cells) (slice_cmp nat_cmp)))

pub row_total : IsTotalOrder row_cmp
row_total = then_total (on_total (λ (row : Row). kind_of row.pred) nat_cmp_total) (then_total (on_total (λ (row : Row). number_of row.pred) nat_cmp_total) (on_total (λ (row : Row). row.cells) nat_list_cmp_total))

abbrev pub tuple_of : Row → Tuple
tuple_of row = record { rel = row.pred; cells = row.cells }

-- the state in which exactly these tuples are
abbrev pub held : List Row → State
held rows = state_of_tuples (map tuple_of rows)

-- the rows of a relation
abbrev pub rows_of : Pred → List Row → List Row
rows_of pred rows = filter (λ row. same_pred pred row.pred) rows
