-- Rows, one more at a time.
use Rattle.std.proofs.Common.{◌≡◌, ℕ, ◌+◌, ◌<◌, ◌≤◌, List, [], ◌∷◌, ◌++◌, length, map, drop, get_or, sym, ◌∙◌, append_assoc, append-nil}
use Rattle.csdn_core.specs.declared.terms.Sort.{Sort}
use Rattle.csdn_core.specs.declared.terms.RelId.{RelId}
use Rattle.csdn_core.specs.declared.program.StartRow.{StartRow}
use Rattle.std.proofs.Math.ListN.{drop_of_length-le}
use Rattle.csdn_types.specs.declared.refusal.SortRefusal.{SortRefusal}
use Rattle.csdn_tree.specs.declared.syntax.RawRow.{RawRow}
use Rattle.csdn_types.specs.Scope.{Scope}
use Rattle.csdn_types.specs.Items.{row_faults, rows_faults, row_of}
use Rattle.csdn_types.proofs.Lists.{drop-item}

pub next_row_faults : (s : Scope) (sorts : List Sort) (raw : List RawRow) (i : ℕ) (row : RawRow) → i < length raw → row ≡ get_or raw i row → rows_faults s sorts i (drop i raw) ≡ row_faults s sorts i row ++ rows_faults s sorts (i + 1) (drop (i + 1) raw)
unfolding rows_faults
next_row_faults s sorts raw i row within is = rw (drop-item raw i row within is)

pub row_passed : (s : Scope) (sorts : List Sort) (raw : List RawRow) (i : ℕ) (row : RawRow) (whole : List SortRefusal) → i < length raw → row ≡ get_or raw i row → whole ≡ rows_faults s sorts i (drop i raw) → row_faults s sorts i row ≡ [] → whole ≡ rows_faults s sorts (i + 1) (drop (i + 1) raw)
row_passed s sorts raw i row whole within is rest free = rest ∙ rw (next_row_faults s sorts raw i row within is, free)

pub next_row : (s : Scope) (id : RelId) (raw : List RawRow) (i : ℕ) (row : RawRow) (done : List StartRow) → i < length raw → row ≡ get_or raw i row → map (row_of s id) raw ≡ done ++ map (row_of s id) (drop i raw) → map (row_of s id) raw ≡ (done ++ row_of s id row ∷ []) ++ map (row_of s id) (drop (i + 1) raw)
next_row s id raw i row done within is made = rw (append_assoc, made, drop-item raw i row within is)

pub no_more_row_faults : (s : Scope) (sorts : List Sort) (raw : List RawRow) (i : ℕ) → length raw ≤ i → rows_faults s sorts i (drop i raw) ≡ []
unfolding rows_faults
no_more_row_faults s sorts raw i past = rw (drop_of_length-le raw past)

pub no_more_rows : (s : Scope) (id : RelId) (raw : List RawRow) (i : ℕ) (done : List StartRow) → length raw ≤ i → map (row_of s id) raw ≡ done ++ map (row_of s id) (drop i raw) → done ≡ map (row_of s id) raw
no_more_rows s id raw i done past made =
    let none : drop i raw ≡ [] = drop_of_length-le raw past in
    sym (made ∙ rw (none, append-nil))
