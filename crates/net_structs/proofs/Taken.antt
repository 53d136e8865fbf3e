-- Rows taken out of an ordered list of rows.
use Rattle.std.proofs.Common.{◌≡◌, ◌∙◌, ap, sym, refl, Bool, true, false, not, cond, ◌&&◌, ◌||◌, List, [], ◌∷◌, true≢false}
use Rattle.std.proofs.Math.Bool.{and-true}
use Rattle.std.proofs.Math.Path.{fun_ext}
use Rattle.std.specs.List.{list_any}
use Rattle.std.specs.Ordering.{is_eq, match_ordering}
use Rattle.std.specs.declared.cmp.Ordering.{Ordering}
use Rattle.std.specs.declared.cmp.Ordering.TheVariants.{Less, Equal, Greater}
use Rattle.std.specs.Cmp.{tied_itself}
use Rattle.std.specs.BTreeMap.{is_at}
use Rattle.std.specs.BTreeSet.{insert_key}
use Rattle.std.specs.Set.{remove_key}
use Rattle.csdn_core.specs.Network.{State, same_pred, same_cells}
use Rattle.csdn_core.specs.Execution.{take_out}
use Rattle.net_structs.specs.declared.row.Row.{Row}
use Rattle.net_structs.specs.Rows.{row_cmp, row_total, held}
use Rattle.net_structs.specs.Views.{but}
use Rattle.net_structs.proofs.Tied.{held_tied}

-- without some rows

pub one_more : (x t h : Bool) → ((x && not t) && not h) ≡ (x && not (t || h))
one_more true true h = refl
one_more true false h = refl
one_more false true h = refl
one_more false false h = refl

pub but-row : (x : State) (row : Row) (rows : List Row) → but (take_out x row.pred row.cells) (held rows) ≡ but x (held (row ∷ rows))
but-row x row rows = fun_ext (λ q. fun_ext (λ ds. one_more (x q ds) (same_pred q row.pred && same_cells ds row.cells) (held rows q ds)))

pub but-none : (x : State) → but x (held []) ≡ x
but-none x = fun_ext (λ q. fun_ext (λ ds. and-true (x q ds)))

-- one more of the rows that go is taken out
pub row_goes : (y z whole : State) (row : Row) (rest more : List Row) → rest ≡ row ∷ more → z ≡ take_out y row.pred row.cells → but y (held rest) ≡ whole → but z (held more) ≡ whole
row_goes y z whole row rest more is taken goes = ap (λ x. but x (held more)) taken ∙ but-row y row more ∙ ap (λ rows. but y (held rows)) (sym is) ∙ goes

pub rows_gone : (y whole : State) (rest : List Row) → rest ≡ [] → but y (held rest) ≡ whole → y ≡ whole
rows_gone y whole rest none goes = sym (but-none y) ∙ ap (λ rows. but y (held rows)) (sym none) ∙ goes

-- a key that isn't there

module _ {K : Type 0} (cmp : K → K → Ordering) (k : K) where
  abbrev is_it : K → Bool
  is_it = is_at (cmp k)

  abbrev IsAbsent : List K → Type 0
  IsAbsent ks = list_any is_it ks ≡ false

  left_by : (x : K) (xs : List K) (b : Bool) → (b || list_any is_it xs) ≡ false → (IsAbsent xs → remove_key is_it xs ≡ xs) → cond b xs (x ∷ remove_key is_it xs) ≡ x ∷ xs
  left_by x xs true absent rest = absurd (true≢false absent)
  left_by x xs false absent rest = ap (λ ys. x ∷ ys) (rest absent)

  left : (ks : List K) → IsAbsent ks → remove_key is_it ks ≡ ks
  left [] absent = refl
  left (x ∷ xs) absent = left_by x xs (is_it x) absent (left xs)

  back_by : (x : K) (xs : List K) (o : Ordering) → cmp k x ≡ o → cmp k k ≡ Equal → (is_eq o || list_any is_it xs) ≡ false → (IsAbsent xs → remove_key is_it (insert_key cmp xs k) ≡ xs)
      → remove_key is_it (match_ordering o (k ∷ x ∷ xs) (x ∷ xs) (x ∷ insert_key cmp xs k)) ≡ x ∷ xs
  back_by x xs Less is itself absent rest = ap (λ o. cond (is_eq o) (x ∷ xs) (k ∷ remove_key is_it (x ∷ xs))) itself
  back_by x xs Equal is itself absent rest = absurd (true≢false absent)
  back_by x xs Greater is itself absent rest = ap (λ o. cond (is_eq o) (insert_key cmp xs k) (x ∷ remove_key is_it (insert_key cmp xs k))) is ∙ ap (λ ys. x ∷ ys) (rest absent)

  back : (ks : List K) → cmp k k ≡ Equal → IsAbsent ks → remove_key is_it (insert_key cmp ks k) ≡ ks
  back [] itself absent = ap (λ o. cond (is_eq o) [] (k ∷ [])) itself
  back (x ∷ xs) itself absent = back_by x xs (cmp k x) refl itself absent (back xs itself)

module _ (row : Row) (rows : List Row) where
  pub taken_absent : held rows row.pred row.cells ≡ false → remove_key (is_at (row_cmp row)) rows ≡ rows
  taken_absent absent = left row_cmp row rows (held_tied row rows ∙ absent)

  pub taken_put : held rows row.pred row.cells ≡ false → remove_key (is_at (row_cmp row)) (insert_key row_cmp rows row) ≡ rows
  taken_put absent = back row_cmp row rows (tied_itself row_total row) (held_tied row rows ∙ absent)
