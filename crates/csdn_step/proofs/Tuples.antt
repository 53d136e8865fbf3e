-- A draft with a tuple put in or taken out, and what leads back from it.
use Rattle.std.proofs.Common.{◌≡◌, ◌∙◌, sym, ap, ap₂, refl, ℕ, Bool, true, false, not, ◌&&◌, ◌||◌, List, [], ◌∷◌, ◌++◌}
use Rattle.std.proofs.Math.Path.{fun_ext}
use Rattle.std.proofs.lemmas.Bool.{and_parts}
use Rattle.csdn_core.proofs.Same.{same_pred-is, same_cells-is}
use Rattle.csdn_core.specs.declared.terms.Pred.{Pred}
use Rattle.csdn_core.specs.Network.{State, same_pred, same_cells}
use Rattle.csdn_core.specs.Execution.{put, take_out}
use Rattle.net_structs.specs.declared.row.Row.{Row}
use Rattle.net_structs.specs.Rows.{held, row_cmp}
use Rattle.std.specs.BTreeSet.{insert_key}
use Rattle.std.specs.BTreeMap.{is_at}
use Rattle.std.specs.Set.{remove_key}
use Rattle.net_structs.specs.Views.{but}
use Rattle.net_structs.proofs.Taken.{taken_absent, taken_put}
use Rattle.csdn_step.specs.Drafts.{without}
use Rattle.std.specs.Prelude.{Result, Ok, Err, OnOk, OnErr, IfOk}

-- where the tuple at hand is the one that is looked for
there : (x : State) (r : Pred) (cells : List ℕ) (b : Bool) → x r cells ≡ b → (q : Pred) (ds : List ℕ) → (same_pred q r && same_cells ds cells) ≡ true → x q ds ≡ b
there x r cells b is q ds it =
    let parts = and_parts (same_pred q r) (same_cells ds cells) it in
    ap₂ (λ a c. x a c) (same_pred-is q r parts.0) (same_cells-is ds cells parts.1) ∙ is

back_by : (x g t : Bool) → (t ≡ true → x ≡ true) → (x && not (g && not t)) ≡ ((x && not g) || t)
back_by true true true to = refl
back_by true true false to = refl
back_by true false true to = refl
back_by true false false to = refl
back_by false true true to = to refl
back_by false false true to = to refl
back_by false true false to = refl
back_by false false false to = refl

new_by : (x g t : Bool) → ((x || t) && not (g && not t)) ≡ ((x && not g) || t)
new_by true true true = refl
new_by true true false = refl
new_by true false true = refl
new_by true false false = refl
new_by false true true = refl
new_by false true false = refl
new_by false false true = refl
new_by false false false = refl

out_by : (x g t : Bool) → (x && not (g || t)) ≡ ((x && not g) && not t)
out_by true true t = refl
out_by true false t = refl
out_by false g t = refl

kept_out : (a b : Bool) → (b ≡ true → a ≡ false) → a ≡ (a && not b)
kept_out true true to = to refl
kept_out true false to = refl
kept_out false b to = refl

module _ (x g : State) (r : Pred) (cells : List ℕ) where
  -- what is there and gone comes back
  pub put_back : x r cells ≡ true → but x (take_out g r cells) ≡ put (but x g) r cells
  put_back is = fun_ext (λ q. fun_ext (λ ds. back_by (x q ds) (g q ds) (same_pred q r && same_cells ds cells) (there x r cells true is q ds)))

  pub put_new : but (put x r cells) (take_out g r cells) ≡ put (but x g) r cells
  put_new = fun_ext (λ q. fun_ext (λ ds. new_by (x q ds) (g q ds) (same_pred q r && same_cells ds cells)))

  pub goes_out : but x (put g r cells) ≡ take_out (but x g) r cells
  goes_out = fun_ext (λ q. fun_ext (λ ds. out_by (x q ds) (g q ds) (same_pred q r && same_cells ds cells)))

  absent : x r cells ≡ false → but x g r cells ≡ false
  absent is = ap (λ b. b && not (g r cells)) is

  pub stays_out : x r cells ≡ false → but x g ≡ take_out (but x g) r cells
  stays_out is = fun_ext (λ q. fun_ext (λ ds. kept_out (but x g q ds) (same_pred q r && same_cells ds cells) (there (but x g) r cells false (absent is) q ds)))

-- rows taken out again

without-push : (added : List Row) (row : Row) (rows : List Row) → without (added ++ row ∷ []) rows ≡ without added (remove_key (is_at (row_cmp row)) rows)
without-push [] row rows = refl
without-push (r ∷ added) row rows = ap (remove_key (is_at (row_cmp r))) (without-push added row rows)

-- the last is taken out
pub popped : (left new : List Row) (row : Row) (rows after whole : List Row) → left ≡ new ++ row ∷ [] → after ≡ remove_key (is_at (row_cmp row)) rows → without left rows ≡ whole → without new after ≡ whole
popped left new row rows after whole is taken goes = ap (without new) taken ∙ sym (without-push new row rows) ∙ ap (λ l. without l rows) (sym is) ∙ goes

abbrev row_of : Pred → List ℕ → Row
row_of r cells = record { pred = r; cells = cells }

-- a row that isn't there is noted and then put in, or isn't for want of memory
pub noted : {E : Type 0} (result : Result Bool E) (added new rows after : List Row) (r : Pred) (copied cells : List ℕ) → new ≡ added ++ record { pred = r; cells = copied } ∷ [] → copied ≡ cells → held rows r cells ≡ false
    → IfOk result (λ is_new. after ≡ insert_key row_cmp rows (record { pred = r; cells = cells })) → OnErr result (after ≡ rows) → without new after ≡ without added rows
noted result added new rows after r copied cells is copy lacks put failed = pushed ∙ ap (without added) (taken result put failed)
  where
    pushed : without new after ≡ without added (remove_key (is_at (row_cmp (row_of r cells))) after)
    pushed = ap (λ l. without l after) (is ∙ ap (λ c. added ++ row_of r c ∷ []) copy) ∙ without-push added (row_of r cells) after

    taken : {E : Type 0} (result : Result Bool E) → IfOk result (λ is_new. after ≡ insert_key row_cmp rows (row_of r cells)) → OnErr result (after ≡ rows) → remove_key (is_at (row_cmp (row_of r cells))) after ≡ rows
    taken (Ok is_new) put failed = ap (remove_key (is_at (row_cmp (row_of r cells)))) put ∙ taken_put (row_of r cells) rows lacks
    taken (Err e) put failed = ap (remove_key (is_at (row_cmp (row_of r cells)))) failed ∙ taken_absent (row_of r cells) rows lacks

-- what follows from what an `Ok` tells, whatever its value is
pub if_ok : {A E : Type 0} (r : Result A E) (P Q : Type 0) → (P → Q) → IfOk r (λ v. P) → OnOk r Q
if_ok (Ok v) P Q to told = to told
if_ok (Err e) P Q to told = tt
