-- Every state that a run reaches has finitely many tuples.
use Rattle.std.proofs.Common.{◌≡◌, ◌∙◌, sym, subst, refl, ap₂, ℕ, ◌==◌, Bool, true, false, not, ◌&&◌, ◌||◌, List, [], ◌∷◌, inl, inr, if◌then◌else◌, Option, Some, None}
use Rattle.std.specs.List.{list_any}
use Rattle.std.proofs.Math.Bool.{or_comm, or_assoc, and-false}
use Rattle.std.proofs.lemmas.Bool.{and_parts}
use Rattle.general_facts.proofs.Numbers.{eqb-turned}
use Rattle.csdn_core.proofs.Same.{same_pred-is, same_cells-is, same_cells-turned}
use Rattle.csdn_core.specs.declared.terms.RelId.{RelId}
use Rattle.csdn_core.specs.declared.terms.Pred.{Pred}
use Rattle.csdn_core.specs.declared.terms.Pred.TheVariants.{Stored, Ft, Sent, RcvThis}
use Rattle.csdn_core.specs.declared.terms.Sort.TheVariants.{Pr}
use Rattle.csdn_core.specs.declared.event.Event.{Event}
use Rattle.csdn_core.specs.declared.event.Event.TheVariants.{PktIn, PktFlow, Expire}
use Rattle.csdn_core.specs.declared.event.Packet.TheVariants.{Nothing}
use Rattle.csdn_core.specs.declared.program.Parts.{Parts}
use Rattle.csdn_core.specs.declared.program.Handler.{Handler}
use Rattle.csdn_core.specs.declared.program.StartRow.{StartRow}
use Rattle.csdn_core.specs.declared.syntax.Command.{Command}
use Rattle.csdn_core.specs.declared.syntax.Command.TheVariants.{Skip, Insert, Remove, Install, Uninstall, Forward, Flood}
use Rattle.csdn_core.specs.Tree.{sequence, conditional, choice}
use Rattle.csdn_core.specs.Truth.{Assignment, with_var, values}
use Rattle.csdn_core.specs.Network.{Network, State, elements, structure, same_pred, same_cells}
use Rattle.csdn_core.specs.Execution.{put, take_out, take_out_match, flooded, is_flood, is_rule_of, tuple, Executes}
use Rattle.csdn_core.specs.Run.{empty_state, no_values, initial, first_fit, for_packet, Handles, Step, Run}
use Rattle.csdn_core.specs.Finite.{Tuple, state_of_tuples, IsFinite}

-- one tuple more

pub IsFinite-put : (x : State) (r : Pred) (cells : List ℕ) → IsFinite x → IsFinite (put x r cells)
IsFinite-put x r cells finite = record {
  tuples = record { rel = r; cells = cells } ∷ finite.tuples;
  same = λ q ds. rw (finite.same q ds) (or_comm (state_of_tuples finite.tuples q ds) (same_pred q r && same_cells ds cells));
}

-- the tuples fewer that meet a test

without : (Pred → List ℕ → Bool) → List Tuple → List Tuple
without test [] = []
without test (t ∷ ts) = if test t.rel t.cells then without test ts else (t ∷ without test ts)

test-same : (test : Pred → List ℕ → Bool) (q p : Pred) (ds es : List ℕ) → (same_pred q p && same_cells ds es) ≡ true → test q ds ≡ test p es
test-same test q p ds es is =
    let parts : (same_pred q p ≡ true) × (same_cells ds es ≡ true) = and_parts _ _ is in
    ap₂ test (same_pred-is q p parts.0) (same_cells-is ds es parts.1)

dropped : (here hit mine rest : Bool) (left : Bool) → (here ≡ true → hit ≡ mine) → (rest && not hit) ≡ left → ((here || rest) && not hit) ≡ (if mine then left else (here || left))
dropped true true true true left same is = is
dropped true true true false left same is = is
dropped true true false rest left same is = absurd (let h : true ≡ false = same refl in cc)
dropped true false true rest left same is = absurd (let h : false ≡ true = same refl in cc)
dropped true false false rest left same is = refl
dropped false hit true rest left same is = is
dropped false hit false rest left same is = is

without-among : (test : Pred → List ℕ → Bool) (ts : List Tuple) (q : Pred) (ds : List ℕ) → (state_of_tuples ts q ds && not (test q ds)) ≡ state_of_tuples (without test ts) q ds
unfolding without
without-among test [] q ds = refl
without-among test (t ∷ ts) q ds =
    dropped (same_pred q t.rel && same_cells ds t.cells) (test q ds) (test t.rel t.cells) (state_of_tuples ts q ds) (state_of_tuples (without test ts) q ds)
    (test-same test q t.rel ds t.cells) (without-among test ts q ds)
    ∙ chosen (test t.rel t.cells) t (without test ts) q ds
  where
    chosen : (b : Bool) (t : Tuple) (us : List Tuple) (q : Pred) (ds : List ℕ)
        → (if b then state_of_tuples us q ds else ((same_pred q t.rel && same_cells ds t.cells) || state_of_tuples us q ds)) ≡ state_of_tuples (if b then us else (t ∷ us)) q ds
    chosen true t us q ds = refl
    chosen false t us q ds = refl

IsFinite-without : (x : State) (test : Pred → List ℕ → Bool) → IsFinite x → IsFinite (λ q ds. x q ds && not (test q ds))
IsFinite-without x test finite = record {
  tuples = without test finite.tuples;
  same = λ q ds. rw (finite.same q ds) (without-among test finite.tuples q ds);
}

pub IsFinite-take_out : (x : State) (r : Pred) (cells : List ℕ) → IsFinite x → IsFinite (take_out x r cells)
IsFinite-take_out x r cells finite = IsFinite-without x (λ q ds. same_pred q r && same_cells ds cells) finite

pub IsFinite-take_out_match : (x : State) (cells : List ℕ) → IsFinite x → IsFinite (take_out_match x cells)
IsFinite-take_out_match x cells finite = IsFinite-without x (λ q ds. same_pred q Ft && is_rule_of cells ds) finite

-- a flood

with_all : List Tuple → List Tuple → List Tuple
with_all [] ts = ts
with_all (u ∷ us) ts = u ∷ with_all us ts

with_all-among : (us ts : List Tuple) (q : Pred) (ds : List ℕ) → state_of_tuples (with_all us ts) q ds ≡ (state_of_tuples us q ds || state_of_tuples ts q ds)
unfolding with_all
with_all-among [] ts q ds = refl
with_all-among (u ∷ us) ts q ds = rw (with_all-among us ts q ds) (sym (or_assoc (same_pred q u.rel && same_cells ds u.cells) (state_of_tuples us q ds) (state_of_tuples ts q ds)))

flood_tuples : List ℕ → ℕ → ℕ → ℕ → ℕ → List Tuple
flood_tuples [] s a b i = []
flood_tuples (o ∷ ports) s a b i = if o == i then flood_tuples ports s a b i else (record { rel = Sent; cells = s ∷ a ∷ b ∷ i ∷ o ∷ [] } ∷ flood_tuples ports s a b i)

spread : (here own rest left : Bool) → (here && rest) ≡ left → (c : Bool) → (here && ((not own && c) || rest)) ≡ (if own then left else ((here && c) || left))
spread true true rest left is c = is
spread true false rest left is true = refl
spread true false rest left is false = is
spread false true rest left is c = is
spread false false rest left is c = is

flood_tuples-among : (ports : List ℕ) (s a b i : ℕ) (q : Pred) (ds : List ℕ) → (same_pred q Sent && is_flood ports (s ∷ a ∷ b ∷ i ∷ []) ds) ≡ state_of_tuples (flood_tuples ports s a b i) q ds
unfolding flood_tuples
flood_tuples-among [] s a b i q ds = and-false (same_pred q Sent)
flood_tuples-among (o ∷ ports) s a b i q ds =
    spread (same_pred q Sent) (o == i) (is_flood ports (s ∷ a ∷ b ∷ i ∷ []) ds) (state_of_tuples (flood_tuples ports s a b i) q ds) (flood_tuples-among ports s a b i q ds)
    (same_cells ds (s ∷ a ∷ b ∷ i ∷ o ∷ []))
    ∙ chosen (o == i) (record { rel = Sent; cells = s ∷ a ∷ b ∷ i ∷ o ∷ [] }) (flood_tuples ports s a b i)
  where
    chosen : (own : Bool) (t : Tuple) (us : List Tuple)
        → (if own then state_of_tuples us q ds else ((same_pred q t.rel && same_cells ds t.cells) || state_of_tuples us q ds)) ≡ state_of_tuples (if own then us else (t ∷ us)) q ds
    chosen true t us = refl
    chosen false t us = refl

-- what a flood of a tuple of another length does to a tuple's place
pub unchanged : (a b : Bool) → (a || (b && false)) ≡ a
unchanged true b = refl
unchanged false true = refl
unchanged false false = refl

pub IsFinite-flooded : (x : State) (ports cells : List ℕ) → IsFinite x → IsFinite (flooded x ports cells)
IsFinite-flooded x ports [] finite = record { tuples = finite.tuples; same = λ q ds. unchanged (x q ds) (same_pred q Sent) ∙ finite.same q ds }
IsFinite-flooded x ports (s ∷ []) finite = record { tuples = finite.tuples; same = λ q ds. unchanged (x q ds) (same_pred q Sent) ∙ finite.same q ds }
IsFinite-flooded x ports (s ∷ a ∷ []) finite = record { tuples = finite.tuples; same = λ q ds. unchanged (x q ds) (same_pred q Sent) ∙ finite.same q ds }
IsFinite-flooded x ports (s ∷ a ∷ b ∷ []) finite = record { tuples = finite.tuples; same = λ q ds. unchanged (x q ds) (same_pred q Sent) ∙ finite.same q ds }
IsFinite-flooded x ports (s ∷ a ∷ b ∷ i ∷ []) finite = record {
  tuples = with_all (flood_tuples ports s a b i) finite.tuples;
  same = λ q ds. rw (finite.same q ds, flood_tuples-among ports s a b i q ds) (or_comm (state_of_tuples finite.tuples q ds) (state_of_tuples (flood_tuples ports s a b i) q ds) ∙ sym (with_all-among (flood_tuples ports s a b i) finite.tuples q ds));
}
IsFinite-flooded x ports (s ∷ a ∷ b ∷ i ∷ o ∷ more) finite = record { tuples = finite.tuples; same = λ q ds. unchanged (x q ds) (same_pred q Sent) ∙ finite.same q ds }

-- the start

start_tuples : (StartRow → List ℕ) → List StartRow → List Tuple
start_tuples cells_of [] = []
start_tuples cells_of (row ∷ rows) = record { rel = Stored row.rel; cells = cells_of row } ∷ start_tuples cells_of rows

start_tuples-among : (cells_of : StartRow → List ℕ) (rows : List StartRow) (r : RelId) (cells : List ℕ)
    → list_any (λ row. (row.rel.0 == r.0) && same_cells (cells_of row) cells) rows ≡ state_of_tuples (start_tuples cells_of rows) (Stored r) cells
unfolding start_tuples
start_tuples-among cells_of [] r cells = refl
start_tuples-among cells_of (row ∷ rows) r cells = rw (eqb-turned row.rel.0 r.0, same_cells-turned (cells_of row) cells, start_tuples-among cells_of rows r cells)

start_tuples-Ft : (cells_of : StartRow → List ℕ) (rows : List StartRow) (cells : List ℕ) → false ≡ state_of_tuples (start_tuples cells_of rows) Ft cells
unfolding start_tuples
start_tuples-Ft cells_of [] cells = refl
start_tuples-Ft cells_of (row ∷ rows) cells = start_tuples-Ft cells_of rows cells

start_tuples-Sent : (cells_of : StartRow → List ℕ) (rows : List StartRow) (cells : List ℕ) → false ≡ state_of_tuples (start_tuples cells_of rows) Sent cells
unfolding start_tuples
start_tuples-Sent cells_of [] cells = refl
start_tuples-Sent cells_of (row ∷ rows) cells = start_tuples-Sent cells_of rows cells

start_tuples-RcvThis : (cells_of : StartRow → List ℕ) (rows : List StartRow) (cells : List ℕ) → false ≡ state_of_tuples (start_tuples cells_of rows) RcvThis cells
unfolding start_tuples
start_tuples-RcvThis cells_of [] cells = refl
start_tuples-RcvThis cells_of (row ∷ rows) cells = start_tuples-RcvThis cells_of rows cells

module _ (P : Parts) (N : Network) where
  cells_at_start : StartRow → List ℕ
  cells_at_start row = values (structure P N empty_state Nothing) no_values row.terms

  pub IsFinite-initial : IsFinite (initial P N)
  unfolding cells_at_start
  IsFinite-initial = record { tuples = start_tuples cells_at_start P.start; same = same }
    where
      same : (r : Pred) (cells : List ℕ) → initial P N r cells ≡ state_of_tuples (start_tuples cells_at_start P.start) r cells
      same (Stored r) cells = start_tuples-among cells_at_start P.start r cells
      same Ft cells = start_tuples-Ft cells_at_start P.start cells
      same Sent cells = start_tuples-Sent cells_at_start P.start cells
      same RcvThis cells = start_tuples-RcvThis cells_at_start P.start cells

  -- what commands, events and runs do

  is_made : (x y : State) → y ≡ x → IsFinite x → IsFinite y
  is_made x y is finite = let F : State → Type 0 = λ s. IsFinite s in subst F (sym is) finite

  pub IsFinite-executed : (c : Command) (e : Assignment) (x y : State) → IsFinite x → Executes P N c e x y → IsFinite y
  unfolding Executes
  IsFinite-executed Skip e x y finite is = is_made x y is finite
  IsFinite-executed (sequence a b) e x y finite (z, to_z, to_y) = IsFinite-executed b e z y (IsFinite-executed a e x z finite to_z) to_y
  IsFinite-executed (conditional p a b) e x y finite (inl (is, to_y)) = IsFinite-executed a e x y finite to_y
  IsFinite-executed (conditional p a b) e x y finite (inr (is, to_y)) = IsFinite-executed b e x y finite to_y
  IsFinite-executed (choice v s p a b) e x y finite (inl (m, there, is, to_y)) = IsFinite-executed a (with_var e v m) x y finite to_y
  IsFinite-executed (choice v s p a b) e x y finite (inr (none, to_y)) = IsFinite-executed b e x y finite to_y
  IsFinite-executed (Insert r ts) e x y finite is = is_made (put x (Stored r) (tuple P N ts e x)) y is (IsFinite-put x (Stored r) (tuple P N ts e x) finite)
  IsFinite-executed (Remove r ts) e x y finite is = is_made (take_out x (Stored r) (tuple P N ts e x)) y is (IsFinite-take_out x (Stored r) (tuple P N ts e x) finite)
  IsFinite-executed (Install ts) e x y finite is = is_made (put x Ft (tuple P N ts e x)) y is (IsFinite-put x Ft (tuple P N ts e x) finite)
  IsFinite-executed (Uninstall ts) e x y finite is = is_made (take_out x Ft (tuple P N ts e x)) y is (IsFinite-take_out x Ft (tuple P N ts e x) finite)
  IsFinite-executed (Forward ts) e x y finite is = is_made (put x Sent (tuple P N ts e x)) y is (IsFinite-put x Sent (tuple P N ts e x) finite)
  IsFinite-executed (Flood ts) e x y finite is = is_made (flooded x (elements N Pr) (tuple P N ts e x)) y is (IsFinite-flooded x (elements N Pr) (tuple P N ts e x) finite)

  handled : (h : Option Handler) (s a b i : ℕ) (x y : State) → IsFinite x → Handles P N h s a b i x y → IsFinite y
  handled None s a b i x y finite is = is_made x y is finite
  handled (Some h) s a b i x y finite runs = IsFinite-executed h.body (for_packet h s a b i) x y finite runs

  pub IsFinite-step : (x : State) (event : Event) (y : State) → IsFinite x → Step P N x event y → IsFinite y
  IsFinite-step x (PktIn s a b i) y finite step = handled (first_fit P.handlers i) s a b i x y finite step.4
  IsFinite-step x (PktFlow s a b i o) y finite step = is_made (put x Sent (s ∷ a ∷ b ∷ i ∷ o ∷ [])) y step.6 (IsFinite-put x Sent (s ∷ a ∷ b ∷ i ∷ o ∷ []) finite)
  IsFinite-step x (Expire s a b i) y finite step = is_made (take_out_match x (s ∷ a ∷ b ∷ i ∷ [])) y step.6 (IsFinite-take_out_match x (s ∷ a ∷ b ∷ i ∷ []) finite)

  pub IsFinite-run : (x : State) (events : List Event) (y : State) → IsFinite x → Run P N x events y → IsFinite y
  IsFinite-run x [] y finite is = is_made x y is finite
  IsFinite-run x (event ∷ events) y finite (z, step, run) = IsFinite-run z events y (IsFinite-step x event z finite step) run

pub reached_finite : (P : Parts) (N : Network) (events : List Event) (y : State) → Run P N (initial P N) events y → IsFinite y
reached_finite P N events y run = IsFinite-run P N (initial P N) events y (IsFinite-initial P N) run
