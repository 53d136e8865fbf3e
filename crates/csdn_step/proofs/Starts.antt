-- Rows put in one after another make the initial state.
use Rattle.std.proofs.Common.{◌≡◌, ◌∙◌, sym, ap, ap₂, refl, ℕ, ◌==◌, Bool, false, ◌&&◌, ◌||◌, List, [], ◌∷◌, ◌-◌, ◌<◌, length, arith}
use Rattle.std.specs.List.{list_any}
use Rattle.std.proofs.Math.Bool.{or-false, or_assoc}
use Rattle.std.proofs.Math.Path.{fun_ext}
use Rattle.general_facts.proofs.Numbers.{eqb-turned}
use Rattle.csdn_core.proofs.Same.{same_cells-turned}
use Rattle.csdn_core.specs.declared.terms.Pred.{Pred}
use Rattle.csdn_core.specs.declared.terms.Pred.TheVariants.{Stored, Ft, Sent, RcvThis}
use Rattle.csdn_core.specs.declared.event.Packet.TheVariants.{Nothing}
use Rattle.csdn_core.specs.declared.program.Parts.{Parts}
use Rattle.csdn_core.specs.declared.program.StartRow.{StartRow}
use Rattle.csdn_core.specs.Truth.{Assignment, values}
use Rattle.csdn_core.specs.Network.{Network, State, structure, same_cells}
use Rattle.csdn_core.specs.Execution.{put}
use Rattle.csdn_core.specs.Run.{empty_state, no_values, initial}
use Rattle.net_structs.specs.declared.env.Pair.{Pair}
use Rattle.net_structs.specs.Binds.{assignment}
use Rattle.net_structs.specs.declared.row.Row.{Row}
use Rattle.net_structs.specs.Rows.{held}
use Rattle.csdn_step.specs.Starting.{started}

module _ (P : Parts) (N : Network) (e : Assignment) where
  cells_of : StartRow → List ℕ
  cells_of row = values (structure P N empty_state Nothing) e row.terms

  listed : List StartRow → Pred → List ℕ → Bool
  listed rows (Stored r) cells = list_any (λ row. (row.rel.0 == r.0) && same_cells (cells_of row) cells) rows
  listed rows Ft cells = false
  listed rows Sent cells = false
  listed rows RcvThis cells = false

  one : (row : StartRow) (rows : List StartRow) (x : State) (q : Pred) (ds : List ℕ) → (put x (Stored row.rel) (cells_of row) q ds || listed rows q ds) ≡ (x q ds || listed (row ∷ rows) q ds)
  unfolding listed
  one row rows x (Stored r) ds =
      or_assoc (x (Stored r) ds) ((r.0 == row.rel.0) && same_cells ds (cells_of row)) _
      ∙ ap (λ b. x (Stored r) ds || (b || listed rows (Stored r) ds)) (ap₂ (λ a b. a && b) (eqb-turned r.0 row.rel.0) (same_cells-turned ds (cells_of row)))
  one row rows x Ft ds = ap (λ b. b || false) (or-false (x Ft ds))
  one row rows x Sent ds = ap (λ b. b || false) (or-false (x Sent ds))
  one row rows x RcvThis ds = ap (λ b. b || false) (or-false (x RcvThis ds))

  started-is : (rows : List StartRow) (x : State) (q : Pred) (ds : List ℕ) → started P N e rows x q ds ≡ (x q ds || listed rows q ds)
  unfolding listed cells_of
  started-is [] x (Stored r) ds = sym (or-false (x (Stored r) ds))
  started-is [] x Ft ds = sym (or-false (x Ft ds))
  started-is [] x Sent ds = sym (or-false (x Sent ds))
  started-is [] x RcvThis ds = sym (or-false (x RcvThis ds))
  started-is (row ∷ rows) x q ds = started-is rows (put x (Stored row.rel) (cells_of row)) q ds ∙ one row rows x q ds

pub started_initial : (P : Parts) (N : Network) → started P N no_values P.start empty_state ≡ initial P N
unfolding listed cells_of
started_initial P N = fun_ext (λ q. fun_ext (λ ds. started-is P N no_values P.start empty_state q ds ∙ at q ds))
  where
    at : (q : Pred) (ds : List ℕ) → (empty_state q ds || listed P N no_values P.start q ds) ≡ initial P N q ds
    at (Stored r) ds = refl
    at Ft ds = refl
    at Sent ds = refl
    at RcvThis ds = refl

pub rows_end : (P : Parts) (N : Network) (e : Assignment) (y whole : State) (rest : List StartRow) → length rest < 1 → started P N e rest y ≡ whole → y ≡ whole
rows_end P N e y whole [] none goes = goes
rows_end P N e y whole (r ∷ rows) none goes = absurd (omega arith)

pub starts : (P : Parts) (N : Network) (pairs : List Pair) (rows : List Row) (listed : List StartRow) (y : State) → y ≡ started P N (assignment pairs) listed (held rows) → pairs ≡ [] → rows ≡ [] → listed ≡ P.start → y ≡ initial P N
starts P N pairs rows listed y is no_pairs no_rows all =
    is ∙ ap (λ ps. started P N (assignment ps) listed (held rows)) no_pairs ∙ ap (λ rs. started P N no_values listed (held rs)) no_rows ∙ ap (λ ls. started P N no_values ls empty_state) all ∙ started_initial P N
