-- What stays true of a hall where one view changes.
use Rattle.std.proofs.Common.{◌≡◌, ◌≢◌, ℕ, zero, suc, ◌^◌, ◌≤◌, List, [], ◌∷◌, ◌++◌, set, Bool, true, false, refl, sym, ap, ◌∙◌, subst, ⊎_elim, arith, append_assoc}
use Rattle.std.specs.Prelude.{Option}
use mathlib.Core.Option.{some, none, some-ne-none, some-injective}
use mathlib.Core.Logic.{dite}
use native.Mathlib.Decide.{ℕ_discrete}
use lib.ListN.{get_elem?}
use Rattle.atomic_table.specs.Table.{State}
use Rattle.atomic_table.proofs.Lists.{at_set, set_else}
use Rattle.csdn_history.specs.declared.entry.Entry.{Entry}
use Rattle.csdn_run.specs.Histories.{Running}
use Rattle.shared_hall.specs.declared.view.View.{View}
use Rattle.shared_hall.specs.declared.view.Setting.{Setting}
use Rattle.shared_hall.specs.declared.view.Stage.TheVariants.{Idle, Waiting, Serving}
use Rattle.shared_hall.specs.Views.{StartsWith, acts_of, tickets_of, tickets_in}
use Rattle.shared_hall.specs.Rules.{SawAll, IsLongest, World, Place, sits, ended, Fits, SlotFits, IsKept}
use Rattle.shared_hall.proofs.Words.{total_bound}

-- the homes of the hall's one slot
abbrev pub Homes : Type 0
Homes = List (mathlib.Core.Option.Option (Option Running))

-- a change of one view, where the others still fit
pub fits_set : (k : Setting) (w : World) (views : List View) (i : ℕ) (v : View) → ((j : ℕ) (u : View) → j ≢ i → get_elem? views j ≡ some u → Fits k w j u) → Fits k w i v
    → (j : ℕ) (u : View) → get_elem? (set views i v) j ≡ some u → Fits k w j u
fits_set k w views i v others own j u e =
    ⊎_elim
    (λ (x : (j ≡ i) × (v ≡ u)). subst (λ (y : ℕ × View). Fits k w y.0 y.1) (λ n. (sym x.0 n, x.1 n)) own)
    (λ (x : (j ≢ i) × (get_elem? views j ≡ some u)). others j u x.0 x.1)
    (at_set views i j v u e)

-- a number below 2^62 does not wrap
pub few_tickets : (k : Setting) (s : State (Option Running) View) (w : World) → IsKept k s w → w.drawn ≤ 2 ^ 62
few_tickets k s w kept =
    let e = total_bound acts_of (λ (v : View). v.parts) (2 ^ 56) s.views (λ i v at. (kept.views i v at).acts) in
    let few = kept.few in let acts = kept.acts in let parts = kept.parts in omega arith

-- where the slot is out and the view of another stage changes, it stays out
pub slot_stays : (r : Running) (past : List Entry) (j i : ℕ) (views : List View) (v u : View) (out : Bool) (homes : Homes)
    → get_elem? views i ≡ some v → ((t : ℕ) (h : List Entry) → v.stage ≡ Serving t h → ⊥) → SlotFits r past j views out homes → SlotFits r past j (set views i u) out homes
slot_stays r past j i views v u false homes at idle slot = slot
slot_stays r past j i views v u true homes at idle slot =
    let x = slot.1.0 in
    let ne : j ≢ i = λ e. idle slot.1.2.0 slot.1.2.1 (ap (λ (y : View). y.stage) (some-injective v x (sym at ∙ (ap (get_elem? views) (sym e) ∙ slot.1.1))) ∙ slot.1.2.2) in
    (slot.0, (x, set_else views i j u ne ∙ slot.1.1, slot.1.2))

pub at_here : {A : Type 0} (views : List A) (i : ℕ) (v u : A) → get_elem? views i ≡ some v → get_elem? (set views i u) i ≡ some u
at_here [] i v u e = absurd (some-ne-none v (sym e))
at_here (x ∷ xs) zero v u e = refl
at_here (x ∷ xs) (suc i) v u e = at_here xs i v u e

-- the past is still the longest seen, where a view changes that keeps what it saw
pub longest_set : (views : List View) (past : List Entry) (i : ℕ) (v u : View) → get_elem? views i ≡ some v → (SawAll past v → SawAll past u) → IsLongest views past → IsLongest (set views i u) past
longest_set views past i v u at keep l =
    dite (ℕ_discrete l.0 i)
    (λ (e : l.0 ≡ i).
    let same : l.1 ≡ v = some-injective l.1 v (sym l.2 ∙ (ap (get_elem? views) e ∙ at)) in
    (i, u, at_here views i v u at, keep (subst (SawAll past) same l.3)))
    (λ ne. (l.0, l.1, set_else views i l.0 u ne ∙ l.2, l.3))

-- ---- stages and places

pub serving_idle : (t : ℕ) (h : List Entry) → Idle ≡ Serving t h → ⊥
serving_idle t h e = cc

pub serving_waiting : (t u : ℕ) (h : List Entry) → Waiting u ≡ Serving t h → ⊥
serving_waiting t u h e = cc

-- an idle view has no ticket, and any other one
pub no_ticket : (v : View) → v.stage ≡ Idle → tickets_of v ≡ 0
no_ticket v is = ap tickets_in is

pub one_ticket : (v : View) (t : ℕ) → v.stage ≡ Waiting t → tickets_of v ≡ 1
one_ticket v t is = ap tickets_in is

pub its_ticket : (v : View) (t : ℕ) (h : List Entry) → v.stage ≡ Serving t h → tickets_of v ≡ 1
its_ticket v t h is = ap tickets_in is

pub sits_apart : (i j : ℕ) → sits i ≡ sits j → i ≡ j
sits_apart i j e = cc

pub ended_apart : (i j k : ℕ) (x : Place) → x ≡ ended j k → x ≡ sits i → ⊥
ended_apart i j k x a b = cc

-- ---- beginnings

pub starts_on : (past now seen : List Entry) → StartsWith now past → StartsWith past seen → StartsWith now seen
starts_on past now seen a b = (b.0 ++ a.0, a.1 ∙ (ap (λ (l : List Entry). l ++ a.0) b.1 ∙ append_assoc seen b.0 a.0))
