-- A well-sorted handler does the same, whether the packets that it sends are kept in the state or not.
use Rattle.std.proofs.Common.{◌≡◌, ◌∙◌, sym, ap, ap₂, refl, ℕ, Bool, true, false, not, if◌then◌else◌, List, [], ◌∷◌}
use Rattle.std.specs.Prelude.{Option, Some, None}
use Rattle.std.specs.List.{list_all, list_any}
use Rattle.std.proofs.Math.Bool.{or-false, and-true}
use Rattle.std.proofs.Math.Path.{fun_ext}
use Rattle.csdn_core.specs.declared.terms.RelId.{RelId}
use Rattle.csdn_core.specs.declared.terms.Term.{Term}
use Rattle.csdn_core.specs.declared.terms.Term.TheVariants.{Var, Const, Port}
use Rattle.csdn_core.specs.declared.terms.Sort.TheVariants.{Pr}
use Rattle.csdn_core.specs.declared.terms.Pred.{Pred}
use Rattle.csdn_core.specs.declared.terms.Pred.TheVariants.{Stored, Ft, Sent, RcvThis}
use Rattle.csdn_core.specs.declared.terms.FormulaPlace.TheVariants.{Handler as InHandler}
use Rattle.csdn_core.specs.declared.event.Event.TheVariants.{PktIn}
use Rattle.csdn_core.specs.declared.event.Packet.TheVariants.{Nothing}
use Rattle.csdn_core.specs.declared.program.Parts.{Parts}
use Rattle.csdn_core.specs.declared.program.Handler.{Handler}
use Rattle.csdn_core.specs.declared.syntax.Formula.{Formula}
use Rattle.csdn_core.specs.declared.syntax.Formula.TheVariants as f
use Rattle.csdn_core.specs.declared.syntax.Command.{Command}
use Rattle.csdn_core.specs.declared.syntax.Command.TheVariants as c
use Rattle.csdn_core.specs.Tree.{negation, conjunction, disjunction, implication, equivalence, universal, existential, sequence, conditional, choice}
use Rattle.csdn_core.specs.Truth.{Assignment, with_var, truth, value, values}
use Rattle.csdn_core.specs.Network.{Network, State, elements, structure, holds_in}
use Rattle.csdn_core.specs.Execution.{put, take_out, flooded, is_true, tuple}
use Rattle.csdn_core.specs.Run.{first_fit, for_packet}
use Rattle.csdn_core.specs.Sorted.{IsAllowed}
use Rattle.csdn_core.specs.SortedIn.{Scope, with_sort, scope_of, IsSortedIn}
use Rattle.csdn_core.specs.WellSorted.{OwnPacket, IsCommand, IsHandler, IsWellSorted, signature, own_packet, handler_binds}
use Rattle.csdn_step.specs.declared.setting.Sending.TheVariants.{Kept, Left}
use Rattle.csdn_step.specs.Least.{least}
use Rattle.csdn_step.specs.Courses.{Course, executed, chosen, handled, fired, from_state, quieted, with_sent_of, installed, uninstalled, forwarded, flooded_on, settled}
use Rattle.csdn_step.proofs.Room.{of_fit}

if_quiet : (x : State) (t u : Bool) (a b k l : Course) → t ≡ u → a ≡ quieted x k → b ≡ quieted x l → (if t then a else b) ≡ quieted x (if u then k else l)
if_quiet x t true a b k l same is_a is_b = ap (λ (v : Bool). if v then a else b) same ∙ is_a
if_quiet x t false a b k l same is_a is_b = ap (λ (v : Bool). if v then a else b) same ∙ is_b

chosen_quiet : (x : State) (g h : Option ℕ) (a : ℕ → Course) (b : Course) (k : ℕ → Course) (l : Course) → g ≡ h → ((m : ℕ) → a m ≡ quieted x (k m)) → b ≡ quieted x l → chosen g a b ≡ quieted x (chosen h k l)
chosen_quiet x g (Some m) a b k l same is_a is_b = ap (λ (v : Option ℕ). chosen v a b) same ∙ is_a m
chosen_quiet x g None a b k l same is_a is_b = ap (λ (v : Option ℕ). chosen v a b) same ∙ is_b

abbrev made : State → Course → Course
made y w = record { state = y; changed = w.changed; outs = w.outs }

module _ (x : State) where
  put-Stored : (y : State) (r : RelId) (cells : List ℕ) → put (with_sent_of x y) (Stored r) cells ≡ with_sent_of x (put y (Stored r) cells)
  put-Stored y r cells = fun_ext (λ q. fun_ext (λ ds. at q ds))
    where
      at : (q : Pred) (ds : List ℕ) → put (with_sent_of x y) (Stored r) cells q ds ≡ with_sent_of x (put y (Stored r) cells) q ds
      at (Stored q) ds = refl
      at Ft ds = refl
      at Sent ds = or-false (x Sent ds)
      at RcvThis ds = refl

  take-Stored : (y : State) (r : RelId) (cells : List ℕ) → take_out (with_sent_of x y) (Stored r) cells ≡ with_sent_of x (take_out y (Stored r) cells)
  take-Stored y r cells = fun_ext (λ q. fun_ext (λ ds. at q ds))
    where
      at : (q : Pred) (ds : List ℕ) → take_out (with_sent_of x y) (Stored r) cells q ds ≡ with_sent_of x (take_out y (Stored r) cells) q ds
      at (Stored q) ds = refl
      at Ft ds = refl
      at Sent ds = and-true (x Sent ds)
      at RcvThis ds = refl

  put-Ft : (y : State) (cells : List ℕ) → put (with_sent_of x y) Ft cells ≡ with_sent_of x (put y Ft cells)
  put-Ft y cells = fun_ext (λ q. fun_ext (λ ds. at q ds))
    where
      at : (q : Pred) (ds : List ℕ) → put (with_sent_of x y) Ft cells q ds ≡ with_sent_of x (put y Ft cells) q ds
      at (Stored q) ds = refl
      at Ft ds = refl
      at Sent ds = or-false (x Sent ds)
      at RcvThis ds = refl

  take-Ft : (y : State) (cells : List ℕ) → take_out (with_sent_of x y) Ft cells ≡ with_sent_of x (take_out y Ft cells)
  take-Ft y cells = fun_ext (λ q. fun_ext (λ ds. at q ds))
    where
      at : (q : Pred) (ds : List ℕ) → take_out (with_sent_of x y) Ft cells q ds ≡ with_sent_of x (take_out y Ft cells) q ds
      at (Stored q) ds = refl
      at Ft ds = refl
      at Sent ds = and-true (x Sent ds)
      at RcvThis ds = refl

  put-Sent : (y : State) (cells : List ℕ) → with_sent_of x y ≡ with_sent_of x (put y Sent cells)
  put-Sent y cells = fun_ext (λ q. fun_ext (λ ds. at q ds))
    where
      at : (q : Pred) (ds : List ℕ) → with_sent_of x y q ds ≡ with_sent_of x (put y Sent cells) q ds
      at (Stored q) ds = sym (or-false (y (Stored q) ds))
      at Ft ds = sym (or-false (y Ft ds))
      at Sent ds = refl
      at RcvThis ds = sym (or-false (y RcvThis ds))

  flood-Sent : (y : State) (ports cells : List ℕ) → with_sent_of x y ≡ with_sent_of x (flooded y ports cells)
  flood-Sent y ports cells = fun_ext (λ q. fun_ext (λ ds. at q ds))
    where
      at : (q : Pred) (ds : List ℕ) → with_sent_of x y q ds ≡ with_sent_of x (flooded y ports cells) q ds
      at (Stored q) ds = sym (or-false (y (Stored q) ds))
      at Ft ds = sym (or-false (y Ft ds))
      at Sent ds = refl
      at RcvThis ds = sym (or-false (y RcvThis ds))

  itself : with_sent_of x x ≡ x
  itself = fun_ext (λ q. fun_ext (λ ds. at q ds))
    where
      at : (q : Pred) (ds : List ℕ) → with_sent_of x x q ds ≡ x q ds
      at (Stored q) ds = refl
      at Ft ds = refl
      at Sent ds = refl
      at RcvThis ds = refl

module _ (P : Parts) (N : Network) (x : State) where
  value-left : (y : State) (e : Assignment) (t : Term) → value (structure P N (with_sent_of x y) Nothing) e t ≡ value (structure P N y Nothing) e t
  value-left y e (Var v) = refl
  value-left y e (Const k) = refl
  value-left y e (Port k) = refl

  values-left : (y : State) (e : Assignment) (ts : List Term) → values (structure P N (with_sent_of x y) Nothing) e ts ≡ values (structure P N y Nothing) e ts
  values-left y e [] = refl
  values-left y e (t ∷ ts) = ap₂ (λ m ms. m ∷ ms) (value-left y e t) (values-left y e ts)

  holds-left : (y : State) (r : Pred) (cells : List ℕ) → IsAllowed (signature P) InHandler r → holds_in P N (with_sent_of x y) Nothing r cells ≡ holds_in P N y Nothing r cells
  holds-left y (Stored r) cells allowed = refl
  holds-left y Ft cells allowed = refl
  holds-left y Sent cells allowed = absurd allowed
  holds-left y RcvThis cells allowed = absurd allowed

  truth-left : (y : State) (Γ : Scope) (p : Formula) (e : Assignment) → IsSortedIn (signature P) (IsAllowed (signature P) InHandler) Γ p → truth (structure P N (with_sent_of x y) Nothing) p e ≡ truth (structure P N y Nothing) p e
  unfolding truth IsSortedIn
  truth-left y Γ f.True e sorted = refl
  truth-left y Γ f.False e sorted = refl
  truth-left y Γ (f.Atom r ts) e sorted = holds-left y r (values (structure P N (with_sent_of x y) Nothing) e ts) sorted.1 ∙ ap (holds_in P N y Nothing r) (values-left y e ts)
  truth-left y Γ (f.Same t u) e sorted = rw (value-left y e t, value-left y e u)
  truth-left y Γ (negation p) e sorted = ap not (truth-left y Γ p e sorted)
  truth-left y Γ (conjunction p q) e sorted = rw (truth-left y Γ p e sorted.0, truth-left y Γ q e sorted.1)
  truth-left y Γ (disjunction p q) e sorted = rw (truth-left y Γ p e sorted.0, truth-left y Γ q e sorted.1)
  truth-left y Γ (implication p q) e sorted = rw (truth-left y Γ p e sorted.0, truth-left y Γ q e sorted.1)
  truth-left y Γ (equivalence p q) e sorted = rw (truth-left y Γ p e sorted.0, truth-left y Γ q e sorted.1)
  truth-left y Γ (universal v s p) e sorted = ap (λ t. list_all t (elements N s)) (fun_ext (λ m. truth-left y (with_sort Γ v s) p (with_var e v m) sorted))
  truth-left y Γ (existential v s p) e sorted = ap (λ t. list_any t (elements N s)) (fun_ext (λ m. truth-left y (with_sort Γ v s) p (with_var e v m) sorted))

  executed-left : (own : OwnPacket) (Γ : Scope) (k : Command) (e : Assignment) (w : Course) → IsCommand (signature P) own Γ k → executed P N Left k e (quieted x w) ≡ quieted x (executed P N Kept k e w)
  unfolding executed IsCommand
  executed-left own Γ c.Skip e w sorted = refl
  executed-left own Γ (sequence a b) e w sorted = ap (executed P N Left b e) (executed-left own Γ a e w sorted.0) ∙ executed-left own Γ b e (executed P N Kept a e w) sorted.1
  executed-left own Γ (conditional p a b) e w sorted =
      if_quiet x (is_true P N p e (with_sent_of x w.state)) (is_true P N p e w.state) (executed P N Left a e (quieted x w)) (executed P N Left b e (quieted x w)) (executed P N Kept a e w) (executed P N Kept b e w)
      (truth-left w.state Γ p e sorted.0) (executed-left own Γ a e w sorted.1) (executed-left own Γ b e w sorted.2)
  executed-left own Γ (choice v s p a b) e w sorted =
      chosen_quiet x (least (λ m. is_true P N p (with_var e v m) (with_sent_of x w.state)) (elements N s)) (least (λ m. is_true P N p (with_var e v m) w.state) (elements N s))
      (λ m. executed P N Left a (with_var e v m) (quieted x w)) (executed P N Left b e (quieted x w)) (λ m. executed P N Kept a (with_var e v m) w) (executed P N Kept b e w)
      (ap (λ t. least t (elements N s)) (fun_ext (λ m. truth-left w.state (with_sort Γ v s) p (with_var e v m) sorted.0)))
      (λ m. executed-left own (with_sort Γ v s) a (with_var e v m) w sorted.1) (executed-left own Γ b e w sorted.2)
  executed-left own Γ (c.Insert r ts) e w sorted =
      ap (λ y. made y w) (ap (put (with_sent_of x w.state) (Stored r)) (values-left w.state e ts) ∙ put-Stored x w.state r (tuple P N ts e w.state))
  executed-left own Γ (c.Remove r ts) e w sorted =
      ap (λ y. made y w) (ap (take_out (with_sent_of x w.state) (Stored r)) (values-left w.state e ts) ∙ take-Stored x w.state r (tuple P N ts e w.state))
  executed-left own Γ (c.Install ts) e w sorted =
      ap (installed (quieted x w)) (values-left w.state e ts)
      ∙ ap (λ y. made y (installed w (tuple P N ts e w.state))) (put-Ft x w.state (tuple P N ts e w.state))
  executed-left own Γ (c.Uninstall ts) e w sorted =
      ap (uninstalled (quieted x w)) (values-left w.state e ts)
      ∙ ap (λ y. made y (uninstalled w (tuple P N ts e w.state))) (take-Ft x w.state (tuple P N ts e w.state))
  executed-left own Γ (c.Forward ts) e w sorted =
      ap (forwarded Left (quieted x w)) (values-left w.state e ts)
      ∙ ap (λ y. made y (forwarded Kept w (tuple P N ts e w.state))) (put-Sent x w.state (tuple P N ts e w.state))
  executed-left own Γ (c.Flood ts) e w sorted =
      ap (flooded_on Left (elements N Pr) (quieted x w)) (values-left w.state e ts)
      ∙ ap (λ y. made y (flooded_on Kept (elements N Pr) w (tuple P N ts e w.state))) (flood-Sent x w.state (elements N Pr) (tuple P N ts e w.state))

  pub handled-left : (h : Option Handler) → ((g : Handler) → h ≡ Some g → IsHandler (signature P) g) → (s a b i : ℕ) (w : Course) → handled P N Left h s a b i (quieted x w) ≡ quieted x (handled P N Kept h s a b i w)
  handled-left None sorted s a b i w = refl
  handled-left (Some g) sorted s a b i w = executed-left (own_packet g) (scope_of (handler_binds g)) g.body (for_packet g s a b i) w (sorted g refl).command

  -- a packet leaves `sent` as it is, and all else as it would be
  pub quiet : IsWellSorted P → (s a b i : ℕ) → fired P N Left (PktIn s a b i) (from_state x) ≡ quieted x (fired P N Kept (PktIn s a b i) (from_state x))
  quiet sorted s a b i =
      ap (settled N.ports x)
      (ap (handled P N Left (first_fit P.handlers i) s a b i) (sym (ap from_state (itself x)))
      ∙ handled-left (first_fit P.handlers i) (λ g is. of_fit (IsHandler (signature P)) P.handlers i g sorted.handlers is) s a b i (from_state x))
