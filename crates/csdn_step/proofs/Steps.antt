-- What is executed with the least elements is an execution.
use Rattle.std.proofs.Common.{◌≡◌, ◌∙◌, sym, ap, refl, subst, inl, inr, ◌⊎◌, ℕ, ◌&&◌, zero, suc, ◌<◌, min, Bool, true, false, if◌then◌else◌, List, [], ◌∷◌, Contains, IsTrue, IsFalse, arith}
use Rattle.std.specs.Prelude.{Option, Some, None, is_some}
use Rattle.std.specs.List.{list_any}
use Rattle.csdn_core.specs.declared.terms.Pred.TheVariants.{Ft}
use Rattle.std.proofs.lemmas.Bool.{and_parts, cases_lt}
use Rattle.general_facts.proofs.Lists.{contains_later}
use Rattle.csdn_core.specs.declared.program.Parts.{Parts}
use Rattle.csdn_core.specs.declared.program.Handler.{Handler}
use Rattle.csdn_core.specs.declared.event.Event.{Event}
use Rattle.csdn_core.specs.declared.event.Event.TheVariants.{PktIn, PktFlow, Expire}
use Rattle.csdn_core.specs.declared.syntax.Command.{Command}
use Rattle.csdn_core.specs.declared.syntax.Command.TheVariants as c
use Rattle.csdn_core.specs.Tree.{sequence, conditional, choice}
use Rattle.csdn_core.specs.Truth.{Assignment, with_var}
use Rattle.csdn_core.specs.Network.{Network, State, elements}
use Rattle.csdn_core.specs.Execution.{is_true, Executes}
use Rattle.csdn_core.specs.Run.{Handles, Step, first_fit, for_packet}
use Rattle.net_structs.specs.Networks.{has}
use Rattle.net_structs.proofs.Accepted.{there}
use Rattle.csdn_step.specs.declared.setting.Sending.TheVariants.{Kept}
use Rattle.csdn_step.specs.Least.{least, lesser}
use Rattle.csdn_step.specs.Courses.{Course, executed, chosen, handled, fired, from_state}
use Rattle.csdn_step.specs.Answers.{is_of_network, is_enabled}
use Rattle.csdn_step.proofs.Outputs.{found}

-- the lesser is one of the two

min_either : (m n : ℕ) → (min m n ≡ m) ⊎ (min m n ≡ n)
min_either m n = elim (cases_lt m n) [
  | inl before ↦ inl (omega (arith, before))
  | inr from ↦ inr (omega (arith, from))
]

lesser_is : (m : ℕ) (rest : Option ℕ) → (lesser m rest ≡ m) ⊎ (rest ≡ Some (lesser m rest))
lesser_is m None = inl refl
lesser_is m (Some n) = at (min_either m n)
  where
    at : (min m n ≡ m) ⊎ (min m n ≡ n) → (min m n ≡ m) ⊎ (Some n ≡ Some (min m n))
    at (inl is) = inl is
    at (inr is) = inr (ap (λ (k : ℕ). Some k) (sym is))

-- an element of the list that passes
abbrev pub IsFound : (ℕ → Bool) → List ℕ → ℕ → Type 0
IsFound test ms m = Contains ms m × (test m ≡ true)

found_by : (test : ℕ → Bool) (n m : ℕ) (ms : List ℕ) (b : Bool) → test n ≡ b → (least test ms ≡ Some m → IsFound test ms m) → (if b then Some (lesser n (least test ms)) else least test ms) ≡ Some m → IsFound test (n ∷ ms) m
found_by test n m ms b passes rest found = by_test b passes found
  where
    later : least test ms ≡ Some m → IsFound test (n ∷ ms) m
    later is = let held : IsFound test ms m = rest is in (contains_later ms n m held.0, held.1)

    here : test n ≡ true → n ≡ m → IsFound test (n ∷ ms) m
    here is same = subst (λ k. IsFound test (n ∷ ms) k) same ((zero, omega arith, refl), is)

    which : test n ≡ true → lesser n (least test ms) ≡ m → (lesser n (least test ms) ≡ n) ⊎ (least test ms ≡ Some (lesser n (least test ms))) → IsFound test (n ∷ ms) m
    which is is_m (inl mine) = here is (sym mine ∙ is_m)
    which is is_m (inr other) = later (other ∙ ap (λ (k : ℕ). Some k) is_m)

    by_test : (t : Bool) → test n ≡ t → (if t then Some (lesser n (least test ms)) else least test ms) ≡ Some m → IsFound test (n ∷ ms) m
    by_test true is it = let same : lesser n (least test ms) ≡ m = cc in which is same (lesser_is n (least test ms))
    by_test false is it = later it

pub least_found : (test : ℕ → Bool) (ms : List ℕ) (m : ℕ) → least test ms ≡ Some m → IsFound test ms m
least_found test [] m is = absurd (cc)
least_found test (n ∷ ms) m is = found_by test n m ms (test n) refl (least_found test ms m) is

none_by : (test : ℕ → Bool) (n : ℕ) (ms : List ℕ) (b : Bool) → test n ≡ b → (least test ms ≡ None → (m : ℕ) → Contains ms m → test m ≡ false) → (if b then Some (lesser n (least test ms)) else least test ms) ≡ None → (m : ℕ) → Contains (n ∷ ms) m → test m ≡ false
none_by test n ms true passes rest found m place = absurd (cc)
none_by test n ms false passes rest found m (zero, below, same) = ap test (sym same) ∙ passes
none_by test n ms false passes rest found m (suc k, below, same) = rest found m (k, omega (arith, below), same)

pub least_none : (test : ℕ → Bool) (ms : List ℕ) → least test ms ≡ None → (m : ℕ) → Contains ms m → test m ≡ false
least_none test [] is m place = absurd (let below : place.0 < 0 = place.1 in omega arith)
least_none test (n ∷ ms) is m place = none_by test n ms (test n) refl (least_none test ms) is m place

if_case : (t q : Bool) → q ≡ t → (x y : Course) (A B : State → Type 0) → A x.state → B y.state → (IsTrue q × A (if t then x else y).state) ⊎ (IsFalse q × B (if t then x else y).state)
if_case true q is x y A B in_x in_y = inl (is, in_x)
if_case false q is x y A B in_x in_y = inr (is, in_y)

pick_case : (found : Option ℕ) (test : ℕ → Bool) (ms : List ℕ) → least test ms ≡ found → (x : ℕ → Course) (y : Course) (A : ℕ → State → Type 0) (B : State → Type 0) → ((m : ℕ) → A m (x m).state) → B y.state
    → ((m : ℕ) × Contains ms m × IsTrue (test m) × A m (chosen found x y).state) ⊎ (((m : ℕ) → Contains ms m → IsFalse (test m)) × B (chosen found x y).state)
pick_case (Some m) test ms is x y A B in_x in_y = let found : IsFound test ms m = least_found test ms m is in inl (m, found.0, found.1, in_x m)
pick_case None test ms is x y A B in_x in_y = inr (least_none test ms is, in_y)

module _ (P : Parts) (N : Network) where
  pub executes : (k : Command) (e : Assignment) (w : Course) → Executes P N k e w.state (executed P N Kept k e w).state
  unfolding Executes executed
  executes c.Skip e w = refl
  executes (sequence a b) e w = ((executed P N Kept a e w).state, executes a e w, executes b e (executed P N Kept a e w))
  executes (conditional p a b) e w =
      if_case (is_true P N p e w.state) (is_true P N p e w.state) refl (executed P N Kept a e w) (executed P N Kept b e w)
      (λ y. Executes P N a e w.state y) (λ y. Executes P N b e w.state y) (executes a e w) (executes b e w)
  executes (choice v s p a b) e w =
      pick_case (least (λ m. is_true P N p (with_var e v m) w.state) (elements N s)) (λ m. is_true P N p (with_var e v m) w.state) (elements N s) refl
      (λ m. executed P N Kept a (with_var e v m) w) (executed P N Kept b e w)
      (λ m y. Executes P N a (with_var e v m) w.state y) (λ y. Executes P N b e w.state y) (λ m. executes a (with_var e v m) w) (executes b e w)
  executes (c.Insert r ts) e w = refl
  executes (c.Remove r ts) e w = refl
  executes (c.Install ts) e w = refl
  executes (c.Uninstall ts) e w = refl
  executes (c.Forward ts) e w = refl
  executes (c.Flood ts) e w = refl

  handles : (h : Option Handler) (s a b i : ℕ) (w : Course) → Handles P N h s a b i w.state (handled P N Kept h s a b i w).state
  handles None s a b i w = refl
  handles (Some h) s a b i w = executes h.body (for_packet h s a b i) w

  -- where nothing is to be refused, an event is a step to the state that it comes to
  pub steps : (event : Event) (x : State) → is_of_network N event ≡ true → is_enabled P N x event ≡ true → Step P N x event (fired P N Kept event (from_state x)).state
  steps (PktIn s a b i) x known enabled =
      let at_s = and_parts (has N.switches s) (has N.hosts a && (has N.hosts b && has N.ports i)) known in
      let at_a = and_parts (has N.hosts a) (has N.hosts b && has N.ports i) at_s.1 in
      let at_b = and_parts (has N.hosts b) (has N.ports i) at_a.1 in
      (there N.switches s at_s.0, there N.hosts a at_a.0, there N.hosts b at_b.0, there N.ports i at_b.1, handles (first_fit P.handlers i) s a b i (from_state x))
  steps (PktFlow s a b i o) x known enabled =
      let at_s = and_parts (has N.switches s) (has N.hosts a && (has N.hosts b && (has N.ports i && has N.ports o))) known in
      let at_a = and_parts (has N.hosts a) (has N.hosts b && (has N.ports i && has N.ports o)) at_s.1 in
      let at_b = and_parts (has N.hosts b) (has N.ports i && has N.ports o) at_a.1 in
      let at_i = and_parts (has N.ports i) (has N.ports o) at_b.1 in
      (there N.switches s at_s.0, there N.hosts a at_a.0, there N.hosts b at_b.0, there N.ports i at_i.0, there N.ports o at_i.1, enabled, refl)
  steps (Expire s a b i) x known enabled =
      let at_s = and_parts (has N.switches s) (has N.hosts a && (has N.hosts b && has N.ports i)) known in
      let at_a = and_parts (has N.hosts a) (has N.hosts b && has N.ports i) at_s.1 in
      let at_b = and_parts (has N.hosts b) (has N.ports i) at_a.1 in
      let may = and_parts (is_some P.timeout) (list_any (λ o. x Ft (s ∷ a ∷ b ∷ i ∷ o ∷ [])) N.ports) enabled in
      (there N.switches s at_s.0, there N.hosts a at_a.0, there N.hosts b at_b.0, there N.ports i at_b.1, may.0, found (λ o. x Ft (s ∷ a ∷ b ∷ i ∷ o ∷ [])) N.ports may.1, refl)
