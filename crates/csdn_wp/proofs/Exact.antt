-- A weakest precondition is true exactly where every execution ends where the formula is true.
use Rattle.std.proofs.Common.{◌≡◌, ℕ, ◌==◌, Bool, true, false, not, ◌&&◌, ◌||◌, inl, inr, cond, List, [], ◌∷◌, ◌++◌, length, Some, None, refl, ap, sym, ◌∙◌, IsTrue, IsFalse, Contains, true≢false, arith}
use Rattle.std.proofs.Math.Path.{fun_ext}
use Rattle.std.proofs.Math.Bool.{and-true, or-false}
use Rattle.std.proofs.lemmas.List.Elements.{All-contains}
use Rattle.std.specs.List.{list_all, list_any}
use Rattle.std.proofs.lemmas.Bool.{and_parts}
use Rattle.std.proofs.lemmas.Option.{none-some}
use Rattle.fol_forms.proofs.ClosedTruth.{all_at}
use Rattle.csdn_core.specs.declared.terms.VarId.{VarId}
use Rattle.csdn_core.specs.declared.terms.RelId.{RelId}
use Rattle.csdn_core.specs.declared.terms.Sort.{Sort}
use Rattle.csdn_core.specs.declared.terms.Sort.TheVariants.{Pr}
use Rattle.csdn_core.specs.declared.terms.Term.{Term}
use Rattle.csdn_core.specs.declared.terms.Term.TheVariants.{Var, Const, Port}
use Rattle.csdn_core.specs.declared.terms.Pred.{Pred}
use Rattle.csdn_core.specs.declared.terms.Pred.TheVariants.{Stored, Ft, Sent, RcvThis}
use Rattle.csdn_core.specs.declared.event.Packet.TheVariants.{Nothing}
use Rattle.csdn_core.specs.declared.program.Parts.{Parts}
use Rattle.csdn_core.specs.declared.syntax.Formula.{Formula}
use Rattle.csdn_core.specs.declared.syntax.Formula.TheVariants as f
use Rattle.csdn_core.specs.declared.syntax.Command.{Command}
use Rattle.csdn_core.specs.declared.syntax.Command.TheVariants.{Skip, Insert, Remove, Install, Uninstall, Forward, Flood}
use Rattle.csdn_core.specs.Tree.{negation, conjunction, disjunction, implication, equivalence, universal, existential, sequence, conditional, choice}
use Rattle.csdn_core.specs.Truth.{Structure, Assignment, truth, values, with_var}
use Rattle.csdn_core.specs.Network.{Network, State, IsNetwork, structure, elements, same_pred, same_cells, is_fixed, holds_in, is_static_row}
use Rattle.csdn_core.specs.Execution.{Executes, put, take_out, flooded, is_flood, tuple}
use Rattle.csdn_core.specs.Variables.{vars_of, BindsOutside}
use Rattle.csdn_core.specs.Sorted.{sorts_of, flow_sorts, packet_sorts, bound_in}
use Rattle.csdn_core.specs.WellSorted.{signature, command_bound_in}
use Rattle.fol_forms.specs.Replace.{add_row, drop_row, add_flood}
use Rattle.fol_forms.specs.Substitution.{KeepsSorts, IsPort, HasEgress, SendsToPorts, with_relations, AllAtoms, FitsRow}
use Rattle.fol_forms.proofs.Replaced.{truth-add_row, truth-drop_row, KeepsSorts-with}
use Rattle.fol_forms.proofs.Flooded.{truth-add_flood}
use Rattle.csdn_wp.specs.Preconditions.{wp}
use Rattle.csdn_wp.specs.After.{stands_in}
use Rattle.csdn_wp.proofs.Truths.{false_case, false_side, not_implied, none_false, failing, none_at, none_from, when_true, when_false, implied, unless_any}
use Rattle.csdn_wp.proofs.Coincidence.{truth_alike}
use Rattle.csdn_wp.proofs.Sorting.{HaveSortsIn-length}
use Rattle.csdn_wp.proofs.Sorted.{atom_sorts}
use Rattle.csdn_wp.proofs.Follows.{IsCommandIn, MayFollow, outside_terms, follows_first, follows_second, follows_then, follows_else, follows_none, follows_picked, new_then, new_else, IsSortedIn-wp}
use Rattle.csdn_core.specs.SortedIn.{Scope, no_scope, with_sort, Relations, no_rcv_this, HasSortIn, HaveSortsIn, IsSortedIn}
use Rattle.csdn_core.proofs.Agreement.{constant_there}
use Rattle.csdn_core.proofs.Scopes.{AreNew, AreNew-left, AreNew-right, AreNew-under, AreNew-tail}

module _ (P : Parts) (N : Network) where
  -- the structure that a state makes, when no packet is looked at
  abbrev pub in_state : State → Structure
  in_state x = structure P N x Nothing

  -- a relation that commands may write
  pub record CanWrite (r : Pred) : Type 0 where
    pub stored : (n : RelId) → IsTrue (is_fixed P n.0) → IsFalse (same_pred (Stored n) r)
    pub packet : IsFalse (same_pred RcvThis r)

  pub can_write_stored : (k : RelId) → IsFalse (is_fixed P k.0) → CanWrite (Stored k)
  can_write_stored k free = record { stored = λ n fixed. go n fixed (n.0 == k.0) refl; packet = refl }
    where
      go : (n : RelId) → IsTrue (is_fixed P n.0) → (b : Bool) → (n.0 == k.0) ≡ b → b ≡ false
      go n fixed false is = refl
      go n fixed true is = let e : n.0 ≡ k.0 = grind arith in absurd (true≢false (sym fixed ∙ ap (is_fixed P) e ∙ free))

  pub can_write_ft : CanWrite Ft
  can_write_ft = record { stored = λ n fixed. refl; packet = refl }

  pub can_write_sent : CanWrite Sent
  can_write_sent = record { stored = λ n fixed. refl; packet = refl }

  module _ (x : State) (r : Pred) (can : CanWrite r) (in_tuple : List ℕ → Bool) where
    -- with tuples put into the relation
    more_at : (q : Pred) (ds : List ℕ) → (holds_in P N x Nothing q ds || (same_pred q r && in_tuple ds)) ≡ holds_in P N (λ q ds. x q ds || (same_pred q r && in_tuple ds)) Nothing q ds
    more_at (Stored n) ds = go (is_fixed P n.0) refl
      where
        go : (b : Bool) → is_fixed P n.0 ≡ b → (cond b (is_static_row N n.0 ds) (x (Stored n) ds) || (same_pred (Stored n) r && in_tuple ds)) ≡ cond b (is_static_row N n.0 ds) (x (Stored n) ds || (same_pred (Stored n) r && in_tuple ds))
        go true fixed = rw (can.stored n fixed) (or-false _)
        go false fixed = refl
    more_at Ft ds = refl
    more_at Sent ds = refl
    more_at RcvThis ds = rw can.packet (or-false _)

    more_is : with_relations (in_state x) (λ q ds. holds_in P N x Nothing q ds || (same_pred q r && in_tuple ds)) ≡ in_state (λ q ds. x q ds || (same_pred q r && in_tuple ds))
    more_is = ap (with_relations (in_state x)) (fun_ext (λ q. fun_ext (λ ds. more_at q ds)))

    -- with tuples taken out of it
    fewer_at : (q : Pred) (ds : List ℕ) → (holds_in P N x Nothing q ds && not (same_pred q r && in_tuple ds)) ≡ holds_in P N (λ q ds. x q ds && not (same_pred q r && in_tuple ds)) Nothing q ds
    fewer_at (Stored n) ds = go (is_fixed P n.0) refl
      where
        go : (b : Bool) → is_fixed P n.0 ≡ b → (cond b (is_static_row N n.0 ds) (x (Stored n) ds) && not (same_pred (Stored n) r && in_tuple ds)) ≡ cond b (is_static_row N n.0 ds) (x (Stored n) ds && not (same_pred (Stored n) r && in_tuple ds))
        go true fixed = rw (can.stored n fixed) (and-true _)
        go false fixed = refl
    fewer_at Ft ds = refl
    fewer_at Sent ds = refl
    fewer_at RcvThis ds = refl

    pub fewer_is : with_relations (in_state x) (λ q ds. holds_in P N x Nothing q ds && not (same_pred q r && in_tuple ds)) ≡ in_state (λ q ds. x q ds && not (same_pred q r && in_tuple ds))
    fewer_is = ap (with_relations (in_state x)) (fun_ext (λ q. fun_ext (λ ds. fewer_at q ds)))

  -- the atoms of a relation have as many terms as a tuple of its sorts
  pub fits_row : (R : Relations) (r : Pred) (ss : List Sort) (n : ℕ) → sorts_of (signature P) r ≡ Some ss → n ≡ length ss → (Γ Δ : Scope) (q : Formula) → IsSortedIn (signature P) R Γ q → AllAtoms (λ Δ. FitsRow r n) Δ q
  unfolding IsSortedIn AllAtoms
  fits_row R r ss n declared long Γ Δ f.True sorted = tt
  fits_row R r ss n declared long Γ Δ f.False sorted = tt
  fits_row R r ss n declared long Γ Δ (f.Atom q us) sorted = λ is. HaveSortsIn-length (signature P) Γ ss us (atom_sorts (signature P) Γ r q ss us is declared sorted.0) ∙ sym long
  fits_row R r ss n declared long Γ Δ (f.Same t u) sorted = tt
  fits_row R r ss n declared long Γ Δ (negation p) sorted = fits_row R r ss n declared long Γ Δ p sorted
  fits_row R r ss n declared long Γ Δ (conjunction p q) sorted = (fits_row R r ss n declared long Γ Δ p sorted.0, fits_row R r ss n declared long Γ Δ q sorted.1)
  fits_row R r ss n declared long Γ Δ (disjunction p q) sorted = (fits_row R r ss n declared long Γ Δ p sorted.0, fits_row R r ss n declared long Γ Δ q sorted.1)
  fits_row R r ss n declared long Γ Δ (implication p q) sorted = (fits_row R r ss n declared long Γ Δ p sorted.0, fits_row R r ss n declared long Γ Δ q sorted.1)
  fits_row R r ss n declared long Γ Δ (equivalence p q) sorted = (fits_row R r ss n declared long Γ Δ p sorted.0, fits_row R r ss n declared long Γ Δ q sorted.1)
  fits_row R r ss n declared long Γ Δ (universal v s p) sorted = fits_row R r ss n declared long (with_sort Γ v s) (with_sort Δ v s) p sorted
  fits_row R r ss n declared long Γ Δ (existential v s p) sorted = fits_row R r ss n declared long (with_sort Γ v s) (with_sort Δ v s) p sorted

  module _ (network : IsNetwork P N) (x : State) where
    -- a term of sort PR stands for a port
    is_port : (Γ : Scope) (t : Term) → HasSortIn (signature P) Γ Pr t → IsPort (in_state x) Γ t
    is_port Γ (Var v) has = has
    is_port Γ (Const c) has = constant_there P N network c.0 Pr has
    is_port Γ (Port k) has = All-contains (Contains N.ports) P.numerals k network.numerals has.1

    has_egress : (Γ : Scope) (us : List Term) → HaveSortsIn (signature P) Γ flow_sorts us → HasEgress (in_state x) Γ us
    unfolding HaveSortsIn
    has_egress Γ (u ∷ v ∷ w ∷ j ∷ o ∷ []) (has_u, (has_v, (has_w, (has_j, (has_o, end))))) = is_port Γ o has_o
    has_egress Γ [] have = have
    has_egress Γ (u ∷ []) have = have.1
    has_egress Γ (u ∷ v ∷ []) have = have.1.1
    has_egress Γ (u ∷ v ∷ w ∷ []) have = have.1.1.1
    has_egress Γ (u ∷ v ∷ w ∷ j ∷ []) have = have.1.1.1.1
    has_egress Γ (u ∷ v ∷ w ∷ j ∷ o ∷ n ∷ us) have = have.1.1.1.1.1

    pub sends_to_ports : (R : Relations) (Γ : Scope) (q : Formula) → IsSortedIn (signature P) R Γ q → SendsToPorts (in_state x) Γ q
    unfolding IsSortedIn AllAtoms
    sends_to_ports R Γ f.True sorted = tt
    sends_to_ports R Γ f.False sorted = tt
    sends_to_ports R Γ (f.Atom q us) sorted = λ is. has_egress Γ us (atom_sorts (signature P) Γ Sent q flow_sorts us is refl sorted.0)
    sends_to_ports R Γ (f.Same t u) sorted = tt
    sends_to_ports R Γ (negation p) sorted = sends_to_ports R Γ p sorted
    sends_to_ports R Γ (conjunction p q) sorted = (sends_to_ports R Γ p sorted.0, sends_to_ports R Γ q sorted.1)
    sends_to_ports R Γ (disjunction p q) sorted = (sends_to_ports R Γ p sorted.0, sends_to_ports R Γ q sorted.1)
    sends_to_ports R Γ (implication p q) sorted = (sends_to_ports R Γ p sorted.0, sends_to_ports R Γ q sorted.1)
    sends_to_ports R Γ (equivalence p q) sorted = (sends_to_ports R Γ p sorted.0, sends_to_ports R Γ q sorted.1)
    sends_to_ports R Γ (universal v s p) sorted = sends_to_ports R (with_sort Γ v s) p sorted
    sends_to_ports R Γ (existential v s p) sorted = sends_to_ports R (with_sort Γ v s) p sorted

  -- where the precondition is true, every execution ends where the formula is true; where it is false, some execution ends
  -- where the formula is false
  abbrev pub IsExact : Command → Formula → Assignment → State → Type 0
  IsExact c q e x =
      (IsTrue (truth (in_state x) (wp c q) e) → (y : State) → Executes P N c e x y → IsTrue (truth (in_state y) q e))
      × (IsFalse (truth (in_state x) (wp c q) e) → (y : State) × Executes P N c e x y × IsFalse (truth (in_state y) q e))

  -- where the command has one end
  one_end : (q : Formula) (e : Assignment) (z : State) (before : Bool) → before ≡ truth (in_state z) q e
      → (before ≡ true → (y : State) → y ≡ z → IsTrue (truth (in_state y) q e)) × (before ≡ false → (y : State) × (y ≡ z) × IsFalse (truth (in_state y) q e))
  one_end q e z before same = (λ h y is. rw is (sym same ∙ h), λ h. (z, refl, sym same ∙ h))

  module _ (R : Relations) (Γ : Scope) (q : Formula) (sorted : IsSortedIn (signature P) R Γ q) (e : Assignment) (x : State) where
    pub after_put : (r : Pred) (ss : List Sort) (ts : List Term) → CanWrite r → sorts_of (signature P) r ≡ Some ss → length ts ≡ length ss → BindsOutside (vars_of ts) q →
        truth (in_state x) (add_row q r ts) e ≡ truth (in_state (put x r (tuple P N ts e x))) q e
    after_put r ss ts can declared long out =
        truth-add_row (in_state x) r ts e q (fits_row R r ss (length ts) declared long Γ no_scope q sorted) out
        ∙ ap (λ M. truth M q e) (more_is x r can (λ ds. same_cells ds (values (in_state x) e ts)))

    after_take_out : (r : Pred) (ss : List Sort) (ts : List Term) → CanWrite r → sorts_of (signature P) r ≡ Some ss → length ts ≡ length ss → BindsOutside (vars_of ts) q →
        truth (in_state x) (drop_row q r ts) e ≡ truth (in_state (take_out x r (tuple P N ts e x))) q e
    after_take_out r ss ts can declared long out =
        truth-drop_row (in_state x) r ts e q (fits_row R r ss (length ts) declared long Γ no_scope q sorted) out
        ∙ ap (λ M. truth M q e) (fewer_is x r can (λ ds. same_cells ds (values (in_state x) e ts)))

    after_flood : IsNetwork P N → KeepsSorts (in_state x) Γ e → (ts : List Term) → HaveSortsIn (signature P) Γ packet_sorts ts → BindsOutside (vars_of ts) q →
        truth (in_state x) (add_flood q ts) e ≡ truth (in_state (flooded x (elements N Pr) (tuple P N ts e x))) q e
    unfolding HaveSortsIn
    after_flood network keeps (s ∷ a ∷ b ∷ i ∷ []) have out =
        truth-add_flood (in_state x) e s a b i Γ q (sends_to_ports network x R Γ q sorted) out keeps
        ∙ ap (λ M. truth M q e) (more_is x Sent can_write_sent (λ ds. is_flood (elements N Pr) (values (in_state x) e (s ∷ a ∷ b ∷ i ∷ [])) ds))
    after_flood network keeps [] have out = absurd have
    after_flood network keeps (s ∷ []) have out = absurd have.1
    after_flood network keeps (s ∷ a ∷ []) have out = absurd have.1.1
    after_flood network keeps (s ∷ a ∷ b ∷ []) have out = absurd have.1.1.1
    after_flood network keeps (s ∷ a ∷ b ∷ i ∷ o ∷ ts) have out = absurd have.1.1.1.1

  -- a variable that is not in scope isn't seen
  not_seen : (R : Relations) (Γ : Scope) (q : Formula) → IsSortedIn (signature P) R Γ q → (e : Assignment) (y : State) (v : VarId) (m : ℕ) → Γ v.0 ≡ None → truth (in_state y) q (with_var e v m) ≡ truth (in_state y) q e
  not_seen R Γ q sorted e y v m none = truth_alike (signature P) R (in_state y) (in_state y).holds (λ r cells named. refl) Γ q (with_var e v m) e sorted (λ w s is. go w s is (w == v.0) refl)
    where
      go : (w : ℕ) (s : Sort) → Γ w ≡ Some s → (b : Bool) → (w == v.0) ≡ b → cond b m (e w) ≡ e w
      go w s is false other = refl
      go w s is true same = let same_var : w ≡ v.0 = grind arith in absurd (none-some s (sym none ∙ ap Γ (sym same_var) ∙ is))

  module _ (network : IsNetwork P N) (R : Relations) (names : (r : Pred) → no_rcv_this r → R r) where
    pub exact : (c : Command) (q : Formula) (Γ : Scope) → IsCommandIn P Γ c → AreNew Γ (command_bound_in c) → MayFollow P R Γ c q → (e : Assignment) (x : State) → KeepsSorts (in_state x) Γ e → IsExact c q e x
    unfolding wp truth Executes IsCommandIn command_bound_in stands_in
    exact Skip q Γ formed own may e x keeps = one_end q e x _ refl
    exact (sequence a b) q Γ formed own may e x keeps =
        let own_a = AreNew-left Γ (command_bound_in a) (command_bound_in b) own in
        let own_b = AreNew-right Γ (command_bound_in a) (command_bound_in b) own in
        let may_b = follows_second P R Γ a b q may in
        let may_a = follows_first P R names Γ a b q formed.0 own may (IsSortedIn-wp P R names b q Γ formed.1 own_b may_b) in
        let first : IsExact a (wp b q) e x = exact a (wp b q) Γ formed.0 own_a may_a e x keeps in
        let second : (z : State) → IsExact b q e z = λ z. exact b q Γ formed.1 own_b may_b e z keeps in (
          λ h y (z, to_z, to_y). (second z).0 (first.0 h z to_z) y to_y,
          λ h. (
              let middle = first.1 h in
              let end = (second middle.0).1 middle.2 in
              (end.0, (middle.0, middle.1, end.1), end.2)),
        )
    exact (conditional p a b) q Γ formed own may e x keeps =
        let first : IsExact a q e x =
        exact a q Γ formed.1 (new_then P Γ (bound_in p) (command_bound_in a) (command_bound_in b) own) (follows_then P R Γ p a b q may) e x keeps in
        let second : IsExact b q e x =
        exact b q Γ formed.2 (new_else P Γ (bound_in p) (command_bound_in a) (command_bound_in b) own) (follows_else P R Γ p a b q may) e x keeps in
        let is_p = truth (in_state x) p e in
        let is_a = truth (in_state x) (wp a q) e in
        let is_b = truth (in_state x) (wp b q) e in (
          λ h y run. elim run [
            | inl (is, to_y) ↦ first.0 (when_true is_p is_a is_b h is) y to_y
            | inr (isnt, to_y) ↦ second.0 (when_false is_p is_a is_b h isnt) y to_y
          ],
          λ h. elim (false_case is_p is_a is_b h) [
            | inl (is, wrong) ↦ (let end = first.1 wrong in (end.0, inl (is, end.1), end.2))
            | inr (isnt, wrong) ↦ (let end = second.1 wrong in (end.0, inr (isnt, end.1), end.2))
          ],
        )
    exact (choice v s p a b) q Γ formed own may e x keeps =
        let all = bound_in p ++ (command_bound_in a ++ command_bound_in b) in
        let Δ = with_sort Γ v s in
        let first : (m : ℕ) → Contains (elements N s) m → IsExact a q (with_var e v m) x =
        λ m there. exact a q Δ formed.1 (new_then P Δ (bound_in p) (command_bound_in a) (command_bound_in b) (AreNew-under Γ v s all own))
        (follows_picked P R Γ v s p a b q (own.new v.0 (inl refl)) may) (with_var e v m) x (KeepsSorts-with (in_state x) Γ e v s m keeps there) in
        let second : IsExact b q e x =
        exact b q Γ formed.2 (new_else P Γ (bound_in p) (command_bound_in a) (command_bound_in b) (AreNew-tail Γ v.0 all own))
        (follows_none P R Γ v s p a b q may) e x keeps in
        let unseen : (y : State) (m : ℕ) → truth (in_state y) q (with_var e v m) ≡ truth (in_state y) q e = λ y m. not_seen R Γ q may.sorted e y v m (own.new v.0 (inl refl)) in
        let is_p : ℕ → Bool = λ m. truth (in_state x) p (with_var e v m) in
        let is_a : ℕ → Bool = λ m. truth (in_state x) (wp a q) (with_var e v m) in
        let is_b : Bool = truth (in_state x) (wp b q) e in
        let all_a : Bool = list_all (λ m. not (is_p m) || is_a m) (elements N s) in
        let any_p : Bool = list_any is_p (elements N s) in (
          λ h y run. elim run [
            | inl (m, there, is, to_y) ↦ sym (unseen y m) ∙ (first m there).0 (implied (is_p m) (is_a m) (all_at _ (elements N s) m there (and_parts all_a _ h).0) is) y to_y
            | inr (none, to_y) ↦ second.0 (unless_any any_p is_b (and_parts all_a _ h).1 (none_from is_p (elements N s) none)) y to_y
          ],
          λ h. elim (false_side all_a (not (not any_p) || is_b) h) [
            | inl some ↦ (
                let m = failing (λ m. not (is_p m) || is_a m) (elements N s) some in
                let sides = not_implied (is_p m.0) (is_a m.0) m.2 in
                let end = (first m.0 m.1).1 sides.1 in
                (end.0, inl (m.0, m.1, sides.0, end.1), sym (unseen end.0 m.0) ∙ end.2))
            | inr other ↦ (
                let sides = none_false any_p is_b other.1 in
                let end = second.1 sides.1 in
                (end.0, inr (λ m there. none_at is_p (elements N s) m there sides.0, end.1), end.2))
          ],
        )
    exact (Insert r ts) q Γ formed own may e x keeps =
        one_end q e _ _ (after_put R Γ q may.sorted e x (Stored r) formed.1.sorts ts (can_write_stored r formed.0) formed.1.declared (HaveSortsIn-length (signature P) Γ formed.1.sorts ts formed.1.terms) (outside_terms P R names Γ (Insert r ts) q ts refl may))
    exact (Remove r ts) q Γ formed own may e x keeps =
        one_end q e _ _ (after_take_out R Γ q may.sorted e x (Stored r) formed.1.sorts ts (can_write_stored r formed.0) formed.1.declared (HaveSortsIn-length (signature P) Γ formed.1.sorts ts formed.1.terms) (outside_terms P R names Γ (Remove r ts) q ts refl may))
    exact (Install ts) q Γ formed own may e x keeps =
        one_end q e _ _ (after_put R Γ q may.sorted e x Ft flow_sorts ts can_write_ft refl (HaveSortsIn-length (signature P) Γ flow_sorts ts formed) (outside_terms P R names Γ (Install ts) q ts refl may))
    exact (Uninstall ts) q Γ formed own may e x keeps =
        one_end q e _ _ (after_take_out R Γ q may.sorted e x Ft flow_sorts ts can_write_ft refl (HaveSortsIn-length (signature P) Γ flow_sorts ts formed) (outside_terms P R names Γ (Uninstall ts) q ts refl may))
    exact (Forward ts) q Γ formed own may e x keeps =
        one_end q e _ _ (after_put R Γ q may.sorted e x Sent flow_sorts ts can_write_sent refl (HaveSortsIn-length (signature P) Γ flow_sorts ts formed) (outside_terms P R names Γ (Forward ts) q ts refl may))
    exact (Flood ts) q Γ formed own may e x keeps =
        one_end q e _ _ (after_flood R Γ q may.sorted e x network keeps ts formed (outside_terms P R names Γ (Flood ts) q ts refl may))
