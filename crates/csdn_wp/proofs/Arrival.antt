-- The precondition of packet-in events is exact, and well-sorted.
use Rattle.std.proofs.Common.{◌≡◌, ℕ, ◌==◌, ◌<◌, ◌≤◌, Bool, true, false, not, ◌&&◌, ◌||◌, inl, inr, cond, List, [], ◌∷◌, ◌++◌, length, Option, Some, None, refl, ap, sym, subst, ◌∙◌, IsTrue, IsFalse, Contains, true≢false, arith, if◌then◌else◌}
use Rattle.std.proofs.lemmas.Bool.{ne_eqb, and_from, and_parts, not-true}
use Rattle.std.proofs.Math.Path.{fun_ext}
use Rattle.general_facts.proofs.Numbers.{self_equal}
use Rattle.std.proofs.lemmas.Option.{none-some}
use Rattle.fol_forms.proofs.ClosedTruth.{all_at}
use Rattle.std.proofs.Math.Bool.{and-true}
use Rattle.csdn_core.specs.declared.terms.VarId.{VarId}
use Rattle.csdn_core.specs.declared.terms.Sort.TheVariants.{Sw, Ho, Pr}
use Rattle.csdn_core.specs.declared.terms.Term.{Term}
use Rattle.csdn_core.specs.declared.terms.Pred.{Pred}
use Rattle.csdn_core.specs.declared.terms.Pred.TheVariants.{Stored, Ft, Sent, RcvThis}
use Rattle.csdn_core.specs.declared.event.Packet.TheVariants.{Nothing, At}
use Rattle.csdn_core.specs.declared.program.Parts.{Parts}
use Rattle.csdn_core.specs.declared.program.Handler.{Handler}
use Rattle.csdn_core.specs.declared.syntax.Formula.{Formula}
use Rattle.csdn_core.specs.declared.syntax.Command.{Command}
use Rattle.csdn_core.specs.declared.syntax.Command.TheVariants.{Skip}
use Rattle.csdn_core.specs.Tree.{negation}
use Rattle.csdn_core.specs.Truth.{Structure, Assignment, truth, values, with_var}
use Rattle.csdn_core.specs.Network.{Network, State, IsNetwork, structure, holds_in, same_pred, same_cells}
use Rattle.csdn_core.specs.Execution.{Executes}
use Rattle.csdn_core.specs.Run.{Handles, first_fit, fits, no_values}
use Rattle.csdn_core.specs.Variables.{vars_of, free_in, BindsOutside}
use Rattle.csdn_core.specs.Sorted.{Bind, packet_sorts, bound_in}
use Rattle.csdn_core.specs.WellSorted.{signature, command_bound_in}
use Rattle.fol_forms.specs.Replace.{fix_packet, is_row}
use Rattle.fol_forms.specs.Renumber.{renumber}
use Rattle.fol_forms.specs.Substitution.{KeepsSorts, with_packet, with_relations}
use Rattle.fol_forms.proofs.Replaced.{truth-fix_packet, KeepsSorts-with, KeepsSorts-none}
use Rattle.fol_forms.proofs.RenumberTruth.{truth-renumber}
use Rattle.csdn_wp.specs.declared.vars.PacketVars.{PacketVars}
use Rattle.csdn_wp.specs.Preconditions.{wp}
use Rattle.csdn_wp.specs.EventPreconditions.{terms_of, handler_vars, first_vars, is_port, and_also, guard, guarded, member, members, and_later}
use Rattle.csdn_wp.proofs.Truths.{failing, not_implied, false_side, implied}
use Rattle.csdn_wp.proofs.Bounds.{bound_in-replace, bound_in-is_row, bound_in-renumbered}
use Rattle.csdn_wp.proofs.Coincidence.{truth_alike}
use Rattle.csdn_wp.proofs.Sorting.{Extends-none, IsSortedIn-more, IsSortedIn-renumber, HaveSortsIn-length, not_free, terms_not}
use Rattle.csdn_wp.proofs.Sorted.{IsSortedIn-fix_packet}
use Rattle.csdn_wp.proofs.Follows.{IsCommandIn, MayFollow, not_standing, IsSortedIn-wp}
use Rattle.csdn_wp.proofs.Exact.{in_state, IsExact, exact, fits_row}
use Rattle.csdn_core.specs.Members.{IsIn, AreDistinct}
use Rattle.csdn_core.proofs.Members.{in_contains}
use Rattle.csdn_core.specs.SortedIn.{Scope, no_scope, with_sort, any_relation, no_rcv_this, HaveSortsIn, IsSortedIn, scope_of}
use Rattle.csdn_core.proofs.Scopes.{AreNew, still_none, bind, AreInScope, AreInScope-none, AreInScope-binds, AreNew-binds, AreNew-none}
use Rattle.fol_forms.proofs.Expired.{binds_outside}

-- whether a packet's port is none of these
abbrev pub not_among : List ℕ → ℕ → Bool
not_among [] i = true
not_among (k ∷ ks) i = not (i == k) && not_among ks i

not_among-push : (ks : List ℕ) (k i : ℕ) → not_among (ks ++ k ∷ []) i ≡ (not_among ks i && not (i == k))
not_among-push [] k i = and-true (not (i == k))
not_among-push (m ∷ ks) k i = step (not (i == m)) _ _ _ (not_among-push ks k i)
  where
    step : (a b c d : Bool) → b ≡ (c && d) → (a && b) ≡ ((a && c) && d)
    step true b c d h = h
    step false b c d h = refl

-- a packet that the earlier ports leave to a pattern
abbrev pub passes : List ℕ → Option ℕ → ℕ → Bool
passes ks port i = not_among ks i && fits port i

module _ (M : Structure) (e : Assignment) where
  guard_true : Option Formula → Bool
  guard_true None = true
  guard_true (Some g) = truth M g e

  truth-and_also : (p : Formula) (q : Option Formula) → truth M (and_also p q) e ≡ (truth M p e && guard_true q)
  unfolding truth guard_true
  truth-and_also p None = sym (and-true (truth M p e))
  truth-and_also p (Some q) = refl

  truth-guard : (ks : List ℕ) (port : Option ℕ) (i : VarId) → guard_true (guard ks port i) ≡ passes ks port (e i.0)
  unfolding truth guard_true
  truth-guard [] None i = refl
  truth-guard [] (Some k) i = refl
  truth-guard (k ∷ ks) port i = truth-and_also (negation (is_port i k)) (guard ks port i) ∙ step (not (e i.0 == k)) _ _ _ (truth-guard ks port i)
    where
      step : (a b c d : Bool) → b ≡ (c && d) → (a && b) ≡ ((a && c) && d)
      step true b c d h = h
      step false b c d h = refl

  truth-guarded : (g : Option Formula) (p : Formula) → truth M (guarded g p) e ≡ (not (guard_true g) || truth M p e)
  unfolding truth guard_true
  truth-guarded None p = refl
  truth-guarded (Some g) p = refl

-- the scope of a packet's variables, and the assignment in which they stand for it
abbrev pub scope_binds : PacketVars → List Bind
scope_binds v = bind v.s Sw ∷ bind v.a Ho ∷ bind v.b Ho ∷ bind v.i Pr ∷ []

abbrev pub packet_scope : PacketVars → Scope
packet_scope v = scope_of (scope_binds v)

abbrev pub for_vars : PacketVars → ℕ → ℕ → ℕ → ℕ → Assignment
for_vars v s a b i = with_var (with_var (with_var (with_var no_values v.s s) v.a a) v.b b) v.i i

abbrev pub numbers : PacketVars → Command → List ℕ
numbers v body = v.s.0 ∷ v.a.0 ∷ v.b.0 ∷ v.i.0 ∷ command_bound_in body

-- a handler's variables and its body: each variable has a number of its own, below a bound
pub record IsFine (P : Parts) (from : ℕ) (v : PacketVars) (body : Command) : Type 0 where
  pub distinct : AreDistinct (numbers v body)
  pub below : (n : ℕ) → IsIn n (numbers v body) → n < from
  pub command : IsCommandIn P (packet_scope v) body

module _ (P : Parts) (from : ℕ) (v : PacketVars) (body : Command) (fine : IsFine P from v body) where
  body_new : AreNew (packet_scope v) (command_bound_in body)
  body_new = AreNew-binds (scope_binds v) no_scope (command_bound_in body) (AreNew-none (numbers v body) fine.distinct)

  pub vars_in_scope : AreInScope (scope_binds v) (packet_scope v)
  vars_in_scope = AreInScope-binds [] (scope_binds v) no_scope (command_bound_in body) (AreNew-none (numbers v body) fine.distinct) (AreInScope-none no_scope)

  have_packet_sorts : HaveSortsIn (signature P) (packet_scope v) packet_sorts (terms_of v)
  unfolding HaveSortsIn
  have_packet_sorts = (
    vars_in_scope (bind v.s Sw) (in_contains (scope_binds v) (bind v.s Sw) (inl refl)),
    (
      vars_in_scope (bind v.a Ho) (in_contains (scope_binds v) (bind v.a Ho) (inr (inl refl))),
      (vars_in_scope (bind v.b Ho) (in_contains (scope_binds v) (bind v.b Ho) (inr (inr (inl refl)))), (vars_in_scope (bind v.i Pr) (in_contains (scope_binds v) (bind v.i Pr) (inr (inr (inr (inl refl))))), tt)),
    ),
  )

  -- a number from the bound on is not in scope
  far_none : (n : ℕ) → from ≤ n → packet_scope v n ≡ None
  far_none n far =
      let other : (m : ℕ) → IsIn m (numbers v body) → n ≡ m → ⊥ = λ m i is. (let b = fine.below m i in omega (arith, b, is, far)) in
      still_none (with_sort (with_sort (with_sort no_scope v.s Sw) v.a Ho) v.b Ho) v.i Pr n (other v.i.0 (inr (inr (inr (inl refl)))))
      (still_none (with_sort (with_sort no_scope v.s Sw) v.a Ho) v.b Ho n (other v.b.0 (inr (inr (inl refl))))
      (still_none (with_sort no_scope v.s Sw) v.a Ho n (other v.a.0 (inr (inl refl))) (still_none no_scope v.s Sw n (other v.s.0 (inl refl)) refl)))

  far_not_bound : (n : ℕ) → from ≤ n → IsIn n (command_bound_in body) → ⊥
  far_not_bound n far i = let b = fine.below n (inr (inr (inr (inr i)))) in omega (arith, b, far)

  apart_test : (m n : ℕ) → (m ≡ n → ⊥) → (m == n) ≡ false
  apart_test m n other = ne_eqb m n other

  reads_packet : (M : Structure) (s a b i : ℕ) → values M (for_vars v s a b i) (terms_of v) ≡ s ∷ a ∷ b ∷ i ∷ []
  reads_packet M s a b i =
      let d = fine.distinct in
      let s_a : (v.s.0 == v.a.0) ≡ false = apart_test _ _ (λ is. d.0 (inl is)) in
      let s_b : (v.s.0 == v.b.0) ≡ false = apart_test _ _ (λ is. d.0 (inr (inl is))) in
      let s_i : (v.s.0 == v.i.0) ≡ false = apart_test _ _ (λ is. d.0 (inr (inr (inl is)))) in
      let a_b : (v.a.0 == v.b.0) ≡ false = apart_test _ _ (λ is. d.1.0 (inl is)) in
      let a_i : (v.a.0 == v.i.0) ≡ false = apart_test _ _ (λ is. d.1.0 (inr (inl is))) in
      let b_i : (v.b.0 == v.i.0) ≡ false = apart_test _ _ (λ is. d.1.1.0 (inl is)) in
      rw (s_i, s_b, s_a, self_equal v.s.0, a_i, a_b, self_equal v.a.0, b_i, self_equal v.b.0, self_equal v.i.0)

  keeps_sorts : (N : Network) (x : State) (s a b i : ℕ) → Contains N.switches s → Contains N.hosts a → Contains N.hosts b → Contains N.ports i → KeepsSorts (in_state P N x) (packet_scope v) (for_vars v s a b i)
  keeps_sorts N x s a b i in_s in_a in_b in_i =
      let M = in_state P N x in
      KeepsSorts-with M _ _ v.i Pr i (KeepsSorts-with M _ _ v.b Ho b (KeepsSorts-with M _ _ v.a Ho a (KeepsSorts-with M no_scope no_values v.s Sw s (KeepsSorts-none M no_values) in_s) in_a) in_b) in_i

-- each handler is fine
abbrev pub AllFine : Parts → ℕ → List Handler → Type 0
AllFine P from [] = Unit {0}
AllFine P from (h ∷ hs) = IsFine P from (handler_vars h) h.body × AllFine P from hs

-- the last member's variables
pub last_fine : (P : Parts) (from : ℕ) → 4 ≤ from → IsFine P from first_vars Skip
unfolding IsCommandIn command_bound_in
last_fine P from four = record {
  distinct = (
    (λ i. elim i [ inl is ↦ (let e : 0 ≡ 1 = is in omega (arith, e)) | inr more ↦ (elim more [ inl is ↦ (let e : 0 ≡ 2 = is in omega (arith, e)) | inr rest ↦ (elim rest [ inl is ↦ (let e : 0 ≡ 3 = is in omega (arith, e)) | inr none ↦ absurd none ]) ]) ]),
    (
      (λ i. elim i [ inl is ↦ (let e : 1 ≡ 2 = is in omega (arith, e)) | inr more ↦ (elim more [ inl is ↦ (let e : 1 ≡ 3 = is in omega (arith, e)) | inr none ↦ absurd none ]) ]),
      ((λ i. elim i [ inl is ↦ (let e : 2 ≡ 3 = is in omega (arith, e)) | inr none ↦ absurd none ]), ((λ none. absurd none), tt)),
    ),
  );
  below = λ n i. elim i [ inl is ↦ omega (arith, is, four) | inr more ↦ (elim more [ inl is ↦ omega (arith, is, four) | inr rest ↦ (elim rest [ inl is ↦ omega (arith, is, four) | inr end ↦ (elim end [ inl is ↦ omega (arith, is, four) | inr none ↦ absurd none ]) ]) ]) ];
  command = tt;
}

-- the formula once the packet is fixed, and the precondition of the body

module _ (P : Parts) (from : ℕ) (v : PacketVars) (body : Command) (fine : IsFine P from v body) (q : Formula) (sorted : IsSortedIn (signature P) any_relation no_scope q) where
  out_of_it : BindsOutside (vars_of (terms_of v)) (renumber q from)
  out_of_it = binds_outside (vars_of (terms_of v)) (renumber q from)
      (λ n i. terms_not (signature P) (packet_scope v) n (far_none P from v body fine n (bound_in-renumbered q (λ w. w) from n i)) packet_sorts (terms_of v) (have_packet_sorts P from v body fine))

  fixed_sorted : IsSortedIn (signature P) no_rcv_this (packet_scope v) (fix_packet (renumber q from) (terms_of v))
  fixed_sorted = IsSortedIn-fix_packet (signature P) any_relation (terms_of v) (packet_scope v) (renumber q from) (have_packet_sorts P from v body fine) out_of_it
      (IsSortedIn-more (signature P) any_relation any_relation (λ r named. tt) no_scope (packet_scope v) (Extends-none (packet_scope v)) (renumber q from) (IsSortedIn-renumber (signature P) any_relation q from sorted))

  fixed_far : (n : ℕ) → IsIn n (bound_in (fix_packet (renumber q from) (terms_of v))) → from ≤ n
  fixed_far n i = bound_in-renumbered q (λ w. w) from n (subst (λ ns. IsIn n ns) (bound_in-replace (is_row (terms_of v)) (bound_in-is_row (terms_of v)) (renumber q from)) i)

  fixed_follows : MayFollow P no_rcv_this (packet_scope v) body (fix_packet (renumber q from) (terms_of v))
  fixed_follows = record {
    sorted = fixed_sorted;
    outside = λ n i. not_standing P body (packet_scope v) n fine.command (far_none P from v body fine n (fixed_far n i)) (far_not_bound P from v body fine n (fixed_far n i));
    apart = λ n i j. far_not_bound P from v body fine n (fixed_far n i) j;
  }

  pub before_sorted : IsSortedIn (signature P) no_rcv_this (packet_scope v) (wp body (fix_packet (renumber q from) (terms_of v)))
  before_sorted = IsSortedIn-wp P no_rcv_this (λ r named. named) body (fix_packet (renumber q from) (terms_of v)) (packet_scope v) fine.command (body_new P from v body fine) fixed_follows

-- the packet, and the formula after an event

module _ (P : Parts) (N : Network) where
  packet_at : (x : State) (s a b i : ℕ) (q : Pred) (ds : List ℕ) → cond (same_pred q RcvThis) (same_cells ds (s ∷ a ∷ b ∷ i ∷ [])) (holds_in P N x Nothing q ds) ≡ holds_in P N x (At s a b i) q ds
  packet_at x s a b i (Stored n) ds = refl
  packet_at x s a b i Ft ds = refl
  packet_at x s a b i Sent ds = refl
  packet_at x s a b i RcvThis ds = refl

  pub packet_is : (x : State) (s a b i : ℕ) → with_packet (structure P N x Nothing) (s ∷ a ∷ b ∷ i ∷ []) ≡ structure P N x (At s a b i)
  packet_is x s a b i = ap (with_relations (structure P N x Nothing)) (fun_ext (λ q. fun_ext (λ ds. packet_at x s a b i q ds)))

  module _ (q : Formula) (sorted : IsSortedIn (signature P) any_relation no_scope q) where
    -- what the formula says once the event is over
    unfoldable pub after : State → ℕ → ℕ → ℕ → ℕ → Bool
    after y s a b i = truth (structure P N y (At s a b i)) q no_values

    pub no_free : (v : ℕ) → IsFalse (free_in q v)
    no_free v = not_free (signature P) any_relation no_scope v refl q sorted

    -- a sentence has one truth under all assignments
    pub sentence_alike : (M : Structure) (d : Assignment) → truth M q d ≡ truth M q no_values
    sentence_alike M d = truth_alike (signature P) any_relation M M.holds (λ r cells named. refl) no_scope q d no_values sorted (λ v s is. absurd (none-some s is))

    -- the formula with new numbers, once its packet is fixed
    pub fixed_is : (from : ℕ) (y : State) (ts : List Term) (d : Assignment) (s a b i : ℕ) (Γ : Scope) → HaveSortsIn (signature P) Γ packet_sorts ts → BindsOutside (vars_of ts) (renumber q from) → values (structure P N y Nothing) d ts ≡ s ∷ a ∷ b ∷ i ∷ [] →
        truth (structure P N y Nothing) (fix_packet (renumber q from) ts) d ≡ after y s a b i
    unfolding after
    fixed_is from y ts d s a b i Γ have out reads =
        let anew = renumber q from in
        let anew_sorted = IsSortedIn-renumber (signature P) any_relation q from sorted in
        truth-fix_packet (structure P N y Nothing) ts d anew (fits_row P N any_relation RcvThis packet_sorts (length ts) refl (HaveSortsIn-length (signature P) Γ packet_sorts ts have) no_scope no_scope anew anew_sorted) out
        ∙ ap (λ cells. truth (with_packet (structure P N y Nothing) cells) anew d) reads
        ∙ ap (λ M. truth M anew d) (packet_is y s a b i)
        ∙ truth-renumber (structure P N y (At s a b i)) q from d (λ v free. absurd (true≢false (sym free ∙ no_free v)))
        ∙ sentence_alike (structure P N y (At s a b i)) d

    -- one member

    module _ (network : IsNetwork P N) (from : ℕ) (v : PacketVars) (body : Command) (fine : IsFine P from v body) where
      abbrev fixed : Formula
      fixed = fix_packet (renumber q from) (terms_of v)

      abbrev Γ : Scope
      Γ = packet_scope v

      module _ (x : State) where
        abbrev M : Structure
        M = structure P N x Nothing

        runs : (s a b i : ℕ) → Contains N.switches s → Contains N.hosts a → Contains N.hosts b → Contains N.ports i → IsExact P N body fixed (for_vars v s a b i) x
        runs s a b i in_s in_a in_b in_i =
            exact P N network no_rcv_this (λ r named. named) body fixed Γ fine.command (body_new P from v body fine) (fixed_follows P from v body fine q sorted) (for_vars v s a b i) x (keeps_sorts P from v body fine N x s a b i in_s in_a in_b in_i)

        ends : (y : State) (s a b i : ℕ) → truth (structure P N y Nothing) fixed (for_vars v s a b i) ≡ after y s a b i
        ends y s a b i = fixed_is from y (terms_of v) (for_vars v s a b i) s a b i Γ (have_packet_sorts P from v body fine) (out_of_it P from v body fine q sorted) (reads_packet P from v body fine (structure P N y Nothing) s a b i)

        -- what the member says
        unfoldable pub Arrives : List ℕ → Option ℕ → Type 0
        Arrives earlier port = (s a b i : ℕ) → Contains N.switches s → Contains N.hosts a → Contains N.hosts b → Contains N.ports i → IsTrue (passes earlier port i) →
            (y : State) → Executes P N body (for_vars v s a b i) x y → IsTrue (after y s a b i)

        inside : (earlier : List ℕ) (port : Option ℕ) (s a b i : ℕ) → truth M (guarded (guard earlier port v.i) (wp body fixed)) (for_vars v s a b i) ≡ (not (passes earlier port i) || truth M (wp body fixed) (for_vars v s a b i))
        inside earlier port s a b i =
            let d = for_vars v s a b i in
            let is_port : d v.i.0 ≡ i = rw (self_equal v.i.0) in
            truth-guarded M d (guard earlier port v.i) (wp body fixed) ∙ ap (λ b. not b || truth M (wp body fixed) d) (truth-guard M d earlier port v.i ∙ ap (passes earlier port) is_port)

        pub member_kept : (earlier : List ℕ) (port : Option ℕ) → IsTrue (truth M (member earlier v port body (renumber q from)) no_values) → Arrives earlier port
        unfolding truth Arrives member
        member_kept earlier port true_of s a b i in_s in_a in_b in_i passed y run =
            sym (ends y s a b i) ∙ (runs s a b i in_s in_a in_b in_i).0
            (implied _ _ (sym (inside earlier port s a b i) ∙ all_at _ N.ports i in_i (all_at _ N.hosts b in_b (all_at _ N.hosts a in_a (all_at _ N.switches s in_s true_of)))) passed) y run

        -- what comes of it where it is false
        unfoldable pub Arrived : List ℕ → Option ℕ → Type 0
        Arrived earlier port = (s : ℕ) × (a : ℕ) × (b : ℕ) × (i : ℕ) × Contains N.switches s × Contains N.hosts a × Contains N.hosts b × Contains N.ports i × IsTrue (passes earlier port i) ×
            (y : State) × Executes P N body (for_vars v s a b i) x y × (after y s a b i ≡ false)

        pub member_breaks : (earlier : List ℕ) (port : Option ℕ) → truth M (member earlier v port body (renumber q from)) no_values ≡ false → Arrived earlier port
        unfolding truth Arrived member
        member_breaks earlier port h =
            let s = failing _ N.switches h in
            let a = failing _ N.hosts s.2 in
            let b = failing _ N.hosts a.2 in
            let i = failing _ N.ports b.2 in
            let sides = not_implied (passes earlier port i.0) (truth M (wp body fixed) (for_vars v s.0 a.0 b.0 i.0)) (sym (inside earlier port s.0 a.0 b.0 i.0) ∙ i.2) in
            let end = (runs s.0 a.0 b.0 i.0 s.1 a.1 b.1 i.1).1 sides.1 in
            (s.0, a.0, b.0, i.0, s.1, a.1, b.1, i.1, sides.0, end.0, end.1, sym (ends end.0 s.0 a.0 b.0 i.0) ∙ end.2)

    -- all members

    module _ (network : IsNetwork P N) (from : ℕ) (four : 4 ≤ from) (x : State) where
      -- what the members say together
      unfoldable pub Fits : List Handler → List ℕ → Type 0
      Fits hs earlier = (s a b i : ℕ) → Contains N.switches s → Contains N.hosts a → Contains N.hosts b → Contains N.ports i → IsTrue (not_among earlier i) →
          (y : State) → Handles P N (first_fit hs i) s a b i x y → IsTrue (after y s a b i)

      unfoldable pub say : List Handler → List ℕ → Bool
      say hs earlier = truth (structure P N x Nothing) (members hs earlier (renumber q from)) no_values

      pub members_kept : (hs : List Handler) → AllFine P from hs → (earlier : List ℕ) → IsTrue (say hs earlier) → Fits hs earlier
      unfolding say Fits Arrives Executes truth members
      members_kept [] fine earlier t = λ s a b i in_s in_a in_b in_i left y run.
          member_kept network from first_vars Skip (last_fine P from four) x earlier None t s a b i in_s in_a in_b in_i (and_from (not_among earlier i) true left refl) y run
      members_kept (h ∷ hs) fine earlier t = go (λ ks. members_kept hs fine.1 ks) h.port refl t
        where
          this : Option ℕ → Bool
          this port = truth (structure P N x Nothing) (member earlier (handler_vars h) port h.body (renumber q from)) no_values

          go : ((ks : List ℕ) → IsTrue (say hs ks) → Fits hs ks) → (port : Option ℕ) → h.port ≡ port →
              IsTrue (truth (structure P N x Nothing) (and_later port earlier (member earlier (handler_vars h) port h.body (renumber q from)) (λ ks. members hs ks (renumber q from))) no_values) →
              (s a b i : ℕ) → Contains N.switches s → Contains N.hosts a → Contains N.hosts b → Contains N.ports i → IsTrue (not_among earlier i) →
              (y : State) → Handles P N (if fits port i then Some h else first_fit hs i) s a b i x y → IsTrue (after y s a b i)
          go later None is t s a b i in_s in_a in_b in_i left y run =
              member_kept network from (handler_vars h) h.body fine.0 x earlier None t s a b i in_s in_a in_b in_i (and_from (not_among earlier i) true left refl) y run
          go later (Some k) is t s a b i in_s in_a in_b in_i left y run = by_port (i == k) refl run
            where
              both : IsTrue (this (Some k)) × IsTrue (say hs (earlier ++ k ∷ []))
              both = and_parts (this (Some k)) (say hs (earlier ++ k ∷ [])) t

              by_port : (fitting : Bool) → (i == k) ≡ fitting → Handles P N (if fitting then Some h else first_fit hs i) s a b i x y → IsTrue (after y s a b i)
              by_port true fitting run =
                  member_kept network from (handler_vars h) h.body fine.0 x earlier (Some k) both.0 s a b i in_s in_a in_b in_i (and_from (not_among earlier i) (i == k) left fitting) y run
              by_port false other run =
                  later (earlier ++ k ∷ []) both.1 s a b i in_s in_a in_b in_i (not_among-push earlier k i ∙ and_from (not_among earlier i) (not (i == k)) left (ap not other)) y run

      -- a packet that they are false of
      unfoldable pub FalseOf : List Handler → List ℕ → Type 0
      FalseOf hs earlier = (s : ℕ) × (a : ℕ) × (b : ℕ) × (i : ℕ) × Contains N.switches s × Contains N.hosts a × Contains N.hosts b × Contains N.ports i × IsTrue (not_among earlier i) ×
          (y : State) × Handles P N (first_fit hs i) s a b i x y × (after y s a b i ≡ false)

      pub members_break : (hs : List Handler) → AllFine P from hs → (earlier : List ℕ) → say hs earlier ≡ false → FalseOf hs earlier
      unfolding say FalseOf Arrived Executes truth members
      members_break [] fine earlier f =
          let (s, a, b, i, in_s, in_a, in_b, in_i, passed, y, run, isnt) = member_breaks network from first_vars Skip (last_fine P from four) x earlier None f in
          (s, a, b, i, in_s, in_a, in_b, in_i, (and_parts (not_among earlier i) true passed).0, y, run, isnt)
      members_break (h ∷ hs) fine earlier f = go (λ ks. members_break hs fine.1 ks) h.port refl f
        where
          go : ((ks : List ℕ) → say hs ks ≡ false → FalseOf hs ks) → (port : Option ℕ) → h.port ≡ port →
              truth (structure P N x Nothing) (and_later port earlier (member earlier (handler_vars h) port h.body (renumber q from)) (λ ks. members hs ks (renumber q from))) no_values ≡ false →
              (s : ℕ) × (a : ℕ) × (b : ℕ) × (i : ℕ) × Contains N.switches s × Contains N.hosts a × Contains N.hosts b × Contains N.ports i × IsTrue (not_among earlier i) ×
              (y : State) × Handles P N (if fits port i then Some h else first_fit hs i) s a b i x y × (after y s a b i ≡ false)
          go later None is f =
              let (s, a, b, i, in_s, in_a, in_b, in_i, passed, y, run, isnt) = member_breaks network from (handler_vars h) h.body fine.0 x earlier None f in
              (s, a, b, i, in_s, in_a, in_b, in_i, (and_parts (not_among earlier i) true passed).0, y, run, isnt)
          go later (Some k) is f =
              elim (false_side (truth (structure P N x Nothing) (member earlier (handler_vars h) (Some k) h.body (renumber q from)) no_values) (say hs (earlier ++ k ∷ [])) f) [
                | inl mine ↦ (
                    let (s, a, b, i, in_s, in_a, in_b, in_i, passed, y, run, isnt) = member_breaks network from (handler_vars h) h.body fine.0 x earlier (Some k) mine in
                    let both = and_parts (not_among earlier i) (i == k) passed in
                    let fitting : (i == k) ≡ true = both.1 in
                    (s, a, b, i, in_s, in_a, in_b, in_i, both.0, y, (rw fitting run), isnt))
                | inr rest ↦ (
                    let (s, a, b, i, in_s, in_a, in_b, in_i, left, y, run, isnt) = later (earlier ++ k ∷ []) rest.1 in
                    let both = and_parts (not_among earlier i) (not (i == k)) (sym (not_among-push earlier k i) ∙ left) in
                    let other : (i == k) ≡ false = not-true (i == k) both.1 in
                    (s, a, b, i, in_s, in_a, in_b, in_i, both.0, y, (rw other run), isnt))
              ]
