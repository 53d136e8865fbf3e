-- The preconditions of sentences are sentences.
use Rattle.std.proofs.Common.{◌≡◌, ◌≢◌, inl, inr, ℕ, ◌≤◌, Bool, true, false, List, [], ◌∷◌, ◌++◌, Option, Some, None, refl, ap, sym, subst, Contains, arith, true≢false}
use Rattle.std.specs.List.{flat_map}
use Rattle.csdn_core.specs.declared.terms.VarId.{VarId}
use Rattle.csdn_core.specs.declared.terms.Sort.TheVariants.{Pr}
use Rattle.csdn_core.specs.declared.terms.Pred.{Pred}
use Rattle.csdn_core.specs.declared.terms.Pred.TheVariants.{Stored, Ft, Sent, RcvThis}
use Rattle.csdn_core.specs.declared.terms.FormulaPlace.{FormulaPlace}
use Rattle.csdn_core.specs.declared.terms.FormulaPlace.TheVariants.{Trans}
use Rattle.csdn_core.specs.declared.event.Packet.{Packet}
use Rattle.csdn_core.specs.declared.event.Packet.TheVariants.{Nothing}
use Rattle.csdn_core.specs.declared.program.Parts.{Parts}
use Rattle.csdn_core.specs.declared.program.Handler.{Handler}
use Rattle.csdn_core.specs.declared.syntax.Formula.{Formula}
use Rattle.csdn_core.specs.declared.syntax.Command.{Command}
use Rattle.csdn_core.specs.declared.syntax.Command.TheVariants.{Skip}
use Rattle.csdn_core.specs.Tree.{negation}
use Rattle.csdn_core.specs.Truth.{Assignment, truth}
use Rattle.csdn_core.specs.Network.{Network, State, structure, holds_in}
use Rattle.csdn_core.specs.Numerals.{numerals_in, row_numerals, invariant_numerals, handler_numerals, port_numerals, command_numerals}
use Rattle.csdn_core.specs.Sorted.{IsAllowed, most_numbers}
use Rattle.csdn_core.specs.WellSorted.{IsSorted, IsWellSorted, signature}
use Rattle.fol_forms.specs.Renumber.{renumber}
use Rattle.csdn_wp.specs.declared.vars.PacketVars.{PacketVars}
use Rattle.csdn_wp.specs.EventPreconditions.{handler_vars, first_vars, is_port, and_also, guard, guarded, and_later, member, members, wp_in}
use Rattle.csdn_wp.proofs.Arrival.{IsFine, AllFine, scope_binds, packet_scope, vars_in_scope, before_sorted, last_fine}
use Rattle.csdn_wp.proofs.Sorting.{IsSortedIn-more}
use Rattle.csdn_wp.proofs.Scopes.{no_packet_in}
use Rattle.csdn_wp.proofs.Coincidence.{truth_alike}
use Rattle.csdn_wp.proofs.Programs.{handlers_fine}
use Rattle.csdn_core.proofs.Members.{in_left, in_right, in_both, in_flat, in_contains}
use Rattle.csdn_core.specs.Members.{IsIn}
use Rattle.csdn_core.specs.SortedIn.{Scope, no_scope, any_relation, no_rcv_this, IsSortedIn}
use Rattle.csdn_core.proofs.Scopes.{bind}

-- ---- what a guard says is well-sorted

module _ (P : Parts) (Γ : Scope) (i : VarId) (is_pr : Γ i.0 ≡ Some Pr) where
  -- a port that the program names
  abbrev IsNamed : ℕ → Type 0
  IsNamed k = Contains P.numerals k

  abbrev pub AreNamed : List ℕ → Type 0
  AreNamed ks = (k : ℕ) → IsIn k ks → Contains P.numerals k

  is_port_sorted : (k : ℕ) → Contains P.numerals k → IsSortedIn (signature P) no_rcv_this Γ (is_port i k)
  unfolding IsSortedIn
  is_port_sorted k named = (Pr, is_pr, (refl, named))

  guard_is_sorted : Option Formula → Type 0
  guard_is_sorted None = Unit {0}
  guard_is_sorted (Some g) = IsSortedIn (signature P) no_rcv_this Γ g

  also_sorted : (p : Formula) (g : Option Formula) → IsSortedIn (signature P) no_rcv_this Γ p → guard_is_sorted g → IsSortedIn (signature P) no_rcv_this Γ (and_also p g)
  unfolding IsSortedIn guard_is_sorted
  also_sorted p None sorted rest = sorted
  also_sorted p (Some g) sorted rest = (sorted, rest)

  guard_sorted : (ks : List ℕ) (port : Option ℕ) → ((k : ℕ) → IsIn k ks → Contains P.numerals k) → ((k : ℕ) → port ≡ Some k → Contains P.numerals k) → guard_is_sorted (guard ks port i)
  unfolding IsSortedIn guard_is_sorted
  guard_sorted [] None named own = tt
  guard_sorted [] (Some k) named own = is_port_sorted k (own k refl)
  guard_sorted (k ∷ ks) port named own = also_sorted (negation (is_port i k)) (guard ks port i) (is_port_sorted k (named k (inl refl))) (guard_sorted ks port (λ m j. named m (inr j)) own)

  guarded_sorted : (g : Option Formula) (p : Formula) → guard_is_sorted g → IsSortedIn (signature P) no_rcv_this Γ p → IsSortedIn (signature P) no_rcv_this Γ (guarded g p)
  unfolding IsSortedIn guard_is_sorted
  guarded_sorted None p sorted rest = rest
  guarded_sorted (Some g) p sorted rest = (sorted, rest)

-- ---- the members

module _ (P : Parts) (from : ℕ) (four : 4 ≤ from) (q : Formula) (sorted : IsSortedIn (signature P) any_relation no_scope q) where
  member_sorted : (ks : List ℕ) (v : PacketVars) (port : Option ℕ) (body : Command) → IsFine P from v body → ((k : ℕ) → IsIn k ks → Contains P.numerals k) → ((k : ℕ) → port ≡ Some k → Contains P.numerals k)
      → IsSortedIn (signature P) no_rcv_this no_scope (member ks v port body (renumber q from))
  unfolding member IsSortedIn
  member_sorted ks v port body fine named own =
      let is_pr : packet_scope v v.i.0 ≡ Some Pr = vars_in_scope P from v body fine (bind v.i Pr) (in_contains (scope_binds v) (bind v.i Pr) (inr (inr (inr (inl refl))))) in
      guarded_sorted P (packet_scope v) v.i is_pr (guard ks port v.i) _ (guard_sorted P (packet_scope v) v.i is_pr ks port named own) (before_sorted P from v body fine q sorted)

  and_later_sorted : (port : Option ℕ) (ks : List ℕ) (p : Formula) (later : List ℕ → Formula) → ((k : ℕ) → IsIn k ks → Contains P.numerals k) → ((k : ℕ) → port ≡ Some k → Contains P.numerals k) → IsSortedIn (signature P) no_rcv_this no_scope p
      → ((more : List ℕ) → ((k : ℕ) → IsIn k more → Contains P.numerals k) → IsSortedIn (signature P) no_rcv_this no_scope (later more)) → IsSortedIn (signature P) no_rcv_this no_scope (and_later port ks p later)
  unfolding IsSortedIn
  and_later_sorted None ks p later named own first rest = first
  and_later_sorted (Some k) ks p later named own first rest = (first, rest (ks ++ k ∷ []) (λ m i. elim (in_both ks (k ∷ []) m i) [ inl before ↦ named m before | inr here ↦ (elim here [ inl is ↦ subst (Contains P.numerals) (sym is) (own k refl) | inr none ↦ absurd none ]) ]))

  pub members_sorted : (hs : List Handler) → AllFine P from hs → ((h : Handler) → IsIn h hs → (k : ℕ) → h.port ≡ Some k → Contains P.numerals k) → (ks : List ℕ) → ((k : ℕ) → IsIn k ks → Contains P.numerals k)
      → IsSortedIn (signature P) no_rcv_this no_scope (members hs ks (renumber q from))
  unfolding members
  members_sorted [] fine ports ks named = member_sorted ks first_vars None Skip (last_fine P from four) named (λ k is. absurd (none_is_not k is))
    where
      none_is_not : (k : ℕ) → None ≡ Some k → ⊥
      none_is_not k is = true≢false (ap is_none is)
        where
          is_none : Option ℕ → Bool
          is_none None = true
          is_none (Some m) = false
  members_sorted (h ∷ hs) fine ports ks named =
      and_later_sorted h.port ks (member ks (handler_vars h) h.port h.body (renumber q from)) (λ more. members hs more (renumber q from)) named (ports h (inl refl))
      (member_sorted ks (handler_vars h) h.port h.body fine.0 named (ports h (inl refl))) (λ more also. members_sorted hs fine.1 (λ g i. ports g (inr i)) more also)

module _ (P : Parts) (well : IsWellSorted P) where
  -- a handler's port is a numeral
  port_named : (h : Handler) → IsIn h P.handlers → (k : ℕ) → h.port ≡ Some k → Contains P.numerals k
  port_named h there k is =
      let here : IsIn k (port_numerals h.port) = subst (λ port. IsIn k (port_numerals port)) (sym is) (inl refl) in
      let in_all : IsIn k (numerals_in P) =
      in_right (flat_map row_numerals P.start) _ k (in_right (flat_map invariant_numerals P.topology) _ k (in_right (flat_map invariant_numerals P.safety) _ k (in_right (flat_map invariant_numerals P.trans) _ k
      (in_flat handler_numerals P.handlers h k there (in_left (port_numerals h.port) (command_numerals h.body) k here))))) in
      (well.numerals_named k).1 (in_contains (numerals_in P) k in_all)

  pub in_sorted : (q : Formula) → IsSortedIn (signature P) any_relation no_scope q → IsSortedIn (signature P) no_rcv_this no_scope (wp_in P q)
  unfolding wp_in
  in_sorted q sorted = members_sorted P most_numbers (omega arith) q sorted P.handlers (handlers_fine P well) port_named [] (λ k none. absurd none)

-- ---- sentences of programs

module _ (P : Parts) (F : Formula) (place : FormulaPlace) (sorted : IsSorted (signature P) place F) where
  pub sentence_in : IsSortedIn (signature P) any_relation no_scope F
  sentence_in = IsSortedIn-more (signature P) (IsAllowed (signature P) place) any_relation (λ r allowed. tt) no_scope no_scope (λ v s is. is) F sorted.sorts

  pub quiet_in : place ≢ Trans → IsSortedIn (signature P) no_rcv_this no_scope F
  quiet_in other = no_packet_in (signature P) place other no_scope F sorted.sorts

-- ---- where no atom is of the packet, the packet isn't seen

module _ (P : Parts) (N : Network) (x : State) (packet : Packet) where
  holds-packet : (r : Pred) (cells : List ℕ) → no_rcv_this r → holds_in P N x packet r cells ≡ holds_in P N x Nothing r cells
  holds-packet (Stored r) cells other = refl
  holds-packet Ft cells other = refl
  holds-packet Sent cells other = refl
  holds-packet RcvThis cells other = absurd (true≢false other)

  pub truth-packet : (Γ : Scope) (p : Formula) (e : Assignment) → IsSortedIn (signature P) no_rcv_this Γ p → truth (structure P N x packet) p e ≡ truth (structure P N x Nothing) p e
  truth-packet Γ p e sorted = truth_alike (signature P) no_rcv_this (structure P N x packet) (holds_in P N x Nothing) holds-packet Γ p e e sorted (λ v s is. refl)
