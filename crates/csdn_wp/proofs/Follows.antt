-- What a command and the formula after it meet, where the precondition is exact.
use Rattle.std.proofs.Common.{◌≡◌, inl, inr, ℕ, ◌||◌, List, ◌++◌, None, refl, ap, sym, ◌∙◌, IsFalse}
use Rattle.std.proofs.lemmas.Bool.{or_from, or_parts}
use Rattle.csdn_core.specs.declared.terms.VarId.{VarId}
use Rattle.csdn_core.specs.declared.terms.Sort.{Sort}
use Rattle.csdn_core.specs.declared.terms.Term.{Term}
use Rattle.csdn_core.specs.declared.terms.Pred.{Pred}
use Rattle.csdn_core.specs.declared.terms.Pred.TheVariants.{Stored, Ft, Sent}
use Rattle.csdn_core.specs.declared.program.Parts.{Parts}
use Rattle.csdn_core.specs.declared.syntax.Formula.{Formula}
use Rattle.csdn_core.specs.declared.syntax.Command.{Command}
use Rattle.csdn_core.specs.declared.syntax.Command.TheVariants.{Skip, Insert, Remove, Install, Uninstall, Forward, Flood}
use Rattle.csdn_core.specs.Tree.{sequence, conditional, choice}
use Rattle.csdn_core.specs.Network.{is_fixed}
use Rattle.csdn_core.specs.Variables.{vars_of, BindsOutside, free_in}
use Rattle.csdn_core.specs.Sorted.{bound_in, flow_sorts, packet_sorts}
use Rattle.csdn_core.specs.WellSorted.{signature, command_bound_in}
use Rattle.csdn_wp.specs.After.{stands_in}
use Rattle.csdn_wp.specs.Preconditions.{wp}
use Rattle.csdn_wp.proofs.Bounds.{bound_in-wp}
use Rattle.csdn_wp.proofs.Sorting.{IsSortedIn-more, Extends-new, terms_not, not_free}
use Rattle.csdn_wp.proofs.Sorted.{IsSortedIn-add_row, IsSortedIn-drop_row, IsSortedIn-add_flood}
use Rattle.csdn_core.proofs.Members.{in_left, in_right, distinct_both}
use Rattle.csdn_core.specs.Members.{IsIn}
use Rattle.csdn_core.specs.SortedIn.{Scope, with_sort, Relations, no_rcv_this, HaveSortsIn, IsAtomIn, IsSortedIn}
use Rattle.csdn_core.proofs.Scopes.{AreNew, AreNew-left, AreNew-right, AreNew-under, AreNew-tail, still_none}
use Rattle.fol_forms.proofs.Expired.{binds_outside}

module _ (P : Parts) where
  -- a command whose terms have the sorts that their places ask for, and which writes no static relation
  unfoldable pub IsCommandIn : Scope → Command → Type 0
  IsCommandIn Γ Skip = Unit {0}
  IsCommandIn Γ (sequence a b) = IsCommandIn Γ a × IsCommandIn Γ b
  IsCommandIn Γ (conditional p a b) = IsSortedIn (signature P) no_rcv_this Γ p × IsCommandIn Γ a × IsCommandIn Γ b
  IsCommandIn Γ (choice v s p a b) = IsSortedIn (signature P) no_rcv_this (with_sort Γ v s) p × IsCommandIn (with_sort Γ v s) a × IsCommandIn Γ b
  IsCommandIn Γ (Insert r ts) = IsFalse (is_fixed P r.0) × IsAtomIn (signature P) Γ (Stored r) ts
  IsCommandIn Γ (Remove r ts) = IsFalse (is_fixed P r.0) × IsAtomIn (signature P) Γ (Stored r) ts
  IsCommandIn Γ (Install ts) = HaveSortsIn (signature P) Γ flow_sorts ts
  IsCommandIn Γ (Uninstall ts) = HaveSortsIn (signature P) Γ flow_sorts ts
  IsCommandIn Γ (Forward ts) = HaveSortsIn (signature P) Γ flow_sorts ts
  IsCommandIn Γ (Flood ts) = HaveSortsIn (signature P) Γ packet_sorts ts

  -- the formula may stand after the command
  pub record MayFollow (R : Relations) (Γ : Scope) (c : Command) (q : Formula) : Type 0 where
    pub sorted : IsSortedIn (signature P) R Γ q
    pub outside : (n : ℕ) → IsIn n (bound_in q) → IsFalse (stands_in c n)
    pub apart : (n : ℕ) → IsIn n (bound_in q) → IsIn n (command_bound_in c) → ⊥

  -- what may follow a command may follow its parts
  follows_part : (R : Relations) (Γ : Scope) (a c : Command) (q : Formula) → ((n : ℕ) → IsFalse (stands_in c n) → IsFalse (stands_in a n)) → ((n : ℕ) → IsIn n (command_bound_in a) → IsIn n (command_bound_in c))
      → MayFollow R Γ c q → MayFollow R Γ a q
  follows_part R Γ a c q fewer part may = record { sorted = may.sorted; outside = λ n i. fewer n (may.outside n i); apart = λ n i j. may.apart n i (part n j) }

  pub follows_second : (R : Relations) (Γ : Scope) (a b : Command) (q : Formula) → MayFollow R Γ (sequence a b) q → MayFollow R Γ b q
  unfolding stands_in command_bound_in
  follows_second R Γ a b q = follows_part R Γ b (sequence a b) q (λ n out. (or_parts (stands_in a n) (stands_in b n) out).1) (in_right (command_bound_in a) (command_bound_in b))

  pub follows_then : (R : Relations) (Γ : Scope) (p : Formula) (a b : Command) (q : Formula) → MayFollow R Γ (conditional p a b) q → MayFollow R Γ a q
  unfolding stands_in command_bound_in
  follows_then R Γ p a b q = follows_part R Γ a (conditional p a b) q
      (λ n out. (or_parts (stands_in a n) (stands_in b n) (or_parts (free_in p n) (stands_in a n || stands_in b n) out).1).0)
      (λ n i. in_right (bound_in p) _ n (in_left (command_bound_in a) (command_bound_in b) n i))

  pub follows_else : (R : Relations) (Γ : Scope) (p : Formula) (a b : Command) (q : Formula) → MayFollow R Γ (conditional p a b) q → MayFollow R Γ b q
  unfolding stands_in command_bound_in
  follows_else R Γ p a b q = follows_part R Γ b (conditional p a b) q
      (λ n out. (or_parts (stands_in a n) (stands_in b n) (or_parts (free_in p n) (stands_in a n || stands_in b n) out).1).1)
      (λ n i. in_right (bound_in p) _ n (in_right (command_bound_in a) (command_bound_in b) n i))

  pub follows_none : (R : Relations) (Γ : Scope) (v : VarId) (s : Sort) (p : Formula) (a b : Command) (q : Formula) → MayFollow R Γ (choice v s p a b) q → MayFollow R Γ b q
  unfolding stands_in command_bound_in
  follows_none R Γ v s p a b q = follows_part R Γ b (choice v s p a b) q
      (λ n out. (or_parts (stands_in a n) (stands_in b n) (or_parts (free_in p n) (stands_in a n || stands_in b n) out).1).1)
      (λ n i. inr (in_right (bound_in p) _ n (in_right (command_bound_in a) (command_bound_in b) n i)))

  -- once the variable is picked
  pub follows_picked : (R : Relations) (Γ : Scope) (v : VarId) (s : Sort) (p : Formula) (a b : Command) (q : Formula) → Γ v.0 ≡ None → MayFollow R Γ (choice v s p a b) q → MayFollow R (with_sort Γ v s) a q
  unfolding stands_in command_bound_in
  follows_picked R Γ v s p a b q new may = record {
    sorted = IsSortedIn-more (signature P) R R (λ r h. h) Γ (with_sort Γ v s) (Extends-new Γ v s new) q may.sorted;
    outside = λ n i. (or_parts (stands_in a n) (stands_in b n) (or_parts (free_in p n) (stands_in a n || stands_in b n) (may.outside n i)).1).0;
    apart = λ n i j. may.apart n i (inr (in_right (bound_in p) _ n (in_left (command_bound_in a) (command_bound_in b) n j)));
  }

  -- what stands in a command is in scope, or bound by it
  pub not_standing : (c : Command) (Γ : Scope) (n : ℕ) → IsCommandIn Γ c → Γ n ≡ None → (IsIn n (command_bound_in c) → ⊥) → IsFalse (stands_in c n)
  unfolding IsCommandIn stands_in command_bound_in
  not_standing Skip Γ n formed none other = refl
  not_standing (sequence a b) Γ n formed none other =
      or_from (stands_in a n) (stands_in b n) (not_standing a Γ n formed.0 none (λ i. other (in_left (command_bound_in a) (command_bound_in b) n i)))
      (not_standing b Γ n formed.1 none (λ i. other (in_right (command_bound_in a) (command_bound_in b) n i)))
  not_standing (conditional p a b) Γ n formed none other =
      or_from (free_in p n) (stands_in a n || stands_in b n) (not_free (signature P) no_rcv_this Γ n none p formed.0)
      (or_from (stands_in a n) (stands_in b n) (not_standing a Γ n formed.1 none (λ i. other (in_right (bound_in p) _ n (in_left (command_bound_in a) (command_bound_in b) n i))))
      (not_standing b Γ n formed.2 none (λ i. other (in_right (bound_in p) _ n (in_right (command_bound_in a) (command_bound_in b) n i)))))
  not_standing (choice v s p a b) Γ n formed none other =
      let still = still_none Γ v s n (λ is. other (inl is)) none in
      or_from (free_in p n) (stands_in a n || stands_in b n) (not_free (signature P) no_rcv_this (with_sort Γ v s) n still p formed.0)
      (or_from (stands_in a n) (stands_in b n) (not_standing a (with_sort Γ v s) n formed.1 still (λ i. other (inr (in_right (bound_in p) _ n (in_left (command_bound_in a) (command_bound_in b) n i)))))
      (not_standing b Γ n formed.2 none (λ i. other (inr (in_right (bound_in p) _ n (in_right (command_bound_in a) (command_bound_in b) n i))))))
  not_standing (Insert r ts) Γ n formed none other = terms_not (signature P) Γ n none formed.1.sorts ts formed.1.terms
  not_standing (Remove r ts) Γ n formed none other = terms_not (signature P) Γ n none formed.1.sorts ts formed.1.terms
  not_standing (Install ts) Γ n formed none other = terms_not (signature P) Γ n none flow_sorts ts formed
  not_standing (Uninstall ts) Γ n formed none other = terms_not (signature P) Γ n none flow_sorts ts formed
  not_standing (Forward ts) Γ n formed none other = terms_not (signature P) Γ n none flow_sorts ts formed
  not_standing (Flood ts) Γ n formed none other = terms_not (signature P) Γ n none packet_sorts ts formed

  -- the numbers that the parts bind
  pub new_then : (Γ : Scope) (xs ms ns : List ℕ) → AreNew Γ (xs ++ (ms ++ ns)) → AreNew Γ ms
  new_then Γ xs ms ns own = AreNew-left Γ ms ns (AreNew-right Γ xs (ms ++ ns) own)

  pub new_else : (Γ : Scope) (xs ms ns : List ℕ) → AreNew Γ (xs ++ (ms ++ ns)) → AreNew Γ ns
  new_else Γ xs ms ns own = AreNew-right Γ ms ns (AreNew-right Γ xs (ms ++ ns) own)

  module _ (R : Relations) (names : (r : Pred) → no_rcv_this r → R r) where
    weaker : (Γ : Scope) (p : Formula) → IsSortedIn (signature P) no_rcv_this Γ p → IsSortedIn (signature P) R Γ p
    weaker Γ p sorted = IsSortedIn-more (signature P) no_rcv_this R names Γ Γ (λ v s is. is) p sorted

    -- what follows the first command of a sequence, once the second one's precondition is well-sorted
    pub follows_first : (Γ : Scope) (a b : Command) (q : Formula) → IsCommandIn Γ a → AreNew Γ (command_bound_in a ++ command_bound_in b) → MayFollow R Γ (sequence a b) q
        → IsSortedIn (signature P) R Γ (wp b q) → MayFollow R Γ a (wp b q)
    unfolding stands_in command_bound_in
    follows_first Γ a b q formed own may sorted = record {
      sorted = sorted;
      outside = λ n i. elim (bound_in-wp b q n i) [
        | inl here ↦
            not_standing a Γ n formed (own.new n (in_right (command_bound_in a) (command_bound_in b) n here)) (λ j. distinct_both (command_bound_in a) (command_bound_in b) n own.distinct j here)
        | inr after ↦ (or_parts (stands_in a n) (stands_in b n) (may.outside n after)).0
      ];
      apart = λ n i j. elim (bound_in-wp b q n i) [
        | inl here ↦ distinct_both (command_bound_in a) (command_bound_in b) n own.distinct j here
        | inr after ↦ may.apart n after (in_left (command_bound_in a) (command_bound_in b) n j)
      ];
    }

    -- no variable of the terms is bound in the formula
    pub outside_terms : (Γ : Scope) (c : Command) (q : Formula) (ts : List Term) → stands_in c ≡ vars_of ts → MayFollow R Γ c q → BindsOutside (vars_of ts) q
    outside_terms Γ c q ts is may = binds_outside (vars_of ts) q (λ n i. ap (λ s. s n) (sym is) ∙ may.outside n i)

    pub IsSortedIn-wp : (c : Command) (q : Formula) (Γ : Scope) → IsCommandIn Γ c → AreNew Γ (command_bound_in c) → MayFollow R Γ c q → IsSortedIn (signature P) R Γ (wp c q)
    unfolding wp IsCommandIn command_bound_in stands_in IsSortedIn
    IsSortedIn-wp Skip q Γ formed own may = may.sorted
    IsSortedIn-wp (sequence a b) q Γ formed own may =
        let after = IsSortedIn-wp b q Γ formed.1 (AreNew-right Γ (command_bound_in a) (command_bound_in b) own) (follows_second R Γ a b q may) in
        IsSortedIn-wp a (wp b q) Γ formed.0 (AreNew-left Γ (command_bound_in a) (command_bound_in b) own) (follows_first Γ a b q formed.0 own may after)
    IsSortedIn-wp (conditional p a b) q Γ formed own may =
        let in_p = weaker Γ p formed.0 in
        let in_a = IsSortedIn-wp a q Γ formed.1 (new_then Γ (bound_in p) (command_bound_in a) (command_bound_in b) own) (follows_then R Γ p a b q may) in
        let in_b = IsSortedIn-wp b q Γ formed.2 (new_else Γ (bound_in p) (command_bound_in a) (command_bound_in b) own) (follows_else R Γ p a b q may) in
        ((in_p, in_a), (in_p, in_b))
    IsSortedIn-wp (choice v s p a b) q Γ formed own may =
        let all = bound_in p ++ (command_bound_in a ++ command_bound_in b) in
        let in_p = weaker (with_sort Γ v s) p formed.0 in
        let in_a = IsSortedIn-wp a q (with_sort Γ v s) formed.1 (new_then (with_sort Γ v s) (bound_in p) (command_bound_in a) (command_bound_in b) (AreNew-under Γ v s all own)) (follows_picked R Γ v s p a b q (own.new v.0 (inl refl)) may) in
        let in_b = IsSortedIn-wp b q Γ formed.2 (new_else Γ (bound_in p) (command_bound_in a) (command_bound_in b) (AreNew-tail Γ v.0 all own)) (follows_none R Γ v s p a b q may) in
        ((in_p, in_a), (in_p, in_b))
    IsSortedIn-wp (Insert r ts) q Γ formed own may = IsSortedIn-add_row (signature P) R (Stored r) formed.1.sorts ts formed.1.declared Γ q formed.1.terms (outside_terms Γ (Insert r ts) q ts refl may) may.sorted
    IsSortedIn-wp (Remove r ts) q Γ formed own may = IsSortedIn-drop_row (signature P) R (Stored r) formed.1.sorts ts formed.1.declared Γ q formed.1.terms (outside_terms Γ (Remove r ts) q ts refl may) may.sorted
    IsSortedIn-wp (Install ts) q Γ formed own may = IsSortedIn-add_row (signature P) R Ft flow_sorts ts refl Γ q formed (outside_terms Γ (Install ts) q ts refl may) may.sorted
    IsSortedIn-wp (Uninstall ts) q Γ formed own may = IsSortedIn-drop_row (signature P) R Ft flow_sorts ts refl Γ q formed (outside_terms Γ (Uninstall ts) q ts refl may) may.sorted
    IsSortedIn-wp (Forward ts) q Γ formed own may = IsSortedIn-add_row (signature P) R Sent flow_sorts ts refl Γ q formed (outside_terms Γ (Forward ts) q ts refl may) may.sorted
    IsSortedIn-wp (Flood ts) q Γ formed own may = IsSortedIn-add_flood (signature P) R ts Γ q formed (outside_terms Γ (Flood ts) q ts refl may) may.sorted
