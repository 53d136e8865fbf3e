-- The hypotheses and goals of conditions are sentences.
use Rattle.std.proofs.Common.{◌≡◌, ◌∙◌, sym, subst, refl, ℕ, zero, suc, ◌+◌, List, [], ◌∷◌, map, Option, Some, None}
use Rattle.std.specs.Prelude.{slice_get, slice_index_or, option_map}
use Rattle.std.specs.List.{flat_map, range_with_len}
use Rattle.std.proofs.lemmas.Option.{slice_get-map}
use Rattle.csdn_core.specs.declared.program.Parts.{Parts}
use Rattle.csdn_core.specs.declared.syntax.Formula.{Formula}
use Rattle.csdn_core.specs.declared.syntax.Formula.TheVariants.{True}
use Rattle.csdn_core.specs.WellSorted.{IsWellSorted, signature}
use Rattle.csdn_wp.proofs.Sorting.{IsSortedIn-more}
use Rattle.csdn_wp.proofs.Flow.{flow_sorted}
use Rattle.csdn_wp.proofs.Expiry.{expire_sorted}
use Rattle.csdn_wp.proofs.Sentences.{in_sorted}
use Rattle.csdn_conditions.specs.declared.lists.Join.TheVariants.{And}
use Rattle.csdn_conditions.specs.declared.kinds.EventKind.{EventKind}
use Rattle.csdn_conditions.specs.declared.kinds.EventKind.TheVariants.{PktIn, PktFlow, Expire}
use Rattle.csdn_conditions.specs.declared.kinds.CondKind.{CondKind}
use Rattle.csdn_conditions.specs.declared.kinds.CondKind.TheVariants.{Network, Init, Step, Trans}
use Rattle.csdn_conditions.specs.declared.sentence.Condition.{Condition}
use Rattle.csdn_conditions.specs.Kinds.{events, kinds}
use Rattle.csdn_conditions.specs.Conditions.{formulas, formula_at, after_event, after_events, all_after, hypothesis, conclusion, condition, conditions}
use Rattle.csdn_conditions.specs.Closed.{IsClosed}
use Rattle.csdn_conditions.proofs.ClosedParts.{AreSortedIn, joined_sorted, both_sorted, topology_sorted, safety_sorted, trans_sorted, start_closed}
use Rattle.csdn_core.specs.SortedIn.{no_scope, Relations, any_relation, no_rcv_this, IsSortedIn}

-- the formula of any number, of sorted ones
at_sorted : (P : Parts) (R : Relations) (ps : List Formula) (v : ℕ) → AreSortedIn P R no_scope ps → IsSortedIn (signature P) R no_scope (slice_index_or ps v True)
unfolding IsSortedIn
at_sorted P R [] v all = tt
at_sorted P R (p ∷ ps) zero all = all.0
at_sorted P R (p ∷ ps) (suc v) all = at_sorted P R ps v all.1

module _ (P : Parts) (well : IsWellSorted P) where
  -- a sentence may follow any event
  pub any_event : (q : Formula) → IsClosed P q → IsSortedIn (signature P) any_relation no_scope q
  any_event q closed = IsSortedIn-more (signature P) no_rcv_this any_relation (λ r named. tt) no_scope no_scope (λ v s is. is) q closed

  pub event_closed : (event : EventKind) (q : Formula) → IsSortedIn (signature P) any_relation no_scope q → IsClosed P (after_event P event q)
  event_closed PktIn q sorted = in_sorted P well q sorted
  event_closed PktFlow q sorted = flow_sorted P q sorted
  event_closed Expire q sorted = expire_sorted P q sorted

  after_each_closed : (es : List EventKind) (q : Formula) → IsSortedIn (signature P) any_relation no_scope q → AreSortedIn P no_rcv_this no_scope (map (λ event. after_event P event q) es)
  after_each_closed [] q sorted = tt
  after_each_closed (event ∷ es) q sorted = (event_closed event q sorted, after_each_closed es q sorted)

  pub events_closed : (k : ℕ) (q : Formula) → IsClosed P q → IsClosed P (after_events P k q)
  events_closed zero q closed = closed
  events_closed (suc k) q closed =
      joined_sorted P no_rcv_this no_scope And (map (λ event. after_event P event (after_events P k q)) (events P)) (after_each_closed (events P) (after_events P k q) (any_event (after_events P k q) (events_closed k q closed)))

  each_closed : (k : ℕ) (ps : List Formula) → AreSortedIn P no_rcv_this no_scope ps → AreSortedIn P no_rcv_this no_scope (map (after_events P k) ps)
  each_closed k [] all = tt
  each_closed k (p ∷ ps) all = (events_closed k p all.0, each_closed k ps all.1)

  all_closed : (ps : List Formula) (a m : ℕ) → AreSortedIn P no_rcv_this no_scope ps → AreSortedIn P no_rcv_this no_scope (flat_map (λ k. map (after_events P k) ps) (range_with_len a m))
  all_closed ps a zero all = tt
  all_closed ps a (suc m) all =
      both_sorted P no_rcv_this no_scope (map (after_events P a) ps) (flat_map (λ k. map (after_events P k) ps) (range_with_len (a + 1) m)) (each_closed a ps all) (all_closed ps (a + 1) m all)

  pub safety_closed : (v : ℕ) → IsClosed P (formula_at P.safety v)
  safety_closed v = at_sorted P no_rcv_this (formulas P.safety) v (safety_sorted P well)

  pub trans_any : (t : ℕ) → IsSortedIn (signature P) any_relation no_scope (formula_at P.trans t)
  trans_any t = at_sorted P any_relation (formulas P.trans) t (trans_sorted P well)

  hypothesis_closed : (n : ℕ) (kind : CondKind) → IsClosed P (hypothesis P n kind)
  unfolding IsSortedIn
  hypothesis_closed n Network = joined_sorted P no_rcv_this no_scope And (formulas P.topology) (topology_sorted P well)
  hypothesis_closed n (Init k v) = (joined_sorted P no_rcv_this no_scope And (formulas P.topology) (topology_sorted P well), start_closed P well)
  hypothesis_closed n (Step v event) = (
    joined_sorted P no_rcv_this no_scope And (formulas P.topology) (topology_sorted P well),
    joined_sorted P no_rcv_this no_scope And (all_after P n (formulas P.safety)) (all_closed (formulas P.safety) 0 (n + 1) (safety_sorted P well)),
  )
  hypothesis_closed n (Trans t event) = (
    joined_sorted P no_rcv_this no_scope And (formulas P.topology) (topology_sorted P well),
    joined_sorted P no_rcv_this no_scope And (all_after P n (formulas P.safety)) (all_closed (formulas P.safety) 0 (n + 1) (safety_sorted P well)),
  )

  conclusion_closed : (n : ℕ) (kind : CondKind) → IsClosed P (conclusion P n kind)
  unfolding IsSortedIn
  conclusion_closed n Network = tt
  conclusion_closed n (Init k v) = events_closed k (formula_at P.safety v) (safety_closed v)
  conclusion_closed n (Step v event) =
      event_closed event (after_events P n (formula_at P.safety v)) (any_event (after_events P n (formula_at P.safety v)) (events_closed n (formula_at P.safety v) (safety_closed v)))
  conclusion_closed n (Trans t event) = event_closed event (formula_at P.trans t) (trans_any t)

  -- a member of the list is the condition of a kind of the list
  kind_in : (n : ℕ) (o : Option CondKind) (c : Condition) → option_map (condition P n) o ≡ Some c → (kind : CondKind) × (o ≡ Some kind) × (condition P n kind ≡ c)
  kind_in n None c is = absurd (cc)
  kind_in n (Some kind) c is = (kind, refl, some_is (condition P n kind) c is)
    where
      some_is : (a b : Condition) → Some a ≡ Some b → a ≡ b
      some_is a b is = cc

  pub kind_of_member : (n i : ℕ) (c : Condition) → slice_get (conditions P n) i ≡ Some c → (kind : CondKind) × (slice_get (kinds P n) i ≡ Some kind) × (condition P n kind ≡ c)
  kind_of_member n i c there = kind_in n (slice_get (kinds P n) i) c (sym (slice_get-map (condition P n) (kinds P n) i) ∙ there)

  pub members_closed : (n i : ℕ) (c : Condition) → slice_get (conditions P n) i ≡ Some c → IsClosed P c.hypothesis × IsClosed P c.goal
  members_closed n i c there =
      let found = kind_of_member n i c there in
      subst (λ (d : Condition). IsClosed P d.hypothesis × IsClosed P d.goal) found.2 (hypothesis_closed n found.0, conclusion_closed n found.0)
