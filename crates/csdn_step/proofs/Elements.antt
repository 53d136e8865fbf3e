-- A step keeps the state's tuples within the network's elements.
use Rattle.std.proofs.Common.{◌≡◌, ◌∙◌, sym, ap, subst, refl, ℕ, ◌==◌, Bool, true, false, true≢false, not, ◌&&◌, ◌⊎◌, inl, inr, if◌then◌else◌, List, [], ◌∷◌, Contains, Option, Some, None}
use Rattle.std.specs.Prelude.{option_map}
use Rattle.std.proofs.lemmas.Bool.{and_parts, or_cases, eqb-true}
use Rattle.std.proofs.lemmas.Option.{none-some, same_Some}
use Rattle.std.proofs.lemmas.List.Elements.{All-contains}
use Rattle.csdn_core.specs.declared.terms.Sort.{Sort}
use Rattle.csdn_core.specs.declared.terms.Sort.TheVariants.{Sw, Ho, Pr}
use Rattle.csdn_core.specs.declared.terms.VarId.{VarId}
use Rattle.csdn_core.specs.declared.terms.RelId.{RelId}
use Rattle.csdn_core.specs.declared.terms.Term.{Term}
use Rattle.csdn_core.specs.declared.terms.Pred.{Pred}
use Rattle.csdn_core.specs.declared.terms.Pred.TheVariants.{Stored, Ft, Sent, RcvThis}
use Rattle.csdn_core.specs.declared.event.Packet.TheVariants.{Nothing}
use Rattle.csdn_core.specs.declared.event.Event.{Event}
use Rattle.csdn_core.specs.declared.event.Event.TheVariants.{PktIn, PktFlow, Expire}
use Rattle.csdn_core.specs.declared.program.Parts.{Parts}
use Rattle.csdn_core.specs.declared.program.Relation.{Relation}
use Rattle.csdn_core.specs.declared.program.Handler.{Handler}
use Rattle.csdn_core.specs.declared.program.StartRow.{StartRow}
use Rattle.csdn_core.specs.declared.syntax.Command.{Command}
use Rattle.csdn_core.specs.declared.syntax.Command.TheVariants as c
use Rattle.csdn_core.specs.Tree.{sequence, conditional, choice}
use Rattle.csdn_core.specs.Truth.{Assignment, with_var}
use Rattle.csdn_core.specs.Network.{Network, State, elements, structure, is_fixed_in, same_pred, same_cells, HaveElements, IsNetwork}
use Rattle.csdn_core.specs.Execution.{put, take_out, take_out_match, flooded, is_flood, is_rule_of, tuple, Executes}
use Rattle.csdn_core.specs.Run.{no_values, empty_state, initial, first_fit, for_packet, Handles, Step}
use Rattle.csdn_core.specs.Sorted.{sorts_of, flow_sorts, packet_sorts}
use Rattle.csdn_core.specs.SortedIn.{Scope, no_scope, with_sort, scope_of, HaveSortsIn}
use Rattle.csdn_core.specs.WellSorted.{IsHandler, IsCommand, IsWellSorted, IsStartRow, IsWrite, OwnPacket, signature, own_packet, handler_binds}
use Rattle.csdn_core.proofs.Same.{same_pred-is, same_cells-is}
use Rattle.csdn_core.proofs.Agreement.{values_there, structure_of, elements_there}
use Rattle.net_structs.specs.StateTuples.{IsKept, IsStateTuple, IsOfElements}
use Rattle.csdn_step.proofs.Outputs.{found}
use Rattle.csdn_step.proofs.Room.{of_fit}

-- variables of a scope stand for elements of their sorts

abbrev pub HasElements : Network → Scope → Assignment → Type 0
HasElements N Γ e = (v : ℕ) (s : Sort) → Γ v ≡ Some s → Contains (elements N s) (e v)

more_by : (N : Network) (Γ : Scope) (e : Assignment) (s : Sort) (m w : ℕ) (t : Sort) (b : Bool) → Contains (elements N s) m → (Γ w ≡ Some t → Contains (elements N t) (e w))
    → (if b then Some s else Γ w) ≡ Some t → Contains (elements N t) (if b then m else e w)
more_by N Γ e s m w t true there before is = subst (λ (u : Sort). Contains (elements N u) m) (same_Some s t is) there
more_by N Γ e s m w t false there before is = before is

pub has_more : (N : Network) (Γ : Scope) (e : Assignment) (v : VarId) (s : Sort) (m : ℕ) → Contains (elements N s) m → HasElements N Γ e → HasElements N (with_sort Γ v s) (with_var e v m)
has_more N Γ e v s m there has = λ w t is. more_by N Γ e s m w t (w == v.0) there (has w t) is

pub has_none : (N : Network) → HasElements N no_scope no_values
has_none N = λ v s is. absurd (none-some s is)

-- where a handler begins

pub has_packet : (N : Network) (h : Handler) (s a b i : ℕ) → Contains N.switches s → Contains N.hosts a → Contains N.hosts b → Contains N.ports i → HasElements N (scope_of (handler_binds h)) (for_packet h s a b i)
has_packet N h s a b i in_s in_a in_b in_i =
    has_more N (with_sort (with_sort (with_sort no_scope h.s Sw) h.a Ho) h.b Ho) (with_var (with_var (with_var no_values h.s s) h.a a) h.b b) h.i Pr i in_i
    (has_more N (with_sort (with_sort no_scope h.s Sw) h.a Ho) (with_var (with_var no_values h.s s) h.a a) h.b Ho b in_b
    (has_more N (with_sort no_scope h.s Sw) (with_var no_values h.s s) h.a Ho a in_a
    (has_more N no_scope no_values h.s Sw s in_s (has_none N))))

pub handler_is : (P : Parts) → IsWellSorted P → (i : ℕ) (h : Handler) → first_fit P.handlers i ≡ Some h → IsCommand (signature P) (own_packet h) (scope_of (handler_binds h)) h.body
handler_is P sorted i h is = (of_fit (IsHandler (signature P)) P.handlers i h sorted.handlers is).command

-- states of elements

module _ (P : Parts) (N : Network) where
  abbrev IsOne : Pred → List ℕ → Type 0
  IsOne r cells = IsStateTuple P N (record { pred = r; cells = cells })

  same_tuple : (r q : Pred) (cells ds : List ℕ) → IsOne r cells → (same_pred q r && same_cells ds cells) ≡ true → IsOne q ds
  same_tuple r q cells ds one is =
      let parts = and_parts (same_pred q r) (same_cells ds cells) is in
      subst (λ (p : Pred). IsOne p ds) (sym (same_pred-is q r parts.0)) (subst (λ (es : List ℕ). IsOne r es) (sym (same_cells-is ds cells parts.1)) one)

  put_keeps : (x : State) (r : Pred) (cells : List ℕ) → IsOfElements P N x → IsOne r cells → IsOfElements P N (put x r cells)
  put_keeps x r cells of one = λ q ds is. by_cases q ds (or_cases (x q ds) (same_pred q r && same_cells ds cells) is)
    where
      by_cases : (q : Pred) (ds : List ℕ) → (x q ds ≡ true) ⊎ ((same_pred q r && same_cells ds cells) ≡ true) → IsOne q ds
      by_cases q ds (inl before) = of q ds before
      by_cases q ds (inr new) = same_tuple r q cells ds one new

  fewer : (x y : State) → ((q : Pred) (ds : List ℕ) → y q ds ≡ true → x q ds ≡ true) → IsOfElements P N x → IsOfElements P N y
  fewer x y less of = λ q ds is. of q ds (less q ds is)

  take_keeps : (x : State) (r : Pred) (cells : List ℕ) → IsOfElements P N x → IsOfElements P N (take_out x r cells)
  take_keeps x r cells of = fewer x (take_out x r cells) (λ q ds is. (and_parts (x q ds) (not (same_pred q r && same_cells ds cells)) is).0) of

  match_keeps : (x : State) (cells : List ℕ) → IsOfElements P N x → IsOfElements P N (take_out_match x cells)
  match_keeps x cells of = fewer x (take_out_match x cells) (λ q ds is. (and_parts (x q ds) (not (same_pred q Ft && is_rule_of cells ds)) is).0) of

  -- a tuple of `ft` or `sent`
  pub of_flow : (r : Pred) → IsKept P r → sorts_of (signature P) r ≡ Some flow_sorts → (cells : List ℕ) → HaveElements N flow_sorts cells → IsOne r cells
  of_flow r kept declared cells there = record { kept = kept; sorts = flow_sorts; declared = declared; cells = there }

  flow_there : (s a b i o : ℕ) → HaveElements N packet_sorts (s ∷ a ∷ b ∷ i ∷ []) → Contains N.ports o → HaveElements N flow_sorts (s ∷ a ∷ b ∷ i ∷ o ∷ [])
  unfolding HaveElements
  flow_there s a b i o there in_o = (there.0, (there.1.0, (there.1.1.0, (there.1.1.1.0, (in_o, tt)))))

  flood_one : (cells ds : List ℕ) → HaveElements N packet_sorts cells → is_flood N.ports cells ds ≡ true → IsOne Sent ds
  unfolding HaveElements
  flood_one [] ds there is = absurd (true≢false (sym is))
  flood_one (s ∷ []) ds there is = absurd (true≢false (sym is))
  flood_one (s ∷ a ∷ []) ds there is = absurd (true≢false (sym is))
  flood_one (s ∷ a ∷ b ∷ []) ds there is = absurd (true≢false (sym is))
  flood_one (s ∷ a ∷ b ∷ i ∷ []) ds there is =
      let one = found (λ o. not (o == i) && same_cells ds (s ∷ a ∷ b ∷ i ∷ o ∷ [])) N.ports is in
      let parts = and_parts (not (one.0 == i)) (same_cells ds (s ∷ a ∷ b ∷ i ∷ one.0 ∷ [])) one.2 in
      subst (λ (es : List ℕ). IsOne Sent es) (sym (same_cells-is ds (s ∷ a ∷ b ∷ i ∷ one.0 ∷ []) parts.1))
      (of_flow Sent tt refl (s ∷ a ∷ b ∷ i ∷ one.0 ∷ []) (flow_there s a b i one.0 there one.1))
  flood_one (s ∷ a ∷ b ∷ i ∷ o ∷ more) ds there is = absurd (true≢false (sym is))

  flood_keeps : (x : State) (cells : List ℕ) → IsOfElements P N x → HaveElements N packet_sorts cells → IsOfElements P N (flooded x N.ports cells)
  flood_keeps x cells of there = λ q ds is. by_cases q ds (or_cases (x q ds) (same_pred q Sent && is_flood N.ports cells ds) is)
    where
      by_cases : (q : Pred) (ds : List ℕ) → (x q ds ≡ true) ⊎ ((same_pred q Sent && is_flood N.ports cells ds) ≡ true) → IsOne q ds
      by_cases q ds (inl before) = of q ds before
      by_cases q ds (inr new) =
          let parts = and_parts (same_pred q Sent) (is_flood N.ports cells ds) new in
          subst (λ (p : Pred). IsOne p ds) (sym (same_pred-is q Sent parts.0)) (flood_one cells ds there parts.1)

  module _ (network : IsNetwork P N) where
    -- terms in scope stand for elements
    pub terms_there : (Γ : Scope) (e : Assignment) (x : State) → HasElements N Γ e → (ss : List Sort) (ts : List Term) → HaveSortsIn (signature P) Γ ss ts → HaveElements N ss (tuple P N ts e x)
    terms_there Γ e x has ss ts have =
        elements_there P N network x Nothing ss (tuple P N ts e x)
        (values_there (signature P) (structure P N x Nothing) (structure_of P N network x Nothing) Γ e has ss ts have)

    written : (Γ : Scope) (e : Assignment) (x : State) → HasElements N Γ e → (r : RelId) (ts : List Term) → IsWrite (signature P) Γ r ts → IsOne (Stored r) (tuple P N ts e x)
    written Γ e x has r ts write = record {
      kept = ap is_fixed_in write.declared ∙ write.stored;
      sorts = write.relation.sorts;
      declared = ap (option_map (λ (d : Relation). d.sorts)) write.declared;
      cells = terms_there Γ e x has write.relation.sorts ts write.terms;
    }

    pub executes_keeps : (k : Command) (own : OwnPacket) (Γ : Scope) (e : Assignment) (x y : State) → HasElements N Γ e → IsCommand (signature P) own Γ k → Executes P N k e x y → IsOfElements P N x → IsOfElements P N y
    unfolding Executes IsCommand
    executes_keeps c.Skip own Γ e x y has sorted is of = subst (λ (z : State). IsOfElements P N z) (sym is) of
    executes_keeps (sequence a b) own Γ e x y has sorted (z, first, second) of =
        executes_keeps b own Γ e z y has sorted.1 second
        (executes_keeps a own Γ e x z has sorted.0 first of)
    executes_keeps (conditional p a b) own Γ e x y has sorted (inl done) of =
        executes_keeps a own Γ e x y has sorted.1 done.1 of
    executes_keeps (conditional p a b) own Γ e x y has sorted (inr done) of =
        executes_keeps b own Γ e x y has sorted.2 done.1 of
    executes_keeps (choice v s p a b) own Γ e x y has sorted (inl (m, there, holds, done)) of =
        executes_keeps a own (with_sort Γ v s) (with_var e v m) x y (has_more N Γ e v s m there has) sorted.1 done of
    executes_keeps (choice v s p a b) own Γ e x y has sorted (inr (none, done)) of =
        executes_keeps b own Γ e x y has sorted.2 done of
    executes_keeps (c.Insert r ts) own Γ e x y has sorted is of =
        subst (λ (z : State). IsOfElements P N z) (sym is) (put_keeps x (Stored r) (tuple P N ts e x) of (written Γ e x has r ts sorted))
    executes_keeps (c.Remove r ts) own Γ e x y has sorted is of =
        subst (λ (z : State). IsOfElements P N z) (sym is) (take_keeps x (Stored r) (tuple P N ts e x) of)
    executes_keeps (c.Install ts) own Γ e x y has sorted is of =
        subst (λ (z : State). IsOfElements P N z) (sym is) (put_keeps x Ft (tuple P N ts e x) of (of_flow Ft tt refl (tuple P N ts e x) (terms_there Γ e x has flow_sorts ts sorted.terms)))
    executes_keeps (c.Uninstall ts) own Γ e x y has sorted is of =
        subst (λ (z : State). IsOfElements P N z) (sym is) (take_keeps x Ft (tuple P N ts e x) of)
    executes_keeps (c.Forward ts) own Γ e x y has sorted is of =
        subst (λ (z : State). IsOfElements P N z) (sym is) (put_keeps x Sent (tuple P N ts e x) of (of_flow Sent tt refl (tuple P N ts e x) (terms_there Γ e x has flow_sorts ts sorted.terms)))
    executes_keeps (c.Flood ts) own Γ e x y has sorted is of =
        subst (λ (z : State). IsOfElements P N z) (sym is) (flood_keeps x (tuple P N ts e x) of (terms_there Γ e x has packet_sorts ts sorted.terms))

    module _ (sorted : IsWellSorted P) where
      handles_keeps : (s a b i : ℕ) → Contains N.switches s → Contains N.hosts a → Contains N.hosts b → Contains N.ports i → (x y : State) (o : Option Handler) → first_fit P.handlers i ≡ o → Handles P N o s a b i x y → IsOfElements P N x → IsOfElements P N y
      handles_keeps s a b i in_s in_a in_b in_i x y None fit is of = subst (λ (z : State). IsOfElements P N z) (sym is) of
      handles_keeps s a b i in_s in_a in_b in_i x y (Some h) fit done of =
          executes_keeps h.body (own_packet h) (scope_of (handler_binds h)) (for_packet h s a b i) x y
          (has_packet N h s a b i in_s in_a in_b in_i) (handler_is P sorted i h fit) done of

      pub step_keeps : (x y : State) (event : Event) → Step P N x event y → IsOfElements P N x → IsOfElements P N y
      unfolding HaveElements
      step_keeps x y (PktIn s a b i) (in_s, in_a, in_b, in_i, done) of = handles_keeps s a b i in_s in_a in_b in_i x y (first_fit P.handlers i) refl done of
      step_keeps x y (PktFlow s a b i o) (in_s, in_a, in_b, in_i, in_o, enabled, is) of =
          subst (λ (z : State). IsOfElements P N z) (sym is) (put_keeps x Sent (s ∷ a ∷ b ∷ i ∷ o ∷ []) of (of_flow Sent tt refl (s ∷ a ∷ b ∷ i ∷ o ∷ []) (in_s, (in_a, (in_b, (in_i, (in_o, tt)))))))
      step_keeps x y (Expire s a b i) (in_s, in_a, in_b, in_i, may, rule, is) of =
          subst (λ (z : State). IsOfElements P N z) (sym is) (match_keeps x (s ∷ a ∷ b ∷ i ∷ []) of)

      started : (row : StartRow) → IsStartRow P row → (r : RelId) (cells : List ℕ) → ((row.rel.0 == r.0) && same_cells (tuple P N row.terms no_values empty_state) cells) ≡ true → IsOne (Stored r) cells
      started row start r cells is =
          let parts = and_parts (row.rel.0 == r.0) (same_cells (tuple P N row.terms no_values empty_state) cells) is in
          let same : row.rel ≡ r = ap (λ n. record { 0 = n }) (eqb-true row.rel.0 r.0 parts.0) in
          subst (λ (q : RelId). IsOne (Stored q) cells) same
          (subst (λ (es : List ℕ). IsOne (Stored row.rel) es) (same_cells-is (tuple P N row.terms no_values empty_state) cells parts.1) (record {
            kept = ap is_fixed_in start.declared ∙ start.stored;
            sorts = start.relation.sorts;
            declared = ap (option_map (λ (d : Relation). d.sorts)) start.declared;
            cells = terms_there no_scope no_values empty_state (has_none N) start.relation.sorts row.terms start.terms;
          }))

      pub start_keeps : IsOfElements P N (initial P N)
      start_keeps = λ q ds is. at q ds is
        where
          at : (q : Pred) (ds : List ℕ) → initial P N q ds ≡ true → IsOne q ds
          at (Stored r) ds is =
              let one = found (λ row. (row.rel.0 == r.0) && same_cells (tuple P N row.terms no_values empty_state) ds) P.start is in
              started one.0 (All-contains (IsStartRow P) P.start one.0 sorted.start one.1) r ds one.2
          at Ft ds is = absurd (true≢false (sym is))
          at Sent ds is = absurd (true≢false (sym is))
          at RcvThis ds is = absurd (true≢false (sym is))
