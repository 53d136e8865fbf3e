-- Commands that break no rule are well-sorted.
use Rattle.std.proofs.Common.{◌≡◌, ℕ, ◌+◌, ◌≤◌, max, not, ◌==◌, List, [], ◌∷◌, ◌++◌, length, Option, Some, None, slice_get, unwrap_or, refl, ap, arith}
use Rattle.std.proofs.lemmas.Bool.{eqb-true}
use Rattle.csdn_core.specs.Same.{same_term}
use Rattle.csdn_core.proofs.Same.{same_term-is}
use Rattle.csdn_core.specs.declared.terms.FormulaPlace.TheVariants.{Handler as InHandler}
use Rattle.csdn_core.specs.declared.terms.Sort.{Sort}
use Rattle.csdn_core.specs.declared.terms.Sort.TheVariants.{Sw, Ho, Pr}
use Rattle.csdn_core.specs.declared.terms.Term.{Term}
use Rattle.csdn_core.specs.declared.program.Relation.{Relation}
use Rattle.csdn_core.specs.declared.syntax.Command.{Command}
use Rattle.csdn_core.proofs.Shapes.{Seq-is, If-is, Pick-is}
use Rattle.csdn_core.specs.Sorted.{Signature, most_variables}
use Rattle.csdn_core.specs.SortedIn.{Scope as SortedScope, with_sort}
use Rattle.csdn_core.specs.Depth.{depth, command_depth}
use Rattle.csdn_core.specs.WellSorted.{IsWrite, IsInstall, IsForward, IsFlood, IsCommand, command_bound_in}
use Rattle.csdn_tree.specs.declared.names.RawTerm.TheVariants.{Name}
use Rattle.csdn_tree.specs.declared.names.RawTerm.{RawTerm}
use Rattle.csdn_types.specs.declared.refusal.SortRefusal.TheVariants.{WrongArity, NotAllowed}
use Rattle.csdn_tree.specs.declared.syntax.RawFlow.{RawFlow}
use Rattle.csdn_tree.specs.declared.syntax.RawPacket.{RawPacket}
use Rattle.csdn_tree.specs.declared.syntax.RawCommand.{RawCommand}
use Rattle.csdn_tree.specs.declared.syntax.RawCommand.TheVariants as c
use Rattle.csdn_tree.specs.declared.syntax.ChangeWord.TheVariants as change
use Rattle.csdn_tree.specs.declared.syntax.SwitchWord.TheVariants as switch
use Rattle.csdn_tree.specs.RawTree.{raw_seq, raw_if, raw_pick}
use Rattle.csdn_tree.specs.Places.{place as place_of}
use Rattle.csdn_types.specs.declared.own.OwnTerms.{OwnTerms}
use Rattle.csdn_types.specs.declared.terms.Use.TheVariants.{Write}
use Rattle.csdn_types.specs.Scope.{Scope, relation_named, bound}
use Rattle.csdn_types.specs.Typed.{typed, term_of, terms_of, flow_of, packet_of, next_var}
use Rattle.csdn_tree.specs.Binders.{binders}
use Rattle.csdn_types.specs.Faults.{fault_if, is_forbidden, term_faults, terms_faults, use_faults, relation_faults, variable_faults, flow_faults, faults}
use Rattle.csdn_types.specs.Commands.{own_faults, forward_faults, flood_faults, command_faults, command_typed, later}
use Rattle.csdn_tree.specs.Binders.{command_binders}
use Rattle.csdn_types.specs.Signed.{IsPart, IsScopeOf, HaveNumerals, CommandNumerals, counted, seen}
use Rattle.csdn_types.proofs.First.{free_both}
use Rattle.csdn_types.proofs.Sorts.{terms_have, flow_have, packet_have, no_fault, fault_free, free_left, free_right, part_bound, scope_later, scope_bound, room_left, greater, pushed, none_bound, typed_is_sorted, bound_in-typed, counted-add, counted-next}

part_later : (s : Scope) (S : Signature) (n : ℕ) → IsPart s S → IsPart (later s n) S
part_later s S n part = record { relations = part.relations; constants = part.constants }

-- a relation that is written
use_is_write : (s : Scope) (S : Signature) (Γ : SortedScope) → IsPart s S → IsScopeOf s Γ → (at : ℕ) (ts : List RawTerm) (id : ℕ) (d : Option Relation) → slice_get s.relations id ≡ d → HaveNumerals S ts → use_faults Write s at ts d ≡ [] → IsWrite S Γ (record { 0 = id }) (terms_of s ts)
use_is_write s S Γ part scope at ts id None is numerals free = absurd cc
use_is_write s S Γ part scope at ts id (Some d) is numerals free =
    let arity = fault_if (not (length ts == length d.sorts)) (WrongArity at) in
    let allowed = fault_if (is_forbidden Write d) (NotAllowed at) in
    let rest = free_right arity (allowed ++ terms_faults s d.sorts ts) free in
    let many : length ts ≡ length d.sorts = eqb-true (length ts) (length d.sorts) (no_fault (length ts == length d.sorts) (WrongArity at) (free_left arity (allowed ++ terms_faults s d.sorts ts) free)) in
    record {
      relation = d;
      declared = part.relations id d is;
      stored = fault_free (is_forbidden Write d) (NotAllowed at) (free_left allowed (terms_faults s d.sorts ts) rest);
      terms = terms_have s S Γ part scope d.sorts ts many numerals (free_right allowed (terms_faults s d.sorts ts) rest);
    }

relation_is_write : (s : Scope) (S : Signature) (Γ : SortedScope) → IsPart s S → IsScopeOf s Γ → (at : ℕ) (ts : List RawTerm) (id : Option ℕ) → HaveNumerals S ts → relation_faults Write s at ts id ≡ [] → IsWrite S Γ (record { 0 = unwrap_or id 0 }) (terms_of s ts)
relation_is_write s S Γ part scope at ts None numerals free = absurd cc
relation_is_write s S Γ part scope at ts (Some id) numerals free = use_is_write s S Γ part scope at ts id (slice_get s.relations id) refl numerals free

-- an own term is the handler's
own_is : (s : Scope) (sort : Sort) (own : Term) (t : RawTerm) → own_faults s sort own t ≡ [] → term_of s t ≡ own
own_is s sort own t free = same_term-is (term_of s t) own (no_fault (same_term (term_of s t) own) (NotAllowed (place_of t)) (free_right (term_faults s sort t) _ free))

own_free : (s : Scope) (sort : Sort) (own : Term) (t : RawTerm) → own_faults s sort own t ≡ [] → term_faults s sort t ≡ []
own_free s sort own t free = free_left (term_faults s sort t) _ free

module _ (S : Signature) (own : OwnTerms) (s : Scope) (Γ : SortedScope) (part : IsPart s S) (scope : IsScopeOf s Γ) where
  install_is : (w : RawFlow) → HaveNumerals S (Name w.switch ∷ w.source ∷ w.target ∷ w.ingress ∷ w.egress ∷ []) → own_faults s Sw own.switch (Name w.switch) ++ flow_faults s w ≡ [] → IsInstall S (seen own) Γ (term_of s (Name w.switch) ∷ flow_of s w)
  install_is w numerals free =
      let first = free_left (own_faults s Sw own.switch (Name w.switch)) _ free in
      record { rest = flow_of s w; is = ap (λ t. t ∷ flow_of s w) (own_is s Sw own.switch (Name w.switch) first); terms = flow_have s S Γ part scope w numerals (own_free s Sw own.switch (Name w.switch) first) (free_right (own_faults s Sw own.switch (Name w.switch)) _ free) }

  forward_is : (w : RawFlow) → HaveNumerals S (Name w.switch ∷ w.source ∷ w.target ∷ w.ingress ∷ w.egress ∷ []) → forward_faults own s w ≡ [] → IsForward S (seen own) Γ (term_of s (Name w.switch) ∷ flow_of s w)
  forward_is w numerals free =
      let switch = free_left (own_faults s Sw own.switch (Name w.switch)) _ free in
      let after_switch = free_right (own_faults s Sw own.switch (Name w.switch)) _ free in
      let source = free_left (own_faults s Ho own.source w.source) _ after_switch in
      let after_source = free_right (own_faults s Ho own.source w.source) _ after_switch in
      let target = free_left (own_faults s Ho own.target w.target) _ after_source in
      let after_target = free_right (own_faults s Ho own.target w.target) _ after_source in
      let ingress = free_left (own_faults s Pr own.ingress w.ingress) _ after_target in
      let egress = free_right (own_faults s Pr own.ingress w.ingress) _ after_target in
      record {
        egress = term_of s w.egress;
        is = rw (own_is s Sw own.switch (Name w.switch) switch, own_is s Ho own.source w.source source, own_is s Ho own.target w.target target, own_is s Pr own.ingress w.ingress ingress);
        terms = flow_have s S Γ part scope w numerals (own_free s Sw own.switch (Name w.switch) switch)
            (free_both (term_faults s Ho w.source) _ (own_free s Ho own.source w.source source)
            (free_both (term_faults s Ho w.target) _ (own_free s Ho own.target w.target target)
            (free_both (term_faults s Pr w.ingress) _ (own_free s Pr own.ingress w.ingress ingress) egress)));
      }

three : (k l m n : ℕ) → counted k l ++ (counted (k + l) m ++ counted (k + (l + m)) n) ≡ counted k (l + (m + n))
three k l m n =
    let shift : k + (l + m) ≡ (k + l) + m = omega arith in
    rw (shift, counted-add (k + l) m n) (counted-add k l (m + n))

four : (k l m n : ℕ) → k ∷ (counted (k + 1) l ++ (counted ((k + 1) + l) m ++ counted (k + ((1 + l) + m)) n)) ≡ counted k ((1 + l) + (m + n))
four k l m n =
    let shift : k + ((1 + l) + m) ≡ (k + 1) + (l + m) = omega arith in
    let whole : (1 + l) + (m + n) ≡ 1 + (l + (m + n)) = omega arith in
    rw (shift, three (k + 1) l m n, whole) (counted-next k (l + (m + n)))

-- the numbers of a command's variables are the next ones
pub command_bound_in-typed : (s : Scope) (x : RawCommand) → command_bound_in (command_typed s x) ≡ counted s.next (command_binders x)
unfolding command_bound_in command_typed command_binders counted
command_bound_in-typed s c.Skip = refl
command_bound_in-typed s (raw_seq a b) = rw (Seq-is, command_bound_in-typed s a, command_bound_in-typed (later s (command_binders a)) b) (counted-add s.next (command_binders a) (command_binders b))
command_bound_in-typed s (raw_if p a b) = rw (If-is, bound_in-typed s p, command_bound_in-typed (later s (binders p)) a, command_bound_in-typed (later s (binders p + command_binders a)) b) (three s.next (binders p) (command_binders a) (command_binders b))
command_bound_in-typed s (raw_pick name sort p a b) =
    rw (Pick-is, bound_in-typed (bound s name sort) p, command_bound_in-typed (later (bound s name sort) (binders p)) a, command_bound_in-typed (later s ((1 + binders p) + command_binders a)) b) (four s.next (binders p) (command_binders a) (command_binders b))
command_bound_in-typed s (c.Change change.Insert name us) = refl
command_bound_in-typed s (c.Change change.Remove name us) = refl
command_bound_in-typed s (c.Switch switch.Install w) = refl
command_bound_in-typed s (c.Switch switch.Uninstall w) = refl
command_bound_in-typed s (c.Switch switch.Forward w) = refl
command_bound_in-typed s (c.Flood w) = refl

flood_parts : (S : Signature) (own : OwnTerms) (s : Scope) (Γ : SortedScope) → IsPart s S → IsScopeOf s Γ → (w : RawPacket) → HaveNumerals S (Name w.switch ∷ w.source ∷ w.target ∷ w.ingress ∷ []) → flood_faults own s w ≡ [] → IsFlood S (seen own) Γ (term_of s (Name w.switch) ∷ packet_of s w)
flood_parts S own s Γ part scope w numerals free =
    let switch = free_left (own_faults s Sw own.switch (Name w.switch)) _ free in
    let after_switch = free_right (own_faults s Sw own.switch (Name w.switch)) _ free in
    let source = free_left (own_faults s Ho own.source w.source) _ after_switch in
    let after_source = free_right (own_faults s Ho own.source w.source) _ after_switch in
    let target = free_left (own_faults s Ho own.target w.target) _ after_source in
    let ingress = free_right (own_faults s Ho own.target w.target) _ after_source in
    record {
      is = rw (own_is s Sw own.switch (Name w.switch) switch, own_is s Ho own.source w.source source, own_is s Ho own.target w.target target, own_is s Pr own.ingress w.ingress ingress);
      terms = packet_have s S Γ part scope w numerals (own_free s Sw own.switch (Name w.switch) switch)
          (free_both (term_faults s Ho w.source) _ (own_free s Ho own.source w.source source)
          (free_both (term_faults s Ho w.target) (term_faults s Pr w.ingress) (own_free s Ho own.target w.target target) (own_free s Pr own.ingress w.ingress ingress)));
    }

-- well-sorted in the scope, with room for the variables that it binds
abbrev pub CommandFits : Signature → OwnTerms → Scope → SortedScope → Command → Type 0
CommandFits S own s Γ x = IsCommand S (seen own) Γ x × (length s.variables + command_depth x ≤ most_variables)

pub command_is_sorted : (S : Signature) (own : OwnTerms) (s : Scope) (Γ : SortedScope) (x : RawCommand) → IsPart s S → IsScopeOf s Γ → CommandNumerals S x → command_faults own s x ≡ [] → CommandFits S own s Γ (command_typed s x)
unfolding CommandNumerals command_faults command_typed IsCommand command_depth
command_is_sorted S own s Γ c.Skip part scope numerals free = (tt, none_bound s Γ scope)
command_is_sorted S own s Γ (raw_seq a b) part scope numerals free =
    let in_a = command_is_sorted S own s Γ a part scope numerals.0 (free_left (command_faults own s a) _ free) in
    let in_b = command_is_sorted S own (later s (command_binders a)) Γ b (part_later s S (command_binders a) part) (scope_later s Γ (command_binders a) scope) numerals.1 (free_right (command_faults own s a) _ free) in
    rw Seq-is ((in_a.0, in_b.0), greater (length s.variables) (command_depth (command_typed s a)) (command_depth (command_typed (later s (command_binders a)) b)) in_a.1 in_b.1)
command_is_sorted S own s Γ (raw_if p a b) part scope numerals free =
    let rest = free_right (faults InHandler s p) _ free in
    let k = binders p in
    let l = binders p + command_binders a in
    let in_p = typed_is_sorted S InHandler s Γ p part scope numerals.0 (free_left (faults InHandler s p) _ free) in
    let in_a = command_is_sorted S own (later s k) Γ a (part_later s S k part) (scope_later s Γ k scope) numerals.1 (free_left (command_faults own (later s k) a) _ rest) in
    let in_b = command_is_sorted S own (later s l) Γ b (part_later s S l part) (scope_later s Γ l scope) numerals.2 (free_right (command_faults own (later s k) a) _ rest) in
    let a_binds = command_depth (command_typed (later s k) a) in
    let b_binds = command_depth (command_typed (later s l) b) in
    rw If-is ((in_p.0, in_a.0, in_b.0), greater (length s.variables) (depth (typed s p)) (max a_binds b_binds) in_p.1 (greater (length s.variables) a_binds b_binds in_a.1 in_b.1))
command_is_sorted S own s Γ (raw_pick name sort p a b) part scope numerals free =
    let inner = bound s name sort in
    let k = binders p in
    let l = (1 + binders p) + command_binders a in
    let first = free_left (variable_faults s name ++ (faults InHandler inner p ++ command_faults own (later inner k) a)) _ free in
    let rest = free_right (variable_faults s name) _ first in
    let Δ = with_sort Γ (next_var s) sort in
    let inner_part = part_bound s S name sort part in
    let inner_scope = scope_bound s Γ name sort (room_left s name (free_left (variable_faults s name) _ first)) scope in
    let in_p = typed_is_sorted S InHandler inner Δ p inner_part inner_scope numerals.0 (free_left (faults InHandler inner p) _ rest) in
    let in_a = command_is_sorted S own (later inner k) Δ a (part_later inner S k inner_part) (scope_later inner Δ k inner_scope) numerals.1 (free_right (faults InHandler inner p) _ rest) in
    let in_b = command_is_sorted S own (later s l) Γ b (part_later s S l part) (scope_later s Γ l scope) numerals.2 (free_right (variable_faults s name ++ (faults InHandler inner p ++ command_faults own (later inner k) a)) _ free) in
    let p_binds = depth (typed inner p) in
    let a_binds = command_depth (command_typed (later inner k) a) in
    let b_binds = command_depth (command_typed (later s l) b) in
    rw Pick-is ((in_p.0, in_a.0, in_b.0), greater (length s.variables) (max p_binds a_binds + 1) b_binds (pushed s name sort (max p_binds a_binds) (greater (length inner.variables) p_binds a_binds in_p.1 in_a.1)) in_b.1)
command_is_sorted S own s Γ (c.Change change.Insert name us) part scope numerals free = (relation_is_write s S Γ part scope name.at us (relation_named s name.text) numerals free, none_bound s Γ scope)
command_is_sorted S own s Γ (c.Change change.Remove name us) part scope numerals free = (relation_is_write s S Γ part scope name.at us (relation_named s name.text) numerals free, none_bound s Γ scope)
command_is_sorted S own s Γ (c.Switch switch.Install w) part scope numerals free = (install_is S own s Γ part scope w numerals free, none_bound s Γ scope)
command_is_sorted S own s Γ (c.Switch switch.Uninstall w) part scope numerals free = (install_is S own s Γ part scope w numerals free, none_bound s Γ scope)
command_is_sorted S own s Γ (c.Switch switch.Forward w) part scope numerals free = (forward_is S own s Γ part scope w numerals free, none_bound s Γ scope)
command_is_sorted S own s Γ (c.Flood w) part scope numerals free = (flood_parts S own s Γ part scope w numerals free, none_bound s Γ scope)
