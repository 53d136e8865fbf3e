-- A handler that breaks no rule is well-sorted.
use Rattle.std.proofs.Common.{◌≡◌, ℕ, ◌+◌, [], length, refl, ap, subst, nat_le, arith}
use Rattle.csdn_core.specs.declared.terms.Sort.TheVariants.{Sw, Ho, Pr}
use Rattle.csdn_core.specs.Sorted.{Signature}
use Rattle.csdn_core.specs.SortedIn.{no_scope, scope_of}
use Rattle.csdn_core.specs.WellSorted.{IsCommand, IsHandler, own_packet, own_ingress, handler_binds}
use Rattle.csdn_types.specs.declared.refusal.SortRefusal.TheVariants.{TooMany}
use Rattle.csdn_tree.specs.declared.syntax.RawPattern.{RawPattern}
use Rattle.csdn_tree.specs.declared.syntax.RawPattern.TheVariants.{Any, Port}
use Rattle.csdn_tree.specs.declared.syntax.RawHandler.{RawHandler}
use Rattle.csdn_types.specs.Scope.{Scope, bound}
use Rattle.csdn_types.specs.Faults.{fault_if, variable_faults}
use Rattle.csdn_types.specs.Commands.{command_faults, command_typed}
use Rattle.csdn_types.specs.Items.{ingress_name, ingress_term, port_of, ingress_faults, inside, own_of, handler_faults, handler_of}
use Rattle.csdn_types.specs.Signed.{IsPart, IsScopeOf, CommandNumerals, seen}
use Rattle.csdn_types.proofs.Sorts.{free_right, scope_none, scope_bound}
use Rattle.csdn_types.proofs.CommandSorts.{command_is_sorted}

own_port : (n : ℕ) (port : RawPattern) → ingress_term n port ≡ own_ingress (port_of port) (record { 0 = n })
own_port n (Any name) = refl
own_port n (Port k) = refl

own-seen : (s : Scope) (h : RawHandler) → seen (own_of s h) ≡ own_packet (handler_of s h)
own-seen s h = ap (λ t. record { switch = (own_of s h).switch; source = (own_of s h).source; target = (own_of s h).target; ingress = t }) (own_port (s.next + 1 + 1 + 1) h.ingress)

part_inside : (s : Scope) (S : Signature) (h : RawHandler) → IsPart s S → IsPart (inside s h) S
part_inside s S h part = record { relations = part.relations; constants = part.constants }

-- the scope of a handler's body has its four variables
four_inside : (s : Scope) (h : RawHandler) → s.variables ≡ [] → length (inside s h).variables ≡ 4
four_inside s h none = rw none

scope_inside : (s : Scope) (h : RawHandler) → s.variables ≡ [] → IsScopeOf (inside s h) (scope_of (handler_binds (handler_of s h)))
scope_inside s h none =
    let one = bound s h.switch Sw in
    let two = bound one h.source Ho in
    let three = bound two h.target Ho in
    scope_bound three _ (ingress_name h.ingress) Pr (rw none (omega arith))
    (scope_bound two _ h.target Ho (rw none (omega arith))
    (scope_bound one _ h.source Ho (rw none (omega arith))
    (scope_bound s no_scope h.switch Sw (rw none (omega arith)) (scope_none s none))))

pub handler_is_sorted : (S : Signature) (s : Scope) (count : ℕ) (h : RawHandler) → s.variables ≡ [] → IsPart s S → CommandNumerals S h.body → handler_faults s count h ≡ [] → IsHandler S (handler_of s h)
handler_is_sorted S s count h none part numerals free =
    let first = free_right (fault_if (nat_le 32 count) (TooMany h.at)) _ free in
    let second = free_right (variable_faults s h.switch) _ first in
    let third = free_right (variable_faults (bound s h.switch Sw) h.source) _ second in
    let fourth = free_right (variable_faults (bound (bound s h.switch Sw) h.source Ho) h.target) _ third in
    let body = free_right (ingress_faults (bound (bound (bound s h.switch Sw) h.source Ho) h.target Ho) h.ingress) (command_faults (own_of s h) (inside s h) h.body) fourth in
    let Γ = scope_of (handler_binds (handler_of s h)) in
    let fits = command_is_sorted S (own_of s h) (inside s h) Γ h.body (part_inside s S h part) (scope_inside s h none) numerals body in
    record {
      command = subst (λ own. IsCommand S own Γ (command_typed (inside s h) h.body)) (own-seen s h) fits.0;
      few = let four = four_inside s h none in let room = fits.1 in omega (arith, four, room);
    }
