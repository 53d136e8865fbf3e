-- From the rules of commands to scopes.
use Rattle.std.proofs.Common.{◌≡◌, ◌≢◌, false, List, ◌++◌, Some, refl, ap, ◌∙◌, IsFalse}
use Rattle.std.specs.Prelude.{slice_get}
use Rattle.std.proofs.lemmas.Bool.{false_from_ne_true}
use Rattle.csdn_core.specs.declared.terms.RelId.{RelId}
use Rattle.csdn_core.specs.declared.terms.Pred.{Pred}
use Rattle.csdn_core.specs.declared.terms.Pred.TheVariants.{Stored, Ft, Sent, RcvThis}
use Rattle.csdn_core.specs.declared.terms.Term.{Term}
use Rattle.csdn_core.specs.declared.terms.FormulaPlace.{FormulaPlace}
use Rattle.csdn_core.specs.declared.terms.FormulaPlace.TheVariants.{Topology, Safety, Trans, Handler as InHandler}
use Rattle.csdn_core.specs.declared.program.Parts.{Parts}
use Rattle.csdn_core.specs.declared.program.Relation.{Relation}
use Rattle.csdn_core.specs.declared.syntax.Formula.{Formula}
use Rattle.csdn_core.specs.declared.syntax.Command.{Command}
use Rattle.csdn_core.specs.declared.syntax.Command.TheVariants.{Skip, Insert, Remove, Install, Uninstall, Forward, Flood}
use Rattle.csdn_core.specs.Tree.{sequence, conditional, choice}
use Rattle.csdn_core.specs.Network.{is_fixed, is_fixed_in}
use Rattle.csdn_core.specs.Sorted.{Signature, Bind, IsAllowed}
use Rattle.csdn_core.specs.WellSorted.{OwnPacket, IsWrite, IsCommand, signature, command_bound_in}
use Rattle.csdn_wp.specs.After.{MayPrecede}
use Rattle.csdn_wp.proofs.Follows.{IsCommandIn, MayFollow}
use Rattle.csdn_wp.proofs.Sorting.{IsSortedIn-more}
use Rattle.csdn_core.proofs.Members.{distinct_pairs}
use Rattle.csdn_core.specs.SortedIn.{Scope, IsAtomIn, IsSortedIn, no_scope, with_sort, any_relation, no_rcv_this, scope_of}
use Rattle.csdn_core.proofs.Scopes.{AreNew, numbers_of, AreNew-binds, AreNew-none}

-- but in transition invariants no formula speaks of the packet
pub names_no_packet : (S : Signature) (place : FormulaPlace) → place ≢ Trans → (r : Pred) → IsAllowed S place r → no_rcv_this r
names_no_packet S place other (Stored r) allowed = refl
names_no_packet S place other Ft allowed = refl
names_no_packet S place other Sent allowed = refl
names_no_packet S Topology other RcvThis allowed = absurd allowed
names_no_packet S Safety other RcvThis allowed = absurd allowed
names_no_packet S InHandler other RcvThis allowed = absurd allowed
names_no_packet S Trans other RcvThis allowed = absurd (other refl)

pub no_packet_in : (S : Signature) (place : FormulaPlace) → place ≢ Trans → (Γ : Scope) (p : Formula) → IsSortedIn S (IsAllowed S place) Γ p → IsSortedIn S no_rcv_this Γ p
no_packet_in S place other Γ = IsSortedIn-more S (IsAllowed S place) no_rcv_this (names_no_packet S place other) Γ Γ (λ v s is. is)

module _ (P : Parts) where
  stored_is : (r : RelId) (relation : Relation) → slice_get P.relations r.0 ≡ Some relation → relation.fixed ≡ false → IsFalse (is_fixed P r.0)
  stored_is r relation declared stored = ap is_fixed_in declared ∙ stored

  not_trans : InHandler ≢ Trans
  not_trans is = cc

  written : (Γ : Scope) (r : RelId) (ts : List Term) → IsWrite (signature P) Γ r ts → IsFalse (is_fixed P r.0) × IsAtomIn (signature P) Γ (Stored r) ts
  written Γ r ts write = (stored_is r write.relation write.declared write.stored, record { sorts = write.relation.sorts; declared = rw write.declared; terms = write.terms })

  pub command_in : (own : OwnPacket) (c : Command) (Γ : Scope) → IsCommand (signature P) own Γ c → IsCommandIn P Γ c
  unfolding IsCommand IsCommandIn
  command_in own Skip Γ formed = tt
  command_in own (sequence a b) Γ formed = (command_in own a Γ formed.0, command_in own b Γ formed.1)
  command_in own (conditional p a b) Γ formed = (no_packet_in (signature P) InHandler not_trans Γ p formed.0, command_in own a Γ formed.1, command_in own b Γ formed.2)
  command_in own (choice v s p a b) Γ formed =
      (no_packet_in (signature P) InHandler not_trans (with_sort Γ v s) p formed.0, command_in own a (with_sort Γ v s) formed.1, command_in own b Γ formed.2)
  command_in own (Insert r ts) Γ formed = written Γ r ts formed
  command_in own (Remove r ts) Γ formed = written Γ r ts formed
  command_in own (Install ts) Γ formed = formed.terms
  command_in own (Uninstall ts) Γ formed = formed.terms
  command_in own (Forward ts) Γ formed = formed.terms
  command_in own (Flood ts) Γ formed = formed.terms

module _ (P : Parts) (bs : List Bind) (c : Command) (q : Formula) (may : MayPrecede P bs c q) where
  pub precedes_new : AreNew (scope_of bs) (command_bound_in c)
  precedes_new = AreNew-binds bs no_scope (command_bound_in c) (AreNew-none (numbers_of bs ++ command_bound_in c) (distinct_pairs (numbers_of bs ++ command_bound_in c) may.apart))

  pub precedes_in : IsCommandIn P (scope_of bs) c
  precedes_in = command_in P may.own c (scope_of bs) may.command

  pub precedes : MayFollow P any_relation (scope_of bs) c q
  precedes = record { sorted = may.formula; outside = λ n i. false_from_ne_true _ (may.stands_outside n i); apart = may.bound_outside }
