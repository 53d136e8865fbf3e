-- Programs: their rules, and the parts that stand for them.
use Rattle.std.specs.Prelude.{◌≡◌, ℕ, ◌+◌, nat_le, List, [], ◌∷◌, ◌++◌, length, map, position, Option, Some, is_some, Result, MatchResult}
use Rattle.std.specs.Str.{bytes_eq}
use Rattle.csdn_core.specs.declared.terms.FormulaPlace.{FormulaPlace}
use Rattle.csdn_core.specs.declared.terms.FormulaPlace.TheVariants as place
use Rattle.csdn_core.specs.declared.program.StartRow.{StartRow}
use Rattle.csdn_core.specs.declared.program.Invariant.{Invariant as NamedFormula}
use Rattle.csdn_core.specs.declared.program.Handler.{Handler as TypedHandler}
use Rattle.csdn_tree.specs.declared.names.RawName.{RawName}
use Rattle.csdn_types.specs.declared.refusal.SortRefusal.{SortRefusal}
use Rattle.csdn_types.specs.declared.refusal.SortRefusal.TheVariants.{Duplicate, TooMany}
use Rattle.csdn_tree.specs.declared.syntax.InvariantKind.{InvariantKind}
use Rattle.csdn_tree.specs.declared.syntax.InvariantKind.TheVariants.{Topology, Safety, Trans}
use Rattle.csdn_tree.specs.declared.syntax.RawItem.{RawItem}
use Rattle.csdn_tree.specs.declared.syntax.RawItem.TheVariants.{Relation, Constant, Invariant, Handler, Timeout}
use Rattle.csdn_tree.specs.declared.syntax.RawTimeout.{RawTimeout}
use Rattle.csdn_tree.specs.declared.syntax.RawFormula.{RawFormula}
use Rattle.csdn_types.specs.Answers.{IsFirst}
use Rattle.csdn_types.specs.Scope.{Scope, with_relation, with_constant}
use Rattle.csdn_types.specs.Typed.{typed, after}
use Rattle.csdn_types.specs.Faults.{fault_if, faults}
use Rattle.csdn_types.specs.Commands.{later}
use Rattle.csdn_tree.specs.Binders.{command_binders}
use Rattle.csdn_types.specs.Items.{relation_item_faults, rows_of, handler_faults, handler_of}

-- the items so far
pub record ProgramDraft : Type 0 where
  pub scope : Scope
  pub invariants : List (List ℕ)
  pub start : List StartRow
  pub topology : List NamedFormula
  pub safety : List NamedFormula
  pub trans : List NamedFormula
  pub handlers : List TypedHandler
  pub timeout : Option ℕ

abbrev pub place_of : InvariantKind → FormulaPlace
place_of Topology = place.Topology
place_of Safety = place.Safety
place_of Trans = place.Trans

abbrev pub constant_faults : Scope → RawName → List SortRefusal
constant_faults s name =
    fault_if (is_some (position (bytes_eq name.text) (map (λ d. d.name) s.constants))) (Duplicate name.at) ++ fault_if (nat_le 64 (length s.constants)) (TooMany name.at)

abbrev pub invariant_faults : ProgramDraft → RawName → List SortRefusal
invariant_faults d name =
    fault_if (is_some (position (bytes_eq name.text) d.invariants)) (Duplicate name.at) ++ fault_if (nat_le 64 (length d.invariants)) (TooMany name.at)

-- only one timeout is declared
abbrev pub timeout_faults : ProgramDraft → RawTimeout → List SortRefusal
timeout_faults d t = fault_if (is_some d.timeout) (Duplicate t.at)

abbrev pub item_faults : ProgramDraft → RawItem → List SortRefusal
item_faults d (Relation r) = relation_item_faults d.scope r
item_faults d (Constant name sort) = constant_faults d.scope name
item_faults d (Invariant kind name p) = invariant_faults d name ++ faults (place_of kind) d.scope p
item_faults d (Handler h) = handler_faults d.scope (length d.handlers) h
item_faults d (Timeout t) = timeout_faults d t

abbrev pub named_formula : Scope → RawName → RawFormula → NamedFormula
named_formula s name p = record { name = name.text; formula = typed s p }

abbrev pub with_invariant : ProgramDraft → InvariantKind → RawName → RawFormula → ProgramDraft
with_invariant d Topology name p = record d { scope = after d.scope p; invariants = d.invariants ++ name.text ∷ []; topology = d.topology ++ named_formula d.scope name p ∷ [] }
with_invariant d Safety name p = record d { scope = after d.scope p; invariants = d.invariants ++ name.text ∷ []; safety = d.safety ++ named_formula d.scope name p ∷ [] }
with_invariant d Trans name p = record d { scope = after d.scope p; invariants = d.invariants ++ name.text ∷ []; trans = d.trans ++ named_formula d.scope name p ∷ [] }

-- the items so far, and one more
abbrev pub with_item : ProgramDraft → RawItem → ProgramDraft
with_item d (Relation r) = record d { scope = with_relation d.scope r; start = d.start ++ rows_of d.scope r }
with_item d (Constant name sort) = record d { scope = with_constant d.scope name sort }
with_item d (Invariant kind name p) = with_invariant d kind name p
with_item d (Handler h) = record d { scope = later d.scope (4 + command_binders h.body); handlers = d.handlers ++ handler_of d.scope h ∷ [] }
with_item d (Timeout t) = record d { timeout = Some t.seconds }

unfoldable pub items_faults : ProgramDraft → List RawItem → List SortRefusal
items_faults d [] = []
items_faults d (item ∷ items) = item_faults d item ++ items_faults (with_item d item) items

unfoldable pub with_items : ProgramDraft → List RawItem → ProgramDraft
with_items d [] = d
with_items d (item ∷ items) = with_items (with_item d item) items

-- no rule is broken, or the first of those that are
abbrev pub Passes : {A : Type 0} → List SortRefusal → Result A SortRefusal → Type 0
Passes {A} faults result = MatchResult result (λ v. faults ≡ []) (IsFirst faults)
