-- The faults of commands and items stand in the order of refusals.
use Rattle.std.proofs.Common.{◌≡◌, ◌⊎◌, ℕ, ◌+◌, ◌*◌, Bool, not, ◌==◌, List, [], ◌∷◌, ◌++◌, length, is_some, nat_le, nat_lt, inl, inr, arith}
use Rattle.csdn_core.specs.Same.{same_term}
use Rattle.csdn_core.specs.declared.terms.FormulaPlace.TheVariants.{Handler as InHandler}
use Rattle.csdn_core.specs.declared.terms.Sort.{Sort}
use Rattle.csdn_core.specs.declared.terms.Sort.TheVariants.{Sw, Ho, Pr}
use Rattle.csdn_core.specs.declared.terms.Term.{Term}
use Rattle.csdn_tree.specs.declared.names.RawTerm.TheVariants.{Name}
use Rattle.csdn_tree.specs.declared.names.RawTerm.{RawTerm}
use Rattle.csdn_types.specs.declared.refusal.SortRefusal.{SortRefusal}
use Rattle.csdn_types.specs.declared.refusal.SortRefusal.TheVariants.{Memory, Duplicate, WrongArity, NotAllowed, TooMany}
use Rattle.csdn_tree.specs.declared.syntax.RawCommand.{RawCommand}
use Rattle.csdn_tree.specs.declared.syntax.RawFlow.{RawFlow}
use Rattle.csdn_tree.specs.declared.syntax.RawCommand.TheVariants as c
use Rattle.csdn_tree.specs.declared.syntax.SwitchWord.TheVariants as switch
use Rattle.csdn_tree.specs.RawTree.{raw_seq, raw_if, raw_pick}
use Rattle.csdn_tree.specs.declared.syntax.RawRow.{RawRow}
use Rattle.csdn_tree.specs.declared.syntax.RawRelation.{RawRelation}
use Rattle.csdn_tree.specs.declared.syntax.RawPattern.{RawPattern}
use Rattle.csdn_tree.specs.declared.syntax.RawPattern.TheVariants.{Any as AnyPort, Port as OnePort}
use Rattle.csdn_tree.specs.declared.syntax.RawItem.{RawItem}
use Rattle.csdn_tree.specs.declared.syntax.RawItem.TheVariants.{Relation, Constant, Invariant, Handler, Timeout}
use Rattle.csdn_tree.specs.Places.{place as place_of}
use Rattle.csdn_types.specs.declared.own.OwnTerms.{OwnTerms}
use Rattle.csdn_types.specs.declared.terms.Use.TheVariants.{Write}
use Rattle.csdn_types.specs.Answers.{IsFirst}
use Rattle.csdn_types.specs.Scope.{Scope, relation_named, bound, meaning}
use Rattle.csdn_types.specs.Typed.{term_of}
use Rattle.csdn_tree.specs.Binders.{binders}
use Rattle.csdn_types.specs.Faults.{fault_if, term_faults, variable_faults, faults}
use Rattle.csdn_types.specs.Commands.{own_faults, install_faults, command_faults, later}
use Rattle.csdn_tree.specs.Binders.{command_binders}
use Rattle.csdn_types.specs.Items.{row_faults, rows_faults, name_faults, ingress_faults, own_of, inside}
use Rattle.csdn_types.specs.Programs.{ProgramDraft, place_of as kind_place, invariant_faults, item_faults, with_item, items_faults}
use Rattle.csdn_types.specs.Order.{IsLeast}
use Rattle.csdn_tree.specs.Within.{TermsWithin, CommandWithin, RowsWithin, port_place, ItemWithin, ItemsWithin}
use Rattle.csdn_types.proofs.InOrder.{Ordered, sort_low, ordered_from, joined, none, if_one, between, then_later, term_ordered, terms_ordered, atom_ordered, variable_ordered, faults_ordered, least}

-- ---- commands

-- what `term_faults` may hold stands below NotAllowed
term_low : (s : Scope) (sort : Sort) (t : RawTerm) → Ordered (8 * place_of t) (term_faults s sort t) (8 * place_of t + 4)
term_low s sort t = sort_low (place_of t) sort (meaning s t)

own_ordered : (s : Scope) (sort : Sort) (own : Term) (t : RawTerm) → Ordered (8 * place_of t) (own_faults s sort own t) (8 * place_of t + 8)
own_ordered s sort own t =
    joined _ (8 * place_of t + 4) _ (term_faults s sort t) _ (term_low s sort t) (if_one (not (same_term (term_of s t) own)) _ _ (NotAllowed (place_of t)) (omega arith) (omega arith))

module _ (own : OwnTerms) where
  install_ordered : (s : Scope) (w : RawFlow) (from to : ℕ) → TermsWithin from (Name w.switch ∷ w.source ∷ w.target ∷ w.ingress ∷ w.egress ∷ []) to → Ordered (8 * from) (install_faults own s w) (8 * to)
  unfolding TermsWithin
  install_ordered s w from to within =
      then_later from (w.switch.at) to _ _ within.0 (own_ordered s Sw own.switch (Name w.switch))
      (then_later _ (place_of w.source) to _ _ within.1.0 (term_ordered s Ho w.source)
      (then_later _ (place_of w.target) to _ _ within.1.1.0 (term_ordered s Ho w.target)
      (then_later _ (place_of w.ingress) to _ _ within.1.1.1.0 (term_ordered s Pr w.ingress)
      (between _ (place_of w.egress) to _ within.1.1.1.1.0 (omega (arith, within.1.1.1.1.1)) (term_ordered s Pr w.egress)))))

  command_ordered : (s : Scope) (x : RawCommand) (from to : ℕ) → CommandWithin from x to → Ordered (8 * from) (command_faults own s x) (8 * to)
  unfolding CommandWithin command_faults TermsWithin
  command_ordered s c.Skip from to within = none _ _ (omega arith)
  command_ordered s (raw_seq a b) from to (m, left, right) = joined _ (8 * m) _ (command_faults own s a) _ (command_ordered s a from m left) (command_ordered (later s (command_binders a)) b m to right)
  command_ordered s (raw_if p a b) from to (m, n, first, second, third) =
      joined _ (8 * m) _ (faults InHandler s p) _ (faults_ordered InHandler s p from m first)
      (joined _ (8 * n) _ (command_faults own (later s (binders p)) a) _ (command_ordered (later s (binders p)) a m n second) (command_ordered (later s (binders p + command_binders a)) b n to third))
  command_ordered s (raw_pick name sort p a b) from to (m, n, low, first, second, third) =
      joined _ (8 * n) _ _ _
      (then_later from name.at n (variable_faults s name) _ low (variable_ordered s name)
      (joined _ (8 * m) _ (faults InHandler (bound s name sort) p) _ (faults_ordered InHandler (bound s name sort) p (name.at + 1) m first) (command_ordered (later (bound s name sort) (binders p)) a m n second)))
      (command_ordered (later s ((1 + binders p) + command_binders a)) b n to third)
  command_ordered s (c.Change word name ts) from to within = atom_ordered Write s name ts from to within.0 within.1
  command_ordered s (c.Switch switch.Install w) from to within = install_ordered s w from to within
  command_ordered s (c.Switch switch.Uninstall w) from to within = install_ordered s w from to within
  command_ordered s (c.Switch switch.Forward w) from to within =
      then_later from (w.switch.at) to _ _ within.0 (own_ordered s Sw own.switch (Name w.switch))
      (then_later _ (place_of w.source) to _ _ within.1.0 (own_ordered s Ho own.source w.source)
      (then_later _ (place_of w.target) to _ _ within.1.1.0 (own_ordered s Ho own.target w.target)
      (then_later _ (place_of w.ingress) to _ _ within.1.1.1.0 (own_ordered s Pr own.ingress w.ingress)
      (between _ (place_of w.egress) to _ within.1.1.1.1.0 (omega (arith, within.1.1.1.1.1)) (term_ordered s Pr w.egress)))))
  command_ordered s (c.Flood w) from to within =
      then_later from (w.switch.at) to _ _ within.0 (own_ordered s Sw own.switch (Name w.switch))
      (then_later _ (place_of w.source) to _ _ within.1.0 (own_ordered s Ho own.source w.source)
      (then_later _ (place_of w.target) to _ _ within.1.1.0 (own_ordered s Ho own.target w.target)
      (between _ (place_of w.ingress) to _ within.1.1.1.0 (omega (arith, within.1.1.1.1)) (own_ordered s Pr own.ingress w.ingress))))

-- ---- items

rows_ordered : (s : Scope) (sorts : List Sort) (count : ℕ) (rows : List RawRow) (from to : ℕ) → RowsWithin from rows to → Ordered (8 * from) (rows_faults s sorts count rows) (8 * to)
unfolding RowsWithin rows_faults
rows_ordered s sorts count [] from to within = none _ _ (omega (arith, within))
rows_ordered s sorts count (row ∷ rows) from to (m, low, terms, more) =
    joined _ (8 * m) _ (row_faults s sorts count row) _
    (ordered_from _ (8 * row.at) _ _ (omega arith)
    (joined _ (8 * row.at + 4) _ (fault_if (not (length row.terms == length sorts)) (WrongArity row.at)) _ (if_one (not (length row.terms == length sorts)) _ _ (WrongArity row.at) (omega arith) (omega arith))
    (joined _ (8 * row.at + 7) _ (fault_if (nat_le 1024 count) (TooMany row.at)) _ (if_one (nat_le 1024 count) _ _ (TooMany row.at) (omega arith) (omega arith))
    (ordered_from _ (8 * (row.at + 1)) _ _ (omega arith) (terms_ordered s sorts row.terms (row.at + 1) m terms)))))
    (rows_ordered s sorts (count + 1) rows m to more)

name_ordered : (s : Scope) (d : RawRelation) → Ordered (8 * d.name.at) (name_faults s d) (8 * d.name.at + 8)
name_ordered s d =
    joined _ (8 * d.name.at + 2) _ (fault_if (is_some (relation_named s d.name.text)) (Duplicate d.name.at)) _ (if_one (is_some (relation_named s d.name.text)) _ _ (Duplicate d.name.at) (omega arith) (omega arith))
    (joined _ (8 * d.name.at + 4) _ (fault_if (nat_lt 5 (length d.sorts)) (WrongArity d.name.at)) _ (if_one (nat_lt 5 (length d.sorts)) _ _ (WrongArity d.name.at) (omega arith) (omega arith))
    (if_one (nat_le 64 (length s.relations)) _ _ (TooMany d.name.at) (omega arith) (omega arith)))

-- a duplicate, and one too many
two_ordered : (a b : Bool) (at : ℕ) → Ordered (8 * at) (fault_if a (Duplicate at) ++ fault_if b (TooMany at)) (8 * at + 8)
two_ordered a b at = joined _ (8 * at + 2) _ (fault_if a (Duplicate at)) _ (if_one a _ _ (Duplicate at) (omega arith) (omega arith)) (if_one b _ _ (TooMany at) (omega arith) (omega arith))

ingress_ordered : (s : Scope) (port : RawPattern) → Ordered (8 * port_place port) (ingress_faults s port) (8 * port_place port + 8)
ingress_ordered s (AnyPort n) = variable_ordered s n
ingress_ordered s (OnePort k) = none _ _ (omega arith)

item_ordered : (d : ProgramDraft) (item : RawItem) (from to : ℕ) → ItemWithin from item to → Ordered (8 * from) (item_faults d item) (8 * to)
item_ordered d (Relation r) from to within = then_later from r.name.at to (name_faults d.scope r) _ within.0 (name_ordered d.scope r) (rows_ordered d.scope r.sorts 0 r.rows (r.name.at + 1) to within.1)
item_ordered d (Constant name sort) from to within = between from name.at to _ within.0 within.1 (two_ordered _ _ name.at)
item_ordered d (Invariant kind name p) from to within = then_later from name.at to (invariant_faults d name) _ within.0 (two_ordered _ _ name.at) (faults_ordered (kind_place kind) d.scope p (name.at + 1) to within.1)
item_ordered d (Handler h) from to (low, first, second, third, fourth, body) =
    let s = d.scope in
    then_later from h.at to (fault_if (nat_le 32 (length d.handlers)) (TooMany h.at)) _ low (if_one (nat_le 32 (length d.handlers)) _ _ (TooMany h.at) (omega arith) (omega arith))
    (then_later _ h.switch.at to (variable_faults s h.switch) _ (omega arith) (variable_ordered s h.switch)
    (then_later _ h.source.at to (variable_faults (bound s h.switch Sw) h.source) _ (omega arith) (variable_ordered (bound s h.switch Sw) h.source)
    (then_later _ h.target.at to (variable_faults (bound (bound s h.switch Sw) h.source Ho) h.target) _ (omega arith) (variable_ordered (bound (bound s h.switch Sw) h.source Ho) h.target)
    (then_later _ (port_place h.ingress) to (ingress_faults (bound (bound (bound s h.switch Sw) h.source Ho) h.target Ho) h.ingress) _ (omega arith) (ingress_ordered (bound (bound (bound s h.switch Sw) h.source Ho) h.target Ho) h.ingress)
    (command_ordered (own_of s h) (inside s h) h.body (port_place h.ingress + 1) to body)))))
item_ordered d (Timeout t) from to within = between from t.at to _ within.0 within.1 (if_one (is_some d.timeout) _ _ (Duplicate t.at) (omega arith) (omega arith))

pub items_ordered : (d : ProgramDraft) (items : List RawItem) (from to : ℕ) → ItemsWithin from items to → Ordered (8 * from) (items_faults d items) (8 * to)
unfolding ItemsWithin items_faults
items_ordered d [] from to within = none _ _ (omega (arith, within))
items_ordered d (item ∷ items) from to (m, here, more) = joined _ (8 * m) _ (item_faults d item) _ (item_ordered d item from m here) (items_ordered (with_item d item) items m to more)

-- where the places rise, the first fault is the refusal to answer
pub first_is_least : (d : ProgramDraft) (items : List RawItem) (from to : ℕ) → ItemsWithin from items to → (e : SortRefusal) → IsFirst (items_faults d items) e → (e ≡ Memory) ⊎ IsLeast (items_faults d items) e
first_is_least d items from to within e first = elim first.is [ inl memory ↦ inl memory | inr is ↦ inr (least (items_faults d items) e _ _ (items_ordered d items from to within) is) ]
