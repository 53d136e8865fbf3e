-- What the items that break no rule declare is well-sorted.
use Rattle.std.proofs.Common.{◌≡◌, ℕ, ◌+◌, ◌==◌, false, not, List, [], ◌∷◌, ◌++◌, length, map, All, Contains, Some, slice_get, nat_le, refl, inl, inr, arith}
use Rattle.std.specs.List.{AllByRecursion as ByRecursion}
use Rattle.std.proofs.lemmas.Bool.{cases_Bool, eqb-true}
use Rattle.std.proofs.lemmas.List.Elements.{All-push, All-append, All-from_recursion}
use Rattle.general_facts.proofs.Lists.{slice_get-append}
use Rattle.csdn_core.specs.declared.terms.FormulaPlace.{FormulaPlace}
use Rattle.csdn_core.specs.declared.terms.FormulaPlace.TheVariants as place
use Rattle.csdn_core.specs.declared.terms.RelId.{RelId}
use Rattle.csdn_core.specs.declared.program.Relation.{Relation as AnyRelation}
use Rattle.csdn_core.specs.declared.program.Invariant.{Invariant as NamedFormula}
use Rattle.csdn_core.specs.declared.program.Parts.{Parts}
use Rattle.csdn_core.specs.Sorted.{Signature}
use Rattle.csdn_core.specs.SortedIn.{no_scope}
use Rattle.csdn_core.specs.WellSorted.{IsSorted, IsHandler, signature, IsStartRow, IsTimeout}
use Rattle.csdn_tree.specs.declared.names.RawName.{RawName}
use Rattle.csdn_tree.specs.declared.syntax.InvariantKind.TheVariants.{Topology, Safety, Trans}
use Rattle.csdn_tree.specs.declared.syntax.RawFormula.{RawFormula}
use Rattle.csdn_tree.specs.declared.syntax.RawRelation.{RawRelation}
use Rattle.csdn_tree.specs.declared.syntax.RawRow.{RawRow}
use Rattle.csdn_tree.specs.declared.syntax.RawItem.{RawItem}
use Rattle.csdn_tree.specs.declared.syntax.RawItem.TheVariants.{Relation, Constant, Invariant, Handler, Timeout}
use Rattle.csdn_tree.specs.FromText.{KeepsStatics, HasSeconds}
use Rattle.csdn_tree.specs.Numerals.{terms_numerals, formula_numerals, command_numerals, port_numerals, rows_numerals, item_numerals, items_numerals}
use Rattle.csdn_types.specs.declared.refusal.SortRefusal.TheVariants.{WrongArity, TooMany}
use Rattle.csdn_types.specs.Scope.{Scope}
use Rattle.csdn_types.specs.Faults.{fault_if, faults, terms_faults}
use Rattle.csdn_types.specs.Items.{row_faults, rows_faults, name_faults, row_of, rows_of, handler_of}
use Rattle.csdn_types.specs.Programs.{ProgramDraft, named_formula, invariant_faults, item_faults, with_item, items_faults, with_items}
use Rattle.csdn_types.specs.Signed.{IsPart}
use Rattle.csdn_types.proofs.NumeralSorts.{Named, all_left, all_right, terms_named, formula_named, command_named}
use Rattle.csdn_types.proofs.Sorts.{free_left, free_right, no_fault, scope_none, terms_have, typed_is_sorted}
use Rattle.csdn_types.proofs.HandlerSorts.{handler_is_sorted}

-- ---- a declaration keeps its place

pub get-last : {X : Type 0} (xs : List X) (x : X) → slice_get (xs ++ x ∷ []) (length xs) ≡ Some x
get-last [] x = refl
get-last (y ∷ xs) x = get-last xs x

part-item : (S : Signature) (d : ProgramDraft) (item : RawItem) → IsPart (with_item d item).scope S → IsPart d.scope S
part-item S d (Relation r) part = record { relations = λ k x is. part.relations k x (slice_get-append d.scope.relations _ k x is); constants = part.constants }
part-item S d (Constant name sort) part = record { relations = part.relations; constants = λ k x is. part.constants k x (slice_get-append d.scope.constants _ k x is) }
part-item S d (Invariant Topology name p) part = record { relations = part.relations; constants = part.constants }
part-item S d (Invariant Safety name p) part = record { relations = part.relations; constants = part.constants }
part-item S d (Invariant Trans name p) part = record { relations = part.relations; constants = part.constants }
part-item S d (Handler h) part = record { relations = part.relations; constants = part.constants }
part-item S d (Timeout t) part = record { relations = part.relations; constants = part.constants }

part-items : (S : Signature) (d : ProgramDraft) (items : List RawItem) → IsPart (with_items d items).scope S → IsPart d.scope S
unfolding with_items
part-items S d [] part = part
part-items S d (item ∷ items) part = part-item S d item (part-items S (with_item d item) items part)

-- between items no variable is in scope
none-item : (d : ProgramDraft) (item : RawItem) → d.scope.variables ≡ [] → (with_item d item).scope.variables ≡ []
none-item d (Relation r) none = none
none-item d (Constant name sort) none = none
none-item d (Invariant Topology name p) none = none
none-item d (Invariant Safety name p) none = none
none-item d (Invariant Trans name p) none = none
none-item d (Handler h) none = none
none-item d (Timeout t) none = none

-- ---- the items so far, as parts of a whole program

module _ (P : Parts) where
  abbrev pub SortedAt : FormulaPlace → NamedFormula → Type 0
  SortedAt place v = IsSorted (signature P) place v.formula

  pub record SortedDraft (d : ProgramDraft) : Type 0 where
    pub start : All (IsStartRow P) d.start
    pub topology : All (SortedAt place.Topology) d.topology
    pub safety : All (SortedAt place.Safety) d.safety
    pub trans : All (SortedAt place.Trans) d.trans
    pub handlers : All (IsHandler (signature P)) d.handlers

  rows_sorted : (s : Scope) → s.variables ≡ [] → IsPart s (signature P) → (id : RelId) (relation : AnyRelation) → slice_get P.relations id.0 ≡ Some relation → relation.fixed ≡ false
      → (count : ℕ) (rows : List RawRow) → Named (signature P) (rows_numerals rows) → rows_faults s relation.sorts count rows ≡ [] → ByRecursion (IsStartRow P) (map (row_of s id) rows)
  unfolding rows_faults
  rows_sorted s none part id relation declared stored count [] numerals free = tt
  rows_sorted s none part id relation declared stored count (row ∷ rows) numerals free =
      let here = free_left (row_faults s relation.sorts count row) _ free in
      let arity = eqb-true _ _ (no_fault (length row.terms == length relation.sorts) (WrongArity row.at) (free_left (fault_if (not (length row.terms == length relation.sorts)) (WrongArity row.at)) _ here)) in
      let terms = free_right (fault_if (nat_le 1024 count) (TooMany row.at)) (terms_faults s relation.sorts row.terms) (free_right (fault_if (not (length row.terms == length relation.sorts)) (WrongArity row.at)) _ here) in
      let has = terms_have s (signature P) no_scope part (scope_none s none) relation.sorts row.terms arity (terms_named (signature P) row.terms (all_left (Contains P.numerals) (terms_numerals row.terms) (rows_numerals rows) numerals)) terms in (
        record { relation = relation; declared = declared; stored = stored; terms = has },
        rows_sorted s none part id relation declared stored (count + 1) rows (all_right (Contains P.numerals) (terms_numerals row.terms) (rows_numerals rows) numerals) (free_right (row_faults s relation.sorts count row) _ free),
      )

  sorted-relation : (d : ProgramDraft) (r : RawRelation) → d.scope.variables ≡ [] → IsPart (with_item d (Relation r)).scope (signature P) → Named (signature P) (rows_numerals r.rows) → KeepsStatics (Relation r) → item_faults d (Relation r) ≡ [] → All (IsStartRow P) (rows_of d.scope r)
  sorted-relation d r none part numerals statics free = elim (cases_Bool r.fixed) [
    | inl e ↦ rw (statics e) (λ k x within. absurd (omega (arith, within)))
    | inr e ↦ All-from_recursion (IsStartRow P) (rows_of d.scope r)
        (rows_sorted d.scope none (part-item (signature P) d (Relation r) part) (record { 0 = length d.scope.relations }) (record { name = r.name.text; sorts = r.sorts; fixed = r.fixed })
        (part.relations (length d.scope.relations) _ (get-last d.scope.relations _)) e 0 r.rows numerals (free_right (name_faults d.scope r) (rows_faults d.scope r.sorts 0 r.rows) free))
  ]

  sorted-formula : (d : ProgramDraft) (at : FormulaPlace) (name : RawName) (p : RawFormula) → d.scope.variables ≡ [] → IsPart d.scope (signature P) → Named (signature P) (formula_numerals p) → faults at d.scope p ≡ [] → SortedAt at (named_formula d.scope name p)
  sorted-formula d at name p none part numerals free =
      let fits = typed_is_sorted (signature P) at d.scope no_scope p part (scope_none d.scope none) (formula_named (signature P) p numerals) free in
      record { sorts = fits.0; few = (let room = fits.1 in omega (arith, room)) }

  sorted-item : (d : ProgramDraft) (item : RawItem) → d.scope.variables ≡ [] → IsPart (with_item d item).scope (signature P) → Named (signature P) (item_numerals item) → KeepsStatics item → item_faults d item ≡ [] → SortedDraft d → SortedDraft (with_item d item)
  sorted-item d (Relation r) none part numerals statics free h = record {
    start = All-append (IsStartRow P) d.start (rows_of d.scope r) h.start (sorted-relation d r none part numerals statics free);
    topology = h.topology;
    safety = h.safety;
    trans = h.trans;
    handlers = h.handlers;
  }
  sorted-item d (Constant name sort) none part numerals statics free h = record { start = h.start; topology = h.topology; safety = h.safety; trans = h.trans; handlers = h.handlers }
  sorted-item d (Invariant Topology name p) none part numerals statics free h = record {
    start = h.start;
    topology = All-push (SortedAt place.Topology) d.topology _ h.topology (sorted-formula d place.Topology name p none (part-item (signature P) d (Invariant Topology name p) part) numerals (free_right (invariant_faults d name) (faults place.Topology d.scope p) free));
    safety = h.safety;
    trans = h.trans;
    handlers = h.handlers;
  }
  sorted-item d (Invariant Safety name p) none part numerals statics free h = record {
    start = h.start;
    topology = h.topology;
    safety = All-push (SortedAt place.Safety) d.safety _ h.safety (sorted-formula d place.Safety name p none (part-item (signature P) d (Invariant Safety name p) part) numerals (free_right (invariant_faults d name) (faults place.Safety d.scope p) free));
    trans = h.trans;
    handlers = h.handlers;
  }
  sorted-item d (Invariant Trans name p) none part numerals statics free h = record {
    start = h.start;
    topology = h.topology;
    safety = h.safety;
    trans = All-push (SortedAt place.Trans) d.trans _ h.trans (sorted-formula d place.Trans name p none (part-item (signature P) d (Invariant Trans name p) part) numerals (free_right (invariant_faults d name) (faults place.Trans d.scope p) free));
    handlers = h.handlers;
  }
  sorted-item d (Handler x) none part numerals statics free h = record {
    start = h.start;
    topology = h.topology;
    safety = h.safety;
    trans = h.trans;
    handlers = All-push (IsHandler (signature P)) d.handlers (handler_of d.scope x) h.handlers
        (handler_is_sorted (signature P) d.scope (length d.handlers) x none (part-item (signature P) d (Handler x) part) (command_named (signature P) x.body (all_right (Contains P.numerals) (port_numerals x.ingress) (command_numerals x.body) numerals)) free);
  }
  sorted-item d (Timeout t) none part numerals statics free h = record { start = h.start; topology = h.topology; safety = h.safety; trans = h.trans; handlers = h.handlers }

  pub sorted-items : (d : ProgramDraft) (items : List RawItem) → d.scope.variables ≡ [] → IsPart (with_items d items).scope (signature P) → Named (signature P) (items_numerals items) → ByRecursion KeepsStatics items → items_faults d items ≡ [] → SortedDraft d → SortedDraft (with_items d items)
  unfolding with_items items_faults
  sorted-items d [] none part numerals statics free h = h
  sorted-items d (item ∷ items) none part numerals statics free h =
      sorted-items (with_item d item) items (none-item d item none) part (all_right (Contains P.numerals) (item_numerals item) (items_numerals items) numerals) statics.1 (free_right (item_faults d item) (items_faults (with_item d item) items) free)
      (sorted-item d item none (part-items (signature P) (with_item d item) items part) (all_left (Contains P.numerals) (item_numerals item) (items_numerals items) numerals) statics.0 (free_left (item_faults d item) (items_faults (with_item d item) items) free) h)

-- the timeout of items is that of the text
timeout-item : (d : ProgramDraft) (item : RawItem) → HasSeconds item → IsTimeout d.timeout → IsTimeout (with_item d item).timeout
timeout-item d (Relation r) is h = h
timeout-item d (Constant name sort) is h = h
timeout-item d (Invariant Topology name p) is h = h
timeout-item d (Invariant Safety name p) is h = h
timeout-item d (Invariant Trans name p) is h = h
timeout-item d (Handler x) is h = h
timeout-item d (Timeout t) is h = is

pub timeout-items : (d : ProgramDraft) (items : List RawItem) → ByRecursion HasSeconds items → IsTimeout d.timeout → IsTimeout (with_items d items).timeout
unfolding with_items
timeout-items d [] are h = h
timeout-items d (item ∷ items) are h = timeout-items (with_item d item) items are.1 (timeout-item d item are.0 h)
