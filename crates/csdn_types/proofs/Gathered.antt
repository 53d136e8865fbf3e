-- What the invariants and the handlers of a program give: the items are gathered by kind, so it is counted.
use Rattle.std.proofs.Common.{◌≡◌, ℕ, ◌+◌, Bool, List, [], ◌∷◌, ◌++◌, length, flat_map, refl, sym, ap, ◌∙◌, arith}
use Rattle.std.proofs.lemmas.List.Concat.{flat_map-append}
use Rattle.csdn_core.specs.Numerals as core
use Rattle.csdn_core.specs.WellSorted.{handler_bound_in, invariant_bound_in, command_bound_in}
use Rattle.csdn_core.specs.declared.program.Invariant.{Invariant as NamedFormula}
use Rattle.csdn_core.specs.declared.program.Handler.{Handler as TypedHandler}
use Rattle.csdn_tree.specs.declared.syntax.InvariantKind.TheVariants.{Topology, Safety, Trans}
use Rattle.csdn_tree.specs.declared.syntax.RawItem.{RawItem}
use Rattle.csdn_tree.specs.declared.syntax.RawItem.TheVariants.{Relation, Constant, Invariant, Handler, Timeout}
use Rattle.csdn_tree.specs.declared.syntax.RawHandler.{RawHandler}
use Rattle.csdn_tree.specs.Binders.{item_binders, items_binders, command_binders}
use Rattle.csdn_tree.specs.Numerals.{item_numerals, items_numerals}
use Rattle.csdn_types.specs.Scope.{Scope}
use Rattle.csdn_types.specs.Commands.{command_typed}
use Rattle.csdn_types.specs.Items.{handler_of, inside, rows_of}
use Rattle.csdn_types.specs.Programs.{ProgramDraft, named_formula, with_item, with_items}
use Rattle.csdn_types.specs.Signed.{counted}
use Rattle.csdn_types.proofs.Counts.{times, times-nil, times-append, times-flat_push}
use Rattle.csdn_types.proofs.ItemLists.{next-with_item}
use Rattle.csdn_types.proofs.Sorts.{counted-add, counted-next, bound_in-typed}
use Rattle.csdn_types.proofs.CommandSorts.{command_bound_in-typed}
use Rattle.csdn_types.proofs.KeptNumerals.{kept-formula, kept-rows, kept-handler}

module _ (q : ℕ → Bool) (of_invariant : NamedFormula → List ℕ) (of_handler : TypedHandler → List ℕ) where
  abbrev pub gathered : ProgramDraft → ℕ
  gathered d = times q (flat_map of_invariant d.topology) + (times q (flat_map of_invariant d.safety) + (times q (flat_map of_invariant d.trans) + times q (flat_map of_handler d.handlers)))

  pub gathered-is : (d : ProgramDraft) → times q (flat_map of_invariant d.topology ++ (flat_map of_invariant d.safety ++ (flat_map of_invariant d.trans ++ flat_map of_handler d.handlers))) ≡ gathered d
  gathered-is d =
      rw (
        times-append q (flat_map of_invariant d.topology) (flat_map of_invariant d.safety ++ (flat_map of_invariant d.trans ++ flat_map of_handler d.handlers)),
        times-append q (flat_map of_invariant d.safety) (flat_map of_invariant d.trans ++ flat_map of_handler d.handlers),
        times-append q (flat_map of_invariant d.trans) (flat_map of_handler d.handlers),
      )

  abbrev given : ProgramDraft → RawItem → List ℕ
  given d (Relation r) = []
  given d (Constant name sort) = []
  given d (Invariant kind name p) = of_invariant (named_formula d.scope name p)
  given d (Handler h) = of_handler (handler_of d.scope h)
  given d (Timeout t) = []

  gathered-item : (d : ProgramDraft) (item : RawItem) → gathered (with_item d item) ≡ gathered d + times q (given d item)
  gathered-item d (Relation r) = omega (arith, times-nil q)
  gathered-item d (Constant name sort) = omega (arith, times-nil q)
  gathered-item d (Invariant Topology name p) = omega (arith, times-flat_push q of_invariant d.topology (named_formula d.scope name p))
  gathered-item d (Invariant Safety name p) = omega (arith, times-flat_push q of_invariant d.safety (named_formula d.scope name p))
  gathered-item d (Invariant Trans name p) = omega (arith, times-flat_push q of_invariant d.trans (named_formula d.scope name p))
  gathered-item d (Handler h) = omega (arith, times-flat_push q of_handler d.handlers (handler_of d.scope h))
  gathered-item d (Timeout t) = omega (arith, times-nil q)

-- ---- the numbers of variables

handler_numbers : (s : Scope) (h : RawHandler) → handler_bound_in (handler_of s h) ≡ counted s.next (4 + command_binders h.body)
handler_numbers s h =
    let n = s.next in
    let body : command_bound_in (command_typed (inside s h) h.body) ≡ counted (n + 1 + 1 + 1 + 1) (command_binders h.body) = command_bound_in-typed (inside s h) h.body in
    let four : 4 + command_binders h.body ≡ 1 + (1 + (1 + (1 + command_binders h.body))) = omega arith in
    rw (body, counted-next (n + 1 + 1 + 1) (command_binders h.body), counted-next (n + 1 + 1) (1 + command_binders h.body), counted-next (n + 1) (1 + (1 + command_binders h.body)), four)
    (counted-next n (1 + (1 + (1 + command_binders h.body))))

numbers_given : (q : ℕ → Bool) (d : ProgramDraft) (item : RawItem) → given q invariant_bound_in handler_bound_in d item ≡ counted d.scope.next (item_binders item)
unfolding counted
numbers_given q d (Relation r) = refl
numbers_given q d (Constant name sort) = refl
numbers_given q d (Invariant kind name p) = bound_in-typed d.scope p
numbers_given q d (Handler h) = handler_numbers d.scope h
numbers_given q d (Timeout t) = refl

-- the numbers so far are those below the next one, each once
abbrev pub Numbered : (ℕ → Bool) → ProgramDraft → Type 0
Numbered q d = gathered q invariant_bound_in handler_bound_in d ≡ times q (counted 0 d.scope.next)

numbered_item : (q : ℕ → Bool) (d : ProgramDraft) (item : RawItem) → Numbered q d → Numbered q (with_item d item)
numbered_item q d item is =
    let more : counted 0 d.scope.next ++ counted (0 + d.scope.next) (item_binders item) ≡ counted 0 (d.scope.next + item_binders item) = counted-add 0 d.scope.next (item_binders item) in
    let from : 0 + d.scope.next ≡ d.scope.next = omega arith in
    omega (
      arith,
      is,
      gathered-item q invariant_bound_in handler_bound_in d item,
      ap (λ ns. times q ns) (numbers_given q d item),
      ap (λ n. times q (counted n (item_binders item))) from,
      sym (times-append q (counted 0 d.scope.next) (counted (0 + d.scope.next) (item_binders item))) ∙ ap (λ ns. times q ns) more,
      ap (λ n. times q (counted 0 n)) (next-with_item d item),
    )

pub numbered_items : (q : ℕ → Bool) (d : ProgramDraft) (items : List RawItem) → Numbered q d → Numbered q (with_items d items)
unfolding with_items
numbered_items q d [] is = is
numbered_items q d (item ∷ items) is = numbered_items q (with_item d item) items (numbered_item q d item is)

pub next_items : (d : ProgramDraft) (items : List RawItem) → (with_items d items).scope.next ≡ d.scope.next + items_binders items
unfolding with_items items_binders
next_items d [] = omega arith
next_items d (item ∷ items) = omega (arith, next_items (with_item d item) items, next-with_item d item)

-- ---- numerals

abbrev pub all_numerals_of : (ℕ → Bool) → ProgramDraft → ℕ
all_numerals_of q d = times q (flat_map core.row_numerals d.start) + gathered q core.invariant_numerals core.handler_numerals d

numerals_given : (q : ℕ → Bool) (d : ProgramDraft) (item : RawItem) → all_numerals_of q (with_item d item) ≡ all_numerals_of q d + times q (item_numerals item)
numerals_given q d (Relation r) =
    let rows = kept-rows d.scope (record { 0 = length d.scope.relations }) r.rows in
    let sum : times q (flat_map core.row_numerals (d.start ++ rows_of d.scope r)) ≡ times q (flat_map core.row_numerals d.start) + times q (item_numerals (Relation r)) =
    ap (λ ns. times q ns) (flat_map-append core.row_numerals d.start (rows_of d.scope r) ∙ ap (λ ns. flat_map core.row_numerals d.start ++ ns) rows) ∙ times-append q (flat_map core.row_numerals d.start) (item_numerals (Relation r)) in
    omega (arith, sum)
numerals_given q d (Constant name sort) = omega (arith, times-nil q)
numerals_given q d (Invariant Topology name p) = omega (arith, gathered-item q core.invariant_numerals core.handler_numerals d (Invariant Topology name p), ap (λ ns. times q ns) (kept-formula d.scope p))
numerals_given q d (Invariant Safety name p) = omega (arith, gathered-item q core.invariant_numerals core.handler_numerals d (Invariant Safety name p), ap (λ ns. times q ns) (kept-formula d.scope p))
numerals_given q d (Invariant Trans name p) = omega (arith, gathered-item q core.invariant_numerals core.handler_numerals d (Invariant Trans name p), ap (λ ns. times q ns) (kept-formula d.scope p))
numerals_given q d (Handler h) = omega (arith, gathered-item q core.invariant_numerals core.handler_numerals d (Handler h), ap (λ ns. times q ns) (kept-handler d.scope h))
numerals_given q d (Timeout t) = omega (arith, times-nil q)

pub numerals_of_items : (q : ℕ → Bool) (d : ProgramDraft) (items : List RawItem) → all_numerals_of q (with_items d items) ≡ all_numerals_of q d + times q (items_numerals items)
unfolding with_items
numerals_of_items q d [] = omega (arith, times-nil q)
numerals_of_items q d (item ∷ items) =
    omega (arith, numerals_of_items q (with_item d item) items, numerals_given q d item, times-append q (item_numerals item) (items_numerals items))
