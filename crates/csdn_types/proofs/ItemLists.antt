-- Items, one more at a time.
use Rattle.std.proofs.Common.{◌≡◌, ℕ, ◌+◌, ◌<◌, ◌≤◌, List, [], ◌++◌, length, drop, get_or, refl, sym, ◌∙◌, add-zero}
use Rattle.std.proofs.Math.ListN.{drop_of_length-le}
use Rattle.csdn_types.specs.declared.refusal.SortRefusal.{SortRefusal}
use Rattle.csdn_tree.specs.declared.syntax.RawItem.{RawItem}
use Rattle.csdn_tree.specs.declared.syntax.RawItem.TheVariants.{Relation, Constant, Invariant, Handler, Timeout}
use Rattle.csdn_tree.specs.declared.syntax.InvariantKind.TheVariants.{Topology, Safety, Trans}
use Rattle.csdn_types.specs.Programs.{ProgramDraft, item_faults, with_item, items_faults, with_items}
use Rattle.csdn_tree.specs.Binders.{item_binders, items_binders}
use Rattle.csdn_types.proofs.Lists.{drop-item}

-- an item uses the numbers of the variables that it binds
pub next-with_item : (d : ProgramDraft) (item : RawItem) → (with_item d item).scope.next ≡ d.scope.next + item_binders item
next-with_item d (Relation r) = sym (add-zero _)
next-with_item d (Constant name sort) = sym (add-zero _)
next-with_item d (Invariant Topology name p) = refl
next-with_item d (Invariant Safety name p) = refl
next-with_item d (Invariant Trans name p) = refl
next-with_item d (Handler h) = refl
next-with_item d (Timeout t) = sym (add-zero _)

module _ (raw : List RawItem) (i : ℕ) (item : RawItem) (within : i < length raw) (is : item ≡ get_or raw i item) where
  pub next_items_faults : (d : ProgramDraft) → items_faults d (drop i raw) ≡ item_faults d item ++ items_faults (with_item d item) (drop (i + 1) raw)
  unfolding items_faults
  next_items_faults d = rw (drop-item raw i item within is)

  pub next_with_items : (d : ProgramDraft) → with_items d (drop i raw) ≡ with_items (with_item d item) (drop (i + 1) raw)
  unfolding with_items
  next_with_items d = rw (drop-item raw i item within is)

  pub next_binders : items_binders (drop i raw) ≡ item_binders item + items_binders (drop (i + 1) raw)
  unfolding items_binders
  next_binders = rw (drop-item raw i item within is)

  pub item_passed : (d : ProgramDraft) (whole : List SortRefusal) → whole ≡ items_faults d (drop i raw) → item_faults d item ≡ [] → whole ≡ items_faults (with_item d item) (drop (i + 1) raw)
  item_passed d whole rest free = rest ∙ rw (next_items_faults d, free)

pub no_more_item_faults : (d : ProgramDraft) (raw : List RawItem) (i : ℕ) → length raw ≤ i → items_faults d (drop i raw) ≡ []
unfolding items_faults
no_more_item_faults d raw i past = rw (drop_of_length-le raw past)

pub no_more_items : (d : ProgramDraft) (raw : List RawItem) (i : ℕ) → length raw ≤ i → with_items d (drop i raw) ≡ d
unfolding with_items
no_more_items d raw i past = rw (drop_of_length-le raw past)
