-- What holds of each tree that a text reads as, and that the rules on names and sorts rest on.
use Rattle.std.specs.Prelude.{◌≡◌, ℕ, ◌≤◌, true, List, [], ◌∷◌, ◌++◌, All}
use Rattle.csdn_core.specs.Names.{IsName}
use Rattle.csdn_core.specs.Sorted.{most_numbers}
use Rattle.csdn_core.specs.WellSorted.{IsNumeral}
use Rattle.csdn_tree.specs.declared.syntax.RawItem.{RawItem}
use Rattle.csdn_tree.specs.declared.syntax.RawItem.TheVariants as item
use Rattle.csdn_tree.specs.declared.syntax.RawProgram.{RawProgram}
use Rattle.csdn_tree.specs.Binders.{items_binders}
use Rattle.csdn_tree.specs.Numerals.{items_numerals}
use Rattle.csdn_tree.specs.Within.{ItemsWithin}

-- the name that an item declares
abbrev pub item_names : RawItem → List (List ℕ)
item_names (item.Relation r) = r.name.text ∷ []
item_names (item.Constant name sort) = name.text ∷ []
item_names (item.Invariant kind name p) = name.text ∷ []
item_names (item.Handler h) = []
item_names (item.Timeout t) = []

-- the names of all declarations and invariants, in the order of the text
abbrev pub items_names : List RawItem → List (List ℕ)
items_names [] = []
items_names (x ∷ xs) = item_names x ++ items_names xs

-- a `static` relation is given no rows
abbrev pub KeepsStatics : RawItem → Type 0
KeepsStatics (item.Relation r) = r.fixed ≡ true → r.rows ≡ []
KeepsStatics (item.Constant name sort) = Unit {0}
KeepsStatics (item.Invariant kind name p) = Unit {0}
KeepsStatics (item.Handler h) = Unit {0}
KeepsStatics (item.Timeout t) = Unit {0}

-- the seconds of a `timeout` are a number of the language
abbrev pub HasSeconds : RawItem → Type 0
HasSeconds (item.Relation r) = Unit {0}
HasSeconds (item.Constant name sort) = Unit {0}
HasSeconds (item.Invariant kind name p) = Unit {0}
HasSeconds (item.Handler h) = Unit {0}
HasSeconds (item.Timeout t) = IsNumeral t.seconds

pub record IsFromText (raw : RawProgram) : Type 0 where
  -- places rise in the order of the text
  pub end : ℕ
  pub places : ItemsWithin 0 raw.items end
  -- a text of the largest size binds fewer variables than there are numbers
  pub few : items_binders raw.items ≤ most_numbers
  -- names are names, and numerals are those of ports
  pub names : All IsName (items_names raw.items)
  pub numerals : All IsNumeral (items_numerals raw.items)
  -- the rows of relations are those of `rel` relations
  pub statics : All KeepsStatics raw.items
  -- the seconds of timeouts are numbers
  pub seconds : All HasSeconds raw.items
