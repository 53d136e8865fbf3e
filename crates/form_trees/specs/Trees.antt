-- The forms of trees, and their extents.
use Rattle.std.specs.Prelude.{◌≡◌, ℕ, suc, ◌+◌, max, true}
use Rattle.csdn_core.specs.declared.terms.Sort.{Sort}
use Rattle.fol_forms.specs.Forms.{Form, Fixed, Atom, Same, And, Or, ForAll, ForSome}
use Rattle.fol_forms.specs.Constants.{need}
use Rattle.fol_forms.specs.Counts.{count_of}
use Rattle.decision_laws.specs.Weights.{weight}
use Rattle.form_trees.specs.declared.trees.Extent.{Extent}
use Rattle.form_trees.specs.declared.trees.Part.{Part}
use Rattle.form_trees.specs.declared.trees.Part.TheVariants as part
use Rattle.form_trees.specs.declared.trees.FormTree.{FormTree}
use Rattle.form_trees.specs.declared.trees.FormTree.TheVariants as t
use Rattle.form_trees.specs.Shapes.{both, either, universal, existential}
use Rattle.form_trees.specs.Plain.{IsPlain}

-- the normal form that a tree is
unfoldable pub tree_form : FormTree → Form
tree_form (t.Truth b) = Fixed b
tree_form (t.Tuple sign r ts) = Atom sign r ts
tree_form (t.Equation sign x y) = Same sign x y
tree_form (both e p q) = And (tree_form p) (tree_form q)
tree_form (either e p q) = Or (tree_form p) (tree_form q)
tree_form (universal e v s p) = ForAll v s (tree_form p)
tree_form (existential e v s p) = ForSome v s (tree_form p)

-- how many parts a tree has
unfoldable pub tree_size : FormTree → ℕ
tree_size (t.Truth b) = 1
tree_size (t.Tuple sign r ts) = 1
tree_size (t.Equation sign x y) = 1
tree_size (both e p q) = suc (tree_size p + tree_size q)
tree_size (either e p q) = suc (tree_size p + tree_size q)
tree_size (universal e v s p) = suc (tree_size p)
tree_size (existential e v s p) = suc (tree_size p)

-- over n s constants of each sort s: how many nodes its copies have, and how many constants its `exists` need; it is called plain
-- only where it is so
pub record IsExtent (n : Sort → ℕ) (f : Form) (e : Extent) : Type 0 where
  pub nodes : e.nodes ≡ weight n f
  pub need : (s : Sort) → count_of e.need s ≡ need f s
  pub plain : e.is_plain ≡ true → IsPlain f

-- each part has its extent
unfoldable pub IsMeasured : (Sort → ℕ) → FormTree → Type 0
IsMeasured n (t.Truth b) = Unit {0}
IsMeasured n (t.Tuple sign r ts) = Unit {0}
IsMeasured n (t.Equation sign x y) = Unit {0}
IsMeasured n (both e p q) = IsExtent n (And (tree_form p) (tree_form q)) e × IsMeasured n p × IsMeasured n q
IsMeasured n (either e p q) = IsExtent n (Or (tree_form p) (tree_form q)) e × IsMeasured n p × IsMeasured n q
IsMeasured n (universal e v s p) = IsExtent n (ForAll v s (tree_form p)) e × IsMeasured n p
IsMeasured n (existential e v s p) = IsExtent n (ForSome v s (tree_form p)) e × IsMeasured n p

-- that of a truth value, an atom or an equation
abbrev pub no_extent : Extent
no_extent = record { nodes = 0; need = record { sw = 0; ho = 0; pr = 0 }; is_plain = true }

-- the normal form that begins so
abbrev pub form_seen : Part → Form
form_seen (part.Truth b) = Fixed b
form_seen (part.Tuple sign r ts) = Atom sign r ts.now
form_seen (part.Equation sign x y) = Same sign x y
form_seen (part.Both p q) = And (tree_form p.now) (tree_form q.now)
form_seen (part.Either p q) = Or (tree_form p.now) (tree_form q.now)
form_seen (part.Forall v s p) = ForAll v s (tree_form p.now)
form_seen (part.Exists v s p) = ForSome v s (tree_form p.now)

abbrev pub AreMeasured : (Sort → ℕ) → Part → Type 0
AreMeasured n (part.Truth b) = Unit {0}
AreMeasured n (part.Tuple sign r ts) = Unit {0}
AreMeasured n (part.Equation sign x y) = Unit {0}
AreMeasured n (part.Both p q) = IsMeasured n p.now × IsMeasured n q.now
AreMeasured n (part.Either p q) = IsMeasured n p.now × IsMeasured n q.now
AreMeasured n (part.Forall v s p) = IsMeasured n p.now
AreMeasured n (part.Exists v s p) = IsMeasured n p.now

-- how many parts the largest one has
abbrev pub largest : Part → ℕ
largest (part.Truth b) = 0
largest (part.Tuple sign r ts) = 0
largest (part.Equation sign x y) = 0
largest (part.Both p q) = max (tree_size p.now) (tree_size q.now)
largest (part.Either p q) = max (tree_size p.now) (tree_size q.now)
largest (part.Forall v s p) = tree_size p.now
largest (part.Exists v s p) = tree_size p.now
