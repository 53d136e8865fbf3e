-- Whether a condition can be decided.
use Rattle.std.specs.Prelude.{◌≡◌, ◌⊎◌, ℕ, ◌<◌, ◌≤◌, IsTrue, IsFalse}
use Rattle.csdn_core.specs.declared.program.Parts.{Parts}
use Rattle.csdn_core.specs.declared.syntax.Formula.{Formula}
use Rattle.csdn_core.specs.Nodes.{nodes}
use Rattle.fol_forms.specs.Forms.{form_of, in_fragment}
use Rattle.fol_forms.specs.Constants.{counts, instances}
use Rattle.fol_forms.specs.Limits.{capped, most_nodes}
use Rattle.fol_forms.specs.Written.{written}
use Rattle.csdn_conditions.specs.declared.class.Class.{Class}
use Rattle.csdn_conditions.specs.declared.class.Class.TheVariants.{Inside, Nodes, Outside, Instances}

-- the size by which conditions are decided, where no other is chosen: the most atoms and equations that the copies of a sentence may have
abbrev pub usual_size : ℕ
usual_size = 16777216

-- the greatest size that may be chosen
abbrev pub greatest_size : ℕ
greatest_size = 9007199254740992

module _ (P : Parts) (s : Formula) where
  -- neither the sentence nor its normal form has more than 1,048,576 nodes
  abbrev pub IsSmall : Type 0
  IsSmall = (nodes s ≤ most_nodes) × (nodes (written (form_of s)) ≤ most_nodes)

  abbrev pub IsLarge : Type 0
  IsLarge = (most_nodes < nodes s) ⊎ (most_nodes < nodes (written (form_of s)))

  -- how many atoms and equations the copies have
  abbrev pub copied : ℕ
  copied = instances (counts P s) (form_of s)

-- the class of a sentence, by the size
abbrev pub IsClass : Parts → ℕ → Formula → Class → Type 0
IsClass P size s Nodes = IsLarge P s
IsClass P size s Outside = IsSmall P s × IsFalse (in_fragment (form_of s))
IsClass P size s (Instances n) = IsSmall P s × IsTrue (in_fragment (form_of s)) × (size < copied P s) × (n ≡ capped (copied P s))
IsClass P size s Inside = IsSmall P s × IsTrue (in_fragment (form_of s)) × (copied P s ≤ size)
