-- The text of formulas, with parentheses round an operand exactly where its level is below what its place needs.
use Rattle.std.specs.Prelude.{ℕ, List, [], codes, nat_lt, if◌then◌else◌}
use Rattle.csdn_tree.specs.declared.syntax.Connective.{Connective}
use Rattle.csdn_tree.specs.declared.syntax.Connective.TheVariants as word
use Rattle.csdn_tree.specs.declared.syntax.FlowWord.{FlowWord}
use Rattle.csdn_tree.specs.declared.syntax.FlowWord.TheVariants as w
use Rattle.csdn_tree.specs.declared.syntax.RawFormula.{RawFormula}
use Rattle.csdn_tree.specs.declared.syntax.RawFormula.TheVariants as f
use Rattle.csdn_tree.specs.RawTree.{raw_not, raw_two, raw_bind}
use Rattle.csdn_tree.specs.declared.tiers.Tier.{Tier}
use Rattle.csdn_tree.specs.declared.tiers.Tier.TheVariants.{Single, Joins}
use Rattle.csdn_tree.specs.Tiers.{left_of, right_of}
use Rattle.csdn_print.specs.declared.forms.Lead.{Lead}
use Rattle.csdn_print.specs.declared.forms.Lead.TheVariants.{Nothing, Binds}
use Rattle.csdn_tree.specs.declared.syntax.Quantifier.{Quantifier}
use Rattle.csdn_tree.specs.declared.syntax.Quantifier.TheVariants as q
use Rattle.csdn_print.specs.Words.{◌·◌, sort_text, term_text, terms_text, flow_text, packet_text}

-- the level that a place beside a word needs, and that of two formulas with the word between them
abbrev pub tier_level : Tier → ℕ
tier_level Single = 5
tier_level (Joins word.And) = 4
tier_level (Joins word.Or) = 3
tier_level (Joins word.Implies) = 2
tier_level (Joins word.Iff) = 1

-- the level of a formula: the greater, the tighter it holds together
unfoldable pub level : RawFormula → ℕ
level f.True = 5
level f.False = 5
level (f.Atom x us) = 5
level (f.Same u v) = 5
level (f.Flow at word ts) = 5
level (f.RcvThis at ts) = 5
level (raw_not p) = 5
level (raw_two word p r) = tier_level (Joins word)
level (raw_bind which x s p) = 0

-- a text of a level where another is needed
abbrev pub operand : (needed own : ℕ) → List ℕ → List ℕ
operand needed own text = if nat_lt own needed then codes "(" · text · codes ")" else text

-- what parts a formula that is no quantifier's from what it stands behind
abbrev pub lead_text : Lead → List ℕ
lead_text Nothing = []
lead_text (Binds which) = codes ". "

abbrev pub quantifier_word : Quantifier → List ℕ
quantifier_word q.All = codes "forall "
quantifier_word q.Some = codes "exists "

-- quantifiers of one kind, one in the other, share their word
abbrev pub quantifier_text : Lead → Quantifier → List ℕ
quantifier_text Nothing which = quantifier_word which
quantifier_text (Binds q.All) q.All = codes ", "
quantifier_text (Binds q.Some) q.All = codes ". forall "
quantifier_text (Binds q.All) q.Some = codes ". exists "
quantifier_text (Binds q.Some) q.Some = codes ", "

abbrev pub connective_text : Connective → List ℕ
connective_text word.And = codes " and "
connective_text word.Or = codes " or "
connective_text word.Implies = codes " -> "
connective_text word.Iff = codes " <-> "

abbrev pub flow_word : FlowWord → List ℕ
flow_word w.Ft = codes ".ft"
flow_word w.Sent = codes ".sent"

-- the text of a formula, with what parts it from what it stands behind
unfoldable pub formula_text : Lead → RawFormula → List ℕ
formula_text lead f.True = lead_text lead · codes "true"
formula_text lead f.False = lead_text lead · codes "false"
formula_text lead (f.Atom x us) = lead_text lead · x.text · terms_text us
formula_text lead (f.Same u v) = lead_text lead · term_text u · codes " = " · term_text v
formula_text lead (f.Flow at word ts) = lead_text lead · ts.switch.text · flow_word word · flow_text ts
formula_text lead (f.RcvThis at ts) = lead_text lead · ts.switch.text · codes ".rcv_this" · packet_text ts
formula_text lead (raw_not p) = lead_text lead · codes "not " · operand 5 (level p) (formula_text Nothing p)
formula_text lead (raw_two word p r) =
    lead_text lead · operand (tier_level (left_of word)) (level p) (formula_text Nothing p) · connective_text word · operand (tier_level (right_of word)) (level r) (formula_text Nothing r)
formula_text lead (raw_bind which x s p) = quantifier_text lead which · x.text · codes ":" · sort_text s · formula_text (Binds which) p
