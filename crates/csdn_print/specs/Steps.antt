-- The clauses of the definitions on trees, at what the code sees.
use Rattle.std.specs.Prelude.{◌≡◌, ℕ, true, false, List, codes, refl}
use Rattle.std.proofs.Common.{ap}
use Rattle.csdn_core.specs.declared.terms.Sort.{Sort}
use Rattle.csdn_tree.specs.declared.names.RawName.{RawName}
use Rattle.csdn_tree.specs.declared.names.RawTerm.{RawTerm}
use Rattle.csdn_tree.specs.declared.syntax.ChangeWord.{ChangeWord}
use Rattle.csdn_tree.specs.declared.syntax.Connective.{Connective}
use Rattle.csdn_tree.specs.declared.syntax.FlowWord.{FlowWord}
use Rattle.csdn_tree.specs.declared.syntax.Quantifier.{Quantifier}
use Rattle.csdn_tree.specs.declared.syntax.RawFlow.{RawFlow}
use Rattle.csdn_tree.specs.declared.syntax.RawPacket.{RawPacket}
use Rattle.csdn_tree.specs.declared.syntax.RawFormula.{RawFormula}
use Rattle.csdn_tree.specs.declared.syntax.RawFormula.TheVariants as f
use Rattle.csdn_tree.specs.declared.syntax.RawCommand.{RawCommand}
use Rattle.csdn_tree.specs.declared.syntax.RawCommand.TheVariants as c
use Rattle.csdn_tree.specs.declared.syntax.SwitchWord.{SwitchWord}
use Rattle.csdn_tree.specs.RawTree.{Not-is, Two-is, Bind-is, Seq-is, If-is, Pick-is}
use Rattle.csdn_tree.specs.declared.tiers.Tier.TheVariants.{Joins}
use Rattle.csdn_tree.specs.Tiers.{left_of, right_of}
use Rattle.csdn_print.specs.declared.forms.Lead.{Lead}
use Rattle.csdn_print.specs.declared.forms.Lead.TheVariants.{Nothing, Binds}
use Rattle.csdn_print.specs.Words.{◌·◌, sort_text, term_text, terms_text, flow_text, packet_text}
use Rattle.csdn_print.specs.Formulas.{tier_level, level, operand, lead_text, quantifier_text, connective_text, flow_word, formula_text}
use Rattle.csdn_print.specs.Commands.{inner, is_skip, block_text, otherwise_text, change_word, switch_word, command_text}
use Rattle.csdn_print.specs.Placeless.{bare_name, bare_term, bare_terms, bare_flow, bare_packet, bare_formula, bare_command}

pub level-True : level f.True ≡ 5
unfolding level
level-True = refl

pub level-False : level f.False ≡ 5
unfolding level
level-False = refl

pub level-Atom : (x : RawName) (us : List RawTerm) → level (f.Atom x us) ≡ 5
unfolding level
level-Atom x us = refl

pub level-Same : (u v : RawTerm) → level (f.Same u v) ≡ 5
unfolding level
level-Same u v = refl

pub level-Flow : (at : ℕ) (word : FlowWord) (ts : RawFlow) → level (f.Flow at word ts) ≡ 5
unfolding level
level-Flow at word ts = refl

pub level-RcvThis : (at : ℕ) (ts : RawPacket) → level (f.RcvThis at ts) ≡ 5
unfolding level
level-RcvThis at ts = refl

pub level-Not : (p : RawFormula) → level (f.Not p) ≡ 5
unfolding level
level-Not p = rw Not-is refl

pub level-Two : (word : Connective) (p r : RawFormula) → level (f.Two word p r) ≡ tier_level (Joins word)
unfolding level
level-Two word p r = rw Two-is refl

pub level-Bind : (which : Quantifier) (x : RawName) (s : Sort) (p : RawFormula) → level (f.Bind which x s p) ≡ 0
unfolding level
level-Bind which x s p = rw Bind-is refl

pub formula_text-True : (lead : Lead) → formula_text lead f.True ≡ lead_text lead · codes "true"
unfolding formula_text
formula_text-True lead = refl

pub formula_text-False : (lead : Lead) → formula_text lead f.False ≡ lead_text lead · codes "false"
unfolding formula_text
formula_text-False lead = refl

pub formula_text-Atom : (lead : Lead) (x : RawName) (us : List RawTerm) → formula_text lead (f.Atom x us) ≡ lead_text lead · x.text · terms_text us
unfolding formula_text
formula_text-Atom lead x us = refl

pub formula_text-Same : (lead : Lead) (u v : RawTerm) → formula_text lead (f.Same u v) ≡ lead_text lead · term_text u · codes " = " · term_text v
unfolding formula_text
formula_text-Same lead u v = refl

pub formula_text-Flow : (lead : Lead) (at : ℕ) (word : FlowWord) (ts : RawFlow) → formula_text lead (f.Flow at word ts) ≡ lead_text lead · ts.switch.text · flow_word word · flow_text ts
unfolding formula_text
formula_text-Flow lead at word ts = refl

pub formula_text-RcvThis : (lead : Lead) (at : ℕ) (ts : RawPacket) → formula_text lead (f.RcvThis at ts) ≡ lead_text lead · ts.switch.text · codes ".rcv_this" · packet_text ts
unfolding formula_text
formula_text-RcvThis lead at ts = refl

pub formula_text-Not : (lead : Lead) (p : RawFormula) → formula_text lead (f.Not p) ≡ lead_text lead · codes "not " · operand 5 (level p) (formula_text Nothing p)
unfolding formula_text
formula_text-Not lead p = rw Not-is

pub formula_text-Two : (lead : Lead) (word : Connective) (p r : RawFormula) → formula_text lead (f.Two word p r) ≡ lead_text lead · operand (tier_level (left_of word)) (level p) (formula_text Nothing p) · connective_text word · operand (tier_level (right_of word)) (level r) (formula_text Nothing r)
unfolding formula_text
formula_text-Two lead word p r = rw Two-is

pub formula_text-Bind : (lead : Lead) (which : Quantifier) (x : RawName) (s : Sort) (p : RawFormula) → formula_text lead (f.Bind which x s p) ≡ quantifier_text lead which · x.text · codes ":" · sort_text s · formula_text (Binds which) p
unfolding formula_text
formula_text-Bind lead which x s p = rw Bind-is

pub is_skip-Skip : is_skip c.Skip ≡ true
unfolding is_skip
is_skip-Skip = refl

pub is_skip-Seq : (a b : RawCommand) → is_skip (c.Seq a b) ≡ false
unfolding is_skip
is_skip-Seq a b = rw Seq-is refl

pub is_skip-If : (p : RawFormula) (a b : RawCommand) → is_skip (c.If p a b) ≡ false
unfolding is_skip
is_skip-If p a b = rw If-is refl

pub is_skip-Pick : (x : RawName) (s : Sort) (p : RawFormula) (a b : RawCommand) → is_skip (c.Pick x s p a b) ≡ false
unfolding is_skip
is_skip-Pick x s p a b = rw Pick-is refl

pub is_skip-Change : (word : ChangeWord) (x : RawName) (us : List RawTerm) → is_skip (c.Change word x us) ≡ false
unfolding is_skip
is_skip-Change word x us = refl

pub is_skip-Switch : (word : SwitchWord) (ts : RawFlow) → is_skip (c.Switch word ts) ≡ false
unfolding is_skip
is_skip-Switch word ts = refl

pub is_skip-Flood : (ts : RawPacket) → is_skip (c.Flood ts) ≡ false
unfolding is_skip
is_skip-Flood ts = refl

pub command_text-Skip : (indent : List ℕ) → command_text indent c.Skip ≡ indent · codes "skip;\n"
unfolding command_text
command_text-Skip indent = refl

pub command_text-Seq : (indent : List ℕ) (a b : RawCommand) → command_text indent (c.Seq a b) ≡ command_text indent a · command_text indent b
unfolding command_text
command_text-Seq indent a b = rw Seq-is

pub command_text-If : (indent : List ℕ) (p : RawFormula) (a b : RawCommand) → command_text indent (c.If p a b) ≡ indent · codes "if " · formula_text Nothing p · codes " " · block_text indent (command_text (inner indent) a) · otherwise_text indent (is_skip b) (command_text (inner indent) b) · codes "\n"
unfolding command_text
command_text-If indent p a b = rw If-is

pub command_text-Pick : (indent : List ℕ) (x : RawName) (s : Sort) (p : RawFormula) (a b : RawCommand) → command_text indent (c.Pick x s p a b) ≡ indent · codes "pick " · x.text · codes ":" · sort_text s · codes " where " · formula_text Nothing p · codes " " · block_text indent (command_text (inner indent) a) · otherwise_text indent (is_skip b) (command_text (inner indent) b) · codes "\n"
unfolding command_text
command_text-Pick indent x s p a b = rw Pick-is

pub command_text-Change : (indent : List ℕ) (word : ChangeWord) (x : RawName) (us : List RawTerm) → command_text indent (c.Change word x us) ≡ indent · x.text · codes "." · change_word word · terms_text us · codes ";\n"
unfolding command_text
command_text-Change indent word x us = refl

pub command_text-Switch : (indent : List ℕ) (word : SwitchWord) (ts : RawFlow) → command_text indent (c.Switch word ts) ≡ indent · ts.switch.text · codes "." · switch_word word · flow_text ts · codes ";\n"
unfolding command_text
command_text-Switch indent word ts = refl

pub command_text-Flood : (indent : List ℕ) (ts : RawPacket) → command_text indent (c.Flood ts) ≡ indent · ts.switch.text · codes ".flood" · packet_text ts · codes ";\n"
unfolding command_text
command_text-Flood indent ts = refl

pub bare_formula-True : bare_formula f.True ≡ f.True
unfolding bare_formula
bare_formula-True = refl

pub bare_formula-False : bare_formula f.False ≡ f.False
unfolding bare_formula
bare_formula-False = refl

pub bare_formula-Atom : (x : RawName) (us : List RawTerm) → bare_formula (f.Atom x us) ≡ f.Atom (bare_name x) (bare_terms us)
unfolding bare_formula
bare_formula-Atom x us = refl

pub bare_formula-Same : (u v : RawTerm) → bare_formula (f.Same u v) ≡ f.Same (bare_term u) (bare_term v)
unfolding bare_formula
bare_formula-Same u v = refl

pub bare_formula-Flow : (at : ℕ) (word : FlowWord) (ts : RawFlow) → bare_formula (f.Flow at word ts) ≡ f.Flow 0 word (bare_flow ts)
unfolding bare_formula
bare_formula-Flow at word ts = refl

pub bare_formula-RcvThis : (at : ℕ) (ts : RawPacket) → bare_formula (f.RcvThis at ts) ≡ f.RcvThis 0 (bare_packet ts)
unfolding bare_formula
bare_formula-RcvThis at ts = refl

pub bare_formula-Not : (p : RawFormula) → bare_formula (f.Not p) ≡ f.Not (bare_formula p)
unfolding bare_formula
bare_formula-Not p = ap bare_formula (Not-is p)

pub bare_formula-Two : (word : Connective) (p r : RawFormula) → bare_formula (f.Two word p r) ≡ f.Two word (bare_formula p) (bare_formula r)
unfolding bare_formula
bare_formula-Two word p r = ap bare_formula (Two-is word p r)

pub bare_formula-Bind : (which : Quantifier) (x : RawName) (s : Sort) (p : RawFormula) → bare_formula (f.Bind which x s p) ≡ f.Bind which (bare_name x) s (bare_formula p)
unfolding bare_formula
bare_formula-Bind which x s p = ap bare_formula (Bind-is which x s p)

pub bare_command-Skip : bare_command c.Skip ≡ c.Skip
unfolding bare_command
bare_command-Skip = refl

pub bare_command-Seq : (a b : RawCommand) → bare_command (c.Seq a b) ≡ c.Seq (bare_command a) (bare_command b)
unfolding bare_command
bare_command-Seq a b = ap bare_command (Seq-is a b)

pub bare_command-If : (p : RawFormula) (a b : RawCommand) → bare_command (c.If p a b) ≡ c.If (bare_formula p) (bare_command a) (bare_command b)
unfolding bare_command
bare_command-If p a b = ap bare_command (If-is p a b)

pub bare_command-Pick : (x : RawName) (s : Sort) (p : RawFormula) (a b : RawCommand) → bare_command (c.Pick x s p a b) ≡ c.Pick (bare_name x) s (bare_formula p) (bare_command a) (bare_command b)
unfolding bare_command
bare_command-Pick x s p a b = ap bare_command (Pick-is x s p a b)

pub bare_command-Change : (word : ChangeWord) (x : RawName) (us : List RawTerm) → bare_command (c.Change word x us) ≡ c.Change word (bare_name x) (bare_terms us)
unfolding bare_command
bare_command-Change word x us = refl

pub bare_command-Switch : (word : SwitchWord) (ts : RawFlow) → bare_command (c.Switch word ts) ≡ c.Switch word (bare_flow ts)
unfolding bare_command
bare_command-Switch word ts = refl

pub bare_command-Flood : (ts : RawPacket) → bare_command (c.Flood ts) ≡ c.Flood (bare_packet ts)
unfolding bare_command
bare_command-Flood ts = refl

pub ruleset formula_steps = (level-True, level-False, level-Atom, level-Same, level-Flow, level-RcvThis, level-Not, level-Two, level-Bind, formula_text-True, formula_text-False, formula_text-Atom, formula_text-Same, formula_text-Flow, formula_text-RcvThis, formula_text-Not, formula_text-Two, formula_text-Bind)

pub ruleset command_steps = (is_skip-Skip, is_skip-Seq, is_skip-If, is_skip-Pick, is_skip-Change, is_skip-Switch, is_skip-Flood, command_text-Skip, command_text-Seq, command_text-If, command_text-Pick, command_text-Change, command_text-Switch, command_text-Flood)

pub ruleset bare_steps = (bare_formula-True, bare_formula-False, bare_formula-Atom, bare_formula-Same, bare_formula-Flow, bare_formula-RcvThis, bare_formula-Not, bare_formula-Two, bare_formula-Bind, bare_command-Skip, bare_command-Seq, bare_command-If, bare_command-Pick, bare_command-Change, bare_command-Switch, bare_command-Flood)
