-- The text of commands: whole lines, those of a block two spaces deeper.
use Rattle.std.specs.Prelude.{ℕ, Bool, true, false, List, [], codes, if◌then◌else◌}
use Rattle.csdn_tree.specs.declared.syntax.ChangeWord.{ChangeWord}
use Rattle.csdn_tree.specs.declared.syntax.ChangeWord.TheVariants as change
use Rattle.csdn_tree.specs.declared.syntax.RawCommand.{RawCommand}
use Rattle.csdn_tree.specs.declared.syntax.RawCommand.TheVariants as c
use Rattle.csdn_tree.specs.declared.syntax.SwitchWord.{SwitchWord}
use Rattle.csdn_tree.specs.declared.syntax.SwitchWord.TheVariants as switch
use Rattle.csdn_tree.specs.RawTree.{raw_seq, raw_if, raw_pick}
use Rattle.csdn_print.specs.declared.forms.Lead.TheVariants.{Nothing}
use Rattle.csdn_print.specs.Words.{◌·◌, sort_text, terms_text, flow_text, packet_text}
use Rattle.csdn_print.specs.Formulas.{formula_text}

-- the spaces before the lines of a block
abbrev pub inner : List ℕ → List ℕ
inner indent = codes "  " · indent

unfoldable pub is_skip : RawCommand → Bool
is_skip c.Skip = true
is_skip (raw_seq a b) = false
is_skip (raw_if p a b) = false
is_skip (raw_pick x s p a b) = false
is_skip (c.Change word x us) = false
is_skip (c.Switch word ts) = false
is_skip (c.Flood ts) = false

-- commands in braces, the closing one on a line of its own
abbrev pub block_text : (indent body : List ℕ) → List ℕ
block_text indent body = codes "{\n" · body · indent · codes "}"

-- an `else` that is `skip` alone is not printed
abbrev pub otherwise_text : (indent : List ℕ) (plain : Bool) (other : List ℕ) → List ℕ
otherwise_text indent plain other = if plain then [] else codes " else " · block_text indent other

abbrev pub change_word : ChangeWord → List ℕ
change_word change.Insert = codes "insert"
change_word change.Remove = codes "remove"

abbrev pub switch_word : SwitchWord → List ℕ
switch_word switch.Install = codes "install"
switch_word switch.Uninstall = codes "uninstall"
switch_word switch.Forward = codes "forward"

unfoldable pub command_text : List ℕ → RawCommand → List ℕ
command_text indent c.Skip = indent · codes "skip;\n"
command_text indent (raw_seq a b) = command_text indent a · command_text indent b
command_text indent (raw_if p a b) = indent · codes "if " · formula_text Nothing p · codes " "
    · block_text indent (command_text (inner indent) a) · otherwise_text indent (is_skip b) (command_text (inner indent) b) · codes "\n"
command_text indent (raw_pick x s p a b) = indent · codes "pick " · x.text · codes ":" · sort_text s · codes " where " · formula_text Nothing p · codes " "
    · block_text indent (command_text (inner indent) a) · otherwise_text indent (is_skip b) (command_text (inner indent) b) · codes "\n"
command_text indent (c.Change word x us) = indent · x.text · codes "." · change_word word · terms_text us · codes ";\n"
command_text indent (c.Switch word ts) = indent · ts.switch.text · codes "." · switch_word word · flow_text ts · codes ";\n"
command_text indent (c.Flood ts) = indent · ts.switch.text · codes ".flood" · packet_text ts · codes ";\n"
