-- Trees with every place at 0: what is left of a tree, places aside.
use Rattle.std.specs.Prelude.{List, map}
use Rattle.csdn_tree.specs.declared.names.RawName.{RawName}
use Rattle.csdn_tree.specs.declared.names.RawNumeral.{RawNumeral}
use Rattle.csdn_tree.specs.declared.names.RawTerm.{RawTerm}
use Rattle.csdn_tree.specs.declared.names.RawTerm.TheVariants as t
use Rattle.csdn_tree.specs.declared.syntax.RawFlow.{RawFlow}
use Rattle.csdn_tree.specs.declared.syntax.RawPacket.{RawPacket}
use Rattle.csdn_tree.specs.declared.syntax.RawFormula.{RawFormula}
use Rattle.csdn_tree.specs.declared.syntax.RawFormula.TheVariants as f
use Rattle.csdn_tree.specs.declared.syntax.RawCommand.{RawCommand}
use Rattle.csdn_tree.specs.declared.syntax.RawCommand.TheVariants as c
use Rattle.csdn_tree.specs.declared.syntax.RawHandler.{RawHandler}
use Rattle.csdn_tree.specs.declared.syntax.RawItem.{RawItem}
use Rattle.csdn_tree.specs.declared.syntax.RawItem.TheVariants as item
use Rattle.csdn_tree.specs.declared.syntax.RawPattern.{RawPattern}
use Rattle.csdn_tree.specs.declared.syntax.RawPattern.TheVariants.{Any as AnyPort, Port as OnePort}
use Rattle.csdn_tree.specs.declared.syntax.RawProgram.{RawProgram}
use Rattle.csdn_tree.specs.declared.syntax.RawRelation.{RawRelation}
use Rattle.csdn_tree.specs.declared.syntax.RawRow.{RawRow}
use Rattle.csdn_tree.specs.RawTree.{raw_not, raw_two, raw_bind, raw_seq, raw_if, raw_pick}

abbrev pub bare_name : RawName → RawName
bare_name x = record { at = 0; text = x.text }

abbrev pub bare_numeral : RawNumeral → RawNumeral
bare_numeral k = record { at = 0; number = k.number }

abbrev pub bare_term : RawTerm → RawTerm
bare_term (t.Name x) = t.Name (bare_name x)
bare_term (t.Port k) = t.Port (bare_numeral k)

abbrev pub bare_terms : List RawTerm → List RawTerm
bare_terms us = map bare_term us

abbrev pub bare_flow : RawFlow → RawFlow
bare_flow w = record { switch = bare_name w.switch; source = bare_term w.source; target = bare_term w.target; ingress = bare_term w.ingress; egress = bare_term w.egress }

abbrev pub bare_packet : RawPacket → RawPacket
bare_packet w = record { switch = bare_name w.switch; source = bare_term w.source; target = bare_term w.target; ingress = bare_term w.ingress }

unfoldable pub bare_formula : RawFormula → RawFormula
bare_formula f.True = f.True
bare_formula f.False = f.False
bare_formula (f.Atom x us) = f.Atom (bare_name x) (bare_terms us)
bare_formula (f.Same u v) = f.Same (bare_term u) (bare_term v)
bare_formula (f.Flow at word ts) = f.Flow 0 word (bare_flow ts)
bare_formula (f.RcvThis at ts) = f.RcvThis 0 (bare_packet ts)
bare_formula (raw_not p) = f.Not (bare_formula p)
bare_formula (raw_two word p r) = f.Two word (bare_formula p) (bare_formula r)
bare_formula (raw_bind which x s p) = f.Bind which (bare_name x) s (bare_formula p)

unfoldable pub bare_command : RawCommand → RawCommand
bare_command c.Skip = c.Skip
bare_command (raw_seq a b) = c.Seq (bare_command a) (bare_command b)
bare_command (raw_if p a b) = c.If (bare_formula p) (bare_command a) (bare_command b)
bare_command (raw_pick x s p a b) = c.Pick (bare_name x) s (bare_formula p) (bare_command a) (bare_command b)
bare_command (c.Change word x us) = c.Change word (bare_name x) (bare_terms us)
bare_command (c.Switch word ts) = c.Switch word (bare_flow ts)
bare_command (c.Flood ts) = c.Flood (bare_packet ts)

abbrev pub bare_row : RawRow → RawRow
bare_row r = record { at = 0; terms = bare_terms r.terms }

abbrev pub bare_relation : RawRelation → RawRelation
bare_relation r = record { name = bare_name r.name; sorts = r.sorts; fixed = r.fixed; rows = map bare_row r.rows }

abbrev pub bare_pattern : RawPattern → RawPattern
bare_pattern (AnyPort x) = AnyPort (bare_name x)
bare_pattern (OnePort k) = OnePort (bare_numeral k)

abbrev pub bare_handler : RawHandler → RawHandler
bare_handler h = record { at = 0; switch = bare_name h.switch; source = bare_name h.source; target = bare_name h.target; ingress = bare_pattern h.ingress; body = bare_command h.body }

abbrev pub bare_item : RawItem → RawItem
bare_item (item.Relation r) = item.Relation (bare_relation r)
bare_item (item.Constant x s) = item.Constant (bare_name x) s
bare_item (item.Invariant kind x p) = item.Invariant kind (bare_name x) (bare_formula p)
bare_item (item.Handler h) = item.Handler (bare_handler h)
bare_item (item.Timeout t) = item.Timeout (record { at = 0; seconds = t.seconds })

-- the tree, places aside
abbrev pub bare_program : RawProgram → RawProgram
bare_program raw = record { items = map bare_item raw.items }
