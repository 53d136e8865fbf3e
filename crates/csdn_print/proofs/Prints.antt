-- Trees that print at a depth with no token deeper than most: their names are names, their numerals those of ports, and they
-- have the shapes that a text gives.
use Rattle.std.proofs.Common.{◌≡◌, ℕ, ◌+◌, ◌≤◌, Bool, true, false, nat_lt, if◌then◌else◌, List, [], ◌∷◌, arith}
use Rattle.csdn_core.specs.Names.{IsName}
use Rattle.csdn_core.specs.WellSorted.{IsNumeral}
use Rattle.csdn_tree.specs.declared.names.RawName.{RawName}
use Rattle.csdn_tree.specs.declared.names.RawTerm.{RawTerm}
use Rattle.csdn_tree.specs.declared.names.RawTerm.TheVariants as t
use Rattle.csdn_tree.specs.declared.syntax.RawFlow.{RawFlow}
use Rattle.csdn_tree.specs.declared.syntax.RawPacket.{RawPacket}
use Rattle.csdn_tree.specs.declared.syntax.RawFormula.{RawFormula}
use Rattle.csdn_tree.specs.declared.syntax.RawFormula.TheVariants as f
use Rattle.csdn_tree.specs.declared.syntax.RawCommand.{RawCommand}
use Rattle.csdn_tree.specs.declared.syntax.RawCommand.TheVariants as c
use Rattle.csdn_tree.specs.declared.syntax.RawHandler.{RawHandler}
use Rattle.csdn_tree.specs.declared.syntax.RawItem.{RawItem}
use Rattle.csdn_tree.specs.declared.syntax.RawItem.TheVariants as item
use Rattle.csdn_tree.specs.declared.syntax.RawPattern.{RawPattern}
use Rattle.csdn_tree.specs.declared.syntax.RawPattern.TheVariants.{Any as AnyPort, Port as OnePort}
use Rattle.csdn_tree.specs.declared.syntax.RawRow.{RawRow}
use Rattle.csdn_tree.specs.RawTree.{raw_not, raw_two, raw_bind, raw_seq, raw_if, raw_pick}
use Rattle.csdn_tree.specs.Tiers.{left_of, right_of}
use Rattle.csdn_print.specs.Formulas.{tier_level, level}
use Rattle.csdn_print.specs.Commands.{is_skip}

abbrev pub NamePrints : RawName → Type 0
NamePrints x = IsName x.text

abbrev pub TermPrints : RawTerm → Type 0
TermPrints (t.Name x) = IsName x.text
TermPrints (t.Port k) = IsNumeral k.number

abbrev pub TermsPrint : List RawTerm → Type 0
TermsPrint [] = Unit {0}
TermsPrint (u ∷ us) = TermPrints u × TermsPrint us

abbrev pub FlowPrints : RawFlow → Type 0
FlowPrints w = NamePrints w.switch × (TermPrints w.source × (TermPrints w.target × (TermPrints w.ingress × TermPrints w.egress)))

abbrev pub PacketPrints : RawPacket → Type 0
PacketPrints w = NamePrints w.switch × (TermPrints w.source × (TermPrints w.target × TermPrints w.ingress))

-- the depth of an operand of a level where another is needed
abbrev pub inside : (needed own d : ℕ) → ℕ
inside needed own d = if nat_lt own needed then d + 1 else d

pub inside_least : (needed own d : ℕ) → d ≤ inside needed own d
inside_least needed own d = go (nat_lt own needed)
  where
    go : (b : Bool) → d ≤ (if b then d + 1 else d)
    go true = omega arith
    go false = omega arith

unfoldable pub Prints : (most d : ℕ) → RawFormula → Type 0
Prints most d f.True = d ≤ most
Prints most d f.False = d ≤ most
Prints most d (f.Atom x us) = (d ≤ most) × (NamePrints x × TermsPrint us)
Prints most d (f.Same u v) = (d ≤ most) × (TermPrints u × TermPrints v)
Prints most d (f.Flow at word ts) = (d ≤ most) × FlowPrints ts
Prints most d (f.RcvThis at ts) = (d ≤ most) × PacketPrints ts
Prints most d (raw_not p) = Prints most (inside 5 (level p) (d + 1)) p
Prints most d (raw_two word p r) = Prints most (inside (tier_level (left_of word)) (level p) d) p × Prints most (inside (tier_level (right_of word)) (level r) (d + 1)) r
Prints most d (raw_bind which x s p) = NamePrints x × Prints most (d + 1) p

-- a command that is no row of commands
unfoldable pub is_single : RawCommand → Bool
is_single c.Skip = true
is_single (raw_seq a b) = false
is_single (raw_if p a b) = true
is_single (raw_pick x s p a b) = true
is_single (c.Change word x us) = true
is_single (c.Switch word ts) = true
is_single (c.Flood ts) = true

unfoldable pub CommandPrints : (most d : ℕ) → RawCommand → Type 0
CommandPrints most d c.Skip = d ≤ most
CommandPrints most d (raw_seq a b) = (is_single a ≡ true) × (CommandPrints most d a × CommandPrints most (d + 1) b)
CommandPrints most d (raw_if p a b) = Prints most d p × (CommandPrints most (d + 1) a × (is_skip b ≡ false → CommandPrints most (d + 1) b))
CommandPrints most d (raw_pick x s p a b) = NamePrints x × (Prints most d p × (CommandPrints most (d + 1) a × (is_skip b ≡ false → CommandPrints most (d + 1) b)))
CommandPrints most d (c.Change word x us) = (d ≤ most) × (NamePrints x × TermsPrint us)
CommandPrints most d (c.Switch word ts) = (d ≤ most) × FlowPrints ts
CommandPrints most d (c.Flood ts) = (d ≤ most) × PacketPrints ts

abbrev pub RowsPrint : List RawRow → Type 0
RowsPrint [] = Unit {0}
RowsPrint (r ∷ rs) = TermsPrint r.terms × RowsPrint rs

abbrev pub PatternPrints : RawPattern → Type 0
PatternPrints (AnyPort x) = NamePrints x
PatternPrints (OnePort k) = IsNumeral k.number

abbrev pub HandlerPrints : (most d : ℕ) → RawHandler → Type 0
HandlerPrints most d h = NamePrints h.switch × (NamePrints h.source × (NamePrints h.target × (PatternPrints h.ingress × CommandPrints most (d + 1) h.body)))

-- a `static` has no rows
abbrev pub ItemPrints : (most d : ℕ) → RawItem → Type 0
ItemPrints most d (item.Relation r) = NamePrints r.name × (RowsPrint r.rows × (r.fixed ≡ true → r.rows ≡ []))
ItemPrints most d (item.Constant x s) = NamePrints x
ItemPrints most d (item.Invariant kind x p) = NamePrints x × Prints most d p
ItemPrints most d (item.Handler h) = HandlerPrints most d h
ItemPrints most d (item.Timeout t) = IsNumeral t.seconds

abbrev pub ItemsPrint : (most d : ℕ) → List RawItem → Type 0
ItemsPrint most d [] = Unit {0}
ItemsPrint most d (x ∷ xs) = ItemPrints most d x × ItemsPrint most d xs
