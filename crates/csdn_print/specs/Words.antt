-- The text of names, terms, rows and sorts (docs/FORMATS.md, "Printed programs").
use Rattle.std.specs.Prelude.{ℕ, List, [], ◌∷◌, ◌++◌, codes, map}
use Rattle.std.specs.Fmt.{decimal}
use Rattle.csdn_core.specs.declared.terms.Sort.{Sort}
use Rattle.csdn_core.specs.declared.terms.Sort.TheVariants as s
use Rattle.csdn_tree.specs.declared.names.RawNumeral.{RawNumeral}
use Rattle.csdn_tree.specs.declared.names.RawTerm.{RawTerm}
use Rattle.csdn_tree.specs.declared.names.RawTerm.TheVariants as t
use Rattle.csdn_tree.specs.declared.syntax.RawFlow.{RawFlow}
use Rattle.csdn_tree.specs.declared.syntax.RawPacket.{RawPacket}

-- one text, and another behind it
infixr 60 ◌·◌
abbrev pub ◌·◌ : List ℕ → List ℕ → List ℕ
xs · ys = xs ++ ys

abbrev pub sort_text : Sort → List ℕ
sort_text s.Sw = codes "SW"
sort_text s.Ho = codes "HO"
sort_text s.Pr = codes "PR"

abbrev pub port_text : RawNumeral → List ℕ
port_text k = codes "prt(" · decimal k.number · codes ")"

abbrev pub term_text : RawTerm → List ℕ
term_text (t.Name x) = x.text
term_text (t.Port k) = port_text k

-- each text with a comma and a space before it
abbrev pub more_listed : List (List ℕ) → List ℕ
more_listed [] = []
more_listed (x ∷ xs) = codes ", " · x · more_listed xs

-- texts with a comma and a space between them
abbrev pub listed : List (List ℕ) → List ℕ
listed [] = []
listed (x ∷ xs) = x · more_listed xs

-- a list in parentheses
abbrev pub row_text : List (List ℕ) → List ℕ
row_text xs = codes "(" · listed xs · codes ")"

abbrev pub terms_text : List RawTerm → List ℕ
terms_text us = row_text (map term_text us)

abbrev pub sorts_text : List Sort → List ℕ
sorts_text ss = row_text (map sort_text ss)

-- two hosts and two ports
abbrev pub flow_text : RawFlow → List ℕ
flow_text w = codes "(" · term_text w.source · codes "->" · term_text w.target · codes ", " · term_text w.ingress · codes "->" · term_text w.egress · codes ")"

-- two hosts and a port
abbrev pub packet_text : RawPacket → List ℕ
packet_text w = codes "(" · term_text w.source · codes "->" · term_text w.target · codes ", " · term_text w.ingress · codes ")"
