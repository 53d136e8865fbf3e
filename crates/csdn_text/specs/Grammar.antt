-- The grammar: for each nonterminal its right sides, each with the value that it gives.
use Rattle.std.specs.Prelude.{List, [], ◌∷◌, Option, Some, None, true, false}
use Rattle.csdn_core.specs.declared.terms.Sort.TheVariants as s
use Rattle.csdn_tokens.specs.declared.Kind.{Kind}
use Rattle.csdn_tokens.specs.declared.Kind.TheVariants as k
use Rattle.csdn_tokens.specs.declared.Token.{Token}
use Rattle.csdn_tree.specs.declared.names.RawName.{RawName}
use Rattle.csdn_tree.specs.declared.names.RawNumeral.{RawNumeral}
use Rattle.csdn_tree.specs.declared.names.RawTerm.TheVariants as t
use Rattle.csdn_tree.specs.declared.syntax.ChangeWord.TheVariants as change
use Rattle.csdn_tree.specs.declared.syntax.Connective.{Connective}
use Rattle.csdn_tree.specs.declared.syntax.Connective.TheVariants as word
use Rattle.csdn_tree.specs.declared.syntax.FlowWord.TheVariants as w
use Rattle.csdn_tree.specs.declared.syntax.InvariantKind.TheVariants as v
use Rattle.csdn_tree.specs.declared.syntax.RawCommand.{RawCommand}
use Rattle.csdn_tree.specs.declared.syntax.RawCommand.TheVariants as c
use Rattle.csdn_tree.specs.declared.syntax.RawFlow.{RawFlow}
use Rattle.csdn_tree.specs.declared.syntax.RawFormula.{RawFormula}
use Rattle.csdn_tree.specs.declared.syntax.RawFormula.TheVariants as f
use Rattle.csdn_tree.specs.declared.syntax.RawItem.TheVariants as i
use Rattle.csdn_tree.specs.declared.syntax.RawPacket.{RawPacket}
use Rattle.csdn_tree.specs.declared.syntax.RawPattern.TheVariants as p
use Rattle.csdn_tree.specs.declared.syntax.SwitchWord.TheVariants as switch
use Rattle.csdn_tree.specs.declared.syntax.RawTimeout.{RawTimeout}
use Rattle.csdn_text.specs.declared.parts.Action.{Action}
use Rattle.csdn_text.specs.declared.parts.Action.TheVariants as a
use Rattle.csdn_text.specs.declared.parts.AtomRest.{AtomRest}
use Rattle.csdn_text.specs.declared.parts.AtomRest.TheVariants as r
use Rattle.csdn_text.specs.declared.parts.FlowTerms.{FlowTerms}
use Rattle.csdn_text.specs.declared.parts.PacketTerms.{PacketTerms}
use Rattle.csdn_tree.specs.declared.syntax.Quantifier.TheVariants as q
use Rattle.csdn_tree.specs.declared.tiers.Tier.TheVariants.{Single, Joins}
use Rattle.csdn_tree.specs.Tiers.{left_of, right_of}
use Rattle.csdn_text.specs.Symbols.{Nonterminal, program, items, item, static_item, const_item, rel_item, invariant_item, invariant_kind, handler_item, handler_port, timeout_item, sorts, sort_list, more_sorts, sort, initial, rows, more_rows, row, terms, more_terms, name, term, port, formula, binds, more_binds, tier, tail, atom, atom_rest, fact, flow, packet, block, commands, more_commands, command, branch, choice, otherwise, action, here, deeper, Symbol, token, part, Value, Makes, Rule, Rules}

-- a right side and its value
abbrev pub rule : {n : Nonterminal} → (parts : List Symbol) → Makes parts (Value n) → Rule n
rule parts gives = record { parts = parts; gives = gives }

-- the name that a token is
abbrev pub name_of : Token → RawName
name_of x = record { at = x.at; text = x.text }

-- the numeral of a word `prt` and a number
abbrev pub numeral_of : Token → Token → RawNumeral
numeral_of word number = record { at = word.at; number = number.number }

-- the timeout of its word and a number
abbrev pub timeout_of : Token → Token → RawTimeout
timeout_of word number = record { at = word.at; seconds = number.number }

-- the kind of the word between two formulas
abbrev pub kind_of : Connective → Kind
kind_of word.And = k.And
kind_of word.Or = k.Or
kind_of word.Implies = k.Arrow
kind_of word.Iff = k.Both

-- a left side, and a right side where there is one
abbrev pub joined : {A : Type 0} → (A → A → A) → A → Option A → A
joined op left None = left
joined op left (Some right) = op left right

-- four terms behind a switch
abbrev pub flow_of : RawName → FlowTerms → RawFlow
flow_of x ts = record { switch = x; source = ts.source; target = ts.target; ingress = ts.ingress; egress = ts.egress }

-- three terms behind a switch
abbrev pub packet_of : RawName → PacketTerms → RawPacket
packet_of x ts = record { switch = x; source = ts.source; target = ts.target; ingress = ts.ingress }

-- the atom of a name and what stands behind it
abbrev pub atom_of : RawName → AtomRest → RawFormula
atom_of x (r.Row ts) = f.Atom x ts
atom_of x (r.Same u) = f.Same (t.Name x) u
atom_of x (r.Flow at word ts) = f.Flow at word (flow_of x ts)
atom_of x (r.RcvThis at ts) = f.RcvThis at (packet_of x ts)

-- the command of a name and what is done
abbrev pub command_of : RawName → Action → RawCommand
command_of x (a.Change word ts) = c.Change word x ts
command_of x (a.Switch word ts) = c.Switch word (flow_of x ts)
command_of x (a.Flood ts) = c.Flood (packet_of x ts)

abbrev pub rules : (n : Nonterminal) → Rules n
rules program = record {
  led = [];
  last = rule (part item here ∷ part items here ∷ []) (λ first rest. record { items = first ∷ rest });
}
rules items = record {
  led = rule (part item here ∷ part items here ∷ []) (λ first rest. first ∷ rest) ∷ [];
  last = rule [] [];
}
rules item = record {
  led = rule (part static_item here ∷ []) (λ x. x)
      ∷ rule (part const_item here ∷ []) (λ x. x)
      ∷ rule (part rel_item here ∷ []) (λ x. x)
      ∷ rule (part handler_item here ∷ []) (λ x. x)
      ∷ rule (part timeout_item here ∷ []) (λ x. x)
      ∷ [];
  last = rule (part invariant_item here ∷ []) (λ x. x);
}
rules static_item = record {
  led = [];
  last = rule (token k.Static here ∷ part name here ∷ part sorts here ∷ token k.Semicolon here ∷ [])
      (λ _ x ss _. i.Relation (record { name = x; sorts = ss; fixed = true; rows = [] }));
}
rules const_item = record {
  led = [];
  last = rule (token k.Const here ∷ part name here ∷ token k.Colon here ∷ part sort here ∷ token k.Semicolon here ∷ [])
      (λ _ x _ s _. i.Constant x s);
}
rules rel_item = record {
  led = [];
  last = rule (token k.Rel here ∷ part name here ∷ part sorts here ∷ part initial here ∷ token k.Semicolon here ∷ [])
      (λ _ x ss rs _. i.Relation (record { name = x; sorts = ss; fixed = false; rows = rs }));
}
rules invariant_item = record {
  led = [];
  last = rule (part invariant_kind here ∷ part name here ∷ token k.Colon here ∷ part formula here ∷ token k.Semicolon here ∷ [])
      (λ kind x _ p _. i.Invariant kind x p);
}
rules invariant_kind = record {
  led = rule (token k.Topology here ∷ []) (λ _. v.Topology)
      ∷ rule (token k.Safety here ∷ []) (λ _. v.Safety)
      ∷ [];
  last = rule (token k.Trans here ∷ []) (λ _. v.Trans);
}
rules handler_item = record {
  led = [];
  last = rule (token k.PktIn here ∷ token k.Open here ∷ part name here ∷ token k.Comma here ∷ part name here ∷ token k.Arrow here
      ∷ part name here ∷ token k.Comma here ∷ part handler_port here ∷ token k.Close here ∷ part block here ∷ [])
      (λ word _ switch _ source _ target _ ingress _ body. i.Handler (record { at = word.at; switch = switch; source = source; target = target; ingress = ingress; body = body }));
}
rules handler_port = record {
  led = rule (part port here ∷ []) (λ n. p.Port n) ∷ [];
  last = rule (part name here ∷ []) (λ x. p.Any x);
}
rules timeout_item = record {
  led = [];
  last = rule (token k.Timeout here ∷ token k.Number here ∷ token k.Semicolon here ∷ []) (λ word number _. i.Timeout (timeout_of word number));
}
rules sorts = record {
  led = [];
  last = rule (token k.Open here ∷ part sort_list here ∷ token k.Close here ∷ []) (λ _ ss _. ss);
}
rules sort_list = record {
  led = rule (part sort here ∷ part more_sorts here ∷ []) (λ s ss. s ∷ ss) ∷ [];
  last = rule [] [];
}
rules more_sorts = record {
  led = rule (token k.Comma here ∷ part sort here ∷ part more_sorts here ∷ []) (λ _ s ss. s ∷ ss) ∷ [];
  last = rule [] [];
}
rules sort = record {
  led = rule (token k.Sw here ∷ []) (λ _. s.Sw) ∷ rule (token k.Ho here ∷ []) (λ _. s.Ho) ∷ [];
  last = rule (token k.Pr here ∷ []) (λ _. s.Pr);
}
rules initial = record {
  led = rule (token k.Equals here ∷ token k.Begin here ∷ part rows here ∷ token k.End here ∷ []) (λ _ _ rs _. rs) ∷ [];
  last = rule [] [];
}
rules rows = record {
  led = rule (part row here ∷ part more_rows here ∷ []) (λ r rs. r ∷ rs) ∷ [];
  last = rule [] [];
}
rules more_rows = record {
  led = rule (token k.Comma here ∷ part row here ∷ part more_rows here ∷ []) (λ _ r rs. r ∷ rs) ∷ [];
  last = rule [] [];
}
rules row = record {
  led = [];
  last = rule (token k.Open here ∷ part terms here ∷ token k.Close here ∷ []) (λ begin ts _. record { at = begin.at; terms = ts });
}
rules terms = record {
  led = rule (part term here ∷ part more_terms here ∷ []) (λ u us. u ∷ us) ∷ [];
  last = rule [] [];
}
rules more_terms = record {
  led = rule (token k.Comma here ∷ part term here ∷ part more_terms here ∷ []) (λ _ u us. u ∷ us) ∷ [];
  last = rule [] [];
}
rules name = record {
  led = [];
  last = rule (token k.Name here ∷ []) (λ x. name_of x);
}
rules term = record {
  led = rule (part port here ∷ []) (λ n. t.Port n) ∷ [];
  last = rule (part name here ∷ []) (λ x. t.Name x);
}
rules port = record {
  led = [];
  last = rule (token k.Prt here ∷ token k.Open here ∷ token k.Number here ∷ token k.Close here ∷ []) (λ word _ number _. numeral_of word number);
}
rules formula = record {
  led = rule (token k.Forall here ∷ part (binds q.All) here ∷ []) (λ _ p. p)
      ∷ rule (token k.Exists here ∷ part (binds q.Some) here ∷ []) (λ _ p. p) ∷ [];
  last = rule (part (tier (Joins word.Iff)) here ∷ []) (λ p. p);
}
rules (binds which) = record {
  led = [];
  last = rule (part name deeper ∷ token k.Colon deeper ∷ part sort deeper ∷ part (more_binds which) deeper ∷ []) (λ x _ s body. f.Bind which x s body);
}
rules (more_binds which) = record {
  led = rule (token k.Comma here ∷ part (binds which) here ∷ []) (λ _ p. p) ∷ [];
  last = rule (token k.Dot here ∷ part formula here ∷ []) (λ _ p. p);
}
rules (tier Single) = record {
  led = rule (token k.Not deeper ∷ part (tier Single) deeper ∷ []) (λ _ p. f.Not p) ∷ [];
  last = rule (part atom here ∷ []) (λ p. p);
}
rules (tier (Joins word)) = record {
  led = [];
  last = rule (part (tier (left_of word)) here ∷ part (tail word) here ∷ []) (λ p rest. joined (f.Two word) p rest);
}
rules (tail word) = record {
  led = rule (token (kind_of word) deeper ∷ part (tier (right_of word)) deeper ∷ []) (λ _ p. Some p) ∷ [];
  last = rule [] None;
}
rules atom = record {
  led = rule (token k.True here ∷ []) (λ _. f.True)
      ∷ rule (token k.False here ∷ []) (λ _. f.False)
      ∷ rule (token k.Open deeper ∷ part formula deeper ∷ token k.Close deeper ∷ []) (λ _ p _. p)
      ∷ rule (part port here ∷ token k.Equals here ∷ part term here ∷ []) (λ n _ u. f.Same (t.Port n) u)
      ∷ [];
  last = rule (part name here ∷ part atom_rest here ∷ []) (λ x rest. atom_of x rest);
}
rules atom_rest = record {
  led = rule (token k.Equals here ∷ part term here ∷ []) (λ _ u. r.Same u)
      ∷ rule (token k.Dot here ∷ part fact here ∷ []) (λ _ x. x)
      ∷ [];
  last = rule (part row here ∷ []) (λ x. r.Row x.terms);
}
rules fact = record {
  led = rule (token k.Ft here ∷ part flow here ∷ []) (λ word ts. r.Flow word.at w.Ft ts)
      ∷ rule (token k.Sent here ∷ part flow here ∷ []) (λ word ts. r.Flow word.at w.Sent ts)
      ∷ [];
  last = rule (token k.RcvThis here ∷ part packet here ∷ []) (λ word ts. r.RcvThis word.at ts);
}
rules flow = record {
  led = [];
  last = rule (token k.Open here ∷ part term here ∷ token k.Arrow here ∷ part term here ∷ token k.Comma here ∷ part term here
      ∷ token k.Arrow here ∷ part term here ∷ token k.Close here ∷ [])
      (λ _ source _ target _ ingress _ egress _. record { source = source; target = target; ingress = ingress; egress = egress });
}
rules packet = record {
  led = [];
  last = rule (token k.Open here ∷ part term here ∷ token k.Arrow here ∷ part term here ∷ token k.Comma here ∷ part term here ∷ token k.Close here ∷ [])
      (λ _ source _ target _ ingress _. record { source = source; target = target; ingress = ingress });
}
rules block = record {
  led = [];
  last = rule (token k.Begin deeper ∷ part commands deeper ∷ token k.End deeper ∷ []) (λ _ body _. body);
}
rules commands = record {
  led = [];
  last = rule (part command here ∷ part more_commands here ∷ []) (λ first rest. joined c.Seq first rest);
}
rules more_commands = record {
  led = rule (part commands deeper ∷ []) (λ rest. Some rest) ∷ [];
  last = rule [] None;
}
rules command = record {
  led = rule (token k.Skip here ∷ token k.Semicolon here ∷ []) (λ _ _. c.Skip)
      ∷ rule (part branch here ∷ []) (λ x. x)
      ∷ rule (part choice here ∷ []) (λ x. x)
      ∷ [];
  last = rule (part name here ∷ token k.Dot here ∷ part action here ∷ token k.Semicolon here ∷ []) (λ x _ act _. command_of x act);
}
rules branch = record {
  led = [];
  last = rule (token k.If here ∷ part formula here ∷ part block here ∷ part otherwise here ∷ []) (λ _ p body other. c.If p body other);
}
rules choice = record {
  led = [];
  last = rule (token k.Pick here ∷ part name here ∷ token k.Colon here ∷ part sort here ∷ token k.Where here ∷ part formula here
      ∷ part block here ∷ part otherwise here ∷ [])
      (λ _ x _ s _ p body other. c.Pick x s p body other);
}
rules otherwise = record {
  led = rule (token k.Else here ∷ part block here ∷ []) (λ _ body. body) ∷ [];
  last = rule [] c.Skip;
}
rules action = record {
  led = rule (token k.Insert here ∷ part row here ∷ []) (λ _ x. a.Change change.Insert x.terms)
      ∷ rule (token k.Remove here ∷ part row here ∷ []) (λ _ x. a.Change change.Remove x.terms)
      ∷ rule (token k.Install here ∷ part flow here ∷ []) (λ _ ts. a.Switch switch.Install ts)
      ∷ rule (token k.Uninstall here ∷ part flow here ∷ []) (λ _ ts. a.Switch switch.Uninstall ts)
      ∷ rule (token k.Forward here ∷ part flow here ∷ []) (λ _ ts. a.Switch switch.Forward ts)
      ∷ [];
  last = rule (token k.Flood here ∷ part packet here ∷ []) (λ _ ts. a.Flood ts);
}
