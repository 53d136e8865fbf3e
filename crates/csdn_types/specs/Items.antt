-- Declarations and handlers: their rules, and what stands for them.
use Rattle.std.specs.Prelude.{ℕ, ◌+◌, ◌==◌, nat_le, nat_lt, not, List, [], ◌∷◌, ◌++◌, length, map, Option, Some, None, is_some}
use Rattle.csdn_core.specs.declared.terms.Sort.{Sort}
use Rattle.csdn_core.specs.declared.terms.Sort.TheVariants.{Sw, Ho, Pr}
use Rattle.csdn_core.specs.declared.terms.RelId.{RelId}
use Rattle.csdn_core.specs.declared.terms.Term.{Term}
use Rattle.csdn_core.specs.declared.terms.Term.TheVariants.{Var, Port as PortTerm}
use Rattle.csdn_core.specs.declared.program.StartRow.{StartRow}
use Rattle.csdn_core.specs.declared.program.Handler.{Handler}
use Rattle.csdn_tree.specs.declared.names.RawName.{RawName}
use Rattle.csdn_types.specs.declared.refusal.SortRefusal.{SortRefusal}
use Rattle.csdn_types.specs.declared.refusal.SortRefusal.TheVariants.{Duplicate, WrongArity, TooMany}
use Rattle.csdn_tree.specs.declared.syntax.RawRow.{RawRow}
use Rattle.csdn_tree.specs.declared.syntax.RawRelation.{RawRelation}
use Rattle.csdn_tree.specs.declared.syntax.RawPattern.{RawPattern}
use Rattle.csdn_tree.specs.declared.syntax.RawPattern.TheVariants.{Any, Port}
use Rattle.csdn_tree.specs.declared.syntax.RawHandler.{RawHandler}
use Rattle.csdn_types.specs.declared.own.OwnTerms.{OwnTerms}
use Rattle.csdn_types.specs.Scope.{Scope, relation_named, bound}
use Rattle.csdn_types.specs.Typed.{terms_of}
use Rattle.csdn_types.specs.Faults.{fault_if, terms_faults, variable_faults}
use Rattle.csdn_types.specs.Commands.{command_faults, command_typed}

-- ---- relations

abbrev pub row_faults : Scope → List Sort → ℕ → RawRow → List SortRefusal
row_faults s sorts count row =
    fault_if (not (length row.terms == length sorts)) (WrongArity row.at) ++ (fault_if (nat_le 1024 count) (TooMany row.at) ++ terms_faults s sorts row.terms)

-- rows, of which so many came before
unfoldable pub rows_faults : Scope → List Sort → ℕ → List RawRow → List SortRefusal
rows_faults s sorts count [] = []
rows_faults s sorts count (row ∷ rows) = row_faults s sorts count row ++ rows_faults s sorts (count + 1) rows

abbrev pub name_faults : Scope → RawRelation → List SortRefusal
name_faults s d =
    fault_if (is_some (relation_named s d.name.text)) (Duplicate d.name.at)
    ++ (fault_if (nat_lt 5 (length d.sorts)) (WrongArity d.name.at) ++ fault_if (nat_le 64 (length s.relations)) (TooMany d.name.at))

abbrev pub relation_item_faults : Scope → RawRelation → List SortRefusal
relation_item_faults s d = name_faults s d ++ rows_faults s d.sorts 0 d.rows

abbrev pub row_of : Scope → RelId → RawRow → StartRow
row_of s id row = record { rel = id; terms = terms_of s row.terms }

-- the rows of the relation that is declared next
abbrev pub rows_of : Scope → RawRelation → List StartRow
rows_of s d = map (row_of s (record { 0 = length s.relations })) d.rows

-- ---- handlers

-- the variable of a port pattern has no name that a text can spell
abbrev pub ingress_name : RawPattern → RawName
ingress_name (Any n) = n
ingress_name (Port k) = record { at = 0; text = [] }

abbrev pub ingress_faults : Scope → RawPattern → List SortRefusal
ingress_faults s (Any n) = variable_faults s n
ingress_faults s (Port k) = []

abbrev pub port_of : RawPattern → Option ℕ
port_of (Any n) = None
port_of (Port k) = Some k.number

abbrev pub ingress_term : ℕ → RawPattern → Term
ingress_term number (Any n) = Var (record { 0 = number })
ingress_term number (Port k) = PortTerm k.number

-- the scope of the body
abbrev pub inside : Scope → RawHandler → Scope
inside s h = bound (bound (bound (bound s h.switch Sw) h.source Ho) h.target Ho) (ingress_name h.ingress) Pr

abbrev pub own_of : Scope → RawHandler → OwnTerms
own_of s h = record {
  switch = Var (record { 0 = s.next });
  source = Var (record { 0 = s.next + 1 });
  target = Var (record { 0 = s.next + 1 + 1 });
  ingress = ingress_term (s.next + 1 + 1 + 1) h.ingress;
}

-- so many handlers came before
abbrev pub handler_faults : Scope → ℕ → RawHandler → List SortRefusal
handler_faults s count h =
    fault_if (nat_le 32 count) (TooMany h.at)
    ++ (variable_faults s h.switch
    ++ (variable_faults (bound s h.switch Sw) h.source
    ++ (variable_faults (bound (bound s h.switch Sw) h.source Ho) h.target
    ++ (ingress_faults (bound (bound (bound s h.switch Sw) h.source Ho) h.target Ho) h.ingress ++ command_faults (own_of s h) (inside s h) h.body))))

abbrev pub handler_of : Scope → RawHandler → Handler
handler_of s h = record {
  port = port_of h.ingress;
  s = record { 0 = s.next };
  a = record { 0 = s.next + 1 };
  b = record { 0 = s.next + 1 + 1 };
  i = record { 0 = s.next + 1 + 1 + 1 };
  body = command_typed (inside s h) h.body;
}
