-- Weakest preconditions of events.
use Rattle.std.specs.Prelude.{ℕ, List, [], ◌∷◌, ◌++◌, Option, Some, None}
use Rattle.csdn_core.specs.declared.terms.VarId.{VarId}
use Rattle.csdn_core.specs.declared.terms.Sort.TheVariants.{Sw, Ho, Pr}
use Rattle.csdn_core.specs.declared.terms.Term.{Term}
use Rattle.csdn_core.specs.declared.terms.Term.TheVariants.{Var, Port}
use Rattle.csdn_core.specs.declared.terms.Pred.TheVariants.{Ft, Sent}
use Rattle.csdn_core.specs.declared.program.Parts.{Parts}
use Rattle.csdn_core.specs.declared.program.Handler.{Handler}
use Rattle.csdn_core.specs.declared.syntax.Formula.{Formula}
use Rattle.csdn_core.specs.declared.syntax.Formula.TheVariants.{Atom, Same}
use Rattle.csdn_core.specs.declared.syntax.Command.{Command}
use Rattle.csdn_core.specs.declared.syntax.Command.TheVariants.{Skip}
use Rattle.csdn_core.specs.Tree.{negation, conjunction, implication}
use Rattle.csdn_core.specs.Sorted.{most_numbers}
use Rattle.fol_forms.specs.declared.close.Bind.{Bind}
use Rattle.fol_forms.specs.Closed.{closed}
use Rattle.fol_forms.specs.Replace.{add_row, drop_match, fix_packet, no_packet}
use Rattle.fol_forms.specs.Renumber.{renumber}
use Rattle.csdn_wp.specs.declared.vars.PacketVars.{PacketVars}
use Rattle.csdn_wp.specs.Preconditions.{wp}

-- the variable with this number
abbrev pub numbered : ℕ → VarId
numbered k = record { 0 = k }

-- the variables of a packet, as terms
abbrev pub terms_of : PacketVars → List Term
terms_of v = Var v.s ∷ Var v.a ∷ Var v.b ∷ Var v.i ∷ []

-- a handler's own
abbrev pub handler_vars : Handler → PacketVars
handler_vars h = record { s = h.s; a = h.a; b = h.b; i = h.i }

-- those where no handler names them
abbrev pub first_vars : PacketVars
first_vars = record { s = numbered 0; a = numbered 1; b = numbered 2; i = numbered 3 }

-- the variables of a packet, with their sorts
abbrev pub binds_of : PacketVars → List Bind
binds_of v =
    record { var = v.s; sort = Sw } ∷ record { var = v.a; sort = Ho } ∷ record { var = v.b; sort = Ho } ∷ record { var = v.i; sort = Pr } ∷ []

-- for every packet
abbrev pub for_packets : PacketVars → Formula → Formula
for_packets v p = closed (binds_of v) p

abbrev pub is_port : VarId → ℕ → Formula
is_port i k = Same (Var i) (Port k)

abbrev pub and_also : Formula → Option Formula → Formula
and_also p None = p
and_also p (Some q) = conjunction p q

-- the port is none of the earlier handlers', and it is the pattern's own: a conjunction, which is none without equations
abbrev pub guard : List ℕ → Option ℕ → VarId → Option Formula
guard [] None i = None
guard [] (Some k) i = Some (is_port i k)
guard (k ∷ earlier) port i = Some (and_also (negation (is_port i k)) (guard earlier port i))

-- under the guard, if there is one
abbrev pub guarded : Option Formula → Formula → Formula
guarded None p = p
guarded (Some g) p = implication g p

-- for every packet that the earlier ports leave to this pattern, the formula holds after the body
unfoldable pub member : List ℕ → PacketVars → Option ℕ → Command → Formula → Formula
member earlier v port body q = for_packets v (guarded (guard earlier port v.i) (wp body (fix_packet q (terms_of v))))

-- a pattern that is a variable leaves no packet to those that follow
abbrev pub and_later : Option ℕ → List ℕ → Formula → (List ℕ → Formula) → Formula
and_later None earlier p later = p
and_later (Some k) earlier p later = conjunction p (later (earlier ++ k ∷ []))

-- a member for each handler, and one for the packets that no pattern fits
unfoldable pub members : List Handler → List ℕ → Formula → Formula
members [] earlier q = member earlier first_vars None Skip q
members (h ∷ hs) earlier q = and_later h.port earlier (member earlier (handler_vars h) h.port h.body q) (λ ks. members hs ks q)

-- for every packet, the formula holds after the handler that fits; its bound variables have numbers that no handler has
unfoldable pub wp_in : Parts → Formula → Formula
wp_in P q = members P.handlers [] (renumber q most_numbers)

-- a tuple of the flow tables
abbrev pub flow_terms : List Term
flow_terms = Var (numbered 0) ∷ Var (numbered 1) ∷ Var (numbered 2) ∷ Var (numbered 3) ∷ Var (numbered 4) ∷ []

abbrev pub flow_binds : List Bind
flow_binds =
    record { var = numbered 0; sort = Sw } ∷ record { var = numbered 1; sort = Ho } ∷ record { var = numbered 2; sort = Ho } ∷ record { var = numbered 3; sort = Pr } ∷ record { var = numbered 4; sort = Pr } ∷ []

-- the formula holds for every tuple of `ft`
unfoldable pub for_rules : Formula → Formula
for_rules p = closed flow_binds (implication (Atom Ft flow_terms) p)

-- for every tuple of `ft`, the formula holds after the tuple was put into `sent`
unfoldable pub wp_flow : Formula → Formula
wp_flow q = for_rules (add_row (fix_packet (renumber q 5) (terms_of first_vars)) Sent flow_terms)

-- for every tuple of `ft`, the formula holds, without a packet, after all tuples of its match were taken out
unfoldable pub wp_expire : Formula → Formula
wp_expire q = for_rules (drop_match (no_packet (renumber q 5)) (terms_of first_vars))
