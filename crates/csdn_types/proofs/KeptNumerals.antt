-- What stands for a tree has the numerals of the tree.
use Rattle.std.proofs.Common.{◌≡◌, ℕ, ◌+◌, Bool, true, false, List, [], ◌∷◌, ◌++◌, map, flat_map, Option, Some, None, option_map, option_and_then, slice_get, position, bytes_eq, if◌then◌else◌, refl, ap, ap₂, ◌∙◌, append-nil}
use Rattle.csdn_core.specs.declared.terms.Term.TheVariants.{Var, Const}
use Rattle.csdn_core.specs.declared.program.Constant.{Constant}
use Rattle.csdn_core.specs.Numerals as core
use Rattle.csdn_core.proofs.Shapes.{Not-is, Seq-is, If-is, Pick-is}
use Rattle.csdn_tree.specs.declared.names.RawTerm.{RawTerm}
use Rattle.csdn_tree.specs.declared.names.RawTerm.TheVariants.{Name, Port}
use Rattle.csdn_tree.specs.declared.syntax.RawFlow.{RawFlow}
use Rattle.csdn_tree.specs.declared.syntax.RawPacket.{RawPacket}
use Rattle.csdn_tree.specs.declared.syntax.RawFormula.{RawFormula}
use Rattle.csdn_tree.specs.declared.syntax.RawFormula.TheVariants as f
use Rattle.csdn_tree.specs.declared.syntax.RawCommand.{RawCommand}
use Rattle.csdn_tree.specs.declared.syntax.RawCommand.TheVariants as c
use Rattle.csdn_tree.specs.declared.syntax.RawRow.{RawRow}
use Rattle.csdn_tree.specs.declared.syntax.RawPattern.{RawPattern}
use Rattle.csdn_tree.specs.declared.syntax.RawPattern.TheVariants.{Any as AnyPort, Port as OnePort}
use Rattle.csdn_tree.specs.declared.syntax.RawHandler.{RawHandler}
use Rattle.csdn_tree.specs.declared.syntax.ChangeWord.TheVariants as change
use Rattle.csdn_tree.specs.declared.syntax.SwitchWord.TheVariants as switch
use Rattle.csdn_tree.specs.RawTree.{raw_not, raw_two, raw_bind, raw_seq, raw_if, raw_pick}
use Rattle.csdn_tree.specs.Binders.{binders, command_binders}
use Rattle.csdn_tree.specs.Numerals.{term_numerals, terms_numerals, flow_numerals, formula_numerals, command_numerals, port_numerals, rows_numerals}
use Rattle.csdn_types.specs.declared.scope.SortedTerm.{SortedTerm}
use Rattle.csdn_types.specs.declared.scope.Variable.{Variable}
use Rattle.csdn_core.specs.declared.terms.RelId.{RelId}
use Rattle.csdn_types.specs.Scope.{Scope, variable_named, constant_at, constant_named, or_else, bound}
use Rattle.csdn_types.specs.Typed.{known_term, term_of, terms_of, flow_of, packet_of, typed, after, next_var}
use Rattle.csdn_types.proofs.Twins.{joined_by, quantified_by}
use Rattle.csdn_types.specs.Commands.{command_typed, later}
use Rattle.csdn_types.specs.Items.{port_of, row_of, handler_of, inside}

-- what a name stands for is no numeral
abbrev NoNumeral : Option SortedTerm → Type 0
NoNumeral known = core.term_numerals (known_term known) ≡ []

variable_is_none : (vs : List Variable) (name : List ℕ) → NoNumeral (variable_named vs name)
variable_is_none [] name = refl
variable_is_none (v ∷ vs) name = by (bytes_eq name v.name) (variable_is_none vs name)
  where
    by : (b : Bool) → NoNumeral (variable_named vs name) → NoNumeral (if b then Some (record { term = Var v.var; sort = v.sort }) else variable_named vs name)
    by true rest = refl
    by false rest = rest

constant_is_none : (cs : List Constant) (at : Option ℕ) → NoNumeral (option_and_then (constant_at cs) at)
constant_is_none cs None = refl
constant_is_none cs (Some at) = by (slice_get cs at)
  where
    by : (d : Option Constant) → NoNumeral (option_map (λ e. record { term = Const (record { 0 = at }); sort = e.sort }) d)
    by None = refl
    by (Some d) = refl

either_is_none : (a b : Option SortedTerm) → NoNumeral a → NoNumeral b → NoNumeral (or_else a b)
either_is_none None b none rest = rest
either_is_none (Some x) b none rest = none

pub kept-term : (s : Scope) (t : RawTerm) → core.term_numerals (term_of s t) ≡ term_numerals t
kept-term s (Name n) =
    either_is_none (variable_named s.variables n.text) (constant_named s.constants n.text)
    (variable_is_none s.variables n.text) (constant_is_none s.constants (position (bytes_eq n.text) (map (λ d. d.name) s.constants)))
kept-term s (Port k) = refl

pub kept-terms : (s : Scope) (ts : List RawTerm) → core.terms_numerals (terms_of s ts) ≡ terms_numerals ts
kept-terms s [] = refl
kept-terms s (t ∷ ts) = ap₂ (λ xs ys. xs ++ ys) (kept-term s t) (kept-terms s ts)

kept-flow : (s : Scope) (w : RawFlow) → core.terms_numerals (term_of s (Name w.switch) ∷ flow_of s w) ≡ flow_numerals w
kept-flow s w = kept-terms s (Name w.switch ∷ w.source ∷ w.target ∷ w.ingress ∷ w.egress ∷ []) ∙ ap (λ ns. term_numerals w.source ++ (term_numerals w.target ++ (term_numerals w.ingress ++ ns))) (append-nil (term_numerals w.egress))

kept-packet : (s : Scope) (w : RawPacket) → core.terms_numerals (term_of s (Name w.switch) ∷ packet_of s w) ≡ term_numerals w.source ++ (term_numerals w.target ++ term_numerals w.ingress)
kept-packet s w = kept-terms s (Name w.switch ∷ w.source ∷ w.target ∷ w.ingress ∷ []) ∙ ap (λ ns. term_numerals w.source ++ (term_numerals w.target ++ ns)) (append-nil (term_numerals w.ingress))

pub kept-formula : (s : Scope) (p : RawFormula) → core.formula_numerals (typed s p) ≡ formula_numerals p
unfolding core.formula_numerals typed formula_numerals
kept-formula s f.True = refl
kept-formula s f.False = refl
kept-formula s (f.Atom name ts) = kept-terms s ts
kept-formula s (f.Same t u) = ap₂ (λ xs ys. xs ++ ys) (kept-term s t) (kept-term s u)
kept-formula s (f.Flow at word w) = kept-flow s w
kept-formula s (f.RcvThis at w) = kept-packet s w
kept-formula s (raw_not p) = rw Not-is (kept-formula s p)
kept-formula s (raw_two k p q) =
    let whole = ap₂ (λ xs ys. xs ++ ys) (kept-formula s p) (kept-formula (after s p) q) in
    joined_by (λ r. core.formula_numerals r ≡ formula_numerals p ++ formula_numerals q) k (typed s p) (typed (after s p) q) whole whole whole whole
kept-formula s (raw_bind which name sort p) =
    let whole = kept-formula (bound s name sort) p in
    quantified_by (λ r. core.formula_numerals r ≡ formula_numerals p) which (next_var s) sort (typed (bound s name sort) p) whole whole

three : {ks ls ms ks' ls' ms' : List ℕ} → ks ≡ ks' → ls ≡ ls' → ms ≡ ms' → ks ++ (ls ++ ms) ≡ ks' ++ (ls' ++ ms')
three h j k = ap₂ (λ xs ys. xs ++ ys) h (ap₂ (λ xs ys. xs ++ ys) j k)

pub kept-command : (s : Scope) (x : RawCommand) → core.command_numerals (command_typed s x) ≡ command_numerals x
unfolding core.command_numerals command_typed command_numerals
kept-command s c.Skip = refl
kept-command s (raw_seq a b) = rw Seq-is (ap₂ (λ xs ys. xs ++ ys) (kept-command s a) (kept-command (later s (command_binders a)) b))
kept-command s (raw_if p a b) = rw If-is (three (kept-formula s p) (kept-command (later s (binders p)) a) (kept-command (later s (binders p + command_binders a)) b))
kept-command s (raw_pick name sort p a b) =
    rw Pick-is (three (kept-formula (bound s name sort) p) (kept-command (later (bound s name sort) (binders p)) a) (kept-command (later s ((1 + binders p) + command_binders a)) b))
kept-command s (c.Change change.Insert name ts) = kept-terms s ts
kept-command s (c.Change change.Remove name ts) = kept-terms s ts
kept-command s (c.Switch switch.Install w) = kept-flow s w
kept-command s (c.Switch switch.Uninstall w) = kept-flow s w
kept-command s (c.Switch switch.Forward w) = kept-flow s w
kept-command s (c.Flood w) = kept-packet s w

pub kept-rows : (s : Scope) (id : RelId) (rows : List RawRow) → flat_map core.row_numerals (map (row_of s id) rows) ≡ rows_numerals rows
kept-rows s id [] = refl
kept-rows s id (row ∷ rows) = ap₂ (λ xs ys. xs ++ ys) (kept-terms s row.terms) (kept-rows s id rows)

kept-port : (port : RawPattern) → core.port_numerals (port_of port) ≡ port_numerals port
kept-port (AnyPort n) = refl
kept-port (OnePort k) = refl

pub kept-handler : (s : Scope) (h : RawHandler) → core.handler_numerals (handler_of s h) ≡ port_numerals h.ingress ++ command_numerals h.body
kept-handler s h = ap₂ (λ xs ys. xs ++ ys) (kept-port h.ingress) (kept-command (inside s h) h.body)
