-- A tree whose numerals are all those of a signature.
use Rattle.std.proofs.Common.{ℕ, List, [], ◌∷◌, ◌++◌, Contains}
use Rattle.std.specs.List.{AllByRecursion as ByRecursion}
use Rattle.csdn_core.specs.Sorted.{Signature}
use Rattle.csdn_tree.specs.declared.names.RawTerm.{RawTerm}
use Rattle.csdn_tree.specs.declared.names.RawTerm.TheVariants.{Name, Port}
use Rattle.csdn_tree.specs.declared.syntax.RawFlow.{RawFlow}
use Rattle.csdn_tree.specs.declared.syntax.RawPacket.{RawPacket}
use Rattle.csdn_tree.specs.declared.syntax.RawFormula.{RawFormula}
use Rattle.csdn_tree.specs.declared.syntax.RawFormula.TheVariants as f
use Rattle.csdn_tree.specs.declared.syntax.RawCommand.{RawCommand}
use Rattle.csdn_tree.specs.declared.syntax.RawCommand.TheVariants as c
use Rattle.csdn_tree.specs.RawTree.{raw_not, raw_two, raw_bind, raw_seq, raw_if, raw_pick}
use Rattle.csdn_tree.specs.Numerals.{term_numerals, terms_numerals, flow_numerals, formula_numerals, command_numerals}
use Rattle.csdn_types.specs.Signed.{HasNumeral, HaveNumerals, FormulaNumerals, CommandNumerals}

pub all_left : {X : Type 0} (P : X → Type 0) (xs ys : List X) → ByRecursion P (xs ++ ys) → ByRecursion P xs
all_left P [] ys h = tt
all_left P (x ∷ xs) ys h = (h.0, all_left P xs ys h.1)

pub all_right : {X : Type 0} (P : X → Type 0) (xs ys : List X) → ByRecursion P (xs ++ ys) → ByRecursion P ys
all_right P [] ys h = h
all_right P (x ∷ xs) ys h = all_right P xs ys h.1

module _ (S : Signature) where
  abbrev pub Named : List ℕ → Type 0
  Named ns = ByRecursion (Contains S.numerals) ns

  left : (xs ys : List ℕ) → Named (xs ++ ys) → Named xs
  left = all_left (Contains S.numerals)

  right : (xs ys : List ℕ) → Named (xs ++ ys) → Named ys
  right = all_right (Contains S.numerals)

  term_named : (t : RawTerm) → Named (term_numerals t) → HasNumeral S t
  term_named (Name n) h = tt
  term_named (Port k) h = h.0

  pub terms_named : (ts : List RawTerm) → Named (terms_numerals ts) → HaveNumerals S ts
  terms_named [] h = tt
  terms_named (t ∷ ts) h = (term_named t (left (term_numerals t) (terms_numerals ts) h), terms_named ts (right (term_numerals t) (terms_numerals ts) h))

  flow_named : (w : RawFlow) → Named (flow_numerals w) → HaveNumerals S (Name w.switch ∷ w.source ∷ w.target ∷ w.ingress ∷ w.egress ∷ [])
  flow_named w h =
      let rest = right (term_numerals w.source) _ h in
      let ports = right (term_numerals w.target) _ rest in (
        tt,
        (
          term_named w.source (left (term_numerals w.source) _ h),
          (
            term_named w.target (left (term_numerals w.target) _ rest),
            (term_named w.ingress (left (term_numerals w.ingress) (term_numerals w.egress) ports), (term_named w.egress (right (term_numerals w.ingress) (term_numerals w.egress) ports), tt)),
          ),
        ),
      )

  packet_named : (w : RawPacket) → Named (term_numerals w.source ++ (term_numerals w.target ++ term_numerals w.ingress)) → HaveNumerals S (Name w.switch ∷ w.source ∷ w.target ∷ w.ingress ∷ [])
  packet_named w h =
      let rest = right (term_numerals w.source) _ h in (
        tt,
        (
          term_named w.source (left (term_numerals w.source) _ h),
          (term_named w.target (left (term_numerals w.target) (term_numerals w.ingress) rest), (term_named w.ingress (right (term_numerals w.target) (term_numerals w.ingress) rest), tt)),
        ),
      )

  pub formula_named : (p : RawFormula) → Named (formula_numerals p) → FormulaNumerals S p
  unfolding formula_numerals FormulaNumerals
  formula_named f.True h = tt
  formula_named f.False h = tt
  formula_named (f.Atom name ts) h = terms_named ts h
  formula_named (f.Same t u) h = (term_named t (left (term_numerals t) (term_numerals u) h), term_named u (right (term_numerals t) (term_numerals u) h))
  formula_named (f.Flow at word w) h = flow_named w h
  formula_named (f.RcvThis at w) h = packet_named w h
  formula_named (raw_not p) h = formula_named p h
  formula_named (raw_two k p q) h = (formula_named p (left (formula_numerals p) (formula_numerals q) h), formula_named q (right (formula_numerals p) (formula_numerals q) h))
  formula_named (raw_bind which name sort p) h = formula_named p h

  pub command_named : (x : RawCommand) → Named (command_numerals x) → CommandNumerals S x
  unfolding command_numerals CommandNumerals
  command_named c.Skip h = tt
  command_named (raw_seq a b) h = (command_named a (left (command_numerals a) (command_numerals b) h), command_named b (right (command_numerals a) (command_numerals b) h))
  command_named (raw_if p a b) h =
      let rest = right (formula_numerals p) (command_numerals a ++ command_numerals b) h in
      (formula_named p (left (formula_numerals p) _ h), command_named a (left (command_numerals a) (command_numerals b) rest), command_named b (right (command_numerals a) (command_numerals b) rest))
  command_named (raw_pick name sort p a b) h =
      let rest = right (formula_numerals p) (command_numerals a ++ command_numerals b) h in
      (formula_named p (left (formula_numerals p) _ h), command_named a (left (command_numerals a) (command_numerals b) rest), command_named b (right (command_numerals a) (command_numerals b) rest))
  command_named (c.Change word name ts) h = terms_named ts h
  command_named (c.Switch word w) h = flow_named w h
  command_named (c.Flood w) h = packet_named w h
