-- Members as the code makes them.
use Rattle.std.proofs.Common.{◌≡◌, ℕ, ◌<◌, List, [], ◌∷◌, ◌++◌, Option, Some, None, Result, Ok, Err, IsErrAnd, length, refl, sym, ap, subst, ◌∙◌, arith}
use Rattle.csdn_core.specs.declared.program.Handler.{Handler}
use Rattle.csdn_core.specs.declared.syntax.Formula.{Formula}
use Rattle.csdn_core.specs.declared.syntax.Formula.TheVariants as f
use Rattle.csdn_core.specs.declared.syntax.Command.{Command}
use Rattle.csdn_core.specs.declared.syntax.Command.TheVariants.{Skip}
use Rattle.csdn_core.proofs.Shapes.{And-is}
use Rattle.fol_forms.specs.declared.refusal.FormRefusal.{FormRefusal}
use Rattle.fol_forms.specs.Replace.{fix_packet}
use Rattle.csdn_wp.specs.declared.vars.PacketVars.{PacketVars}
use Rattle.csdn_wp.specs.Makes.{Makes}
use Rattle.csdn_wp.specs.Preconditions.{wp}
use Rattle.csdn_wp.specs.EventPreconditions.{terms_of, binds_of, handler_vars, first_vars, guard, guarded, and_later, member, members}
use Rattle.csdn_wp.proofs.Grows.{closed_grows, first_grows}
use Rattle.csdn_wp.proofs.Making.{refused_part}

pub members-none : (ks : List ℕ) (q : Formula) → member ks first_vars None Skip q ≡ members [] ks q
unfolding members
members-none ks q = refl

pub members-any : (h : Handler) (hs : List Handler) (ks : List ℕ) (q first : Formula) → h.port ≡ None → first ≡ member ks (handler_vars h) h.port h.body q → first ≡ members (h ∷ hs) ks q
unfolding members
members-any h hs ks q first any is = is ∙ sym (ap (λ port. and_later port ks (member ks (handler_vars h) h.port h.body q) (λ more. members hs more q)) any)

pub members-port : (h : Handler) (hs : List Handler) (ks : List ℕ) (q first : Formula) (k : ℕ) → h.port ≡ Some k → first ≡ member ks (handler_vars h) h.port h.body q → f.And first (members hs (ks ++ k ∷ []) q) ≡ members (h ∷ hs) ks q
unfolding members
members-port h hs ks q first k one is =
    And-is first (members hs (ks ++ k ∷ []) q) ∙ ap (λ p. and_later (Some k) ks p (λ more. members hs more q)) is ∙ sym (ap (λ port. and_later port ks (member ks (handler_vars h) h.port h.body q) (λ more. members hs more q)) one)

pub refused_inside : (room : ℕ) (ks : List ℕ) (v : PacketVars) (port : Option ℕ) (body : Command) (q : Formula) (g : Option Formula) (fixed : Formula) (e : FormRefusal) (r : Result Formula FormRefusal) →
    g ≡ guard ks port v.i → fixed ≡ fix_packet q (terms_of v) → IsErrAnd r (λ given. given ≡ e) → Makes room (guarded g (wp body fixed)) (Err e) → Makes room (member ks v port body q) r
unfolding member
refused_inside room ks v port body q g fixed e r is_guard is_fixed passed part =
    let inner = guarded (guard ks port v.i) (wp body (fix_packet q (terms_of v))) in
    refused_part room room inner (member ks v port body q) e r passed
    (subst (λ p. Makes room p (Err e)) (ap (λ x. guarded x (wp body fixed)) is_guard ∙ ap (λ x. guarded (guard ks port v.i) (wp body x)) is_fixed) part)
    (λ more. omega (arith, more, closed_grows (binds_of v) inner))

none_left : (hs : List Handler) → length hs < 1 → hs ≡ []
none_left [] few = refl
none_left (h ∷ hs) few = absurd (omega arith)

pub last_member : (hs : List Handler) (ks got : List ℕ) (v : PacketVars) (q : Formula) → length hs < 1 → got ≡ ks → v ≡ first_vars → member got v None Skip q ≡ members hs ks q
last_member hs ks got v q few is_ks is_v =
    ap (λ x. member x v None Skip q) is_ks ∙ ap (λ x. member ks x None Skip q) is_v ∙ members-none ks q ∙ ap (λ x. members x ks q) (sym (none_left hs few))

module _ (room : ℕ) (h : Handler) (hs : List Handler) (ks got : List ℕ) (v : PacketVars) (q : Formula) (is_ks : got ≡ ks) (is_v : v ≡ handler_vars h) where
  pub first_is : member got v h.port h.body q ≡ member ks (handler_vars h) h.port h.body q
  first_is = ap (λ x. member x v h.port h.body q) is_ks ∙ ap (λ x. member ks x h.port h.body q) is_v

  pub refused_first : (e : FormRefusal) (r : Result Formula FormRefusal) → IsErrAnd r (λ given. given ≡ e) → Makes room (member got v h.port h.body q) (Err e) → Makes room (members (h ∷ hs) ks q) r
  refused_first e r passed part =
      refused_part room room (member ks (handler_vars h) h.port h.body q) (members (h ∷ hs) ks q) e r passed (subst (λ p. Makes room p (Err e)) first_is part) (λ more. omega (arith, more, first_grows h hs ks q))

  pub first_alone : (first : Formula) → h.port ≡ None → Makes room (member got v h.port h.body q) (Ok first) → Makes room (members (h ∷ hs) ks q) (Ok first)
  first_alone first any made =
      let is : member ks (handler_vars h) h.port h.body q ≡ members (h ∷ hs) ks q = members-any h hs ks q (member ks (handler_vars h) h.port h.body q) any refl in
      subst (λ p. Makes room p (Ok first)) (first_is ∙ is) made
