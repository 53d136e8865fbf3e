-- Members of a `forall` that are passed, and false nodes.
use Rattle.std.proofs.Common.{◌≡◌, ◌∙◌, ℕ, ◌+◌, Bool, true, false, List, [], ◌∷◌, ◌++◌, refl, sym, ap, subst, inl, inr}
use Rattle.std.proofs.lemmas.Bool.{cases_Bool, false≢true}
use Rattle.csdn_core.specs.declared.terms.Sort.{Sort}
use Rattle.csdn_core.specs.declared.terms.VarId.{VarId}
use Rattle.clause_log.specs.Literals.{Literal, literal_true}
use Rattle.fol_forms.specs.Constants.{need}
use Rattle.fol_forms.specs.Forms.{Form}
use Rattle.decision_laws.specs.Copies.{Copy, Fact, judge}
use Rattle.decision_laws.specs.Clauses.{member_clause, node_clauses, size, top}
use Rattle.decision_laws.specs.Weights.{weight}
use Rattle.decision_laws.proofs.Weights.{size-copies}
use Rattle.ground_inst.specs.Walk.{State, Ways, bound, copies_at, ways_of}
use Rattle.copy_truth.specs.Said.{said_by}
use Rattle.copy_truth.specs.declared.reading.Reading.{Reading}
use Rattle.lazy_ground.specs.Found.{Finds, IsOpen, LooksBound, LooksInto}
use Rattle.lazy_ground.specs.Readings.{Completes, HasFreeParts, IsFree, makes_node, named_by}
use Rattle.lazy_ground.proofs.FindLaws.{finds_both, finds_some, finds_true, member_true, one_true}
use Rattle.lazy_ground.proofs.FreeLaws.{free_top, free_true, parts_true}
use Rattle.lazy_ground.proofs.LookSteps.{node_top}

module _ (r : Reading) where
  abbrev m : Ways
  m = ways_of r.names

  abbrev num : Fact → ℕ
  num = m.num

  passed_finds : (w : ℕ → Bool) (k x : ℕ) (c : Copy) (open' : Bool) (out : List (List Literal)) → Completes r w k c → IsFree (named_by r) k (size c) → (open' ≡ true → judge (said_by r) c ≡ true) → IsOpen open' (w x) out → Finds w (node_clauses num k c ++ member_clause x (top num k c) ∷ []) out out
  passed_finds w k x c true out i free certain o =
      let one = member_clause x (top num k c) in
      finds_both w (node_clauses num k c) (one ∷ []) out out out (finds_true w (node_clauses num k c) out (free_true r w k c i free))
      (finds_true w (one ∷ []) out (one_true w one (member_true w x (top num k c) (λ e. free_top r w k c i free ∙ certain refl))))
  passed_finds w k x c false out i free certain o =
      let one = member_clause x (top num k c) in
      let nodes = finds_true w (node_clauses num k c) out (free_true r w k c i free) in
      elim (cases_Bool (w x)) [
        | inl t ↦ finds_some w (node_clauses num k c) (one ∷ []) out out nodes (o.off refl t)
        | inr t ↦ finds_both w (node_clauses num k c) (one ∷ []) out out out nodes
            (finds_true w (one ∷ []) out (one_true w one (member_true w x (top num k c) (λ z. absurd (false≢true (sym t ∙ z))))))
      ]

  pub passed : (f : Form) (v : VarId) (s : Sort) (a x count : ℕ) (open' : Bool) (old new : State) → new.env ≡ old.env → new.next ≡ old.next + count → new.out ≡ old.out → count ≡ weight m.count f → IsFree (named_by r) old.next count
      → (open' ≡ true → judge (said_by r) (copies_at m f (bound v s a old)) ≡ true) → LooksBound r f v s a x open' old new open'
  passed f v s a x count open' old new ne nn nout weighs free certain =
      let c = copies_at m f (bound v s a old) in
      let all : count ≡ size c = weighs ∙ sym (size-copies m.voc m.count f ((v.0, (s, a)) ∷ old.env) old.base) in
      let is_free = subst (IsFree (named_by r) old.next) all free in
      record {
        next = nn ∙ ap (λ z. old.next + z) all;
        env = ne;
        opens = λ w i o. subst (IsOpen open' (w x)) (sym nout) o;
        finds = λ w i o. subst (Finds w (node_clauses num old.next c ++ member_clause x (top num old.next c) ∷ []) old.out) (sym nout) (passed_finds w old.next x c open' old.out i is_free certain o);
      }

  -- where a clause has been found, no more need be
  pub enough : (f : Form) (count : ℕ) (value : Bool) (old new : State) → new.env ≡ old.env → new.base ≡ (λ t. old.base t + need f t) → new.next ≡ old.next + count → new.out ≡ old.out
      → count ≡ weight m.count f → (old.out ≡ [] → ⊥) → LooksInto r f value old new
  enough f count value old new ne nb nn nout weighs some = record {
    moves = record { next = nn ∙ ap (λ z. old.next + z) (weighs ∙ sym (size-copies m.voc m.count f old.env old.base)); base = λ s. ap (λ b. b s) nb; env = ne };
    finds = λ w h u. subst (Finds w (node_clauses num old.next (copies_at m f old)) old.out) (sym nout) (record { within = λ c i. inl i; nothing = λ e. e; all = λ e. absurd (some e) });
  }

  pub over : (f : Form) (count : ℕ) (value : Bool) (old new : State) → new.env ≡ old.env → new.base ≡ (λ t. old.base t + need f t) → new.next ≡ old.next + count → new.out ≡ old.out
      → count ≡ weight m.count f → HasFreeParts (named_by r) old.next count → value ≡ false → makes_node m.count f ≡ true → LooksInto r f value old new
  over f count value old new ne nb nn nout weighs free is node =
      let c = copies_at m f old in
      let all : count ≡ size c = weighs ∙ sym (size-copies m.voc m.count f old.env old.base) in
      let is_free = subst (HasFreeParts (named_by r) old.next) all free in
      let t = node_top num old.next m.voc m.count f old.env old.base node in
      record {
        moves = record { next = nn ∙ ap (λ z. old.next + z) all; base = λ s. ap (λ b. b s) nb; env = ne };
        finds = λ w h u.
            subst (Finds w (node_clauses num old.next c) old.out) (sym nout)
            (finds_true w (node_clauses num old.next c) old.out
            (parts_true r w old.next c h is_free (λ e. absurd (false≢true (sym is ∙ sym u ∙ ap (literal_true w) (sym t) ∙ e)))));
      }
