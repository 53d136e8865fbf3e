-- The law of cuts: from the values of what is left open, the clauses resolved and then the conflict are hints.
use Rattle.std.proofs.Common.{◌≡◌, ℕ, Bool, true, false, eqb, List, [], ◌∷◌, ◌++◌, ◌⊎◌, reverse, Option, Some, None, refl, sym, ap, ◌∙◌, subst, inl, inr, eqb-true, append_assoc, append-nil}
use Rattle.std.specs.Prelude.{is_none}
use Rattle.std.specs.List.{list_all}
use Rattle.std.proofs.lemmas.List.{reverse-append}
use Rattle.std.proofs.lemmas.Bool.{cases_Bool, false≢true, false_from_ne_true, and_from}
use Rattle.general_facts.proofs.Numbers.{self_equal}
use Rattle.clause_log.proofs.Flat.{all_more}
use Rattle.clause_log.specs.Literals.{Literal, has_atom}
use Rattle.clause_log.specs.Assignments.{Assignment, no_values, assign, unit_literal, is_conflict, is_empty}
use Rattle.clause_log.specs.Refutations.{clause_at, is_conflict_at, unit_at, with_unit, reaches_conflict}
use Rattle.clause_log.specs.Limits.{is_hint}
use Rattle.clause_search.specs.declared.trail.Entry.{Entry}
use Rattle.clause_search.specs.declared.marks.Mark.{Mark}
use Rattle.clause_search.specs.declared.marks.Mark.TheVariants.{Unseen, Resolved}
use Rattle.clause_search.specs.Trails.{values_of, Fits, IsForced, IsTrail}
use Rattle.clause_search.specs.Cuts.{is_open, is_resolved, marked, opened, opened_at, IsGiven, Concludes, IsWalked}
use Rattle.clause_search.proofs.Places.{none_some, assign_at, assign_apart}
use Rattle.clause_search.proofs.Entries.{after-append, trail-back, trail-front}
use Rattle.clause_search.proofs.Forced.{Agree, open_same, unit_same, none_is_forced, conflict_valued, stays, none_before_too}
use Rattle.clause_search.proofs.Marked.{not_both, resolved_by, is_now_resolved, stays_open, stays_resolved, gets_open, open_from, resolved_from, first_open, open_first, never_resolved}

abbrev pub Clauses : Type 0
Clauses = List (List Literal)

-- what is given has the value that it has on the trail
given_value : (v g : Assignment) (a : ℕ) → (g a ≡ None) ⊎ (g a ≡ v a) → is_none (g a) ≡ false → g a ≡ v a
given_value v g a (inl n) s = absurd (false≢true (sym s ∙ ap is_none n))
given_value v g a (inr e) s = e

-- ---- the conflict

pub conflict_concludes : (cs : Clauses) (v : Assignment) (h : ℕ) (c : List Literal) → clause_at cs h ≡ Some c → is_conflict v c ≡ true → Concludes cs v (opened (λ x. Unseen) c) (h ∷ [])
conflict_concludes cs v h c e k g given =
    let agree : Agree g v c = λ a i. given_value v g a (given.some a) (given.open_ones a (first_open c a i)) in
    ap (is_conflict_at g) e ∙ ap is_empty (open_same g v c agree) ∙ k

-- ---- one resolution

-- what a resolution rests on: the entry of the atom x, with the values before it, and the clause that forced it
pub record IsReason (v before : Assignment) (of : ℕ → Mark) (l : Literal) (c : List Literal) : Type 0 where
  pub stay : (a : ℕ) (b : Bool) → before a ≡ Some b → v a ≡ Some b
  pub now : v l.atom ≡ Some l.positive
  pub new : before l.atom ≡ None
  pub forces : unit_literal before c ≡ Some l
  pub opened_there : is_open (of l.atom) ≡ true
  pub later : (a : ℕ) (b : Bool) → before a ≡ Some b → is_resolved (of a) ≡ false

apart_by : (v before : Assignment) (of : ℕ → Mark) (l : Literal) (c : List Literal) → IsReason v before of l c → (a : ℕ) (b : Bool) → before a ≡ Some b → eqb a l.atom ≡ false
apart_by v before of l c r a b e = false_from_ne_true (eqb a l.atom) (λ t. none_some b (sym e ∙ ap before (eqb-true a l.atom t) ∙ r.new))

agree_at : (v before : Assignment) (of : ℕ → Mark) (l : Literal) (c : List Literal) (g : Assignment) → IsReason v before of l c → IsGiven v (resolved_by l.atom of c) g → (a : ℕ) → has_atom a c ≡ true → (o : Option Bool) → before a ≡ o → g a ≡ o
agree_at v before of l c g r given a h None e = given.resolved a (is_now_resolved l.atom of c a (none_is_forced before c l a r.forces h e))
agree_at v before of l c g r given a h (Some b) e =
    given_value v g a (given.some a) (given.open_ones a (gets_open l.atom of c a (apart_by v before of l c r a b e) h (r.later a b e))) ∙ r.stay a b e

with_it : (v before : Assignment) (of : ℕ → Mark) (l : Literal) (c : List Literal) (g : Assignment) → IsReason v before of l c → IsGiven v (resolved_by l.atom of c) g → IsGiven v of (assign l g)
with_it v before of l c g r given = record {
  some = λ a. elim (cases_Bool (eqb a l.atom)) [
    | inl t ↦ inr (assign_at g l a t ∙ sym (ap v (eqb-true a l.atom t) ∙ r.now))
    | inr t ↦ subst (λ o. (o ≡ None) ⊎ (o ≡ v a)) (sym (assign_apart g l a t)) (given.some a)
  ];
  open_ones = λ a e. elim (cases_Bool (eqb a l.atom)) [
    | inl t ↦ ap is_none (assign_at g l a t)
    | inr t ↦ ap is_none (assign_apart g l a t) ∙ given.open_ones a (stays_open l.atom of c a t e)
  ];
  resolved = λ a e. elim (cases_Bool (eqb a l.atom)) [
    | inl t ↦ absurd (not_both (of a) (ap (λ z. is_open (of z)) (eqb-true a l.atom t) ∙ r.opened_there) e)
    | inr t ↦ assign_apart g l a t ∙ given.resolved a (stays_resolved l.atom of c a t e)
  ];
}

hint_more : (cs : Clauses) (r : ℕ) (hs : List ℕ) (g : Assignment) (l : Literal) → unit_at g (clause_at cs r) ≡ Some l → reaches_conflict cs hs (assign l g) ≡ true → reaches_conflict cs (r ∷ hs) g ≡ true
hint_more cs r [] g l u e = absurd (false≢true e)
hint_more cs r (k ∷ ks) g l u e = ap (λ o. with_unit o g (reaches_conflict cs (k ∷ ks))) u ∙ e

pub resolution_concludes : (cs : Clauses) (v before : Assignment) (of : ℕ → Mark) (l : Literal) (c : List Literal) (r : ℕ) (hs : List ℕ) → IsReason v before of l c → clause_at cs r ≡ Some c → Concludes cs v of (reverse hs)
    → Concludes cs v (resolved_by l.atom of c) (reverse (hs ++ r ∷ []))
resolution_concludes cs v before of l c r hs reason e k g given =
    let agree : Agree g before c = λ a h. agree_at v before of l c g reason given a h (before a) refl in
    let none : g l.atom ≡ None = given.resolved l.atom (is_now_resolved l.atom of c l.atom (self_equal l.atom)) in
    let unit : unit_at g (clause_at cs r) ≡ Some l = ap (unit_at g) e ∙ unit_same g before c l agree none reason.forces in
    let rest : reaches_conflict cs (reverse hs) (assign l g) ≡ true = k (assign l g) (with_it v before of l c g reason given) in
    ap (λ z. reaches_conflict cs z g) (reverse-append hs (r ∷ [])) ∙ hint_more cs r (reverse hs) g l unit rest

-- ---- the walk back along the trail

pub by_marks : (cs : Clauses) (v : Assignment) (of now : ℕ → Mark) (hints : List ℕ) → ((a : ℕ) → now a ≡ of a) → Concludes cs v of hints → Concludes cs v now hints
by_marks cs v of now hints same k g given =
    k g (record {
      some = given.some;
      open_ones = λ a e. given.open_ones a (ap is_open (same a) ∙ e);
      resolved = λ a e. given.resolved a (ap is_resolved (same a) ∙ e);
    })

no_clause : (v : Assignment) (o : Option (List Literal)) → is_conflict_at v o ≡ true → (c : List Literal) × (o ≡ Some c) × (is_conflict v c ≡ true)
no_clause v None e = absurd (false≢true e)
no_clause v (Some c) e = (c, refl, e)

-- at the conflict
pub walk_starts : (cs : Clauses) (trail : List Entry) (of : ℕ → Mark) (h : ℕ) (hints : List ℕ) → is_conflict_at (values_of trail) (clause_at cs h) ≡ true → is_hint h ≡ true
    → ((a : ℕ) → of a ≡ opened_at (λ x. Unseen) (clause_at cs h) a) → hints ≡ h ∷ [] → IsWalked cs trail trail of hints
walk_starts cs trail of h hints k small same is =
    let v = values_of trail in
    let p = no_clause v (clause_at cs h) k in
    let marks : (a : ℕ) → of a ≡ opened (λ x. Unseen) p.0 a = λ a. same a ∙ ap (λ o. opened_at (λ x. Unseen) o a) p.1 in
    record {
      gone = [];
      is = sym (append-nil trail);
      cut = record {
        concludes = subst (λ z. Concludes cs v of (reverse z)) (sym is) (by_marks cs v (opened (λ x. Unseen) p.0) of (h ∷ []) marks (conflict_concludes cs v h p.0 p.1 p.2));
        hints_fit = ap (list_all is_hint) is ∙ and_from (is_hint h) true small refl;
      };
      valued = λ a e. false_from_ne_true (is_none (v a)) (λ n. conflict_valued v p.0 a p.2 (open_first p.0 a (sym (ap is_open (marks a)) ∙ e)) (none_from (v a) n));
      later = λ a e. absurd (never_resolved p.0 a (sym (ap is_resolved (marks a)) ∙ e));
    }
  where
    none_from : (o : Option Bool) → is_none o ≡ true → o ≡ None
    none_from None e = refl
    none_from (Some b) e = absurd (false≢true e)

-- the entries before and behind one
pub earlier_is : (trail rest earlier gone : List Entry) (e : Entry) → trail ≡ rest ++ gone → rest ≡ earlier ++ e ∷ [] → trail ≡ earlier ++ e ∷ gone
earlier_is trail rest earlier gone e is last = is ∙ ap (λ z. z ++ gone) last ∙ append_assoc earlier (e ∷ []) gone

pub values_last : (rest earlier : List Entry) (e : Entry) → rest ≡ earlier ++ e ∷ [] → values_of rest ≡ assign e.literal (values_of earlier)
values_last rest earlier e last = ap values_of last ∙ after-append no_values earlier (e ∷ [])

valued_before : (rest earlier : List Entry) (e : Entry) → rest ≡ earlier ++ e ∷ [] → (a : ℕ) → eqb a e.literal.atom ≡ false → is_none (values_of rest a) ≡ false → is_none (values_of earlier a) ≡ false
valued_before rest earlier e last a t s = sym (ap is_none (ap (λ f. f a) (values_last rest earlier e last) ∙ assign_apart (values_of earlier) e.literal a t)) ∙ s

-- an entry that is not open is passed over
pub walk_passes : (atoms : ℕ) (cs : Clauses) (trail rest earlier : List Entry) (of : ℕ → Mark) (hints : List ℕ) (e : Entry) → IsTrail atoms cs no_values trail → rest ≡ earlier ++ e ∷ [] → is_open (of e.literal.atom) ≡ false → IsWalked cs trail rest of hints → IsWalked cs trail earlier of hints
walk_passes atoms cs trail rest earlier of hints e t last closed w = record {
  gone = e ∷ w.gone;
  is = earlier_is trail rest earlier w.gone e w.is last;
  cut = w.cut;
  valued = λ a o. valued_before rest earlier e last a (false_from_ne_true (eqb a e.literal.atom) (λ q. false≢true (sym closed ∙ ap (λ z. is_open (of z)) (sym (eqb-true a e.literal.atom q)) ∙ o))) (w.valued a o);
  later = λ a o. none_before_too atoms cs rest earlier (e ∷ []) (trail-front atoms cs no_values rest w.gone (subst (IsTrail atoms cs no_values) w.is t)) last a (w.later a o);
}

forced_by : (cs : Clauses) (f : Assignment) (l : Literal) (o : Option ℕ) (r : ℕ) → o ≡ Some r → IsForced cs f l o → (unit_at f (clause_at cs r) ≡ Some l) × (is_hint r ≡ true)
forced_by cs f l o r e k = subst (IsForced cs f l) e k

reason_clause : (f : Assignment) (o : Option (List Literal)) (l : Literal) → unit_at f o ≡ Some l → (c : List Literal) × (o ≡ Some c) × (unit_literal f c ≡ Some l)
reason_clause f None l e = absurd (none_some l (sym e))
reason_clause f (Some c) l e = (c, refl, e)

-- an open entry is resolved by its reason
pub walk_resolves : (atoms : ℕ) (cs : Clauses) (trail rest earlier : List Entry) (of now : ℕ → Mark) (hints more : List ℕ) (e : Entry) (r : ℕ) → IsTrail atoms cs no_values trail → rest ≡ earlier ++ e ∷ [] → e.reason ≡ Some r → is_open (of e.literal.atom) ≡ true
    → ((a : ℕ) → now a ≡ opened_at (marked e.literal.atom Resolved of) (clause_at cs r) a) → more ≡ hints ++ r ∷ [] → IsWalked cs trail rest of hints → IsWalked cs trail earlier now more
walk_resolves atoms cs trail rest earlier of now hints more e r t last why open_there same is w =
    let l = e.literal in
    let v = values_of trail in
    let before = values_of earlier in
    let whole : trail ≡ earlier ++ e ∷ w.gone = earlier_is trail rest earlier w.gone e w.is last in
    let fits : Fits atoms cs before e = (trail-back atoms cs no_values earlier (e ∷ w.gone) (subst (IsTrail atoms cs no_values) whole t)).0 in
    let forced = forced_by cs before l e.reason r why fits.forced in
    let p = reason_clause before (clause_at cs r) l forced.0 in
    let c = p.0 in
    let t_rest : IsTrail atoms cs no_values rest = trail-front atoms cs no_values rest w.gone (subst (IsTrail atoms cs no_values) w.is t) in
    let now_there : values_of rest l.atom ≡ Some l.positive = ap (λ f. f l.atom) (values_last rest earlier e last) ∙ assign_at before l l.atom (self_equal l.atom) in
    let marks : (a : ℕ) → now a ≡ resolved_by l.atom of c a = λ a. same a ∙ ap (λ o. opened_at (marked l.atom Resolved of) o a) p.1 in
    let reason : IsReason v before of l c = record {
      stay = stays atoms cs trail earlier (e ∷ w.gone) t whole;
      now = stays atoms cs trail rest w.gone t w.is l.atom l.positive now_there;
      new = fits.new;
      forces = p.2;
      opened_there = open_there;
      later = λ a b q. false_from_ne_true (is_resolved (of a)) (λ z. none_some b (sym (stays atoms cs rest earlier (e ∷ []) t_rest last a b q) ∙ w.later a z));
    } in
    record {
      gone = e ∷ w.gone;
      is = whole;
      cut = record {
        concludes = subst (λ z. Concludes cs v now (reverse z)) (sym is) (by_marks cs v (resolved_by l.atom of c) now (reverse (hints ++ r ∷ [])) marks (resolution_concludes cs v before of l c r hints reason p.1 w.cut.concludes));
        hints_fit = all_more is_hint hints more r is w.cut.hints_fit forced.1;
      };
      valued = λ a o. (let from = open_from l.atom of c a (sym (ap is_open (marks a)) ∙ o) in
          elim from.1 [
            | inl was ↦ valued_before rest earlier e last a from.0 (w.valued a was)
            | inr has ↦ false_from_ne_true (is_none (before a)) (λ n. false≢true (sym from.0 ∙ none_is_forced before c l a p.2 has (none_from (before a) n)))
          ]);
      later = λ a o. elim (resolved_from l.atom of c a (sym (ap is_resolved (marks a)) ∙ o)) [
        | inl q ↦ ap before (eqb-true a l.atom q) ∙ fits.new
        | inr was ↦ none_before_too atoms cs rest earlier (e ∷ []) t_rest last a (w.later a was)
      ];
    }
  where
    none_from : (o : Option Bool) → is_none o ≡ true → o ≡ None
    none_from None e = refl
    none_from (Some b) e = absurd (false≢true e)
