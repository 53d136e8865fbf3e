-- The point at which a cut ends, and the clause that is learned there.
use Rattle.std.proofs.Common.{◌≡◌, ℕ, Bool, true, false, cond, not, eqb, ◌&&◌, ◌||◌, List, [], ◌∷◌, ◌++◌, ◌⊎◌, length, reverse, Option, Some, None, refl, sym, ap, ap₂, ◌∙◌, subst, inl, inr, eqb-true, append_assoc, append-nil}
use Rattle.std.specs.Prelude.{is_none, nat_lt, nat_le}
use Rattle.std.specs.Option.{option_map}
use Rattle.std.specs.List.{list_all}
use Rattle.std.proofs.Math.Bool.{not-not}
use Rattle.std.proofs.lemmas.Bool.{cases_Bool, false≢true, false_from_ne_true, and_parts, and_from, or_parts, or_cases}
use Rattle.std.proofs.lemmas.List.{reverse-append}
use Rattle.std.proofs.lemmas.Option.{same_Some}
use Rattle.general_facts.proofs.Numbers.{self_equal}
use Rattle.clause_log.proofs.Flat.{all_more}
use Rattle.clause_log.specs.Literals.{Literal, signed, negated, has_atom, has_distinct_atoms, is_within, is_clause}
use Rattle.clause_log.specs.Assignments.{Assignment, no_values, says_false, is_false, assign, with_false, literal_value, open_literals, unit_literal}
use Rattle.clause_log.specs.Refutations.{Step, reaches_conflict, step_holds}
use Rattle.clause_log.specs.Limits.{is_hint, is_step}
use Rattle.clause_search.specs.declared.trail.Entry.{Entry}
use Rattle.clause_search.specs.declared.cut.Jump.{Jump}
use Rattle.clause_search.specs.declared.marks.Mark.{Mark}
use Rattle.clause_search.specs.declared.marks.Mark.TheVariants.{Unseen, Open, Resolved}
use Rattle.clause_search.specs.Trails.{after, values_of, IsTrail}
use Rattle.clause_search.specs.Cuts.{is_unseen, is_open, IsListed, IsGiven, IsCut, IsWalked, IsPoint, Points, IsWayBack, Jumps, AreClosed, false_by, false_one, cut_literals}
use Rattle.clause_search.proofs.Places.{none_some, assign_at, assign_apart}
use Rattle.clause_search.proofs.Entries.{after-append, trail-back, trail-front}
use Rattle.clause_search.proofs.Forced.{none_open, only_from, stays, none_before_too, value_of, some_value}
use Rattle.clause_search.proofs.Marked.{not_both}
use Rattle.clause_search.proofs.CutLaws.{earlier_is, values_last}

-- ---- the point

closed_before : (of : ℕ → Mark) (f : Assignment) (es : List Entry) (a : ℕ) → AreClosed of es → is_open (of a) ≡ true → is_none (after f es a) ≡ false → is_none (f a) ≡ false
closed_before of f [] a h o s = s
closed_before of f (e ∷ es) a h o s =
    let deep = closed_before of (assign e.literal f) es a h.1 o s in
    let apart : eqb a e.literal.atom ≡ false = false_from_ne_true (eqb a e.literal.atom) (λ t. false≢true (sym h.0 ∙ ap (λ z. is_open (of z)) (sym (eqb-true a e.literal.atom t)) ∙ o)) in
    sym (ap is_none (assign_apart f e.literal a apart)) ∙ deep

opposite : (p : Bool) → signed (not p) p ≡ false
opposite true = refl
opposite false = refl

-- where entries from `front` on are closed up to this one
point_at : (atoms : ℕ) (cs : List (List Literal)) (trail rest earlier front mid back : List Entry) (of : ℕ → Mark) (hints : List ℕ) (e : Entry) (d : Literal) (j : Jump) → IsTrail atoms cs no_values trail → rest ≡ earlier ++ e ∷ [] → is_open (of e.literal.atom) ≡ true
    → j.literal ≡ negated e.literal → length front ≡ j.place → earlier ≡ front ++ mid → AreClosed of mid → trail ≡ front ++ record { literal = d; reason = None } ∷ back → IsWalked cs trail rest of hints → IsPoint trail of j
point_at atoms cs trail rest earlier front mid back of hints e d j t last open_there lit here parts closed is w =
    let x = e.literal.atom in
    let same : j.literal.atom ≡ x = ap (λ (l : Literal). l.atom) lit in
    let whole = earlier_is trail rest earlier w.gone e w.is last in
    let fits = (trail-back atoms cs no_values earlier (e ∷ w.gone) (subst (IsTrail atoms cs no_values) whole t)).0 in
    let t_earlier : IsTrail atoms cs no_values earlier = trail-front atoms cs no_values earlier (e ∷ w.gone) (subst (IsTrail atoms cs no_values) whole t) in
    let now : values_of trail x ≡ Some e.literal.positive = stays atoms cs trail rest w.gone t w.is x e.literal.positive (ap (λ f. f x) (values_last rest earlier e last) ∙ assign_at (values_of earlier) e.literal x (self_equal x)) in
    record {
      front = front;
      decided = d;
      back = back;
      is = is;
      place_is = here;
      opened_there = ap (λ z. is_open (of z)) same ∙ open_there;
      none_before = ap (values_of front) same ∙ none_before_too atoms cs earlier front mid t_earlier parts x fits.new;
      is_false = ap (literal_value (values_of trail)) lit ∙ ap (option_map (signed (not e.literal.positive))) now ∙ ap Some (opposite e.literal.positive);
      others = λ a o apart. (let far : eqb a x ≡ false = ap (eqb a) (sym same) ∙ apart in
          let before : is_none (values_of earlier a) ≡ false = sym (ap is_none (ap (λ f. f a) (values_last rest earlier e last) ∙ assign_apart (values_of earlier) e.literal a far)) ∙ w.valued a o in
          closed_before of (values_of front) mid a closed o (sym (ap (λ f. is_none (f a)) (ap values_of parts ∙ after-append no_values front mid)) ∙ before));
    }

-- some decision stands before this entry, with closed entries between
pub point_back : (atoms : ℕ) (cs : List (List Literal)) (trail rest earlier : List Entry) (of : ℕ → Mark) (hints : List ℕ) (e : Entry) (j : Jump) → IsTrail atoms cs no_values trail → rest ≡ earlier ++ e ∷ [] → is_open (of e.literal.atom) ≡ true → j.literal ≡ negated e.literal
    → IsWayBack of earlier j.place → IsWalked cs trail rest of hints → IsPoint trail of j
point_back atoms cs trail rest earlier of hints e j t last open_there lit b w =
    let d : Entry = record { literal = b.decided; reason = None } in
    let whole = earlier_is trail rest earlier w.gone e w.is last in
    point_at atoms cs trail rest earlier b.front (d ∷ b.back) (b.back ++ (e ∷ w.gone)) of hints e b.decided j t last open_there lit b.place_is b.is b.closed
    (whole ∙ ap (λ z. z ++ (e ∷ w.gone)) b.is ∙ append_assoc b.front (d ∷ b.back) (e ∷ w.gone)) w

-- this entry is a decision
pub point_here : (atoms : ℕ) (cs : List (List Literal)) (trail rest earlier : List Entry) (of : ℕ → Mark) (hints : List ℕ) (e : Entry) (j : Jump) → IsTrail atoms cs no_values trail → rest ≡ earlier ++ e ∷ [] → is_open (of e.literal.atom) ≡ true → j.literal ≡ negated e.literal
    → e.reason ≡ None → (IsWayBack of earlier j.place) ⊎ (j.place ≡ length earlier) → IsWalked cs trail rest of hints → IsPoint trail of j
point_here atoms cs trail rest earlier of hints e j t last open_there lit none (inl b) w = point_back atoms cs trail rest earlier of hints e j t last open_there lit b w
point_here atoms cs trail rest earlier of hints e j t last open_there lit none (inr here) w =
    let whole = earlier_is trail rest earlier w.gone e w.is last in
    let decided : (let d : Entry = record { literal = e.literal; reason = None } in e ≡ d) = ap (λ o. let d : Entry = record { literal = e.literal; reason = o } in d) none in
    point_at atoms cs trail rest earlier earlier [] w.gone of hints e e.literal j t last open_there lit (sym here) (sym (append-nil earlier)) tt (whole ∙ ap (λ z. earlier ++ z ∷ w.gone) decided) w

-- where the walk ends, nothing is open
pub none_left : (cs : List (List Literal)) (trail rest : List Entry) (of : ℕ → Mark) (hints : List ℕ) → rest ≡ [] → IsWalked cs trail rest of hints → (a : ℕ) → is_open (of a) ≡ false
none_left cs trail rest of hints is w a = false_from_ne_true (is_open (of a)) (λ o. false≢true (sym (w.valued a o) ∙ ap (λ es. is_none (values_of es a)) is))

-- ---- the way back

pub record IsLookedBack (of : ℕ → Mark) (entries rest : List Entry) (found : Option ℕ) : Type 0 where
  pub passed : List Entry
  pub is : entries ≡ rest ++ passed
  pub closed : AreClosed of passed
  pub found_one : (place : ℕ) → found ≡ Some place → IsWayBack of entries place

pub look_starts : (of : ℕ → Mark) (entries : List Entry) → IsLookedBack of entries entries None
look_starts of entries = record { passed = []; is = sym (append-nil entries); closed = tt; found_one = λ place e. absurd (none_some place (sym e)) }

pub look_passes : (of : ℕ → Mark) (entries rest earlier : List Entry) (e : Entry) (found : Option ℕ) → rest ≡ earlier ++ e ∷ [] → is_open (of e.literal.atom) ≡ false → IsLookedBack of entries rest found → IsLookedBack of entries earlier found
look_passes of entries rest earlier e found last closed h = record {
  passed = e ∷ h.passed;
  is = earlier_is entries rest earlier h.passed e h.is last;
  closed = (closed, h.closed);
  found_one = h.found_one;
}

pub look_decided : (of : ℕ → Mark) (entries rest earlier : List Entry) (e : Entry) (found : Option ℕ) (place : ℕ) → rest ≡ earlier ++ e ∷ [] → is_open (of e.literal.atom) ≡ false → e.reason ≡ None → place ≡ length earlier → IsLookedBack of entries rest found → IsLookedBack of entries earlier (Some place)
look_decided of entries rest earlier e found place last closed none here h =
    let whole = earlier_is entries rest earlier h.passed e h.is last in
    let decided : (let d : Entry = record { literal = e.literal; reason = None } in e ≡ d) = ap (λ o. let d : Entry = record { literal = e.literal; reason = o } in d) none in
    record {
      passed = e ∷ h.passed;
      is = whole;
      closed = (closed, h.closed);
      found_one = λ p q. record {
        front = earlier;
        decided = e.literal;
        back = h.passed;
        is = whole ∙ ap (λ z. earlier ++ z ∷ h.passed) decided;
        place_is = sym here ∙ same_Some place p q;
        closed = (closed, h.closed);
      };
    }

-- ---- the clause of what is open

open_is : (m : Mark) → is_open m ≡ true → m ≡ Open
open_is Unseen e = absurd (false≢true e)
open_is Open e = refl
open_is Resolved e = absurd (false≢true e)

abbrev pub IsPart : Assignment → Assignment → Type 0
IsPart g v = (a : ℕ) → (g a ≡ None) ⊎ (g a ≡ v a)

one_part : (f v : Assignment) (x : ℕ) (b : Bool) → v x ≡ Some b → IsPart f v → (let k : Literal = record { positive = not b; atom = x } in IsPart (assign (negated k) f) v)
one_part f v x b e h a =
    let k : Literal = negated (record { positive = not b; atom = x }) in
    elim (cases_Bool (eqb a x)) [
      | inl t ↦ inr (assign_at f k a t ∙ ap Some (not-not b) ∙ sym (ap v (eqb-true a x t) ∙ e))
      | inr t ↦ subst (λ o. (o ≡ None) ⊎ (o ≡ v a)) (sym (assign_apart f k a t)) (h a)
    ]

part_step : (f v : Assignment) (m : Mark) (o : Option Bool) (x : ℕ) (ls : List Literal) → v x ≡ o → IsPart f v → ((g : Assignment) → IsPart g v → IsPart (with_false g ls) v) → IsPart (with_false f (false_one m o x ls)) v
part_step f v Unseen o x ls e h k = k f h
part_step f v Open None x ls e h k = k f h
part_step f v Open (Some b) x ls e h k = k (let l : Literal = record { positive = not b; atom = x } in assign (negated l) f) (one_part f v x b e h)
part_step f v Resolved o x ls e h k = k f h

cut_part : (of : ℕ → Mark) (v : Assignment) (seen : List Literal) (f : Assignment) → IsPart f v → IsPart (with_false f (cut_literals of v seen)) v
cut_part of v [] f h = h
cut_part of v (l ∷ ls) f h = part_step f v (of l.atom) (v l.atom) l.atom (cut_literals of v ls) refl h (λ g k. cut_part of v ls g k)

some_stays : (f : Assignment) (ls : List Literal) (a : ℕ) → is_none (f a) ≡ false → is_none (with_false f ls a) ≡ false
some_stays f [] a h = h
some_stays f (l ∷ ls) a h = some_stays (assign (negated l) f) ls a (elim (cases_Bool (eqb a l.atom)) [
  | inl t ↦ ap is_none (assign_at f (negated l) a t)
  | inr t ↦ ap is_none (assign_apart f (negated l) a t) ∙ h
])

some_step : (f : Assignment) (m : Mark) (o : Option Bool) (x : ℕ) (ls : List Literal) (a : ℕ) → ((g : Assignment) → is_none (with_false g ls a) ≡ false) → is_none (with_false f (false_one m o x ls) a) ≡ false
some_step f Unseen o x ls a k = k f
some_step f Open None x ls a k = k f
some_step f Open (Some b) x ls a k = k (let l : Literal = record { positive = not b; atom = x } in assign (negated l) f)
some_step f Resolved o x ls a k = k f

cut_open : (of : ℕ → Mark) (v : Assignment) (seen : List Literal) (a : ℕ) (b : Bool) → is_open (of a) ≡ true → v a ≡ Some b → has_atom a seen ≡ true → (f : Assignment) → is_none (with_false f (cut_literals of v seen) a) ≡ false
cut_open of v [] a b o e h f = absurd (false≢true h)
cut_open of v (l ∷ ls) a b o e h f =
    elim (or_cases (eqb a l.atom) (has_atom a ls) h) [
      | inl t ↦
          (let same = eqb-true a l.atom t in
          let k : Literal = record { positive = not b; atom = l.atom } in
          let one : false_one (of l.atom) (v l.atom) l.atom (cut_literals of v ls) ≡ k ∷ cut_literals of v ls =
          ap (λ m. false_one m (v l.atom) l.atom (cut_literals of v ls)) (ap of (sym same) ∙ open_is (of a) o) ∙ ap (λ z. false_by z l.atom (cut_literals of v ls)) (ap v (sym same) ∙ e) in
          ap (λ z. is_none (with_false f z a)) one ∙ some_stays (assign (negated k) f) (cut_literals of v ls) a (ap is_none (assign_at f (negated k) a t)))
      | inr t ↦ some_step f (of l.atom) (v l.atom) l.atom (cut_literals of v ls) a (cut_open of v ls a b o e t)
    ]

none_step : (f : Assignment) (m : Mark) (o : Option Bool) (x : ℕ) (ls : List Literal) (a : ℕ) → (is_open m ≡ true → eqb a x ≡ false) → f a ≡ None → ((g : Assignment) → g a ≡ None → with_false g ls a ≡ None) → with_false f (false_one m o x ls) a ≡ None
none_step f Unseen o x ls a apart n k = k f n
none_step f Open None x ls a apart n k = k f n
none_step f Open (Some b) x ls a apart n k = (let l : Literal = negated (record { positive = not b; atom = x }) in k (assign l f) (assign_apart f l a (apart refl) ∙ n))
none_step f Resolved o x ls a apart n k = k f n

cut_none : (of : ℕ → Mark) (v : Assignment) (seen : List Literal) (a : ℕ) → is_open (of a) ≡ false → (f : Assignment) → f a ≡ None → with_false f (cut_literals of v seen) a ≡ None
cut_none of v [] a c f n = n
cut_none of v (l ∷ ls) a c f n =
    none_step f (of l.atom) (v l.atom) l.atom (cut_literals of v ls) a (λ o. false_from_ne_true (eqb a l.atom) (λ t. false≢true (sym c ∙ ap (λ z. is_open (of z)) (eqb-true a l.atom t) ∙ o))) n (cut_none of v ls a c)

seen_there : (of : ℕ → Mark) (seen : List Literal) → IsListed of seen → (a : ℕ) → is_open (of a) ≡ true → has_atom a seen ≡ true
seen_there of seen h a o = sym (not-not (has_atom a seen)) ∙ ap not (sym (h.tied a) ∙ ap is_unseen (open_is (of a) o))

pub cut_given : (of : ℕ → Mark) (v : Assignment) (seen : List Literal) → IsListed of seen → ((a : ℕ) → is_open (of a) ≡ true → is_none (v a) ≡ false) → IsGiven v of (with_false no_values (cut_literals of v seen))
cut_given of v seen listed valued = record {
  some = cut_part of v seen no_values (λ a. inl refl);
  open_ones = λ a o. (let w = value_of v a (valued a o) in cut_open of v seen a w.0 o w.1 (seen_there of seen listed a o) no_values);
  resolved = λ a r. cut_none of v seen a (false_from_ne_true (is_open (of a)) (λ o. not_both (of a) o r)) no_values refl;
}

-- ---- it is a clause

not_step : (m : Mark) (o : Option Bool) (x : ℕ) (ls : List Literal) (a : ℕ) → eqb a x ≡ false → has_atom a ls ≡ false → has_atom a (false_one m o x ls) ≡ false
not_step Unseen o x ls a t h = h
not_step Open None x ls a t h = h
not_step Open (Some b) x ls a t h = ap (λ z. z || has_atom a ls) t ∙ h
not_step Resolved o x ls a t h = h

not_cut : (of : ℕ → Mark) (v : Assignment) (seen : List Literal) (a : ℕ) → has_atom a seen ≡ false → has_atom a (cut_literals of v seen) ≡ false
not_cut of v [] a h = h
not_cut of v (l ∷ ls) a h = (let p = or_parts (eqb a l.atom) (has_atom a ls) h in not_step (of l.atom) (v l.atom) l.atom (cut_literals of v ls) a p.0 (not_cut of v ls a p.1))

distinct_step : (m : Mark) (o : Option Bool) (x : ℕ) (ls : List Literal) → has_atom x ls ≡ false → has_distinct_atoms ls ≡ true → has_distinct_atoms (false_one m o x ls) ≡ true
distinct_step Unseen o x ls n h = h
distinct_step Open None x ls n h = h
distinct_step Open (Some b) x ls n h = and_from (not (has_atom x ls)) (has_distinct_atoms ls) (ap not n) h
distinct_step Resolved o x ls n h = h

not_not_true : (b : Bool) → not b ≡ true → b ≡ false
not_not_true true e = absurd (false≢true e)
not_not_true false e = refl

pub cut_distinct : (of : ℕ → Mark) (v : Assignment) (seen : List Literal) → has_distinct_atoms seen ≡ true → has_distinct_atoms (cut_literals of v seen) ≡ true
cut_distinct of v [] h = refl
cut_distinct of v (l ∷ ls) h =
    let p = and_parts (not (has_atom l.atom ls)) (has_distinct_atoms ls) h in
    distinct_step (of l.atom) (v l.atom) l.atom (cut_literals of v ls) (not_cut of v ls l.atom (not_not_true (has_atom l.atom ls) p.0)) (cut_distinct of v ls p.1)

-- an atom with a value is within the limits
trail_within : (atoms : ℕ) (cs : List (List Literal)) (f : Assignment) (es : List Entry) (a : ℕ) (b : Bool) → IsTrail atoms cs f es → f a ≡ None → after f es a ≡ Some b → (nat_lt 0 a && nat_le a atoms) ≡ true
trail_within atoms cs f [] a b t n e = absurd (none_some b (sym e ∙ n))
trail_within atoms cs f (x ∷ xs) a b t n e =
    elim (cases_Bool (eqb a x.literal.atom)) [
      | inl q ↦ ap (λ z. nat_lt 0 z && nat_le z atoms) (eqb-true a x.literal.atom q) ∙ t.0.within
      | inr q ↦ trail_within atoms cs (assign x.literal f) xs a b t.1 (assign_apart f x.literal a q ∙ n) e
    ]

within_step : (atoms : ℕ) (m : Mark) (o : Option Bool) (x : ℕ) (ls : List Literal) → ((b : Bool) → o ≡ Some b → (nat_lt 0 x && nat_le x atoms) ≡ true) → list_all (is_within atoms) ls ≡ true → list_all (is_within atoms) (false_one m o x ls) ≡ true
within_step atoms Unseen o x ls k h = h
within_step atoms Open None x ls k h = h
within_step atoms Open (Some b) x ls k h = and_from (nat_lt 0 x && nat_le x atoms) (list_all (is_within atoms) ls) (k b refl) h
within_step atoms Resolved o x ls k h = h

cut_within : (atoms : ℕ) (cs : List (List Literal)) (of : ℕ → Mark) (trail : List Entry) (seen : List Literal) → IsTrail atoms cs no_values trail → list_all (is_within atoms) (cut_literals of (values_of trail) seen) ≡ true
cut_within atoms cs of trail [] t = refl
cut_within atoms cs of trail (l ∷ ls) t =
    within_step atoms (of l.atom) (values_of trail l.atom) l.atom (cut_literals of (values_of trail) ls) (λ b e. trail_within atoms cs no_values trail l.atom b t refl e) (cut_within atoms cs of trail ls t)

pub cut_clause : (atoms : ℕ) (cs : List (List Literal)) (of : ℕ → Mark) (trail : List Entry) (seen : List Literal) → IsTrail atoms cs no_values trail → IsListed of seen → is_clause atoms (cut_literals of (values_of trail) seen) ≡ true
cut_clause atoms cs of trail seen t listed =
    let ls = cut_literals of (values_of trail) seen in
    and_from (has_distinct_atoms ls) (list_all (is_within atoms) ls) (cut_distinct of (values_of trail) seen listed.distinct) (cut_within atoms cs of trail seen t)

-- ---- what it does at the point

empty_step : (m : Mark) (o : Option Bool) (x : ℕ) (ls : List Literal) → is_open m ≡ false → false_one m o x ls ≡ ls
empty_step Unseen o x ls e = refl
empty_step Open o x ls e = absurd (false≢true (sym e))
empty_step Resolved o x ls e = refl

pub cut_empty : (of : ℕ → Mark) (v : Assignment) (seen : List Literal) → ((a : ℕ) → is_open (of a) ≡ false) → cut_literals of v seen ≡ []
cut_empty of v [] k = refl
cut_empty of v (l ∷ ls) k = empty_step (of l.atom) (v l.atom) l.atom (cut_literals of v ls) (k l.atom) ∙ cut_empty of v ls k

drop_false : (g : Assignment) (l : Literal) (ls : List Literal) → is_false g l ≡ true → open_literals g (l ∷ ls) ≡ open_literals g ls
drop_false g l ls e = ap (λ b. cond (not b) (l ∷ open_literals g ls) (open_literals g ls)) e

says_opposite : (b : Bool) → says_false (option_map (signed (not b)) (Some b)) ≡ true
says_opposite true = refl
says_opposite false = refl

false_before : (f : Assignment) (x : ℕ) (b : Bool) → f x ≡ Some b → (let l : Literal = record { positive = not b; atom = x } in is_false f l ≡ true)
false_before f x b e = ap (λ o. says_false (option_map (signed (not b)) o)) e ∙ says_opposite b

gone_step : (f : Assignment) (m : Mark) (o : Option Bool) (x : ℕ) (ls : List Literal) → ((b : Bool) → is_open m ≡ true → o ≡ Some b → f x ≡ Some b) → open_literals f (false_one m o x ls) ≡ open_literals f ls
gone_step f Unseen o x ls k = refl
gone_step f Open None x ls k = refl
gone_step f Open (Some b) x ls k = drop_false f (record { positive = not b; atom = x }) ls (false_before f x b (k b refl refl))
gone_step f Resolved o x ls k = refl

-- the values at the point are those of the trail
abbrev pub Settled : Assignment → Assignment → (ℕ → Mark) → ℕ → Type 0
Settled f v of x = (a : ℕ) (b : Bool) → is_open (of a) ≡ true → eqb a x ≡ false → v a ≡ Some b → f a ≡ Some b

gone_without : (f v : Assignment) (of : ℕ → Mark) (x : ℕ) (seen : List Literal) → Settled f v of x → has_atom x seen ≡ false → open_literals f (cut_literals of v seen) ≡ []
gone_without f v of x [] k h = refl
gone_without f v of x (l ∷ ls) k h =
    let p = or_parts (eqb x l.atom) (has_atom x ls) h in
    gone_step f (of l.atom) (v l.atom) l.atom (cut_literals of v ls) (λ b o e. k l.atom b o (false_from_ne_true (eqb l.atom x) (λ t. false≢true (sym p.0 ∙ ap (λ z. eqb z l.atom) (sym (eqb-true l.atom x t)) ∙ self_equal l.atom))) e)
    ∙ gone_without f v of x ls k p.1

left_with : (f v : Assignment) (of : ℕ → Mark) (x : ℕ) (b : Bool) (seen : List Literal) → Settled f v of x → f x ≡ None → v x ≡ Some b → is_open (of x) ≡ true → has_distinct_atoms seen ≡ true → has_atom x seen ≡ true
    → open_literals f (cut_literals of v seen) ≡ record { positive = not b; atom = x } ∷ []
left_with f v of x b [] k n e o d h = absurd (false≢true h)
left_with f v of x b (l ∷ ls) k n e o d h =
    let p = and_parts (not (has_atom l.atom ls)) (has_distinct_atoms ls) d in
    elim (cases_Bool (eqb x l.atom)) [
      | inl t ↦
          (let same = eqb-true x l.atom t in
          let lit : Literal = record { positive = not b; atom = l.atom } in
          let mine : Literal = record { positive = not b; atom = x } in
          let one : cut_literals of v (l ∷ ls) ≡ lit ∷ cut_literals of v ls =
          ap (λ m. false_one m (v l.atom) l.atom (cut_literals of v ls)) (ap of (sym same) ∙ open_is (of x) o) ∙ ap (λ z. false_by z l.atom (cut_literals of v ls)) (ap v (sym same) ∙ e) in
          let stays_there : open_literals f (lit ∷ cut_literals of v ls) ≡ lit ∷ open_literals f (cut_literals of v ls) =
          ap (λ z. cond (not z) (lit ∷ open_literals f (cut_literals of v ls)) (open_literals f (cut_literals of v ls))) (none_open f lit (ap f (sym same) ∙ n)) in
          let rest : open_literals f (cut_literals of v ls) ≡ [] = gone_without f v of x ls k (ap (λ z. has_atom z ls) same ∙ not_not_true (has_atom l.atom ls) p.0) in
          let turned : lit ≡ mine = ap (λ z. let q : Literal = record { positive = not b; atom = z } in q) (sym same) in
          ap (open_literals f) one ∙ stays_there ∙ ap (λ z. lit ∷ z) rest ∙ ap (λ z. z ∷ []) turned)
      | inr t ↦
          (let far : eqb l.atom x ≡ false = false_from_ne_true (eqb l.atom x) (λ q. false≢true (sym t ∙ ap (λ z. eqb z l.atom) (sym (eqb-true l.atom x q)) ∙ self_equal l.atom)) in
          gone_step f (of l.atom) (v l.atom) l.atom (cut_literals of v ls) (λ c q z. k l.atom c q far z)
          ∙ left_with f v of x b ls k n e o p.1 (later_one (eqb x l.atom) (has_atom x ls) t h))
    ]
  where
    later_one : (b c : Bool) → b ≡ false → (b || c) ≡ true → c ≡ true
    later_one true c e h = absurd (false≢true (sym e))
    later_one false c e h = h

false_value : (p : Bool) (o : Option Bool) → option_map (signed p) o ≡ Some false → o ≡ Some (not p)
false_value p None e = absurd (none_some false (sym e))
false_value true (Some true) e = absurd (false≢true (sym (same_Some true false e)))
false_value true (Some false) e = refl
false_value false (Some true) e = refl
false_value false (Some false) e = absurd (false≢true (sym (same_Some true false e)))

pub cut_forces : (atoms : ℕ) (cs : List (List Literal)) (trail : List Entry) (of : ℕ → Mark) (seen : List Literal) (j : Jump) → IsTrail atoms cs no_values trail → IsListed of seen → (p : IsPoint trail of j) → unit_literal (values_of p.front) (cut_literals of (values_of trail) seen) ≡ Some j.literal
cut_forces atoms cs trail of seen j t listed p =
    let f = values_of p.front in
    let v = values_of trail in
    let l = j.literal in
    let value : v l.atom ≡ Some (not l.positive) = false_value l.positive (v l.atom) p.is_false in
    let settled : Settled f v of l.atom = λ a b o far e. (let w = value_of f a (p.others a o far) in w.1 ∙ sym (stays atoms cs trail p.front (record { literal = p.decided; reason = None } ∷ p.back) t p.is a w.0 w.1) ∙ e) in
    let left = left_with f v of l.atom (not l.positive) seen settled p.none_before value p.opened_there listed.distinct (seen_there of seen listed l.atom p.opened_there) in
    let same : (let q : Literal = record { positive = not (not l.positive); atom = l.atom } in q ≡ l) = ap (λ b. let q : Literal = record { positive = b; atom = l.atom } in q) (not-not l.positive) in
    only_from f (open_literals f (cut_literals of v seen)) l (left ∙ ap (λ z. z ∷ []) same) p.none_before

pub valued_at : (atoms : ℕ) (cs : List (List Literal)) (trail : List Entry) (of : ℕ → Mark) (found : Option Jump) → IsTrail atoms cs no_values trail → Points trail of found → (a : ℕ) → is_open (of a) ≡ true → is_none (values_of trail a) ≡ false
valued_at atoms cs trail of None t p a o = absurd (false≢true (sym (p a) ∙ o))
valued_at atoms cs trail of (Some j) t p a o =
    elim (cases_Bool (eqb a j.literal.atom)) [
      | inl q ↦ some_value (values_of trail a) (not j.literal.positive) (ap (values_of trail) (eqb-true a j.literal.atom q) ∙ false_value j.literal.positive (values_of trail j.literal.atom) p.is_false)
      | inr q ↦
          (let w = value_of (values_of p.front) a (p.others a o q) in
          some_value (values_of trail a) w.0 (stays atoms cs trail p.front (record { literal = p.decided; reason = None } ∷ p.back) t p.is a w.0 w.1))
    ]

pub cut_jumps : (atoms : ℕ) (cs : List (List Literal)) (trail : List Entry) (of : ℕ → Mark) (seen : List Literal) (found : Option Jump) → IsTrail atoms cs no_values trail → IsListed of seen → Points trail of found → Jumps trail (cut_literals of (values_of trail) seen) found
cut_jumps atoms cs trail of seen None t listed p = cut_empty of (values_of trail) seen p
cut_jumps atoms cs trail of seen (Some j) t listed p = record { front = p.front; decided = p.decided; back = p.back; is = p.is; place_is = p.place_is; forces = cut_forces atoms cs trail of seen j t listed p }

-- ---- what is learned

pub learned_holds : (atoms : ℕ) (cs : List (List Literal)) (trail : List Entry) (of : ℕ → Mark) (seen : List Literal) (found : Option Jump) (hints : List ℕ) (literals : List Literal) (named : List ℕ) → IsTrail atoms cs no_values trail → IsListed of seen → IsCut cs trail of hints → Points trail of found
    → literals ≡ cut_literals of (values_of trail) seen → named ≡ reverse hints → (let s : Step = record { literals = literals; hints = named } in step_holds cs s ≡ true)
learned_holds atoms cs trail of seen found hints literals named t listed cut p is turned =
    let v = values_of trail in
    ap₂ (λ ls hs. reaches_conflict cs hs (with_false no_values ls)) is turned
    ∙ cut.concludes (with_false no_values (cut_literals of v seen)) (cut_given of v seen listed (valued_at atoms cs trail of found t p))

all_reversed : {X : Type 0} (p : X → Bool) (xs : List X) → list_all p xs ≡ true → list_all p (reverse xs) ≡ true
all_reversed p [] h = refl
all_reversed p (x ∷ xs) h =
    let q = and_parts (p x) (list_all p xs) h in
    all_more p (reverse xs) (reverse (x ∷ xs)) x (reverse-append (x ∷ []) xs) (all_reversed p xs q.1) q.0

pub learned_is_step : (atoms : ℕ) (cs : List (List Literal)) (trail : List Entry) (of : ℕ → Mark) (seen : List Literal) (hints : List ℕ) (literals : List Literal) (named : List ℕ) → IsTrail atoms cs no_values trail → IsListed of seen → IsCut cs trail of hints
    → literals ≡ cut_literals of (values_of trail) seen → named ≡ reverse hints → (let s : Step = record { literals = literals; hints = named } in is_step atoms s ≡ true)
learned_is_step atoms cs trail of seen hints literals named t listed cut is turned =
    and_from (is_clause atoms literals) (list_all is_hint named) (ap (is_clause atoms) is ∙ cut_clause atoms cs of trail seen t listed)
    (ap (list_all is_hint) turned ∙ all_reversed is_hint hints cut.hints_fit)

pub learned_jumps : (atoms : ℕ) (cs : List (List Literal)) (trail : List Entry) (of : ℕ → Mark) (seen : List Literal) (found : Option Jump) (literals : List Literal) → IsTrail atoms cs no_values trail → IsListed of seen → Points trail of found → literals ≡ cut_literals of (values_of trail) seen → Jumps trail literals found
learned_jumps atoms cs trail of seen found literals t listed p is = subst (λ ls. Jumps trail ls found) (sym is) (cut_jumps atoms cs trail of seen found t listed p)
