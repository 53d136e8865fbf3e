-- The search for constants with which goals are false.
use Rattle.std.proofs.Common.{◌≡◌, ◌∙◌, ℕ, zero, suc, ◌+◌, ◌-◌, ◌<◌, ◌≤◌, ◌==◌, Bool, true, false, not, ◌&&◌, ◌||◌, List, [], ◌∷◌, ◌++◌, length, drop, take, set, get_or, Option, Some, None, refl, sym, ap, ap₂, cond, subst, arith, inl, inr, ◌^◌, append_assoc, append-nil}
use Rattle.std.specs.Borrow.{Bor}
use Rattle.std.proofs.Math.Bool.{or-and_distrib_left, or_assoc, or-false, or-true}
use Rattle.std.proofs.Math.Seq.{drop-append_seam, take-append_seam}
use Rattle.std.proofs.Math.ListN.{drop_of_length-le}
use Rattle.std.proofs.lemmas.Bool.{cases_Bool, cases_eq, eqb-true, false≢true, or_left, or_right}
use Rattle.std.proofs.lemmas.List.Folds.{list_any-append}
use Rattle.csdn_core.specs.declared.terms.Sort.{Sort}
use Rattle.fol_forms.specs.Forms.{Form, And, Or}
use Rattle.form_trees.specs.declared.trees.FormTree.{FormTree}
use Rattle.form_trees.specs.Trees.{tree_form}
use Rattle.decision_laws.specs.Vocabulary.{find_or}
use Rattle.decision_laws.specs.Copies.{Scope, nothing}
use Rattle.ground_inst.specs.Walk.{ways_of}
use Rattle.copy_truth.specs.declared.opened.TheConstants.{OPEN}
use Rattle.copy_truth.specs.declared.candidates.Candidates.{Candidates}
use Rattle.copy_truth.specs.declared.opened.Variable.{Variable}
use Rattle.copy_truth.specs.declared.reading.Reading.{Reading}
use Rattle.copy_truth.specs.declared.searching.Choice.{Choice}
use Rattle.copy_truth.specs.declared.searching.Sight.{Sight}
use Rattle.copy_truth.specs.Candidates.{has_place}
use Rattle.copy_truth.specs.Early.{Fits, Stands, HoldsElsewhere, HoldsOutside, at_constant}
use Rattle.copy_truth.specs.Goals.{HasKept, IsBest, IsChoice, IsFound, IsSight, IsTried, Keeps, any_true}
use Rattle.copy_truth.specs.Matrix.{matrix}
use Rattle.copy_truth.specs.Outlook.{IsOpenIn}
use Rattle.copy_truth.proofs.FitsLaws.{fits_at}
use Rattle.copy_truth.proofs.SetLaws.{has_ones}

-- What is kept.

abbrev every : Candidates
every = record { bits = 2 ^ 128 - 1 }

module _ (n : Sort → ℕ) (env full : Scope) (fits : Fits n env full) (x : Variable) (open' : IsOpenIn env x) where
  pub open_sort : (find_or nothing full x.var.0).0 ≡ x.sort
  open_sort = sym (fits x.var.0).sort ∙ ap (λ p. p.0) open'

  pub open_below : (find_or nothing full x.var.0).1 < n x.sort
  open_below =
      subst (λ s. (find_or nothing full x.var.0).1 < n s) open_sort ((fits x.var.0).below (ap (λ p. not (p.1 == OPEN)) open'))

-- more goals are kept
best_more : (n : Sort → ℕ) (test more : Scope → Bool) (env : Scope) (best : Option Choice) → ((full : Scope) → test full ≡ true → more full ≡ true) → IsBest n test env best → IsBest n more env best
best_more n test more env None h b = b
best_more n test more env (Some c) h b = record { open' = b.open'; outside = λ full fits lacks. h full (b.outside full fits lacks) }

module _ (r : Reading) (goal : Bor FormTree) where
  pub any_pushed : (goals : List (Bor FormTree)) (full : Scope) → any_true r (goals ++ goal ∷ []) full ≡ (any_true r goals full || matrix r (tree_form goal.now) full)
  any_pushed goals full =
      list_any-append (λ g. matrix r (tree_form g.now) full) goals (goal ∷ [])
      ∙ ap (λ b. any_true r goals full || b) (or-false (matrix r (tree_form goal.now) full))

  abbrev choice_of : Variable → Candidates → ℕ → Choice
  choice_of x c k = record { x = x; candidates = c; count = k }

  pub keeps_pushed : (env : Scope) (old new : Sight) (goals : List (Bor FormTree)) → new.is_true ≡ old.is_true → ((test : Scope → Bool) → IsBest (ways_of r.names).count test env old.best → ((full : Scope) → matrix r (tree_form goal.now) full ≡ true → test full ≡ true) → IsBest (ways_of r.names).count test env new.best) → Keeps r (tree_form goal.now) env old goals new (goals ++ goal ∷ [])
  keeps_pushed env old new goals e best before test h =
      record {
        kept = h.kept ++ goal ∷ [];
        behind = ap (λ gs. gs ++ goal ∷ []) h.behind ∙ append_assoc before h.kept (goal ∷ []);
        seen = record {
          settled = λ t full fits. or_left (test full) (matrix r (tree_form goal.now) full) (h.seen.settled (sym e ∙ t) full fits);
          same = λ f full fits. ap (λ b. b || matrix r (tree_form goal.now) full) (h.seen.same (sym e ∙ f) full fits) ∙ sym (any_pushed h.kept full);
          best = best (any_true r (h.kept ++ goal ∷ [])) (best_more (ways_of r.names).count (any_true r h.kept) (any_true r (h.kept ++ goal ∷ [])) env old.best (λ full t. any_pushed h.kept full ∙ or_left (any_true r h.kept full) (matrix r (tree_form goal.now) full) t) h.seen.best)
              (λ full t. any_pushed h.kept full ∙ or_right (any_true r h.kept full) (matrix r (tree_form goal.now) full) t);
        };
      }

  pub keeps_open : (env : Scope) (x : Variable) (c : Candidates) (k : ℕ) (old new : Sight) (goals : List (Bor FormTree)) → IsChoice (ways_of r.names).count (matrix r (tree_form goal.now)) env x c → new.is_true ≡ old.is_true → ((n : Sort → ℕ) (test : Scope → Bool) (env : Scope) → IsBest n test env old.best → IsBest n test env (Some (choice_of x c k)) → IsBest n test env new.best) → Keeps r (tree_form goal.now) env old goals new (goals ++ goal ∷ [])
  keeps_open env x c k old new goals choice e best =
      keeps_pushed env old new goals e (λ test b more. best (ways_of r.names).count test env b (record { open' = choice.open'; outside = λ full fits lacks. more full (choice.outside full fits lacks) }))

  pub keeps_true : (f : Form) (env : Scope) (old : Sight) (goals : List (Bor FormTree)) (new : Sight) → ((full : Scope) → Fits (ways_of r.names).count env full → matrix r f full ≡ true) → new.is_true ≡ true → new.best ≡ old.best → Keeps r f env old goals new goals
  keeps_true f env old goals new t e same before test h =
      record {
        kept = h.kept;
        behind = h.behind;
        seen = record {
          settled = λ i full fits. or_right (test full) (matrix r f full) (t full fits);
          same = λ i. absurd (false≢true (sym i ∙ e));
          best = subst (IsBest (ways_of r.names).count (any_true r h.kept) env) (sym same) h.seen.best;
        };
      }

or_false : (a b : Bool) → b ≡ false → (a || b) ≡ a
or_false a b e = ap (λ c. a || c) e ∙ or-false a

-- a sight of one test is one of another that is the same
same_sight : (n : Sort → ℕ) (test other kept : Scope → Bool) (env : Scope) (sight : Sight) → ((full : Scope) → Fits n env full → other full ≡ test full) → IsSight n test kept env sight → IsSight n other kept env sight
same_sight n test other kept env sight e h =
    record {
      settled = λ t full fits. e full fits ∙ h.settled t full fits;
      same = λ f full fits. e full fits ∙ h.same f full fits;
      best = h.best;
    }

same_kept : (r : Reading) (before : List (Bor FormTree)) (test other : Scope → Bool) (env : Scope) (sight : Sight) (goals : List (Bor FormTree)) → ((full : Scope) → Fits (ways_of r.names).count env full → other full ≡ test full) → HasKept r before test env sight goals → HasKept r before other env sight goals
same_kept r before test other env sight goals e h =
    record { kept = h.kept; behind = h.behind; seen = same_sight (ways_of r.names).count test other (any_true r h.kept) env sight e h.seen }

module _ (r : Reading) (env : Scope) where
  pub keeps_false : (f : Form) (sight : Sight) (goals : List (Bor FormTree)) → ((full : Scope) → Fits (ways_of r.names).count env full → matrix r f full ≡ false) → Keeps r f env sight goals sight goals
  keeps_false f sight goals e before test h =
      same_kept r before test (λ full. test full || matrix r f full) env sight goals (λ full fits. or_false (test full) (matrix r f full) (e full fits)) h

  pub keeps_either : (p q : Form) (a b c : Sight) (gs hs is : List (Bor FormTree)) → Keeps r p env a gs b hs → Keeps r q env b hs c is → Keeps r (Or p q) env a gs c is
  keeps_either p q a b c gs hs is first second before test h =
      same_kept r before (λ full. (test full || matrix r p full) || matrix r q full) (λ full. test full || (matrix r p full || matrix r q full)) env c is (λ full fits. sym (or_assoc (test full) (matrix r p full) (matrix r q full)))
      (second before (λ full. test full || matrix r p full) (first before test h))

  pub keeps_first : (p q : Form) (a b : Sight) (gs hs : List (Bor FormTree)) → Keeps r p env a gs b hs → b.is_true ≡ true → Keeps r (Or p q) env a gs b hs
  keeps_first p q a b gs hs first t before test h =
      let w = first before test h in
      record {
        kept = w.kept;
        behind = w.behind;
        seen = record {
          settled = λ i full fits. or_assoc_true (test full) (matrix r p full) (matrix r q full) (w.seen.settled i full fits);
          same = λ i. absurd (false≢true (sym i ∙ t));
          best = w.seen.best;
        };
      } where
        or_assoc_true : (a b c : Bool) → (a || b) ≡ true → (a || (b || c)) ≡ true
        or_assoc_true a b c e = sym (or_assoc a b c) ∙ or_left (a || b) c e

-- All goals from a place on.

-- what was seen of those before a place, and those from there on, are all
pub record GoesOn (r : Reading) (goals : List (Bor FormTree)) (from : ℕ) (env : Scope) (place : ℕ) (sight : Sight) (now : List (Bor FormTree)) : Type 0 where
  pub test : Scope → Bool
  pub whole : (full : Scope) → any_true r (drop from goals) full ≡ (test full || any_true r (drop place goals) full)
  pub kept : HasKept r goals test env sight now

pub first_sight : Sight
first_sight = record { is_true = false; best = None; split = None }

module _ (r : Reading) (goals : List (Bor FormTree)) (from : ℕ) (env : Scope) where
  pub goes_begin : (sight : Sight) → sight ≡ record { is_true = false; best = None; split = None } → GoesOn r goals from env from sight goals
  goes_begin sight e =
      subst (λ s. GoesOn r goals from env from s goals) (sym e) (record {
        test = λ full. false;
        whole = λ full. refl;
        kept = record {
          kept = [];
          behind = sym (append-nil goals);
          seen = record { settled = λ t. absurd (false≢true t); same = λ f full fits. refl; best = tt };
        };
      })

  any_from : (gs : List (Bor FormTree)) (place : ℕ) (d : Bor FormTree) (full : Scope) → place < length gs → any_true r (drop place gs) full ≡ (matrix r (tree_form (get_or gs place d).now) full || any_true r (drop (suc place) gs) full)
  any_from [] place d full l = absurd (omega (arith, l))
  any_from (g ∷ gs) zero d full l = refl
  any_from (g ∷ gs) (suc place) d full l = any_from gs place d full (omega (arith, l))

  got_before : (gs hs : List (Bor FormTree)) (place : ℕ) (d : Bor FormTree) → place < length gs → get_or (gs ++ hs) place d ≡ get_or gs place d
  got_before [] hs place d l = absurd (omega (arith, l))
  got_before (g ∷ gs) hs zero d l = refl
  got_before (g ∷ gs) hs (suc place) d l = got_before gs hs place d (omega (arith, l))

  some_of : (gs : List (Bor FormTree)) (place : ℕ) → place < length gs → Bor FormTree
  some_of [] place l = absurd (omega (arith, l))
  some_of (g ∷ gs) place l = g

  pub goes_next : (place next : ℕ) (here : Scope) (old new : Sight) (now more : List (Bor FormTree)) → GoesOn r goals from env place old now → place < length goals → next ≡ suc place → here ≡ env → ((d : Bor FormTree) → Keeps r (tree_form (get_or now place d).now) here old now new more) → GoesOn r goals from env next new more
  goes_next place next here old new now more h l is same_env step =
      let d = some_of goals place l in
      let f = tree_form (get_or goals place d).now in
      let same : get_or now place d ≡ get_or goals place d = ap (λ gs. get_or gs place d) h.kept.behind ∙ got_before goals h.kept.kept place d l in
      subst (λ k. GoesOn r goals from env k new more) (sym is) (record {
        test = λ full. h.test full || matrix r f full;
        whole = λ full. h.whole full ∙ ap (λ b. h.test full || b) (any_from goals place d full l) ∙ sym (or_assoc (h.test full) (matrix r f full) (any_true r (drop (suc place) goals) full));
        kept = subst (λ e. Keeps r f e old now new more) same_env (subst (λ g. Keeps r (tree_form g.now) here old now new more) same (step d)) goals h.test h.kept;
      })

  pub goes_end : (place : ℕ) (sight : Sight) (now : List (Bor FormTree)) → GoesOn r goals from env place sight now → length goals ≤ place → HasKept r goals (any_true r (drop from goals)) env sight now
  goes_end place sight now h l =
      same_kept r goals h.test (any_true r (drop from goals)) env sight now
      (λ full fits. h.whole full ∙ or_false (h.test full) (any_true r (drop place goals) full) (ap (λ gs. any_true r gs full) (drop_of_length-le goals l))) h.kept

  pub goes_settled : (place : ℕ) (sight : Sight) (now : List (Bor FormTree)) → GoesOn r goals from env place sight now → sight.is_true ≡ true → HasKept r goals (any_true r (drop from goals)) env sight now
  goes_settled place sight now h t =
      record {
        kept = h.kept.kept;
        behind = h.kept.behind;
        seen = record {
          settled = λ i full fits. h.whole full ∙ or_left (h.test full) (any_true r (drop place goals) full) (h.kept.seen.settled i full fits);
          same = λ i. absurd (false≢true (sym i ∙ t));
          best = h.kept.seen.best;
        };
      }

-- what is kept stands from there on
pub seen_behind : (r : Reading) (before : List (Bor FormTree)) (test : Scope → Bool) (env : Scope) (sight : Sight) (goals : List (Bor FormTree)) (start : ℕ) → start ≡ length before → HasKept r before test env sight goals → IsSight (ways_of r.names).count test (any_true r (drop start goals)) env sight
seen_behind r before test env sight goals start e h =
    subst (λ gs. IsSight (ways_of r.names).count test (any_true r gs) env sight) (sym (ap₂ (λ k gs. drop k gs) e h.behind ∙ drop-append_seam before h.kept)) h.seen

pub before_kept : (r : Reading) (before : List (Bor FormTree)) (test : Scope → Bool) (env : Scope) (sight : Sight) (goals : List (Bor FormTree)) (start : ℕ) → start ≡ length before → HasKept r before test env sight goals → take start goals ≡ before
before_kept r before test env sight goals start e h = ap₂ (λ k gs. take k gs) e h.behind ∙ take-append_seam before h.kept

-- What is found.

-- where an open variable stands for one of the constants before a place, and of some, the test is true
abbrev pub AreTried : (Sort → ℕ) → (Scope → Bool) → Scope → Variable → Candidates → ℕ → Type 0
AreTried n test env x c k =
    IsOpenIn env x → (full : Scope) → Fits n env full → (find_or nothing full x.var.0).1 < k → has_place c (find_or nothing full x.var.0).1 ≡ true → test full ≡ true

module _ (n : Sort → ℕ) (test : Scope → Bool) (env : Scope) where
  pub found_true : (kept : Scope → Bool) (sight : Sight) → IsSight n test kept env sight → sight.is_true ≡ true → IsFound n test env false
  found_true kept sight h t = record { yes = λ e. absurd (false≢true e); no = λ e full fits. h.settled t full fits }

  pub found_kept : (kept : Scope → Bool) (sight : Sight) (b : Bool) → IsSight n test kept env sight → sight.is_true ≡ false → IsFound n kept env b → IsFound n test env b
  found_kept kept sight b h f found =
      record {
        yes = λ t filled. let w = found.yes t filled in record { full = w.full; fits = w.fits; fails = h.same f w.full w.fits ∙ w.fails };
        no = λ e full fits. h.same f full fits ∙ found.no e full fits;
      }

  pub found_same : (other : Scope → Bool) (b : Bool) → ((full : Scope) → other full ≡ test full) → IsFound n other env b → IsFound n test env b
  found_same other b e found =
      record {
        yes = λ t filled. let w = found.yes t filled in record { full = w.full; fits = w.fits; fails = sym (e w.full) ∙ w.fails };
        no = λ f full fits. sym (e full) ∙ found.no f full fits;
      }

-- a constant for each variable that is open

abbrev fill : Sort × ℕ → Sort × ℕ
fill p = cond (p.1 == OPEN) (p.0, 0) p

abbrev fill_all : Scope → Scope
fill_all [] = []
fill_all (p ∷ ps) = (p.0, fill p.1) ∷ fill_all ps

find_by : (b : Bool) (p q r : Sort × ℕ) → q ≡ fill r → cond b (fill p) q ≡ fill (cond b p r)
find_by true p q r e = refl
find_by false p q r e = e

find_filled : (env : Scope) (v : ℕ) → find_or nothing (fill_all env) v ≡ fill (find_or nothing env v)
find_filled [] v = refl
find_filled (p ∷ ps) v = find_by (v == p.0) p.1 (find_or nothing (fill_all ps) v) (find_or nothing ps v) (find_filled ps v)

stands_filled : (n : Sort → ℕ) → ((s : Sort) → 0 < n s) → (p : Sort × ℕ) (b : Bool) → (p.1 == OPEN) ≡ b → Stands n p (cond b (p.0, 0) p)
stands_filled n filled p true e = record { sort = refl; place = λ k. absurd (false≢true (sym (ap not e) ∙ k)); below = λ k. filled p.0 }
stands_filled n filled p false e = record { sort = refl; place = λ k. refl; below = λ k. absurd (false≢true (sym k ∙ ap not e)) }

fits_filled : (n : Sort → ℕ) (env : Scope) → ((s : Sort) → 0 < n s) → Fits n env (fill_all env)
fits_filled n env filled v =
    let p = find_or nothing env v in
    subst (Stands n p) (sym (find_filled env v)) (stands_filled n filled p (p.1 == OPEN) refl)

pub found_empty : (r : Reading) (env : Scope) (goals : List (Bor FormTree)) (start : ℕ) → length goals ≤ start → IsFound (ways_of r.names).count (any_true r (drop start goals)) env true
found_empty r env goals start l =
    record {
      yes = λ t filled. record {
        full = fill_all env;
        fits = fits_filled (ways_of r.names).count env filled;
        fails = ap (λ gs. any_true r gs (fill_all env)) (drop_of_length-le goals l);
      };
      no = λ e. absurd (false≢true (sym e));
    }

-- by the constants of a variable

module _ (n : Sort → ℕ) (test : Scope → Bool) (env : Scope) (x : Variable) (c : Candidates) where
  open_from : (k : ℕ) (p : Sort × ℕ) → k < n x.sort → Stands n (x.sort, k) p → Stands n (x.sort, OPEN) p
  open_from k p l h =
      record {
        sort = h.sort;
        place = λ e. absurd (false≢true e);
        below = λ e. elim (cases_Bool (k == OPEN)) [
          | inl t ↦ h.below (ap not t)
          | inr f ↦ subst (λ q. q < n p.0) (h.place (ap not f)) (subst (λ s. k < n s) h.sort l)
        ];
      }

  unbound_by : (b : Bool) (k : ℕ) (o p : Sort × ℕ) → k < n x.sort → (b ≡ true → o ≡ (x.sort, OPEN)) → Stands n (cond b (x.sort, k) o) p → Stands n o p
  unbound_by true k o p l f h = subst (λ q. Stands n q p) (sym (f refl)) (open_from k p l h)
  unbound_by false k o p l f h = h

  fits_unbound : (k : ℕ) (full : Scope) → IsOpenIn env x → k < n x.sort → Fits n (at_constant x k env) full → Fits n env full
  fits_unbound k full open' l h u =
      unbound_by (u == x.var.0) k (find_or nothing env u) (find_or nothing full u) l (λ t. ap (find_or nothing env) (eqb-true u x.var.0 t) ∙ open') (h u)

  pub tried_yes : (k : ℕ) (b : Bool) → IsTried n test env x c k b → b ≡ true → k < n x.sort → IsChoice n test env x c → IsFound n test env true
  tried_yes k b h t l choice =
      record {
        yes = λ e filled. let w = (h.yes t).yes refl filled in record { full = w.full; fits = fits_unbound k w.full choice.open' l w.fits; fails = w.fails };
        no = λ e. absurd (false≢true (sym e));
      }

  pub tried_begin : AreTried n test env x c 0
  tried_begin open' full fits l has = absurd (omega (arith, l))

  pub tried_next : (k : ℕ) (b : Bool) → AreTried n test env x c k → IsTried n test env x c k b → b ≡ false → AreTried n test env x c (k + 1)
  tried_next k b old h f open' full fits l has =
      let p = find_or nothing full x.var.0 in
      elim (cases_eq p.1 k) [
        | inl e ↦ (h.no f (subst (λ q. has_place c q ≡ true) e has)).no refl full (subst (λ q. Fits n (at_constant x q env) full) e (fits_at n env full x.var.0 x.sort fits (open_sort n env full fits x open') (open_below n env full fits x open')))
        | inr ne ↦ old open' full fits (omega (arith, l, ne)) has
      ]

  pub tried_all : (k : ℕ) → k ≡ n x.sort → AreTried n test env x c k → IsChoice n test env x c → IsFound n test env false
  tried_all k e h choice =
      record {
        yes = λ t. absurd (false≢true t);
        no = λ f full fits. let p = find_or nothing full x.var.0 in elim (cases_Bool (has_place c p.1)) [
          | inl t ↦ h choice.open' full fits (let l = open_below n env full fits x choice.open' in omega (arith, l, e)) t
          | inr u ↦ choice.outside full fits u
        ];
      }

  pub not_tried : (k : ℕ) (b : Bool) → has_place c k ≡ false → b ≡ false → IsTried n test env x c k b
  not_tried k b lacks e = record { yes = λ t. absurd (false≢true (sym e ∙ t)); no = λ f has. absurd (false≢true (sym lacks ∙ has)) }

  pub is_tried : (k : ℕ) (b : Bool) → IsFound n test (at_constant x k env) b → IsTried n test env x c k b
  is_tried k b h =
      record {
        yes = λ t. subst (IsFound n test (at_constant x k env)) t h;
        no = λ f has. subst (IsFound n test (at_constant x k env)) f h;
      }

-- by the sides of a conjunction

and_or : (c : Bool) → false ≡ (false && (c || false))
and_or c = refl

or_split : (a b c d : Bool) → a ≡ (b && c) → (a || d) ≡ ((b || d) && (c || d))
or_split a b c d e = ap (λ z. z || d) e ∙ by_cases b c d where
  by_cases : (b c d : Bool) → ((b && c) || d) ≡ ((b || d) && (c || d))
  by_cases true c d = refl
  by_cases false c true = sym (or-true c)
  by_cases false c false = and_or c

module _ (r : Reading) (d p q : Bor FormTree) (full : Scope) where
  pub any_split : (goals : List (Bor FormTree)) (start place : ℕ) → start ≤ place → place < length goals → matrix r (tree_form (get_or goals place d).now) full ≡ (matrix r (tree_form p.now) full && matrix r (tree_form q.now) full) → any_true r (drop start goals) full ≡ (any_true r (drop start (set goals place p)) full && any_true r (drop start (set goals place q)) full)
  any_split [] start place s l e = absurd (omega (arith, l))
  any_split (g ∷ gs) zero zero s l e = or_split (matrix r (tree_form g.now) full) (matrix r (tree_form p.now) full) (matrix r (tree_form q.now) full) (any_true r gs full) e
  any_split (g ∷ gs) zero (suc place) s l e =
      ap (λ b. matrix r (tree_form g.now) full || b) (any_split gs zero place (omega arith) (omega (arith, l)) e)
      ∙ or-and_distrib_left (matrix r (tree_form g.now) full) (any_true r (set gs place p) full) (any_true r (set gs place q) full)
  any_split (g ∷ gs) (suc start) zero s l e = absurd (omega (arith, s))
  any_split (g ∷ gs) (suc start) (suc place) s l e = any_split gs start place (omega (arith, s)) (omega (arith, l)) e

pub set_again : (gs : List (Bor FormTree)) (i : ℕ) (p q : Bor FormTree) → set (set gs i p) i q ≡ set gs i q
set_again [] i p q = refl
set_again (g ∷ gs) zero p q = refl
set_again (g ∷ gs) (suc i) p q = ap (λ hs. g ∷ hs) (set_again gs i p q)

pub take_before : (gs : List (Bor FormTree)) (k i : ℕ) (p : Bor FormTree) → k ≤ i → take k (set gs i p) ≡ take k gs
take_before [] k i p l = refl
take_before (g ∷ gs) zero i p l = refl
take_before (g ∷ gs) (suc k) zero p l = absurd (omega (arith, l))
take_before (g ∷ gs) (suc k) (suc i) p l = ap (λ hs. g ∷ hs) (take_before gs k i p (omega (arith, l)))

module _ (n : Sort → ℕ) (whole one other : Scope → Bool) (env : Scope) (e : (full : Scope) → whole full ≡ (one full && other full)) where
  and_false : (a b : Bool) → a ≡ false → (a && b) ≡ false
  and_false a b h = ap (λ c. c && b) h

  pub found_left : IsFound n one env true → IsFound n whole env true
  found_left h =
      record {
        yes = λ t filled. let w = h.yes refl filled in record { full = w.full; fits = w.fits; fails = e w.full ∙ and_false (one w.full) (other w.full) w.fails };
        no = λ f. absurd (false≢true (sym f));
      }

  same_right : IsFound n one env false → (full : Scope) → Fits n env full → whole full ≡ other full
  same_right h full fits = e full ∙ ap (λ b. b && other full) (h.no refl full fits)

  pub found_right : (b : Bool) → IsFound n one env false → IsFound n other env b → IsFound n whole env b
  found_right b h k =
      record {
        yes = λ t filled. let w = k.yes t filled in record { full = w.full; fits = w.fits; fails = same_right h w.full w.fits ∙ w.fails };
        no = λ f full fits. same_right h full fits ∙ k.no f full fits;
      }

module _ (r : Reading) (d p q : Bor FormTree) (goals : List (Bor FormTree)) (start place : ℕ) (env : Scope) where
  abbrev whole_of : Scope → Bool
  whole_of = any_true r (drop start goals)

  abbrev one_of : Bor FormTree → Scope → Bool
  one_of g = any_true r (drop start (set goals place g))

  module _ (s : start ≤ place) (l : place < length goals) (there : d ≡ get_or goals place d) (e : tree_form d.now ≡ And (tree_form p.now) (tree_form q.now)) where
    sides : (full : Scope) → whole_of full ≡ (one_of p full && one_of q full)
    sides full = any_split r d p q full goals start place s l (sym (ap (λ g. matrix r (tree_form g.now) full) there) ∙ ap (λ f. matrix r f full) e)

    pub split_left : (b : Bool) → IsFound (ways_of r.names).count (one_of p) env b → b ≡ true → IsFound (ways_of r.names).count whole_of env true
    split_left b h t =
        found_left (ways_of r.names).count whole_of (one_of p) (one_of q) env sides (subst (IsFound (ways_of r.names).count (one_of p) env) t h)

    pub split_right : (b c : Bool) (hs : List (Bor FormTree)) (here : Scope) → IsFound (ways_of r.names).count (one_of p) env b → b ≡ false → hs ≡ set goals place p → here ≡ env → IsFound (ways_of r.names).count (any_true r (drop start (set hs place q))) here c → IsFound (ways_of r.names).count whole_of env c
    split_right b c hs here h f same same_env k =
        found_right (ways_of r.names).count whole_of (one_of p) (one_of q) env sides c (subst (IsFound (ways_of r.names).count (one_of p) env) f h)
        (subst (λ gs. IsFound (ways_of r.names).count (any_true r (drop start gs)) env c) (ap (λ gs. set gs place q) same ∙ set_again goals place p q)
        (subst (λ x. IsFound (ways_of r.names).count (any_true r (drop start (set hs place q))) x c) same_env k))

pub tried_here : (r : Reading) (goals hs : List (Bor FormTree)) (start : ℕ) (env here : Scope) (x : Variable) (c : Candidates) (k : ℕ) (b : Bool) → hs ≡ goals → here ≡ env → IsTried (ways_of r.names).count (any_true r (drop start hs)) here x c k b → IsTried (ways_of r.names).count (any_true r (drop start goals)) env x c k b
tried_here r goals hs start env here x c k b same same_env h =
    subst (λ gs. IsTried (ways_of r.names).count (any_true r (drop start gs)) env x c k b) same
    (subst (λ e. IsTried (ways_of r.names).count (any_true r (drop start hs)) e x c k b) same_env h)

-- Of one matrix.

module _ (r : Reading) (f : Form) (env : Scope) (x : Variable) where
  -- what is seen of a literal
  pub open_choice : (c : Candidates) → IsOpenIn env x → HoldsOutside r f env x c → IsChoice (ways_of r.names).count (matrix r f) env x c
  open_choice c open' h =
      record {
        open' = open';
        outside = λ full fits lacks. h every full fits (record {
          sort = open_sort (ways_of r.names).count env full fits x open';
          below = open_below (ways_of r.names).count env full fits x open';
          inside = has_ones (find_or nothing full x.var.0).1;
          outside = lacks;
        });
      }

  pub outside_of : (within missed : Candidates) → ((k : ℕ) → has_place within k ≡ true) → HoldsElsewhere r f env x within missed → HoldsOutside r f env x missed
  outside_of within missed all h other full fits at = h full fits (record { sort = at.sort; below = at.below; inside = all (find_or nothing full x.var.0).1; outside = at.outside })

-- of one goal
pub found_one : (r : Reading) (goal : Bor FormTree) (goals : List (Bor FormTree)) (env : Scope) (b : Bool) → goals ≡ goal ∷ [] → IsFound (ways_of r.names).count (any_true r (drop 0 goals)) env b → IsFound (ways_of r.names).count (matrix r (tree_form goal.now)) env b
found_one r goal goals env b e h =
    found_same (ways_of r.names).count (matrix r (tree_form goal.now)) env (any_true r (drop 0 goals)) b (λ full. ap (λ gs. any_true r (drop 0 gs) full) e ∙ or-false (matrix r (tree_form goal.now) full)) h
