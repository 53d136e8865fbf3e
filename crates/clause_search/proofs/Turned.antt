-- What a turn back does.
use Rattle.std.proofs.Common.{◌≡◌, ◌<◌, ℕ, ◌+◌, true, List, [], ◌∷◌, ◌++◌, map, take, length, Option, Some, None, Result, Ok, Err, IfOk, refl, sym, ap, ap₂, ◌∙◌, subst, arith, length-append}
use Rattle.std.specs.List.{list_all}
use Rattle.std.proofs.Math.Seq.{take-append_seam}
use Rattle.std.proofs.lemmas.Bool.{and_parts, and_from, false≢true}
use Rattle.std.proofs.lemmas.List.Folds.{list_all-append}
use Rattle.clause_log.specs.Literals.{Literal, ClauseList, has_distinct_atoms, is_within, is_clause}
use Rattle.clause_log.specs.Assignments.{Assignment, no_values}
use Rattle.clause_log.specs.Refutations.{Step, clause_at, is_conflict_at, unit_at, step_holds, steps_hold, ends_empty, with_steps}
use Rattle.clause_log.specs.Limits.{is_hint, is_step}
use Rattle.clause_log.proofs.Flat.{all_more}
use Rattle.clause_search.specs.Outcomes.{IsRefutationOf}
use Rattle.clause_search.specs.declared.trail.Entry.{Entry}
use Rattle.clause_search.specs.declared.cut.Jump.{Jump}
use Rattle.clause_search.specs.Trails.{values_of, Fits, IsTrail, Extends, trail_number}
use Rattle.clause_search.specs.Cuts.{IsJump}
use Rattle.clause_search.specs.Searches.{IsConflict, IsSearch, Turns}
use Rattle.clause_search.specs.declared.turn.Turn.{Turn}
use Rattle.clause_search.specs.declared.turn.Turn.TheVariants.{GoesOn, AllTrue, Failed}
use Rattle.clause_search.proofs.Growth.{flipped, grows, not_longer, never_falls}
use Rattle.clause_search.proofs.Entries.{clause_at-more, trail-append, trail-front, trail-more, extended}
use Rattle.clause_search.proofs.Clauses.{all_within, forced_new, forced_passes}
use Rattle.clause_search.proofs.Logged.{steps-append, hold-append, new_step_at, ends-append}

conflict_by : (cs ds : List (List Literal)) (f : Assignment) (h : ℕ) (o : Option (List Literal)) → clause_at cs h ≡ o → is_conflict_at f o ≡ true → is_conflict_at f (clause_at (cs ++ ds) h) ≡ true
conflict_by cs ds f h None e c = absurd (false≢true c)
conflict_by cs ds f h (Some k) e c = ap (is_conflict_at f) (clause_at-more cs ds h k e) ∙ c

-- a conflict among the clauses is one among those of the steps too
pub conflict_among : (cs : List (List Literal)) (log : List Step) (f : Assignment) (h : ℕ) (c : List Literal) → clause_at cs h ≡ Some c → is_conflict_at f (Some c) ≡ true → is_hint h ≡ true → IsConflict (with_steps cs log) f h
conflict_among cs log f h c e k small = (conflict_by cs (map (λ s. s.literals) log) f h (Some c) e k, small)

steps_clauses : (atoms : ℕ) (log : List Step) → list_all (is_step atoms) log ≡ true → list_all (is_clause atoms) (map (λ s. s.literals) log) ≡ true
steps_clauses atoms [] h = refl
steps_clauses atoms (s ∷ ss) h =
    let p = and_parts (is_step atoms s) (list_all (is_step atoms) ss) h in
    and_from (is_clause atoms s.literals) (list_all (is_clause atoms) (map (λ s. s.literals) ss)) (and_parts (is_clause atoms s.literals) (list_all is_hint s.hints) p.0).0 (steps_clauses atoms ss p.1)

-- the clauses and those of the steps are clauses over the atoms
pub all_clauses : (c : ClauseList) (log : List Step) (trail : List Entry) → list_all (is_clause c.atoms) c.clauses ≡ true → IsSearch c log trail → list_all (is_clause c.atoms) (with_steps c.clauses log) ≡ true
all_clauses c log trail h s =
    list_all-append (is_clause c.atoms) c.clauses (map (λ s. s.literals) log)
    ∙ and_from (list_all (is_clause c.atoms) c.clauses) (list_all (is_clause c.atoms) (map (λ s. s.literals) log)) h (steps_clauses c.atoms log s.within)

-- a step that was worked out and logged
pub record IsLogged (c : ClauseList) (log now : List Step) (s : Step) : Type 0 where
  pub holds : step_holds (with_steps c.clauses log) s ≡ true
  pub within : is_step c.atoms s ≡ true
  pub is : now ≡ log ++ s ∷ []

pub pushable : (atoms : ℕ) (s : Step) → is_step atoms s ≡ true → has_distinct_atoms s.literals ≡ true
pushable atoms s h = (and_parts (has_distinct_atoms s.literals) (list_all (is_within atoms) s.literals) (and_parts (is_clause atoms s.literals) (list_all is_hint s.hints) h).0).0

steps_logged : (c : ClauseList) (log now : List Step) (s : Step) (trail : List Entry) → IsSearch c log trail → IsLogged c log now s → steps_hold c.clauses now ≡ true
steps_logged c log now s trail search l = ap (steps_hold c.clauses) l.is ∙ hold-append c.clauses log s search.steps l.holds

within_logged : (c : ClauseList) (log now : List Step) (s : Step) (trail : List Entry) → IsSearch c log trail → IsLogged c log now s → list_all (is_step c.atoms) now ≡ true
within_logged c log now s trail search l = all_more (is_step c.atoms) log now s l.is search.within l.within

-- a step without literals: the log refutes
pub refuted : (c : ClauseList) (log now : List Step) (s : Step) (trail : List Entry) → IsSearch c log trail → IsLogged c log now s → s.literals ≡ [] → IsRefutationOf c now
refuted c log now s trail search l none = record {
  accepted = and_from (steps_hold c.clauses now) (ends_empty now) (steps_logged c log now s trail search l) (ap ends_empty l.is ∙ ends-append log s none);
  within = within_logged c log now s trail search l;
}

-- the trail cut short
pub cut_short : (trail : List Entry) (s : Step) (j : Jump) (front : List Entry) → (jump : IsJump trail s.literals j) → front ≡ take j.place trail → front ≡ jump.front
cut_short trail s j front jump is =
    is ∙ ap₂ (λ n es. take n es) (sym jump.place_is) jump.is ∙ take-append_seam jump.front (record { literal = jump.decided; reason = None } ∷ jump.back)

pub jump_new : (trail : List Entry) (s : Step) (j : Jump) (front : List Entry) → IsJump trail s.literals j → front ≡ take j.place trail → values_of front j.literal.atom ≡ None
jump_new trail s j front jump is = ap (λ es. values_of es j.literal.atom) (cut_short trail s j front jump is) ∙ forced_new (values_of jump.front) s.literals j.literal jump.forces

jump_fits : (c : ClauseList) (log now : List Step) (s : Step) (trail : List Entry) (j : Jump) (n : ℕ) → IsLogged c log now s → (jump : IsJump trail s.literals j) → n ≡ length c.clauses + length log + 1 → is_hint n ≡ true
    → (let e : Entry = record { literal = j.literal; reason = Some n } in Fits c.atoms (with_steps c.clauses now) (values_of jump.front) e)
jump_fits c log now s trail j n l jump number small =
    let f = values_of jump.front in
    let clause : is_clause c.atoms s.literals ≡ true = (and_parts (is_clause c.atoms s.literals) (list_all is_hint s.hints) l.within).0 in
    record {
      new = forced_new f s.literals j.literal jump.forces;
      within = forced_passes (is_within c.atoms) f s.literals j.literal jump.forces (all_within c.atoms s.literals clause);
      forced = (ap (λ z. unit_at f (clause_at (with_steps c.clauses z) n)) l.is ∙ ap (unit_at f) (new_step_at c.clauses log s n number) ∙ jump.forces, small);
    }

pub turned : (c : ClauseList) (log now : List Step) (s : Step) (trail front new : List Entry) (j : Jump) (n : ℕ) → IsSearch c log trail → IsLogged c log now s → IsJump trail s.literals j → n ≡ length c.clauses + length log + 1 → is_hint n ≡ true
    → front ≡ take j.place trail → new ≡ front ++ record { literal = j.literal; reason = Some n } ∷ [] → IsSearch c now new × (trail_number c.atoms trail < trail_number c.atoms new)
turned c log now s trail front new j n search l jump number small short made =
    let cs = with_steps c.clauses log in
    let ds = with_steps c.clauses now in
    let d : Entry = record { literal = jump.decided; reason = None } in
    let e : Entry = record { literal = j.literal; reason = Some n } in
    let made_of : new ≡ jump.front ++ e ∷ [] = made ∙ ap (λ z. z ++ e ∷ []) (cut_short trail s j front jump short) in
    let before : IsTrail c.atoms cs no_values jump.front = trail-front c.atoms cs no_values jump.front (d ∷ jump.back) (subst (IsTrail c.atoms cs no_values) jump.is search.fits) in
    let more : cs ++ s.literals ∷ [] ≡ ds = sym (ap (with_steps c.clauses) l.is ∙ steps-append c.clauses log s) in
    let kept : IsTrail c.atoms ds no_values jump.front = subst (λ z. IsTrail c.atoms z no_values jump.front) more (trail-more c.atoms cs (s.literals ∷ []) no_values jump.front before) in
    let whole : IsTrail c.atoms ds no_values (jump.front ++ e ∷ []) = trail-append c.atoms ds no_values jump.front (e ∷ []) kept (jump_fits c log now s trail j n l jump number small, tt) in
    let most = not_longer c.atoms cs no_values trail search.fits in
    let parts = ap length jump.is ∙ length-append jump.front (d ∷ jump.back) in
    let less = flipped c.atoms jump.front jump.back jump.decided j.literal n (omega (arith, most, parts)) in
    let was = ap (trail_number c.atoms) jump.is in
    let is = ap (trail_number c.atoms) made_of in (
      record {
        steps = steps_logged c log now s trail search l;
        within = within_logged c log now s trail search l;
        fits = subst (IsTrail c.atoms ds no_values) (sym made_of) whole;
      },
      omega (arith, less, was, is),
    )

-- a literal more is decided
pub decided_search : (c : ClauseList) (log : List Step) (old new : List Entry) (l : Literal) → IsSearch c log old → values_of old l.atom ≡ None → is_within c.atoms l ≡ true → new ≡ old ++ record { literal = l; reason = None } ∷ []
    → IsSearch c log new × (trail_number c.atoms old < trail_number c.atoms new)
decided_search c log old new l s none inside made =
    let cs = with_steps c.clauses log in
    let e : Entry = record { literal = l; reason = None } in
    let fit : Fits c.atoms cs (values_of old) e = record { new = none; within = inside; forced = tt } in
    let whole : IsTrail c.atoms cs no_values (old ++ e ∷ []) = trail-append c.atoms cs no_values old (e ∷ []) s.fits (fit, tt) in
    let most = not_longer c.atoms cs no_values (old ++ e ∷ []) whole in
    let parts = length-append old (e ∷ []) in
    let more = grows c.atoms old e (omega (arith, most, parts)) in
    (record { steps = s.steps; within = s.within; fits = subst (IsTrail c.atoms cs no_values) (sym made) whole }, subst (λ z. trail_number c.atoms old < trail_number c.atoms z) (sym made) more)

pub extended_search : (c : ClauseList) (log : List Step) (old new : List Entry) → IsSearch c log old → Extends c.atoms (with_steps c.clauses log) old new → IsSearch c log new
extended_search c log old new s e = record { steps = s.steps; within = s.within; fits = extended c.atoms (with_steps c.clauses log) old new e s.fits }

turns_by : (c : ClauseList) (cs : List (List Literal)) (old mid new : List Entry) (log : List Step) (t : Turn) → Extends c.atoms cs old mid → Turns c mid log new t → Turns c old log new t
turns_by c cs old mid new log GoesOn e h =
    let less = never_falls c.atoms old e.more in
    let same = ap (trail_number c.atoms) e.is in
    (h.0, omega (arith, less, same, h.1))
turns_by c cs old mid new log AllTrue e h = h
turns_by c cs old mid new log Failed e h = h

-- a turn of the longer trail is one of the shorter
pub turns_from : {E : Type 0} (r : Result Turn E) (c : ClauseList) (cs : List (List Literal)) (old mid new : List Entry) (log : List Step) → Extends c.atoms cs old mid → IfOk r (λ t. Turns c mid log new t) → IfOk r (λ t. Turns c old log new t)
turns_from (Ok t) c cs old mid new log e h = turns_by c cs old mid new log t e h
turns_from (Err x) c cs old mid new log e h = h
