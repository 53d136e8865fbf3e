-- The steps at a seat as a call finds it.
use Rattle.std.proofs.Common.{◌≡◌, ◌≢◌, ℕ, ◌+◌, ◌%◌, ◌^◌, ◌<◌, ◌≤◌, List, [], ◌∷◌, ◌++◌, refl, sym, ap, ◌∙◌, subst, eq-eqb, ne_eqb, arith, length, length-append}
use Rattle.std.specs.Prelude.{◌==◌, Option, Some, MatchBool, Result, Ok, Err, OnOk, OnErr, IfOk, IfErr}
use Rattle.atomic_table.specs.Table.{Step, Allows, rest}
use Rattle.csdn_history.specs.declared.entry.Entry.{Entry}
use Rattle.csdn_history.specs.declared.reply.Reply.{Reply}
use Rattle.csdn_run.specs.declared.runtime.RunRefusal.{RunRefusal}
use Rattle.csdn_run.specs.Histories.{Running, with_history, IsRunAnswer, first_refusal}
use Rattle.csdn_run.specs.Replies.{reply as reply_of}
use Rattle.shared_hall.specs.declared.view.View.{View}
use Rattle.shared_hall.specs.declared.view.Setting.{Setting}
use Rattle.shared_hall.specs.declared.view.Stage.TheVariants.{Waiting}
use Rattle.shared_hall.specs.Rules.{Kept}
use Rattle.shared_hall.specs.Plays.{Mine, Draws, Looks, Passes, Starts}
use Rattle.shared_hall.specs.Turns.{CanDraw, IsWaiting, CanPass, Took, Grows}
use Rattle.shared_hall.specs.Halls.{Enters, IsTurnedAway}
use Rattle.shared_hall.specs.Views.{seat_of, entries_by, with_seen}
use Rattle.shared_hall.proofs.Words.{entries_own}
use Rattle.shared_hall.proofs.Draws.{draws}
use Rattle.shared_hall.proofs.Looks.{looks}
use Rattle.shared_hall.proofs.Passes.{passes, grows_by, grows_not}
use Rattle.shared_hall.proofs.Answers.{found_room, found_full}

holding : (me : Mine) (xs : List (ℕ × Option Running)) → me.1 ≡ xs → (me.0, xs) ≡ me
holding me xs h = λ z. (me.0, sym h z)

pub draws_as : (k : Setting) (slots i : ℕ) (me : Mine) (st : Step (Option Running)) → CanDraw me → Allows (Kept k) slots i me 0 (λ n. (n + 1) % 2 ^ 64) (Draws st me)
draws_as k slots i me st can =
    let P : Mine → Type 0 = λ m. Allows (Kept k) slots i m 0 (λ n. (n + 1) % 2 ^ 64) (Draws st m) in
    subst P (holding me [] can.slots) (draws k slots i me.0 st can.idle can.one can.alone can.acts)

pub looks_as : (k : Setting) (slots i : ℕ) (me : Mine) (t : ℕ) (st : Step (Option Running)) → IsWaiting me t → Allows (Kept k) slots i me 1 (λ n. n) (Looks st me)
looks_as k slots i me t st is =
    let P : Mine → Type 0 = λ m. Allows (Kept k) slots i m 1 (λ n. n) (Looks st m) in
    subst P (holding me [] is.slots) (looks k slots i me.0 t st is.ticket is.some_part)

pub passes_as : (k : Setting) (slots i : ℕ) (me now : Mine) (r : Running) (st : Step (Option Running)) → CanPass me r → now ≡ (me.0, (0, Some r) ∷ rest me.1)
    → Allows (Kept k) slots i now 1 (λ n. (n + 1) % 2 ^ 64) (Passes st now)
passes_as k slots i me now r st can is =
    let P : Mine → Type 0 = λ m. Allows (Kept k) slots i m 1 (λ n. (n + 1) % 2 ^ 64) (Passes st m) in
    let r' = with_history me.0.opening r.history in
    let holds : now ≡ (me.0, (0, Some r') ∷ []) = is ∙ λ z. (me.0, (0, Some (can.runtime z)) ∷ rest (can.slots z)) in
    subst P (sym holds) (passes k slots i me.0 can.ticket can.history r.history st can.turn can.some_part can.grows can.room)

same_ticket : (t u : ℕ) → Waiting t ≡ Waiting u → t ≡ u
same_ticket t u e = cc

-- a look that found the ticket
pub found : (me w : Mine) (t n : ℕ) (st : Step (Option Running)) → IsWaiting me t → n ≡ t → Looks st me n w → Starts me t w
found me w t n st is hit told =
    let e : told.0 ≡ t = same_ticket told.0 t (sym told.1 ∙ is.ticket) in
    let P : ℕ → Type 0 = λ (x : ℕ). MatchBool (n == x) (Starts me x w) (w ≡ me) in
    let m : MatchBool (n == t) (Starts me t w) (w ≡ me) = subst P e told.2 in
    rw (eq-eqb n t hit) at m

-- a look that found another number
pub missed : (me w : Mine) (t n : ℕ) (st : Step (Option Running)) → IsWaiting me t → n ≢ t → Looks st me n w → w ≡ me
missed me w t n st is miss told =
    let e : told.0 ≡ t = same_ticket told.0 t (sym told.1 ∙ is.ticket) in
    let P : ℕ → Type 0 = λ (x : ℕ). MatchBool (n == x) (Starts me x w) (w ≡ me) in
    let m : MatchBool (n == t) (Starts me t w) (w ≡ me) = subst P e told.2 in
    rw (ne_eqb n t miss) at m

-- a seat that holds one slot
pub holds_one : (me : Mine) (v : View) (x : Option Running) → me ≡ (v, (0, x) ∷ []) → me.1 ≡ (0, x) ∷ rest me.1
holds_one me v x is = let e : me.1 ≡ (0, x) ∷ [] = ap (λ (m : Mine). m.1) is in e ∙ λ z. (0, x) ∷ rest (sym e z)

-- ---- a call

-- what the runtime answers
pub record Applies (r r' : Running) (e : Entry) (answer : Result Reply RunRefusal) : Type 0 where
  pub answers : IsRunAnswer (first_refusal r e) answer
  pub reply : IfOk answer (λ x. x ≡ reply_of r.program r.network r.history e)
  pub entered : OnOk answer (r' ≡ with_history r (r.history ++ e ∷ []))
  pub err : OnErr answer (r' ≡ r)

-- what a call does to a runtime's history
record Moves (r r' : Running) (number : ℕ) : Type 0 where
  pub same : r' ≡ with_history r r'.history
  pub grows : Grows r.history r'.history number
  pub room : length r'.history ≤ r.room

moves : (r r' : Running) (e : Entry) (q : ℕ) (answer : Result Reply RunRefusal) → seat_of e ≡ q → length r.history ≤ r.room → OnOk answer (length r.history < r.room)
    → OnOk answer (r' ≡ with_history r (r.history ++ e ∷ [])) → OnErr answer (r' ≡ r) → Moves r r' q
moves r r' e q (Ok x) is within room ok err =
    let h : r'.history ≡ r.history ++ e ∷ [] = ap (λ (y : Running). y.history) ok in record {
      same = ok ∙ λ z. with_history r (sym h z);
      grows = subst (λ (l : List Entry). Grows r.history l q) (sym h) (grows_by r.history q e is);
      room = subst (λ (l : List Entry). length l ≤ r.room) (sym h) (omega (arith, length-append r.history (e ∷ [])));
    }
moves r r' e q (Err x) is within room ok err =
    let h : r'.history ≡ r.history = ap (λ (y : Running). y.history) err in record {
      same = err ∙ λ z. with_history r (sym h z);
      grows = subst (λ (l : List Entry). Grows r.history l q) (sym h) (grows_not r.history q);
      room = subst (λ (l : List Entry). length l ≤ r.room) (sym h) within;
    }

-- the runtime that was taken may go back after a call
pub may_pass : (old now : Mine) (r r' : Running) (e : Entry) (answer : Result Reply RunRefusal) → 0 < old.0.parts → Took old now r → Applies r r' e answer → seat_of e ≡ old.0.own.number → CanPass now r'
may_pass old now r r' e answer some_part took a is =
    let within : length r.history ≤ r.room = subst (λ (y : Running). length y.history ≤ y.room) (sym took.runtime) took.room in
    let x = moves r r' e old.0.own.number answer is within (found_room r e answer a.answers) a.entered a.err in
    let P : Mine → Type 0 = λ m. CanPass m r' in
    subst P (sym took.now) (record {
      slots = refl;
      some_part = some_part;
      runtime = x.same ∙ ap (λ (y : Running). with_history y r'.history) took.runtime;
      ticket = took.ticket;
      history = took.history;
      turn = refl;
      grows = subst (λ (l : List Entry). Grows l r'.history old.0.own.number) (ap (λ (y : Running). y.history) took.runtime) x.grows;
      room = subst (λ (y : Running). length r'.history ≤ y.room) took.runtime x.room;
    })

-- what an Ok of a call tells
pub enters : (old now : Mine) (r r' : Running) (e : Entry) (answer : Result Reply RunRefusal) → Took old now r → Applies r r' e answer → seat_of e ≡ old.0.own.number
    → IfOk answer (Enters old.0.opening old.0.own (with_seen now.0.own r'.history) e)
enters old now r r' e (Ok x) took a is =
    let h = took.history in
    let rh : r.history ≡ h = ap (λ (y : Running). y.history) took.runtime in
    let new : r'.history ≡ h ++ e ∷ [] = ap (λ (y : Running). y.history) a.entered ∙ ap (λ (l : List Entry). l ++ e ∷ []) rh in
    let number : now.0.own.number ≡ old.0.own.number = ap (λ (m : Mine). m.0.own.number) took.now in record {
      past = h;
      begins = took.begins;
      seen = new;
      answer = a.reply ∙ (λ z. reply_of (took.runtime z).program (took.runtime z).network (took.runtime z).history e);
      room = subst (λ (y : Running). length y.history < y.room) took.runtime (found_room r e (Ok x) a.answers);
      mine = (λ z. entries_by (number z) (new z)) ∙ (entries_own old.0.own.number h e is ∙ ap (λ (l : List Entry). l ++ e ∷ []) took.mine);
    }
enters old now r r' e (Err x) took a is = tt

-- what an Err of a call tells
pub turned_away : (old now : Mine) (r r' : Running) (e : Entry) (answer : Result Reply RunRefusal) → Took old now r → Applies r r' e answer
    → IfErr answer (IsTurnedAway old.0.opening old.0.own (with_seen now.0.own r'.history))
turned_away old now r r' e (Ok x) took a = tt
turned_away old now r r' e (Err why) took a =
    let h = took.history in
    let same : r' ≡ with_history old.0.opening h = a.err ∙ took.runtime in
    let seen : r'.history ≡ h = ap (λ (y : Running). y.history) same in
    let number : now.0.own.number ≡ old.0.own.number = ap (λ (m : Mine). m.0.own.number) took.now in record {
      begins = (took.begins.0, seen ∙ took.begins.1);
      mine = (λ z. entries_by (number z) (seen z)) ∙ took.mine;
      full = λ is.
          let f : r.room ≤ length r.history = found_full r e (Err why) a.answers is in
          let full : old.0.opening.room ≤ length h = subst (λ (y : Running). y.room ≤ length y.history) took.runtime f in
          let within = took.room in
          let n : length r'.history ≡ length h = ap (λ (l : List Entry). length l) seen in omega arith;
    }
