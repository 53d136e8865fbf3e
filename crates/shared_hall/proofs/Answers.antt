-- What an answer of the runtime tells.
use Rattle.std.proofs.Common.{◌≡◌, ◌<◌, ◌≤◌, ℕ, length, Bool, true, false, true≢false, refl, sym, ap, ◌∙◌, arith}
use Rattle.std.specs.Prelude.{◌↔◌, if◌then◌else◌, nat_lt, Option, Some, None, Result, Ok, Err, OnOk, IfErr}
use Rattle.std.proofs.lemmas.Bool.{ltb-true}
use Rattle.csdn_history.specs.declared.entry.Entry.{Entry}
use Rattle.csdn_history.specs.declared.reply.Reply.{Reply}
use Rattle.csdn_run.specs.declared.runtime.RunRefusal.{RunRefusal}
use Rattle.csdn_run.specs.declared.runtime.RunRefusal.TheVariants.{Stranger, HistoryFull, Memory}
use Rattle.csdn_run.specs.Histories.{Running, IsRunAnswer, first_refusal}
use Rattle.csdn_run.specs.Standings.{is_declared}

none_some : (x : Option RunRefusal) (y : RunRefusal) → x ≡ None → x ≡ Some y → ⊥
none_some x y a b = cc

stranger_full : (x : Option RunRefusal) → x ≡ Some Stranger → x ≡ Some HistoryFull → ⊥
stranger_full x a b = cc

ok_err : (x : Result Reply RunRefusal) (y : Reply) (e : RunRefusal) → x ≡ Ok y → x ≡ Err e → ⊥
ok_err x y e a b = cc

memory_stranger : (x : Result Reply RunRefusal) → x ≡ Err Memory → x ≡ Err Stranger → ⊥
memory_stranger x a b = cc

full_stranger : (x : Result Reply RunRefusal) → x ≡ Err HistoryFull → x ≡ Err Stranger → ⊥
full_stranger x a b = cc

-- the first refusal, of an entry that is declared or not, to a history that has room or not
abbrev refusal_of : Bool → Bool → Option RunRefusal
refusal_of declared room = if declared then (if room then None else Some HistoryFull) else Some Stranger

not_refused : (d l : Bool) → refusal_of d l ≡ None → (d ≡ true) × (l ≡ true)
not_refused true true e = (refl, refl)
not_refused true false e = absurd (none_some (Some HistoryFull) HistoryFull e refl)
not_refused false l e = absurd (none_some (Some Stranger) Stranger e refl)

as_stranger : (d l : Bool) → refusal_of d l ≡ Some Stranger → d ≡ false
as_stranger true true e = absurd (none_some None Stranger refl e)
as_stranger true false e = absurd (stranger_full (Some HistoryFull) e refl)
as_stranger false l e = refl

as_full : (d l : Bool) → refusal_of d l ≡ Some HistoryFull → (d ≡ true) × (l ≡ false)
as_full true true e = absurd (none_some None HistoryFull refl e)
as_full true false e = (refl, refl)
as_full false l e = absurd (stranger_full (Some Stranger) refl e)

-- an entry that was entered found room
pub found_room : (r : Running) (e : Entry) (answer : Result Reply RunRefusal) → IsRunAnswer (first_refusal r e) answer → OnOk answer (length r.history < r.room)
found_room r e (Ok x) is = ltb-true (length r.history) r.room (not_refused (is_declared r.program r.network e) (nat_lt (length r.history) r.room) is).1
found_room r e (Err why) is = tt

-- the history is full, where that is the refusal
pub found_full : (r : Running) (e : Entry) (answer : Result Reply RunRefusal) → IsRunAnswer (first_refusal r e) answer → IfErr answer (λ why. why ≡ HistoryFull → r.room ≤ length r.history)
found_full r e (Ok x) is = tt
found_full r e (Err Stranger) is = λ same. absurd (stranger_full (Some Stranger) refl (ap (λ (y : RunRefusal). Some y) same))
found_full r e (Err HistoryFull) is = λ same. not_below (length r.history) r.room (as_full (is_declared r.program r.network e) (nat_lt (length r.history) r.room) is).1
  where
    not_below : (m n : ℕ) → nat_lt m n ≡ false → n ≤ m
    not_below m n no' = grind arith
found_full r e (Err Memory) is = λ same. absurd (memory_full (Some Memory) refl (ap (λ (y : RunRefusal). Some y) same))
  where
    memory_full : (x : Option RunRefusal) → x ≡ Some Memory → x ≡ Some HistoryFull → ⊥
    memory_full x a b = cc

declared_not : (b : Bool) → b ≡ true → b ≡ false → ⊥
declared_not b a c = true≢false (sym a ∙ c)

-- a refusal as a stranger comes exactly where the entry isn't declared
pub strangers : (r : Running) (e : Entry) (answer : Result Reply RunRefusal) → IsRunAnswer (first_refusal r e) answer → (answer ≡ Err Stranger) ↔ (is_declared r.program r.network e ≡ false)
strangers r e (Ok x) is =
    let told = not_refused (is_declared r.program r.network e) (nat_lt (length r.history) r.room) is in
    (λ a. absurd (ok_err (Ok x) x Stranger refl a), λ d. absurd (declared_not (is_declared r.program r.network e) told.0 d))
strangers r e (Err Stranger) is = (λ a. as_stranger (is_declared r.program r.network e) (nat_lt (length r.history) r.room) is, λ d. refl)
strangers r e (Err HistoryFull) is =
    let told = as_full (is_declared r.program r.network e) (nat_lt (length r.history) r.room) is in
    (λ a. absurd (full_stranger (Err HistoryFull) refl a), λ d. absurd (declared_not (is_declared r.program r.network e) told.0 d))
strangers r e (Err Memory) is =
    let told = not_refused (is_declared r.program r.network e) (nat_lt (length r.history) r.room) is in
    (λ a. absurd (memory_stranger (Err Memory) refl a), λ d. absurd (declared_not (is_declared r.program r.network e) told.0 d))
