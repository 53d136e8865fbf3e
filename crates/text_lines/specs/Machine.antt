-- A format is a machine over the lines that count: a state and a line give the next state, or the reason why the line is refused.
use Rattle.std.specs.Prelude.{ℕ, List, [], ◌∷◌, Option, Some, None, Result, Ok, Err}
use Rattle.text_lines.specs.Text.{Line, lines_left}

pub record Format (State Value Reason : Type 0) : Type 0 where
  pub start : State
  pub step : State → List ℕ → Result State Reason
  -- what is read, or why the text can't end here
  pub finish : State → Result Value Reason

-- a step of a format that has no reasons
abbrev pub goes_to : {A State : Type 0} → Option A → (A → State) → Result State (Unit {0})
goes_to None f = Err tt
goes_to (Some x) f = Ok (f x)

pub record Refused (Reason : Type 0) : Type 0 where
  pub number : ℕ
  pub reason : Reason

-- reading goes on from a state over the lines that are left; `past` is the number one past the last line
abbrev pub ended_at : {V R : Type 0} → ℕ → Result V R → Result V (Refused R)
ended_at n (Ok v) = Ok v
ended_at n (Err r) = Err (record { number = n; reason = r })

-- what is made of a step: the refusal of its line, or what reading gives from the next state
abbrev pub after_step : {S V R : Type 0} → ℕ → Result S R → (S → Result V (Refused R)) → Result V (Refused R)
after_step n (Ok s) rest = rest s
after_step n (Err r) rest = Err (record { number = n; reason = r })

abbrev pub run : {S V R : Type 0} → Format S V R → ℕ → List Line → S → Result V (Refused R)
run f past [] s = ended_at past (f.finish s)
run f past (l ∷ ls) s = after_step l.number (f.step s l.text) (run f past ls)

-- what reading a whole text gives: a value, or the least line that is refused
abbrev pub reading : {S V R : Type 0} → Format S V R → List ℕ → Result V (Refused R)
reading f bytes = let t = lines_left 1 bytes in run f t.past t.lines f.start
