-- What a reader of lines answers.
use Rattle.std.specs.Prelude.{◌≡◌, ℕ, List, Option, Some, None, Result, Ok, Err}
use Rattle.std.specs.Borrow.{Bor}
use Rattle.text_lines.specs.Machine.{Format, Refused}
use Rattle.text_lines.specs.declared.read.Stop.{Stop}
use Rattle.text_lines.specs.declared.read.Stop.TheVariants as stop
use Rattle.text_lines.specs.declared.read.LineRefusal.{LineRefusal}
use Rattle.text_lines.specs.declared.read.LineRefusal.TheVariants as refusal

-- what was found is what the definition gives, unless memory ran out
abbrev pub Finds : {X Y Why : Type 0} → Result X (Stop Why) → Result Y Why → (X → Y) → Type 0
Finds (Ok x) r view = r ≡ Ok (view x)
Finds (Err (stop.Refused why)) r view = r ≡ Err why
Finds (Err stop.Memory) r view = Unit {0}

-- the same, where a definition has no reasons
abbrev pub FindsSome : {X Y : Type 0} → Result X (Stop (Unit {0})) → Option Y → (X → Y) → Type 0
FindsSome (Ok x) o view = o ≡ Some (view x)
FindsSome (Err (stop.Refused why)) o view = o ≡ None
FindsSome (Err stop.Memory) o view = Unit {0}

-- whatever is found behind a state by a line is that state's step in the format
abbrev pub TakesBy : {State Value Why : Type 0} → Format State Value Why → (State → Bor (List ℕ) → Result State (Stop Why) → Type 0) → Type 0
TakesBy {State} {Value} {Why} f May = (s : State) (line : Bor (List ℕ)) (next : Result State (Stop Why)) → May s line next → Finds next (f.step s line.now) (λ to. to)

-- .. and at its end what that state finishes with
abbrev pub EndsBy : {State Value Why : Type 0} → Format State Value Why → (State → Result Value Why → Type 0) → Type 0
EndsBy {State} {Value} {Why} f May = (s : State) (end : Result Value Why) → May s end → end ≡ f.finish s

-- the answer is what the format gives, unless memory ran out
abbrev pub Gives : {V Why : Type 0} → Result V (LineRefusal Why) → Result V (Refused Why) → Type 0
Gives (Ok v) read = read ≡ Ok v
Gives (Err (refusal.Line n why)) read = read ≡ Err (record { number = n; reason = why })
Gives (Err refusal.Memory) read = Unit {0}
