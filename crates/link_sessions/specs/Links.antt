-- What a link tells.
use Rattle.std.specs.Prelude.{ℕ, ◌≡◌, Bool, List, Option, Some, None}

pub record LinkView : Type 0 where
  pub taken : Option (List ℕ)
  pub written : Option (List ℕ)
  pub closed : Bool
  pub is_shut : Bool
  pub read_faults : ℕ
  pub write_faults : ℕ

-- .. where a link's ghosts are these
abbrev pub view_by : {K : Type 0} → (taken written : K → Option (List ℕ)) → (closed is_shut : K → Bool) → (read_faults write_faults : K → ℕ) → K → LinkView
view_by taken written closed is_shut read_faults write_faults link =
    record { taken = taken link; written = written link; closed = closed link; is_shut = is_shut link; read_faults = read_faults link; write_faults = write_faults link }

-- these are the bytes, where they are told
abbrev pub Tells : Option (List ℕ) → List ℕ → Type 0
Tells None bytes = Unit {0}
Tells (Some told) bytes = told ≡ bytes
