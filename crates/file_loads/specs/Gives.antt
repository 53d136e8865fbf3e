-- What loading a file gives.
use Rattle.std.specs.Prelude.{◌≡◌, ℕ, List, [], ◌∷◌, Vec}
use Rattle.std.specs.declared.alloc.Global.{Global}
use Rattle.file_loads.specs.declared.read.FileKind.{FileKind}
use Rattle.file_loads.specs.declared.read.Load.{Load}
use Rattle.file_loads.specs.declared.read.Load.TheVariants.{Loaded, Refused}
use Rattle.file_loads.specs.Status.{code_of}
use Rattle.file_loads.specs.Views.{Change}
use Rattle.file_loads.specs.Answers.{held, FileMayAnswer}
use Rattle.file_loads.specs.Explained.{IsExplained}
use Rattle.file_loads.specs.Outputs.{With}

-- of bytes: a value that they are, or the line that refuses them
abbrev pub Reads : {X : Type 0} → List ℕ → (List ℕ → X → Type 0) → (List ℕ → List ℕ → Type 0) → Load X → Type 0
Reads bytes is_value is_refused (Loaded x) = is_value bytes x
Reads bytes is_value is_refused (Refused outcome) = is_refused bytes outcome.text.items × (code_of outcome.status ≡ 3)

-- The value is one of the bytes that the file answered.
pub record IsValueOf {X : Type 0} (change : Change) (kind : FileKind) (name : List ℕ) (is_value : List ℕ → X → Type 0) (x : X) : Type 0 where
  pub bytes : List ℕ
  pub answered : FileMayAnswer change (record { kind = kind; name = name }) (held bytes)
  pub is : is_value bytes x

-- of a file: a value of its bytes; or what a call says that needs one
abbrev pub Gives : {X : Type 0} → Change → FileKind → List ℕ → (List ℕ → X → Type 0) → (List ℕ → List ℕ → Type 0) → Load X → Type 0
Gives change kind name is_value is_refused (Loaded x) = IsValueOf change kind name is_value x
Gives change kind name is_value is_refused (Refused outcome) =
    IsExplained change (record { kind = kind; name = name } ∷ []) (With kind name is_value is_refused (λ x answers write text status. ⊥)) outcome.text.items (code_of outcome.status)

-- the bytes of a vector
abbrev pub AreItems : List ℕ → Vec ℕ Global → Type 0
AreItems bytes found = found.items ≡ bytes
