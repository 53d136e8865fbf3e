-- What loading a file gives, from what its bytes are.
use Rattle.std.proofs.Common.{◌≡◌, ℕ, ◌≤◌, List, [], ◌∷◌, Option, None, sym, ◌∙◌, subst, refl, arith}
use Rattle.std.specs.Prelude.{Vec}
use Rattle.std.specs.declared.alloc.Global.{Global}
use Rattle.vericon_edge.specs.Counts.{counted}
use Rattle.file_loads.specs.declared.read.FileKind.{FileKind}
use Rattle.file_loads.specs.declared.read.Load.{Load}
use Rattle.file_loads.specs.declared.read.Load.TheVariants.{Loaded, Refused}
use Rattle.file_loads.specs.Views.{Change, OnlyReads}
use Rattle.file_loads.specs.Answers.{Answer, held, FileMayAnswer}
use Rattle.file_loads.specs.Writes.{Write}
use Rattle.file_loads.specs.Explained.{IsExplained}
use Rattle.file_loads.specs.Outputs.{IsNone, With, was_value, was_refused, was_none, Then}
use Rattle.file_loads.specs.Loads.{AreBytes, AreNotBytes, WithBytes}
use Rattle.file_loads.specs.Gives.{Reads, IsValueOf, Gives, AreItems}
use Rattle.file_loads.proofs.Explaining.{unwritten, ended}

-- one read, and no write
pub once : (change : Change) → change.after.told ≡ change.before.told → change.before.read_faults ≤ change.after.read_faults → change.after.write_faults ≡ change.before.write_faults → change.after.read_calls ≡ counted change.before.read_calls → change.after.write_calls ≡ change.before.write_calls → OnlyReads 1 change
once change told later faults reads writes = record { told = told; reads = omega (arith, reads); read_faults = later; writes = writes; write_faults = faults }

module _ (change : Change) (kind : FileKind) (name : List ℕ) (reads : OnlyReads 1 change) where
  -- a file gave no bytes
  pub none_given : {X : Type 0} (is_value : List ℕ → X → Type 0) (is_refused : List ℕ → List ℕ → Type 0) (answer : Answer) (text : List ℕ) (status : ℕ) → FileMayAnswer change (record { kind = kind; name = name }) answer → IsNone kind name answer text status
      → IsExplained change (record { kind = kind; name = name } ∷ []) (With kind name is_value is_refused (λ x answers write text status. ⊥)) text status
  none_given is_value is_refused answer text status may said =
      let read = reads.reads in
      record { answers = answer ∷ []; write = None; answered = (may, tt); counted = omega (arith, read); written = unwritten 1 change reads; said = was_none answer refl refl said }

  -- the bytes of a file are a value, or are refused
  pub bytes_given : {X : Type 0} (is_value : List ℕ → X → Type 0) (is_refused : List ℕ → List ℕ → Type 0) (bytes : List ℕ) (l : Load X) → FileMayAnswer change (record { kind = kind; name = name }) (held bytes) → Reads bytes is_value is_refused l → Gives change kind name is_value is_refused l
  bytes_given is_value is_refused bytes (Loaded x) may is = record { bytes = bytes; answered = may; is = is }
  bytes_given is_value is_refused bytes (Refused outcome) may is =
      let read = reads.reads in
      record { answers = held bytes ∷ []; write = None; answered = (may, tt); counted = omega (arith, read); written = unwritten 1 change reads; said = was_refused bytes refl refl is.0 is.1 }

  -- .. which a vector holds
  pub given : {X : Type 0} (is_value : List ℕ → X → Type 0) (is_refused : List ℕ → List ℕ → Type 0) (found : Vec ℕ Global) (bytes : List ℕ) (l : Load X) → IsValueOf change kind name AreItems found → bytes ≡ found.items → Reads bytes is_value is_refused l
      → Gives change kind name is_value is_refused l
  given is_value is_refused found bytes l value is reads =
      bytes_given is_value is_refused bytes l (subst (λ (b : List ℕ). FileMayAnswer change (record { kind = kind; name = name }) (held b)) (sym (is ∙ value.is)) value.answered) reads

  no_bytes : {X : Type 0} (is_value : List ℕ → X → Type 0) (is_refused : List ℕ → List ℕ → Type 0) (answers : List Answer) (write : Option Write) (text : List ℕ) (status : ℕ) → With kind name AreItems AreNotBytes (λ x answers write text status. ⊥) answers write text status
      → With kind name is_value is_refused (λ x answers write text status. ⊥) answers write text status
  no_bytes is_value is_refused answers write text status (was_value bytes x rest is value out) = absurd out
  no_bytes is_value is_refused answers write text status (was_refused bytes is none refused status_is) = absurd refused
  no_bytes is_value is_refused answers write text status (was_none answer is none said) = was_none answer is none said

  -- where there are no bytes there is no value
  pub refused_given : {X : Type 0} (is_value : List ℕ → X → Type 0) (is_refused : List ℕ → List ℕ → Type 0) (text : List ℕ) (status : ℕ) → IsExplained change (record { kind = kind; name = name } ∷ []) (With kind name AreItems AreNotBytes (λ x answers write text status. ⊥)) text status
      → IsExplained change (record { kind = kind; name = name } ∷ []) (With kind name is_value is_refused (λ x answers write text status. ⊥)) text status
  refused_given is_value is_refused text status out = record { answers = out.answers; write = out.write; answered = out.answered; counted = out.counted; written = out.written; said = no_bytes is_value is_refused out.answers out.write text status out.said }

  -- .. and nothing follows from them
  pub bytes_ended : (output : List ℕ → List ℕ → ℕ → Type 0) (text : List ℕ) (status : ℕ) → IsExplained change (record { kind = kind; name = name } ∷ []) (With kind name AreItems AreNotBytes (λ x answers write text status. ⊥)) text status
      → IsExplained change (record { kind = kind; name = name } ∷ []) (WithBytes kind name (λ bytes. Then (output bytes))) text status
  bytes_ended output text status out = ended kind name AreBytes AreNotBytes (λ bytes. Then (output bytes)) change [] text status (refused_given AreBytes AreNotBytes text status out)
