-- Traces that a refused note ended.
use Rattle.std.proofs.Common.{◌≡◌, true, List, refl}
use Rattle.std.specs.Prelude.{ℕ}
use Rattle.csdn_core.specs.declared.program.Parts.{Parts}
use Rattle.csdn_core.specs.Network.{Network, State}
use Rattle.journal_text.specs.declared.note.Note.{Note}
use Rattle.trace_listing.specs.declared.trace.Ending.{Ending}
use Rattle.trace_listing.specs.declared.trace.Ending.TheVariants.{Unbroken, Broken, Stopped}
use Rattle.trace_listing.specs.Traces.{traced, opening_at, IsEnding, is_stopped, IsTrace, was_stopped}

pub stopped : (P : Parts) (N : Network) (x y : State) (notes : List Note) (text : List ℕ) (ending : Ending) → is_stopped ending ≡ true → IsEnding (traced P N 1 (opening_at x) notes) ending y → text ≡ (traced P N 1 (opening_at x) notes).text → IsTrace P N x notes text ending
stopped P N x y notes text Unbroken is ends text_is = absurd cc
stopped P N x y notes text Broken is ends text_is = absurd cc
stopped P N x y notes text Stopped is ends text_is = was_stopped ends text_is refl
