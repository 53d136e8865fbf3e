-- The output of `frames`.
use Rattle.std.specs.Prelude.{◌≡◌, ℕ, List, Option, true, false}
use Rattle.of10_listing.specs.Listings.{IsListing}
use Rattle.file_loads.specs.declared.read.FileKind.TheVariants.{Frames}
use Rattle.file_loads.specs.Answers.{Answer}
use Rattle.file_loads.specs.Writes.{Write}
use Rattle.file_loads.specs.Outputs.{Then}
use Rattle.file_loads.specs.Loads.{WithBytes}

-- The listing of a file's bytes, and the status, by whether they are whole messages alone.
pub data ListingOutput (bytes text : List ℕ) (status : ℕ) : Type 0 where
  is_whole : IsListing bytes text true → status ≡ 0 → ListingOutput bytes text status
  is_broken : IsListing bytes text false → status ≡ 3 → ListingOutput bytes text status

-- `frames FILE`
abbrev pub FramesOutput : List ℕ → List Answer → Option Write → List ℕ → ℕ → Type 0
FramesOutput name = WithBytes Frames name (λ bytes. Then (ListingOutput bytes))
