-- What is said of all blocks of a log text.
use Rattle.std.specs.Prelude.{◌≡◌, ℕ, Bool, List, [], ◌∷◌, ◌++◌, Some, Result, Ok, Err}
use Rattle.std.specs.List.{list_all}
use Rattle.clause_log.specs.Refutations.{Step}
use Rattle.text_lines.specs.Machine.{reading}
use Rattle.text_lines.specs.declared.read.LineRefusal.{LineRefusal}
use Rattle.text_lines.specs.declared.read.LineRefusal.TheVariants.{Line, Memory}
use Rattle.log_text.specs.LogText.{log_format}
use Rattle.log_text.specs.declared.block.Block.{Block}
use Rattle.clause_listing.specs.declared.listing.Listing.{Listing}
use Rattle.clause_listing.specs.Answers.{IsSaid, passes}

-- each block's name, and what is said of it
abbrev pub AreListed : List Block → List ℕ → Type 0
AreListed [] text = text ≡ []
AreListed (b ∷ bs) text = (said : List ℕ) × (rest : List ℕ) × IsSaid b.clauses b.log said × AreListed bs rest × (text ≡ b.name ++ said ++ rest)

-- every log that is there is accepted
abbrev pub all_pass : List Block → Bool
all_pass bs = list_all (λ b. passes b.clauses b.log) bs

-- the listing of a log text: of the blocks that it reads as
pub record IsListing (bytes text : List ℕ) (good : Bool) : Type 0 where
  pub blocks : List Block
  pub read : reading log_format bytes ≡ Ok blocks
  pub listed : AreListed blocks text
  pub passed : good ≡ all_pass blocks

-- a listing of the text, or its first bad line, unless memory ran out
abbrev pub Lists : List ℕ → Result Listing (LineRefusal (Unit {0})) → Type 0
Lists bytes (Ok l) = IsListing bytes l.text.items l.all_accepted
Lists bytes (Err (Line n why)) = reading log_format bytes ≡ Err (record { number = n; reason = tt })
Lists bytes (Err Memory) = Unit {0}

-- the block with this log
abbrev pub with_log : Block → List Step → Block
with_log b log = record b { log = Some log }
