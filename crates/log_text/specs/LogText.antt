-- Texts of logs: the machine over their lines, how blocks are spelled, and which blocks have a text.
use Rattle.std.specs.Prelude.{ℕ, Bool, true, false, not, ◌&&◌, ◌==◌, nat_le, if◌then◌else◌, List, [], ◌∷◌, ◌++◌, Option, Some, None, is_none, option_map, Result, Ok, Err, codes, decimal, map}
use Rattle.std.specs.List.{flat_map, list_all}
use Rattle.std.specs.Str.{bytes_eq}
use Rattle.text_lines.specs.Text.{words, next, ended}
use Rattle.text_lines.specs.Rest.{trim_start, trim_end}
use Rattle.text_lines.specs.Machine.{Format, goes_to}
use Rattle.text_lines.specs.Printed.{line_text}
use Rattle.clause_log.specs.Literals.{Literal, ClauseList, is_clause}
use Rattle.clause_log.specs.Refutations.{Step}
use Rattle.clause_log.specs.Limits.{is_step}
use Rattle.log_text.specs.declared.block.Block.{Block}
use Rattle.log_text.specs.declared.read.LogPlace.{LogPlace}
use Rattle.log_text.specs.declared.read.LogPlace.TheVariants as place
use Rattle.log_text.specs.Words.{most_atoms, header_of, name_of, atoms_of, clause_of, step_of, is_name}

-- ---- the machine

-- a block without clauses and without a log
abbrev pub new_block : List ℕ → ℕ → Block
new_block name atoms = record { name = name; clauses = record { atoms = atoms; clauses = [] }; log = None }

abbrev pub with_clause : Block → List Literal → Block
with_clause b c = record b { clauses = record { atoms = b.clauses.atoms; clauses = b.clauses.clauses ++ c ∷ [] } }

abbrev pub steps_so_far : Option (List Step) → List Step
steps_so_far None = []
steps_so_far (Some ss) = ss

abbrev pub with_step : Block → Step → Block
with_step b s = record b { log = Some (steps_so_far b.log ++ s ∷ []) }

-- the block with what the words of a clause line say, and of a step line
abbrev pub clause_taken : Block → List (List ℕ) → Option Block
clause_taken b ws = option_map (with_clause b) (clause_of b.clauses.atoms ws)

abbrev pub step_taken : Block → List (List ℕ) → Option Block
step_taken b ws = option_map (with_step b) (step_of b.clauses.atoms ws)

-- a line of an open block, by its first word; clauses come before steps
abbrev pub inside : Block → List Block → List ℕ → List (List ℕ) → Result LogPlace (Unit {0})
inside block blocks key ws =
    if bytes_eq key (codes "c") && is_none block.log then goes_to (clause_taken block ws) (λ new. place.Open new blocks)
    else (if bytes_eq key (codes "s") then goes_to (step_taken block ws) (λ new. place.Open new blocks)
    else (if bytes_eq key (codes "end") then goes_to (ended ws) (λ u. place.Between (blocks ++ block ∷ []))
    else Err tt))

abbrev pub by_key : Block → List Block → Option (List ℕ × List (List ℕ)) → Result LogPlace (Unit {0})
by_key block blocks None = Err tt
by_key block blocks (Some key) = inside block blocks key.0 key.1

-- the header, then blocks: `block NAME`, `atoms N`, clauses, steps, `end`
abbrev pub step : LogPlace → List ℕ → Result LogPlace (Unit {0})
step place.Header line = goes_to (header_of (words line)) (λ u. place.Between [])
step (place.Between blocks) line = goes_to (name_of line) (λ name. place.Named name blocks)
step (place.Named name blocks) line = goes_to (atoms_of (words line)) (λ n. place.Open (new_block name n) blocks)
step (place.Open block blocks) line = by_key block blocks (next (words line))

-- a text ends between two blocks
abbrev pub finish : LogPlace → Result (List Block) (Unit {0})
finish place.Header = Err tt
finish (place.Between blocks) = Ok blocks
finish (place.Named name blocks) = Err tt
finish (place.Open block blocks) = Err tt

abbrev pub log_format : Format LogPlace (List Block) (Unit {0})
log_format = record {
  start = place.Header;
  step = step;
  finish = finish;
}

-- ---- spelling

abbrev pub literal_word : Literal → List ℕ
literal_word l = if l.positive then decimal l.atom else 45 ∷ decimal l.atom

abbrev pub zero_word : List ℕ
zero_word = codes "0"

abbrev pub clause_words : List Literal → List (List ℕ)
clause_words c = codes "c" ∷ (map literal_word c ++ zero_word ∷ [])

abbrev pub step_words : Step → List (List ℕ)
step_words s = codes "s" ∷ (map literal_word s.literals ++ zero_word ∷ (map decimal s.hints ++ zero_word ∷ []))

abbrev pub header : List (List ℕ)
header = codes "vericon-log" ∷ codes "1" ∷ []

abbrev pub end : List (List ℕ)
end = codes "end" ∷ []

-- the words of each line of a block; a name may have spaces inside, and stands as one word
abbrev pub block_lines : Block → List (List (List ℕ))
block_lines b = (codes "block" ∷ b.name ∷ []) ∷ (codes "atoms" ∷ decimal b.clauses.atoms ∷ []) ∷ (map clause_words b.clauses.clauses ++ (map step_words (steps_so_far b.log) ++ end ∷ []))

abbrev pub log_lines : List Block → List (List (List ℕ))
log_lines bs = header ∷ flat_map block_lines bs

abbrev pub log_text : List Block → List ℕ
log_text bs = flat_map line_text (log_lines bs)

-- ---- which blocks have a text

abbrev pub is_positive : ℕ → ℕ → Bool
is_positive most n = not (n == 0) && nat_le n most

-- a name without a space at either end
abbrev pub is_bare_name : List ℕ → Bool
is_bare_name name = is_name name && bytes_eq (trim_end (trim_start name)) name

abbrev pub is_clause_list : ClauseList → Bool
is_clause_list c = nat_le c.atoms most_atoms && list_all (is_clause c.atoms) c.clauses

-- a log that is there has a step
abbrev pub is_log : ℕ → Option (List Step) → Bool
is_log atoms None = true
is_log atoms (Some []) = false
is_log atoms (Some (s ∷ ss)) = list_all (is_step atoms) (s ∷ ss)

abbrev pub is_block : Block → Bool
is_block b = is_bare_name b.name && (is_clause_list b.clauses && is_log b.clauses.atoms b.log)

abbrev pub are_blocks : List Block → Bool
are_blocks bs = list_all is_block bs
