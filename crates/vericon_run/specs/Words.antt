-- What the words of a call ask of a run.
use Rattle.std.specs.Prelude.{◌≡◌, ℕ, ◌^◌, List, Option, Some, None, codes, min, max}
use Rattle.command_words.specs.declared.table.Command.TheVariants.{Run}
use Rattle.command_words.specs.Call.{Call}
use Rattle.command_words.specs.Calls.{option_number}
use Rattle.session_workers.specs.declared.terms.Terms.{Terms}
use Rattle.vericon_app.specs.Calls.{file_name}

-- the number that is given, within these bounds; the usual one where none is given
abbrev pub within : ℕ → ℕ → ℕ → Option ℕ → ℕ
within least most usual None = usual
within least most usual (Some number) = max least (min number most)

-- how many workers there are
abbrev pub workers_of : Call → ℕ
workers_of call = within 1 64 4 (option_number (codes "--workers") call.options)

-- how many sessions are served at most
abbrev pub sessions_of : Call → ℕ
sessions_of call = within 1 1048576 1048576 (option_number (codes "--sessions") call.options)

-- how many entries the history has at most
abbrev pub room_of : Call → ℕ
room_of call = within 1 4194304 4194304 (option_number (codes "--history") call.options)

-- what is served: that many sessions by that many workers, each of at most 2^39 bytes
pub record AreTerms (call : Call) (t : Terms) : Type 0 where
  pub workers : t.workers ≡ workers_of call
  pub sessions : t.sessions ≡ sessions_of call
  pub most : t.most ≡ 2 ^ 39

-- a call of `run` with these files of a program and of a network
pub record IsRun (asked : Option Call) (program network : List ℕ) : Type 0 where
  pub call : Call
  pub asked_is : asked ≡ Some call
  pub command_is : call.command ≡ Run
  pub program_is : file_name call 0 ≡ program
  pub network_is : file_name call 1 ≡ network
