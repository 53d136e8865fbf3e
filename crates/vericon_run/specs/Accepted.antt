-- What a run serves.
use Rattle.std.specs.Prelude.{◌≡◌, ℕ, List, Option, Some, None}
use Rattle.csdn_core.specs.Network.{Network}
use Rattle.csdn_core.specs.Holds.{IsTopology}
use Rattle.csdn_run.specs.Histories.{Running, running}
use Rattle.vericon_decide.specs.declared.verdict.Proof.{Proof}
use Rattle.vericon_decide.specs.Answers.{IsYes}
use Rattle.answer_listing.specs.Words.{yes_text}
use Rattle.vericon_edge.specs.Told.{Told, MayHold}
use Rattle.command_words.specs.Call.{Call}
use Rattle.file_loads.specs.Networks.{IsOpenNetwork}
use Rattle.vericon_app.specs.Calls.{file_name, level_of, size_of}
use Rattle.vericon_app.specs.Verified.{IsVerified}
use Rattle.vericon_run.specs.Runs.{HasBegun}
use Rattle.vericon_run.specs.Words.{room_of}

-- By what is told of two files: the bytes of the one spell a program that is decided with a yes, and so holds its invariants in every network and every
-- run; those of the other are a network over which sessions are served, and which meets the program's topology invariants.
pub record IsAccepted (size most : ℕ) (told_program told_network : Told) : Type 0 where
  pub verified : IsVerified most told_program
  pub proofs : List Proof
  pub decided : IsYes verified.program size most verified.level proofs
  pub bytes : List ℕ
  pub told_bytes : MayHold told_network bytes
  pub network : Network
  pub reads : IsOpenNetwork verified.program bytes network
  pub topology : IsTopology verified.program network

-- a call that was accepted, by what is told of each name
pub record IsAcceptedCall (asked : Option Call) (told : List ℕ → Told) : Type 0 where
  pub call : Call
  pub asked_is : asked ≡ Some call
  pub accepted : IsAccepted (size_of call) (level_of call) (told (file_name call 0)) (told (file_name call 1))

-- .. and a runtime of its program and network, with the room that it asks for
pub record IsOfAccepted (asked : Option Call) (told : List ℕ → Told) (r : Running) : Type 0 where
  pub by : IsAcceptedCall asked told
  pub runtime : r ≡ running by.accepted.verified.program by.accepted.network (room_of by.call) r.history

-- the runtime is that of an accepted call; where there is none, the listener is as it was
abbrev pub HandsBack : {L : Type 0} → Option Call → (List ℕ → Told) → Option Running → L → L → Type 0
HandsBack asked told None before after = after ≡ before
HandsBack asked told (Some r) before after = IsOfAccepted asked told r

-- a call was accepted, and its yes was printed
pub record HasSaidYes (asked : Option Call) (told : List ℕ → Told) (old new : Option (List ℕ)) : Type 0 where
  pub by : IsAcceptedCall asked told
  pub begun : HasBegun (yes_text by.accepted.verified.level) old new
