-- How far a session has come.
use Rattle.std.specs.Prelude.{ℕ, ◌≡◌, ◌+◌, ◌%◌, ◌^◌}
use Rattle.of10_session.specs.declared.session.Phase.{Phase}
use Rattle.of10_session.specs.declared.session.Phase.TheVariants.{New, Greet, Features, Serving}
use Rattle.of10_session.specs.declared.session.Pending.{Pending}
use Rattle.of10_session.specs.declared.session.Pending.TheVariants.{Nothing}

pub record Progress : Type 0 where
  pub number : ℕ
  pub phase : Phase
  -- the number of the next message that is sent
  pub xid : ℕ
  -- how many messages were ignored
  pub ignored : ℕ
  -- the switch
  pub datapath : ℕ
  -- the ask that waits for its answer
  pub pending : Pending

abbrev pub fresh : ℕ → Progress
fresh number = record { number = number; phase = New; xid = 1; ignored = 0; datapath = 0; pending = Nothing }

abbrev pub in_phase : Progress → Phase → Progress
in_phase s p = record { number = s.number; phase = p; xid = s.xid; ignored = s.ignored; datapath = s.datapath; pending = s.pending }

abbrev pub with_xid : Progress → ℕ → Progress
with_xid s x = record { number = s.number; phase = s.phase; xid = x; ignored = s.ignored; datapath = s.datapath; pending = s.pending }

abbrev pub with_pending : Progress → Pending → Progress
with_pending s p = record { number = s.number; phase = s.phase; xid = s.xid; ignored = s.ignored; datapath = s.datapath; pending = p }

abbrev pub of_switch : Progress → ℕ → Progress
of_switch s d = record { number = s.number; phase = s.phase; xid = s.xid; ignored = s.ignored; datapath = d; pending = s.pending }

-- one more message is ignored
abbrev pub ignoring : Progress → Progress
ignoring s = record { number = s.number; phase = s.phase; xid = s.xid; ignored = s.ignored + 1; datapath = s.datapath; pending = s.pending }

-- after 4,294,967,295 comes 0
abbrev pub next_xid : ℕ → ℕ
next_xid x = (x + 1) % 2 ^ 32

-- the next number is used
abbrev pub drawn : Progress → Progress
drawn s = with_xid s (next_xid s.xid)

-- a session takes messages
abbrev pub IsTalking : Phase → Type 0
IsTalking Greet = Unit {0}
IsTalking Features = Unit {0}
IsTalking Serving = Unit {0}
IsTalking p = ⊥

-- .. and waits for no answer
pub record IsListening (s : Progress) : Type 0 where
  pub talks : IsTalking s.phase
  pub free : s.pending ≡ Nothing
