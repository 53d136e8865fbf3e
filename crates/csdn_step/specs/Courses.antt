-- What an execution comes to that takes the least element at each `pick`, with what it is counted to have done.
use Rattle.std.specs.Prelude.{ℕ, ◌==◌, Bool, true, false, not, ◌&&◌, if◌then◌else◌, filter, List, [], ◌∷◌, ◌++◌, Option, Some, None}
use Rattle.std.specs.List.{list_any}
use Rattle.csdn_core.specs.declared.terms.Sort.TheVariants.{Pr}
use Rattle.csdn_core.specs.declared.terms.Pred.TheVariants.{Stored, Ft, Sent, RcvThis}
use Rattle.csdn_core.specs.declared.event.Event.{Event}
use Rattle.csdn_core.specs.declared.event.Event.TheVariants.{PktIn, PktFlow, Expire}
use Rattle.csdn_core.specs.declared.event.Match.{Match}
use Rattle.csdn_core.specs.declared.event.Out.{Out}
use Rattle.csdn_core.specs.declared.event.Out.TheVariants.{Port, Flood as Flooding}
use Rattle.csdn_core.specs.declared.event.Tally.{Tally}
use Rattle.csdn_core.specs.declared.program.Parts.{Parts}
use Rattle.csdn_core.specs.declared.program.Handler.{Handler}
use Rattle.csdn_core.specs.declared.syntax.Command.{Command}
use Rattle.csdn_core.specs.declared.syntax.Command.TheVariants.{Skip, Insert, Remove, Install, Uninstall, Forward, Flood}
use Rattle.csdn_core.specs.Tree.{sequence, conditional, choice}
use Rattle.csdn_core.specs.Truth.{Assignment, with_var}
use Rattle.csdn_core.specs.Network.{Network, State, elements}
use Rattle.csdn_core.specs.Execution.{put, take_out, take_out_match, flooded, is_true, tuple}
use Rattle.csdn_core.specs.Run.{first_fit, for_packet}
use Rattle.net_structs.specs.declared.row.Row.{Row}
use Rattle.net_structs.specs.Rows.{held}
use Rattle.csdn_step.specs.declared.draft.StateDraft.{StateDraft}
use Rattle.csdn_step.specs.declared.setting.Sending.{Sending}
use Rattle.csdn_step.specs.declared.setting.Sending.TheVariants.{Kept, Left}
use Rattle.csdn_step.specs.Drafts.{standing}
use Rattle.csdn_step.specs.Least.{least}

-- a state, and what was done on the way to it
pub record Course : Type 0 where
  pub state : State
  -- the matches whose outputs were changed, in the order of the first command that changed them
  pub changed : List Match
  -- the forwards and floods in the order of the commands, each once at its first place
  pub outs : List Out

-- the list with one more behind it, unless it is there
abbrev pub with_one : {X : Type 0} → (X → X → Bool) → List X → X → List X
with_one same xs x = if list_any (same x) xs then xs else xs ++ x ∷ []

abbrev pub same_match : Match → Match → Bool
same_match m n = (m.s == n.s) && ((m.a == n.a) && ((m.b == n.b) && (m.i == n.i)))

abbrev pub same_out : Out → Out → Bool
same_out (Port o) (Port p) = o == p
same_out Flooding Flooding = true
same_out _ _ = false

-- the match of a tuple of `ft`, listed
abbrev pub with_match : List Match → List ℕ → List Match
with_match matches (s ∷ a ∷ b ∷ i ∷ o ∷ []) = with_one same_match matches (record { s = s; a = a; b = b; i = i })
with_match matches _ = matches

-- the egress port of a tuple of `sent`, listed
abbrev pub with_port : List Out → List ℕ → List Out
with_port outs (s ∷ a ∷ b ∷ i ∷ o ∷ []) = with_one same_out outs (Port o)
with_port outs _ = outs

-- whether what is sent is kept in the state
abbrev pub sent_to : Sending → State → State → State
sent_to Kept x y = y
sent_to Left x y = x

-- a match has a new output where the tuple is not in `ft` before
abbrev pub installed : Course → List ℕ → Course
installed w cells = record {
  state = put w.state Ft cells;
  changed = if w.state Ft cells then w.changed else with_match w.changed cells;
  outs = w.outs;
}

-- a match loses an output where the tuple is in `ft` before
abbrev pub uninstalled : Course → List ℕ → Course
uninstalled w cells = record {
  state = take_out w.state Ft cells;
  changed = if w.state Ft cells then with_match w.changed cells else w.changed;
  outs = w.outs;
}

abbrev pub forwarded : Sending → Course → List ℕ → Course
forwarded sending w cells = record {
  state = sent_to sending w.state (put w.state Sent cells);
  changed = w.changed;
  outs = with_port w.outs cells;
}

abbrev pub flooded_on : Sending → List ℕ → Course → List ℕ → Course
flooded_on sending ports w cells = record {
  state = sent_to sending w.state (flooded w.state ports cells);
  changed = w.changed;
  outs = with_one same_out w.outs Flooding;
}

abbrev pub with_state : Course → State → Course
with_state w x = record { state = x; changed = w.changed; outs = w.outs }

-- whether a flow rule of the match sends from the port
abbrev pub sends : State → Match → ℕ → Bool
sends x m o = x Ft (m.s ∷ m.a ∷ m.b ∷ m.i ∷ o ∷ [])

-- one of the two alone
abbrev pub either_alone : Bool → Bool → Bool
either_alone a b = if a then not b else b

-- whether the match has another set of outputs, among these ports, in one state than in the other
abbrev pub differs : List ℕ → State → State → Match → Bool
differs ports x y m = list_any (λ o. either_alone (sends x m o) (sends y m o)) ports

-- what was done since a state: of the matches that were changed, those whose outputs differ from before
abbrev pub settled : List ℕ → State → Course → Course
settled ports x w = record { state = w.state; changed = filter (λ m. differs ports x w.state m) w.changed; outs = w.outs }

-- all flow rules of a match have ended
abbrev pub expired : Course → Match → Course
expired w m = record { state = take_out_match w.state (m.s ∷ m.a ∷ m.b ∷ m.i ∷ []); changed = m ∷ []; outs = w.outs }

-- what follows from an element, or where there is none
abbrev pub chosen : {X : Type 0} → Option ℕ → (ℕ → X) → X → X
chosen (Some m) with_it without = with_it m
chosen None with_it without = without

module _ (P : Parts) (N : Network) (sending : Sending) where
  unfoldable pub executed : Command → Assignment → Course → Course
  executed Skip e w = w
  executed (sequence a b) e w = executed b e (executed a e w)
  executed (conditional p a b) e w = if is_true P N p e w.state then executed a e w else executed b e w
  executed (choice v s p a b) e w =
      chosen (least (λ m. is_true P N p (with_var e v m) w.state) (elements N s)) (λ m. executed a (with_var e v m) w) (executed b e w)
  executed (Insert r ts) e w = with_state w (put w.state (Stored r) (tuple P N ts e w.state))
  executed (Remove r ts) e w = with_state w (take_out w.state (Stored r) (tuple P N ts e w.state))
  executed (Install ts) e w = installed w (tuple P N ts e w.state)
  executed (Uninstall ts) e w = uninstalled w (tuple P N ts e w.state)
  executed (Forward ts) e w = forwarded sending w (tuple P N ts e w.state)
  executed (Flood ts) e w = flooded_on sending (elements N Pr) w (tuple P N ts e w.state)

  -- what the handler that fits does with a packet
  abbrev pub handled : Option Handler → ℕ → ℕ → ℕ → ℕ → Course → Course
  handled None s a b i w = w
  handled (Some h) s a b i w = executed h.body (for_packet h s a b i) w

  -- what an event does
  abbrev pub fired : Event → Course → Course
  fired (PktIn s a b i) w = settled N.ports w.state (handled (first_fit P.handlers i) s a b i w)
  fired (PktFlow s a b i o) w = with_state w (put w.state Sent (s ∷ a ∷ b ∷ i ∷ o ∷ []))
  fired (Expire s a b i) w = expired w (record { s = s; a = a; b = b; i = i })

-- nothing is done yet
abbrev pub from_state : State → Course
from_state x = record { state = x; changed = []; outs = [] }

-- what a state and a tally say
abbrev pub course : List Row → Tally → Course
course rows tally = record { state = held rows; changed = tally.changed; outs = tally.outs }

-- what a draft and a tally say
abbrev pub drafted : StateDraft → Tally → Course
drafted draft tally = record { state = standing draft; changed = tally.changed; outs = tally.outs }

-- the second state, but with what is in `sent` in the first
abbrev pub with_sent_of : State → State → State
with_sent_of x y (Stored r) cells = y (Stored r) cells
with_sent_of x y Ft cells = y Ft cells
with_sent_of x y Sent cells = x Sent cells
with_sent_of x y RcvThis cells = y RcvThis cells

-- the course, but with what is in `sent` in a state
abbrev pub quieted : State → Course → Course
quieted x w = with_state w (with_sent_of x w.state)
