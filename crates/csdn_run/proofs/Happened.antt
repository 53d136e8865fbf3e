-- A history is a run of the events that its entries are, `sent` left out.
use Rattle.std.proofs.Common.{◌≡◌, ◌∙◌, ap, sym, refl, subst, ℕ, ◌==◌, Bool, true, false, ◌&&◌, if◌then◌else◌, List, [], ◌∷◌, ◌++◌, fold, is_some, Some}
use Rattle.std.proofs.lemmas.Bool.{and_parts}
use Rattle.std.proofs.Math.Path.{fun_ext}
use Rattle.csdn_core.specs.declared.event.Event.{Event}
use Rattle.csdn_core.specs.declared.event.Event.TheVariants.{PktIn, Expire as Expiring}
use Rattle.csdn_core.specs.declared.event.Match.{Match}
use Rattle.csdn_core.specs.declared.program.Handler.{Handler}
use Rattle.csdn_core.specs.declared.program.Parts.{Parts}
use Rattle.csdn_core.specs.declared.terms.Pred.{Pred}
use Rattle.csdn_core.specs.declared.terms.Pred.TheVariants.{Stored, Ft, Sent, RcvThis}
use Rattle.csdn_core.specs.Execution.{take_out_match}
use Rattle.csdn_core.specs.Network.{Network, State}
use Rattle.csdn_core.specs.Run.{Run, Step, empty_state, first_fit, initial}
use Rattle.csdn_core.specs.WellSorted.{IsHandler, IsWellSorted, signature}
use Rattle.csdn_history.specs.declared.entry.Entry.{Entry}
use Rattle.csdn_history.specs.declared.entry.Entry.TheVariants.{Join, Packet, Expire}
use Rattle.csdn_step.specs.declared.setting.Sending.TheVariants.{Kept, Left}
use Rattle.csdn_step.specs.Answers.{is_enabled}
use Rattle.csdn_step.specs.Courses.{Course, fired, from_state, handled, quieted, with_sent_of}
use Rattle.csdn_step.proofs.Quiet.{handled-left, quiet}
use Rattle.csdn_step.proofs.Room.{of_fit}
use Rattle.csdn_step.proofs.Steps.{steps}
use Rattle.csdn_run.specs.Happenings.{IsRunTo, event_of, events, without_sent}
use Rattle.csdn_run.specs.Standings.{Standing, after, done, ended, ended_now, entered, is_declared, is_packet_of, opening, taken}

append_runs : (P : Parts) (N : Network) (es fs : List Event) (x y z : State) → Run P N x es y → Run P N y fs z → Run P N x (es ++ fs) z
append_runs P N [] fs x y z first second = subst (λ (w : State). Run P N w fs z) first second
append_runs P N (e ∷ es) fs x y z (w, step, first) second = (w, step, append_runs P N es fs w y z first second)

start_is : (P : Parts) (N : Network) → initial P N ≡ without_sent (initial P N)
start_is P N = fun_ext (λ q. fun_ext (λ cells. at q cells))
  where
    at : (q : Pred) (cells : List ℕ) → initial P N q cells ≡ without_sent (initial P N) q cells
    at (Stored r) cells = refl
    at Ft cells = refl
    at Sent cells = refl
    at RcvThis cells = refl

ended_without : (y : State) (cells : List ℕ) → take_out_match (without_sent y) cells ≡ without_sent (take_out_match y cells)
ended_without y cells = fun_ext (λ q. fun_ext (λ ds. at q ds))
  where
    at : (q : Pred) (ds : List ℕ) → take_out_match (without_sent y) cells q ds ≡ without_sent (take_out_match y cells) q ds
    at (Stored r) ds = refl
    at Ft ds = refl
    at Sent ds = refl
    at RcvThis ds = refl

twice_left : (x y : State) → with_sent_of (without_sent x) y ≡ without_sent y
twice_left x y = fun_ext (λ q. fun_ext (λ ds. at q ds))
  where
    at : (q : Pred) (ds : List ℕ) → with_sent_of (without_sent x) y q ds ≡ without_sent y q ds
    at (Stored r) ds = refl
    at Ft ds = refl
    at Sent ds = refl
    at RcvThis ds = refl

module _ (P : Parts) (N : Network) (sorted : IsWellSorted P) where
  -- a packet does the same in a state without `sent`
  packet_without : (y : State) (s a b i : ℕ) → with_sent_of (without_sent y) (fired P N Kept (PktIn s a b i) (from_state (without_sent y))).state ≡ without_sent (fired P N Kept (PktIn s a b i) (from_state y)).state
  packet_without y s a b i =
      sym (ap (λ (w : Course). w.state) (quiet P N (without_sent y) sorted s a b i))
      ∙ ap (λ (w : Course). w.state) (handled-left P N empty_state (first_fit P.handlers i) (λ g is. of_fit (IsHandler (signature P)) P.handlers i g sorted.handlers is) s a b i (from_state y))

  -- the state after a declared entry is that of a run of its event

  abbrev Goes : Standing → State → Entry → Type 0
  Goes w y entry = IsRunTo P N y (event_of P N w entry) (done P N w entry).state

  expire_goes : (w : Standing) (y : State) (s a b i cookie : ℕ) → w.state ≡ without_sent y → (is_packet_of N s a b i && is_some P.timeout) ≡ true → (t u : Bool)
      → is_enabled P N w.state (Expiring s a b i) ≡ u
      → IsRunTo P N y (if t then (if u then Expiring s a b i ∷ [] else []) else []) (if t then (if u then fired P N Kept (Expiring s a b i) (from_state w.state) else from_state w.state) else from_state w.state).state
  expire_goes w y s a b i cookie same declared true true enabled =
      let known = (and_parts (is_packet_of N s a b i) (is_some P.timeout) declared).0 in
      let enabled_there : is_enabled P N y (Expiring s a b i) ≡ true = sym (ap (λ (x : State). is_enabled P N x (Expiring s a b i)) same) ∙ enabled in
      let next : State = (fired P N Kept (Expiring s a b i) (from_state y)).state in
      record {
        last = next;
        run = (next, steps P N (Expiring s a b i) y known enabled_there, refl);
        state = ap (λ (x : State). take_out_match x (s ∷ a ∷ b ∷ i ∷ [])) same ∙ ended_without y (s ∷ a ∷ b ∷ i ∷ []);
      }
  expire_goes w y s a b i cookie same declared true false enabled = record { last = y; run = refl; state = same }
  expire_goes w y s a b i cookie same declared false u enabled = record { last = y; run = refl; state = same }

  goes : (w : Standing) (y : State) (entry : Entry) → w.state ≡ without_sent y → is_declared P N entry ≡ true → Goes w y entry
  goes w y (Join seat session s) same declared = record { last = y; run = refl; state = same }
  goes w y (Packet seat session s a b i) same declared =
      let next : State = (fired P N Kept (PktIn s a b i) (from_state y)).state in
      record {
        last = next;
        run = (next, steps P N (PktIn s a b i) y declared refl, refl);
        state = ap (λ (x : State). with_sent_of x (fired P N Kept (PktIn s a b i) (from_state x)).state) same ∙ packet_without y s a b i;
      }
  goes w y (Expire seat session s a b i cookie) same declared =
      expire_goes w y s a b i cookie same declared (w.marks (record { s = s; a = a; b = b; i = i }) == cookie) (is_enabled P N w.state (Expiring s a b i)) refl

  entered_state : (w : Standing) (entry : Entry) → (entered P N w entry).state ≡ (done P N w entry).state
  unfolding entered
  entered_state w entry = refl

  one_taken : (w : Standing) (y : State) (entry : Entry) → w.state ≡ without_sent y → (b : Bool) → is_declared P N entry ≡ b
      → IsRunTo P N y (if b then event_of P N w entry else []) (if b then entered P N w entry else w).state
  one_taken w y entry same true declared =
      let h = goes w y entry same declared in
      record { last = h.last; run = h.run; state = entered_state w entry ∙ h.state }
  one_taken w y entry same false declared = record { last = y; run = refl; state = same }

  all_taken : (w : Standing) (y : State) (entries : List Entry) → w.state ≡ without_sent y → IsRunTo P N y (events P N w entries) (fold (taken P N) w entries).state
  all_taken w y [] same = record { last = y; run = refl; state = same }
  all_taken w y (entry ∷ entries) same =
      let first = one_taken w y entry same (is_declared P N entry) refl in
      let others = all_taken (taken P N w entry) first.last entries first.state in
      record {
        last = others.last;
        run = append_runs P N (if is_declared P N entry then event_of P N w entry else []) (events P N (taken P N w entry) entries) y first.last others.last first.run others.run;
        state = others.state;
      }

  pub history_runs : (entries : List Entry) → IsRunTo P N (initial P N) (events P N (opening P N) entries) (after P N entries).state
  history_runs entries = all_taken (opening P N) (initial P N) entries (start_is P N)
