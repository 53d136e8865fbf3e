-- What an event is told to have done is of the network.
use Rattle.std.proofs.Common.{◌≡◌, refl, ℕ, zero, suc, Bool, true, false, if◌then◌else◌, List, [], ◌∷◌, ◌++◌, All, Contains, Option, Some, None, arith}
use Rattle.std.proofs.lemmas.Bool.{and_parts}
use Rattle.std.proofs.lemmas.List.Elements.{All-append, All-filter, All-nil}
use Rattle.std.specs.List.{list_any}
use Rattle.csdn_core.specs.declared.event.Event.{Event}
use Rattle.csdn_core.specs.declared.event.Event.TheVariants.{PktIn, PktFlow, Expire}
use Rattle.csdn_core.specs.declared.event.Match.{Match}
use Rattle.csdn_core.specs.declared.event.Out.{Out}
use Rattle.csdn_core.specs.declared.event.Out.TheVariants.{Port, Flood as Flooding}
use Rattle.csdn_core.specs.declared.program.Parts.{Parts}
use Rattle.csdn_core.specs.declared.program.Handler.{Handler}
use Rattle.csdn_core.specs.declared.syntax.Command.{Command}
use Rattle.csdn_core.specs.declared.syntax.Command.TheVariants as c
use Rattle.csdn_core.specs.Tree.{sequence, conditional, choice}
use Rattle.csdn_core.specs.Truth.{Assignment, with_var}
use Rattle.csdn_core.specs.Network.{Network, State, elements, HaveElements, IsNetwork}
use Rattle.csdn_core.specs.Execution.{is_true, tuple}
use Rattle.csdn_core.specs.Run.{first_fit, for_packet}
use Rattle.csdn_core.specs.Sorted.{flow_sorts}
use Rattle.csdn_core.specs.SortedIn.{Scope, with_sort, scope_of}
use Rattle.csdn_core.specs.WellSorted.{IsCommand, IsWellSorted, OwnPacket, signature, own_packet, handler_binds}
use Rattle.net_structs.specs.Networks.{has}
use Rattle.net_structs.proofs.Accepted.{there}
use Rattle.csdn_step.specs.declared.setting.Sending.{Sending}
use Rattle.csdn_step.specs.Answers.{is_of_network}
use Rattle.csdn_step.specs.Least.{least}
use Rattle.csdn_step.specs.Courses.{Course, executed, chosen, handled, fired, from_state, with_one, same_match, same_out, with_match, with_port, differs}
use Rattle.csdn_step.specs.OfNetwork.{IsMatchOf, IsOutOf, TellsElements}
use Rattle.csdn_step.proofs.Steps.{IsFound, least_found}
use Rattle.csdn_step.proofs.Elements.{HasElements, has_more, has_packet, handler_is, terms_there}

one_all : {X : Type 0} (P : X → Type 0) (x : X) → P x → All P (x ∷ [])
one_all P x holds zero d within = holds
one_all P x holds (suc k) d within = absurd (omega (arith, within))

one_more : {X : Type 0} (P : X → Type 0) (same : X → X → Bool) (xs : List X) (x : X) → All P xs → P x → All P (with_one same xs x)
one_more P same xs x all holds = by_test (list_any (same x) xs)
  where
    by_test : (t : Bool) → All P (if t then xs else xs ++ x ∷ [])
    by_test true = all
    by_test false = All-append P xs (x ∷ []) all (one_all P x holds)

module _ (N : Network) where
  match_told : (matches : List Match) (cells : List ℕ) → All (IsMatchOf N) matches → HaveElements N flow_sorts cells → All (IsMatchOf N) (with_match matches cells)
  unfolding HaveElements
  match_told matches [] all there = all
  match_told matches (s ∷ []) all there = all
  match_told matches (s ∷ a ∷ []) all there = all
  match_told matches (s ∷ a ∷ b ∷ []) all there = all
  match_told matches (s ∷ a ∷ b ∷ i ∷ []) all there = all
  match_told matches (s ∷ a ∷ b ∷ i ∷ o ∷ []) all there =
      one_more (IsMatchOf N) same_match matches (record { s = s; a = a; b = b; i = i }) all
      (record { switch = there.0; source = there.1.0; target = there.1.1.0; ingress = there.1.1.1.0 })
  match_told matches (s ∷ a ∷ b ∷ i ∷ o ∷ n ∷ more) all there = all

  port_told : (outs : List Out) (cells : List ℕ) → All (IsOutOf N) outs → HaveElements N flow_sorts cells → All (IsOutOf N) (with_port outs cells)
  unfolding HaveElements
  port_told outs [] all there = all
  port_told outs (s ∷ []) all there = all
  port_told outs (s ∷ a ∷ []) all there = all
  port_told outs (s ∷ a ∷ b ∷ []) all there = all
  port_told outs (s ∷ a ∷ b ∷ i ∷ []) all there = all
  port_told outs (s ∷ a ∷ b ∷ i ∷ o ∷ []) all there = one_more (IsOutOf N) same_out outs (Port o) all there.1.1.1.1.0
  port_told outs (s ∷ a ∷ b ∷ i ∷ o ∷ n ∷ more) all there = all

  either_told : (t : Bool) (xs ys : List Match) → All (IsMatchOf N) xs → All (IsMatchOf N) ys → All (IsMatchOf N) (if t then xs else ys)
  either_told true xs ys in_xs in_ys = in_xs
  either_told false xs ys in_xs in_ys = in_ys

  if_told : (t : Bool) (x y : Course) → TellsElements N x → TellsElements N y → TellsElements N (if t then x else y)
  if_told true x y in_x in_y = in_x
  if_told false x y in_x in_y = in_y

  pick_told : (m_of : Option ℕ) (test : ℕ → Bool) (ms : List ℕ) → least test ms ≡ m_of → (x : ℕ → Course) (y : Course) → ((m : ℕ) → Contains ms m → TellsElements N (x m)) → TellsElements N y → TellsElements N (chosen m_of x y)
  pick_told (Some m) test ms is x y in_x in_y = let one : IsFound test ms m = least_found test ms m is in in_x m one.0
  pick_told None test ms is x y in_x in_y = in_y

  pub nothing_told : (x : State) → TellsElements N (from_state x)
  nothing_told x = record { changed = All-nil (IsMatchOf N); outs = All-nil (IsOutOf N) }

module _ (P : Parts) (N : Network) (network : IsNetwork P N) (sending : Sending) where
  executed_tells : (k : Command) (own : OwnPacket) (Γ : Scope) (e : Assignment) (w : Course) → HasElements N Γ e → IsCommand (signature P) own Γ k → TellsElements N w → TellsElements N (executed P N sending k e w)
  unfolding executed IsCommand
  executed_tells c.Skip own Γ e w has sorted told = told
  executed_tells (sequence a b) own Γ e w has sorted told =
      executed_tells b own Γ e (executed P N sending a e w) has sorted.1
      (executed_tells a own Γ e w has sorted.0 told)
  executed_tells (conditional p a b) own Γ e w has sorted told =
      if_told N (is_true P N p e w.state) (executed P N sending a e w) (executed P N sending b e w)
      (executed_tells a own Γ e w has sorted.1 told)
      (executed_tells b own Γ e w has sorted.2 told)
  executed_tells (choice v s p a b) own Γ e w has sorted told =
      pick_told N (least (λ m. is_true P N p (with_var e v m) w.state) (elements N s)) (λ m. is_true P N p (with_var e v m) w.state) (elements N s) refl
      (λ m. executed P N sending a (with_var e v m) w) (executed P N sending b e w)
      (λ m there. executed_tells a own (with_sort Γ v s) (with_var e v m) w (has_more N Γ e v s m there has) sorted.1 told)
      (executed_tells b own Γ e w has sorted.2 told)
  executed_tells (c.Insert r ts) own Γ e w has sorted told = record { changed = told.changed; outs = told.outs }
  executed_tells (c.Remove r ts) own Γ e w has sorted told = record { changed = told.changed; outs = told.outs }
  executed_tells (c.Install ts) own Γ e w has sorted told = record {
    changed =
        let cells = tuple P N ts e w.state in
        either_told N _ w.changed (with_match w.changed cells) told.changed (match_told N w.changed cells told.changed (terms_there P N network Γ e w.state has flow_sorts ts sorted.terms));
    outs = told.outs;
  }
  executed_tells (c.Uninstall ts) own Γ e w has sorted told = record {
    changed =
        let cells = tuple P N ts e w.state in
        either_told N _ (with_match w.changed cells) w.changed (match_told N w.changed cells told.changed (terms_there P N network Γ e w.state has flow_sorts ts sorted.terms)) told.changed;
    outs = told.outs;
  }
  executed_tells (c.Forward ts) own Γ e w has sorted told = record {
    changed = told.changed;
    outs = port_told N w.outs (tuple P N ts e w.state) told.outs (terms_there P N network Γ e w.state has flow_sorts ts sorted.terms);
  }
  executed_tells (c.Flood ts) own Γ e w has sorted told = record {
    changed = told.changed;
    outs = one_more (IsOutOf N) same_out w.outs Flooding told.outs tt;
  }

  module _ (sorted : IsWellSorted P) where
    handled_tells : (s a b i : ℕ) → Contains N.switches s → Contains N.hosts a → Contains N.hosts b → Contains N.ports i → (w : Course) (o : Option Handler) → first_fit P.handlers i ≡ o → TellsElements N w → TellsElements N (handled P N sending o s a b i w)
    handled_tells s a b i in_s in_a in_b in_i w None fit told = told
    handled_tells s a b i in_s in_a in_b in_i w (Some h) fit told =
        executed_tells h.body (own_packet h) (scope_of (handler_binds h)) (for_packet h s a b i) w
        (has_packet N h s a b i in_s in_a in_b in_i) (handler_is P sorted i h fit) told

    pub fired_tells : (event : Event) (x : State) → is_of_network N event ≡ true → TellsElements N (fired P N sending event (from_state x))
    fired_tells (PktIn s a b i) x known =
        let at_s = and_parts (has N.switches s) _ known in
        let at_a = and_parts (has N.hosts a) _ at_s.1 in
        let at_b = and_parts (has N.hosts b) (has N.ports i) at_a.1 in
        let w = handled P N sending (first_fit P.handlers i) s a b i (from_state x) in
        let told = handled_tells s a b i (there N.switches s at_s.0) (there N.hosts a at_a.0) (there N.hosts b at_b.0) (there N.ports i at_b.1) (from_state x) (first_fit P.handlers i) refl (nothing_told N x) in
        record { changed = All-filter (λ m. differs N.ports x w.state m) (IsMatchOf N) w.changed told.changed; outs = told.outs }
    fired_tells (PktFlow s a b i o) x known = record { changed = All-nil (IsMatchOf N); outs = All-nil (IsOutOf N) }
    fired_tells (Expire s a b i) x known =
        let at_s = and_parts (has N.switches s) _ known in
        let at_a = and_parts (has N.hosts a) _ at_s.1 in
        let at_b = and_parts (has N.hosts b) (has N.ports i) at_a.1 in
        record {
          changed = one_all (IsMatchOf N) (record { s = s; a = a; b = b; i = i }) (record { switch = there N.switches s at_s.0; source = there N.hosts a at_a.0; target = there N.hosts b at_b.0; ingress = there N.ports i at_b.1 });
          outs = All-nil (IsOutOf N);
        }
