-- Replies name elements of the network.
use Rattle.std.proofs.Common.{◌≡◌, ◌∙◌, ◌≤◌, ap, sym, refl, subst, ℕ, zero, suc, ◌<◌, ◌==◌, Bool, true, false, ◌&&◌, if◌then◌else◌, List, [], ◌∷◌, ◌++◌, length, All, Contains, map, filter, is_some, cond, arith}
use Rattle.std.proofs.lemmas.Bool.{and_parts}
use Rattle.std.proofs.lemmas.List.Elements.{All-append, All-filter, All-map, All-nil, All-contains_itself, Contains-get_or}
use Rattle.std.proofs.lemmas.Map.Views.{All-insert_key}
use Rattle.std.specs.BTreeSet.{insert_key}
use Rattle.std.specs.List.{flat_map}
use Rattle.csdn_core.specs.declared.event.Event.TheVariants.{PktIn}
use Rattle.csdn_core.specs.declared.event.Match.{Match}
use Rattle.csdn_core.specs.declared.program.Parts.{Parts}
use Rattle.csdn_core.specs.Network.{Network, State, IsNetwork}
use Rattle.csdn_core.specs.WellSorted.{IsWellSorted}
use Rattle.csdn_history.specs.declared.entry.Entry.{Entry}
use Rattle.csdn_history.specs.declared.entry.Entry.TheVariants.{Join, Packet, Expire}
use Rattle.net_structs.specs.Networks.{has, in_order, put_in_order}
use Rattle.net_structs.proofs.Accepted.{there}
use Rattle.csdn_step.specs.declared.setting.Sending.TheVariants.{Kept}
use Rattle.csdn_step.specs.Courses.{sends}
use Rattle.csdn_step.specs.OfNetwork.{IsMatchOf, IsOutOf, TellsElements}
use Rattle.csdn_step.proofs.Telling.{fired_tells}
use Rattle.csdn_run.specs.OfNetwork.{IsRuleOf, IsReplyOf}
use Rattle.csdn_run.specs.Places.{match_cmp}
use Rattle.csdn_run.specs.Replies.{has_rule, joined, matches_at, reply_in, rule, cookie_for, idle_for}
use Rattle.csdn_run.specs.Standings.{Standing, is_declared, is_packet_of, marked, done}

filter_short : (p : ℕ → Bool) (xs : List ℕ) → length (filter p xs) ≤ length xs
filter_short p [] = omega arith
filter_short p (x ∷ xs) = by (filter_short p xs) (p x)
  where
    by : length (filter p xs) ≤ length xs → (b : Bool) → length (cond b (x ∷ filter p xs) (filter p xs)) ≤ suc (length xs)
    by short true = omega (arith, short)
    by short false = omega (arith, short)

All-each : {X Y : Type 0} (P : Y → Type 0) (f : X → List Y) (xs : List X) → ((x : X) → Contains xs x → All P (f x)) → All P (flat_map f xs)
All-each P f [] h = All-nil P
All-each P f (x ∷ xs) h = All-append P (f x) (flat_map f xs) (h x (zero, omega arith, refl)) (All-each P f xs (λ y in_xs. h y (suc in_xs.0, omega (arith, in_xs.1), in_xs.2)))

All-every : {X Y : Type 0} (P : Y → Type 0) (f : X → Y) (xs : List X) → ((x : X) → Contains xs x → P (f x)) → All P (map f xs)
All-every P f xs h = All-map P f xs (λ k d within. h _ (Contains-get_or xs k d within))

All-ordered : (P : Match → Type 0) (done ms : List Match) → All P done → All P ms → All P (put_in_order match_cmp done ms)
All-ordered P done [] first all = first
All-ordered P done (m ∷ ms) first all =
    All-ordered P (insert_key match_cmp done m) ms (All-insert_key match_cmp m P done first (all zero m (omega arith))) (λ k d within. all (suc k) d (omega (arith, within)))

module _ (P : Parts) (N : Network) where
  rule_is_of : (w : Standing) (m : Match) → IsMatchOf N m → IsRuleOf N (rule P N w m)
  rule_is_of w m of = record {
    key = of;
    ports = All-filter (sends w.state m) (Contains N.ports) N.ports (All-contains_itself N.ports);
    few = filter_short (sends w.state m) N.ports;
  }

  rules_are_of : (w : Standing) (ms : List Match) → All (IsMatchOf N) ms → All (IsRuleOf N) (map (rule P N w) ms)
  rules_are_of w ms all = All-map (IsRuleOf N) (rule P N w) ms (λ k d within. rule_is_of w _ (all k d within))

  matches_are_of : (s : ℕ) → Contains N.switches s → All (IsMatchOf N) (matches_at N s)
  matches_are_of s in_s =
      All-each (IsMatchOf N) (λ a. flat_map (λ b. map (λ i. record { s = s; a = a; b = b; i = i }) N.ports) N.hosts) N.hosts
      (λ a in_a. All-each (IsMatchOf N) (λ b. map (λ i. record { s = s; a = a; b = b; i = i }) N.ports) N.hosts
      (λ b in_b. All-every (IsMatchOf N) (λ i. record { s = s; a = a; b = b; i = i }) N.ports
      (λ i in_i. record { switch = in_s; source = in_a; target = in_b; ingress = in_i })))

  joined_are_of : (x : State) (s : ℕ) → Contains N.switches s → All (IsMatchOf N) (joined N x s)
  joined_are_of x s in_s = All-ordered (IsMatchOf N) [] _ (All-nil (IsMatchOf N)) (All-filter (has_rule N x) (IsMatchOf N) (matches_at N s) (matches_are_of s in_s))

  -- the reply to an entry that is declared
  pub reply_is_of : IsWellSorted P → IsNetwork P N → (w : Standing) (entry : Entry) → is_declared P N entry ≡ true → IsReplyOf N (reply_in P N w entry)
  unfolding reply_in
  reply_is_of sorted network w (Join seat session s) declared = record {
    rules = rules_are_of w (joined N w.state s) (joined_are_of w.state s (there N.switches s declared));
    outs = All-nil (IsOutOf N);
  }
  reply_is_of sorted network w (Packet seat session s a b i) declared =
      let tells = fired_tells P N network Kept sorted (PktIn s a b i) w.state declared in
      record {
        rules = rules_are_of (marked w (done P N w (Packet seat session s a b i))) (done P N w (Packet seat session s a b i)).changed tells.changed;
        outs = tells.outs;
      }
  reply_is_of sorted network w (Expire seat session s a b i cookie) declared = record {
    rules = All-nil (IsRuleOf N);
    outs = All-nil (IsOutOf N);
  }
