-- The matches that are told as changed are those whose outputs are others than before.
use Rattle.std.proofs.Common.{◌≡◌, ◌∙◌, sym, ap, ap₂, refl, subst, ℕ, ◌<◌, ◌==◌, Bool, true, false, true≢false, not, ◌&&◌, ◌||◌, ◌⊎◌, inl, inr, cond, if◌then◌else◌, List, [], ◌∷◌, ◌++◌, Contains, IsTrue, Option, Some, None, arith}
use Rattle.std.specs.Prelude.{filter, ◌↔◌, is_some}
use Rattle.std.proofs.Math.Bool.{or-false, and-true}
use Rattle.std.proofs.lemmas.Bool.{and_parts, or_left, or_right, eqb-true}
use Rattle.std.proofs.lemmas.List.Elements.{All-contains, filter_passes}
use Rattle.std.proofs.lemmas.List.Folds.{list_any-append}
use Rattle.std.specs.List.{list_any}
use Rattle.general_facts.proofs.Numbers.{self_equal}
use Rattle.csdn_core.specs.declared.terms.Pred.TheVariants.{Stored, Ft, Sent}
use Rattle.csdn_core.specs.declared.event.Event.{Event}
use Rattle.csdn_core.specs.declared.event.Event.TheVariants.{PktIn, PktFlow, Expire}
use Rattle.csdn_core.specs.declared.event.Match.{Match}
use Rattle.csdn_core.specs.declared.event.Out.{Out}
use Rattle.csdn_core.specs.declared.event.Out.TheVariants.{Flood as Flooding}
use Rattle.csdn_core.specs.declared.program.Parts.{Parts}
use Rattle.csdn_core.specs.declared.program.Handler.{Handler}
use Rattle.csdn_core.specs.declared.syntax.Command.{Command}
use Rattle.csdn_core.specs.declared.syntax.Command.TheVariants as c
use Rattle.csdn_core.specs.Tree.{sequence, conditional, choice}
use Rattle.csdn_core.specs.Truth.{Assignment, with_var}
use Rattle.csdn_core.specs.Network.{Network, State, elements, same_cells}
use Rattle.csdn_core.specs.Execution.{put, take_out, take_out_match, flooded, is_true, tuple}
use Rattle.csdn_core.specs.Run.{first_fit, for_packet}
use Rattle.csdn_core.specs.Members.{IsIn}
use Rattle.csdn_core.proofs.Members.{contains_in, in_contains}
use Rattle.csdn_core.proofs.Same.{same_cells-is, same_cells-refl}
use Rattle.net_structs.specs.Flows.{match_cells}
use Rattle.csdn_step.specs.declared.setting.Sending.{Sending}
use Rattle.csdn_step.specs.declared.setting.Sending.TheVariants.{Kept, Left}
use Rattle.csdn_step.specs.Answers.{is_enabled}
use Rattle.csdn_step.specs.Least.{least}
use Rattle.csdn_step.specs.Courses.{Course, executed, chosen, handled, fired, from_state, with_one, same_match, same_out, with_match, with_port, sent_to, sends, either_alone, differs}
use Rattle.csdn_step.proofs.Outputs.{found, any_more}

abbrev flow : Match → ℕ → List ℕ
flow m o = m.s ∷ m.a ∷ m.b ∷ m.i ∷ o ∷ []

abbrev IsListed : Match → List Match → Type 0
IsListed m matches = list_any (same_match m) matches ≡ true

same_itself : (m : Match) → same_match m m ≡ true
same_itself m = rw (self_equal m.s, self_equal m.a, self_equal m.b, self_equal m.i) refl

-- a match that is listed stays so, and one that is put in is

one_listed : (m n : Match) (matches : List Match) (t : Bool) → list_any (same_match n) matches ≡ t → IsListed m matches → IsListed m (if t then matches else matches ++ n ∷ [])
one_listed m n matches true is listed = listed
one_listed m n matches false is listed = list_any-append (same_match m) matches (n ∷ []) ∙ or_left (list_any (same_match m) matches) (list_any (same_match m) (n ∷ [])) listed

still_listed : (m : Match) (matches : List Match) (cells : List ℕ) → IsListed m matches → IsListed m (with_match matches cells)
still_listed m matches [] listed = listed
still_listed m matches (s ∷ []) listed = listed
still_listed m matches (s ∷ a ∷ []) listed = listed
still_listed m matches (s ∷ a ∷ b ∷ []) listed = listed
still_listed m matches (s ∷ a ∷ b ∷ i ∷ []) listed = listed
still_listed m matches (s ∷ a ∷ b ∷ i ∷ o ∷ []) listed = one_listed m (record { s = s; a = a; b = b; i = i }) matches (list_any (same_match (record { s = s; a = a; b = b; i = i })) matches) refl listed
still_listed m matches (s ∷ a ∷ b ∷ i ∷ o ∷ n ∷ more) listed = listed

itself_listed : (m : Match) (matches : List Match) (t : Bool) → list_any (same_match m) matches ≡ t → IsListed m (if t then matches else matches ++ m ∷ [])
itself_listed m matches true is = is
itself_listed m matches false is = list_any-append (same_match m) matches (m ∷ []) ∙ or_right (list_any (same_match m) matches) (same_match m m || false) (or-false (same_match m m) ∙ same_itself m)

now_listed : (m : Match) (o : ℕ) (matches : List Match) → IsListed m (with_match matches (flow m o))
now_listed m o matches = itself_listed m matches (list_any (same_match m) matches) refl

module _ (x : State) where
  -- each output of a match is as in x, or the match is listed
  abbrev IsTold : Course → Type 0
  IsTold w = (m : Match) (o : ℕ) → (sends x m o ≡ sends w.state m o) ⊎ IsListed m w.changed

  moved : (w : Course) (y : State) (outs : List Out) → ((m : Match) (o : ℕ) → sends w.state m o ≡ sends y m o) → IsTold w → IsTold (record { state = y; changed = w.changed; outs = outs })
  moved w y outs same told = λ m o. elim (told m o) [
    | inl is ↦ inl (is ∙ same m o)
    | inr listed ↦ inr listed
  ]

  -- a tuple of `ft` is touched
  touched : (w : Course) (y : State) (changed : List Match) (cells : List ℕ) → ((m : Match) → IsListed m w.changed → IsListed m changed)
      → ((m : Match) (o : ℕ) → same_cells (flow m o) cells ≡ false → sends w.state m o ≡ sends y m o)
      → ((m : Match) (o : ℕ) → cells ≡ flow m o → (sends w.state m o ≡ sends y m o) ⊎ IsListed m changed)
      → IsTold w → IsTold (record { state = y; changed = changed; outs = w.outs })
  touched w y changed cells still others itself told = λ m o. by_test m o (same_cells (flow m o) cells) refl
    where
      goes_on : (m : Match) (o : ℕ) → sends w.state m o ≡ sends y m o → (sends x m o ≡ sends y m o) ⊎ IsListed m changed
      goes_on m o same = elim (told m o) [
        | inl is ↦ inl (is ∙ same)
        | inr listed ↦ inr (still m listed)
      ]

      at_itself : (m : Match) (o : ℕ) → (sends w.state m o ≡ sends y m o) ⊎ IsListed m changed → (sends x m o ≡ sends y m o) ⊎ IsListed m changed
      at_itself m o (inl same) = goes_on m o same
      at_itself m o (inr listed) = inr listed

      by_test : (m : Match) (o : ℕ) (t : Bool) → same_cells (flow m o) cells ≡ t → (sends x m o ≡ sends y m o) ⊎ IsListed m changed
      by_test m o true is = at_itself m o (itself m o (sym (same_cells-is (flow m o) cells is)))
      by_test m o false is = goes_on m o (others m o is)

  either_listed : (m : Match) (t : Bool) (xs ys : List Match) → IsListed m xs → IsListed m ys → IsListed m (if t then xs else ys)
  either_listed m true xs ys in_xs in_ys = in_xs
  either_listed m false xs ys in_xs in_ys = in_ys

  module _ (w : Course) (cells : List ℕ) (told : IsTold w) where
    put_itself : (m : Match) (o : ℕ) → cells ≡ flow m o → (t : Bool) → w.state Ft cells ≡ t → (sends w.state m o ≡ sends (put w.state Ft cells) m o) ⊎ IsListed m (if t then w.changed else with_match w.changed cells)
    put_itself m o is true there =
        let at : sends w.state m o ≡ true = ap (w.state Ft) (sym is) ∙ there in
        inl (at ∙ sym (ap (λ b. b || same_cells (flow m o) cells) at))
    put_itself m o is false there = inr (subst (λ ds. IsListed m (with_match w.changed ds)) (sym is) (now_listed m o w.changed))

    pub installed_told : IsTold (record { state = put w.state Ft cells; changed = if w.state Ft cells then w.changed else with_match w.changed cells; outs = w.outs })
    installed_told =
        touched w (put w.state Ft cells) (if w.state Ft cells then w.changed else with_match w.changed cells) cells
        (λ m listed. either_listed m (w.state Ft cells) w.changed (with_match w.changed cells) listed (still_listed m w.changed cells listed))
        (λ m o other. sym (or-false (sends w.state m o)) ∙ sym (ap (λ b. sends w.state m o || b) other))
        (λ m o is. put_itself m o is (w.state Ft cells) refl) told

    taken_itself : (m : Match) (o : ℕ) → cells ≡ flow m o → (t : Bool) → w.state Ft cells ≡ t → (sends w.state m o ≡ sends (take_out w.state Ft cells) m o) ⊎ IsListed m (if t then with_match w.changed cells else w.changed)
    taken_itself m o is true there = inr (subst (λ ds. IsListed m (with_match w.changed ds)) (sym is) (now_listed m o w.changed))
    taken_itself m o is false there =
        let at : sends w.state m o ≡ false = ap (w.state Ft) (sym is) ∙ there in
        inl (at ∙ sym (ap (λ b. b && not (same_cells (flow m o) cells)) at))

    pub uninstalled_told : IsTold (record { state = take_out w.state Ft cells; changed = if w.state Ft cells then with_match w.changed cells else w.changed; outs = w.outs })
    uninstalled_told =
        touched w (take_out w.state Ft cells) (if w.state Ft cells then with_match w.changed cells else w.changed) cells
        (λ m listed. either_listed m (w.state Ft cells) (with_match w.changed cells) w.changed (still_listed m w.changed cells listed) listed)
        (λ m o other. sym (and-true (sends w.state m o)) ∙ sym (ap (λ b. sends w.state m o && not b) other))
        (λ m o is. taken_itself m o is (w.state Ft cells) refl) told

  if_told : (t : Bool) (w v : Course) → IsTold w → IsTold v → IsTold (if t then w else v)
  if_told true w v in_w in_v = in_w
  if_told false w v in_w in_v = in_v

  pick_told : (m_of : Option ℕ) (w : ℕ → Course) (v : Course) → ((m : ℕ) → IsTold (w m)) → IsTold v → IsTold (chosen m_of w v)
  pick_told (Some m) w v in_w in_v = in_w m
  pick_told None w v in_w in_v = in_v

  sent_same : (sending : Sending) (y z : State) → ((m : Match) (o : ℕ) → sends y m o ≡ sends z m o) → (m : Match) (o : ℕ) → sends y m o ≡ sends (sent_to sending y z) m o
  sent_same Kept y z same m o = same m o
  sent_same Left y z same m o = refl

  module _ (P : Parts) (N : Network) (sending : Sending) where
    executed_told : (k : Command) (e : Assignment) (w : Course) → IsTold w → IsTold (executed P N sending k e w)
    unfolding executed
    executed_told c.Skip e w told = told
    executed_told (sequence a b) e w told = executed_told b e (executed P N sending a e w) (executed_told a e w told)
    executed_told (conditional p a b) e w told =
        if_told (is_true P N p e w.state) (executed P N sending a e w) (executed P N sending b e w) (executed_told a e w told) (executed_told b e w told)
    executed_told (choice v s p a b) e w told =
        pick_told (least (λ m. is_true P N p (with_var e v m) w.state) (elements N s)) (λ m. executed P N sending a (with_var e v m) w) (executed P N sending b e w)
        (λ m. executed_told a (with_var e v m) w told) (executed_told b e w told)
    executed_told (c.Insert r ts) e w told = moved w (put w.state (Stored r) (tuple P N ts e w.state)) w.outs (λ m o. sym (or-false (sends w.state m o))) told
    executed_told (c.Remove r ts) e w told = moved w (take_out w.state (Stored r) (tuple P N ts e w.state)) w.outs (λ m o. sym (and-true (sends w.state m o))) told
    executed_told (c.Install ts) e w told = installed_told w (tuple P N ts e w.state) told
    executed_told (c.Uninstall ts) e w told = uninstalled_told w (tuple P N ts e w.state) told
    executed_told (c.Forward ts) e w told =
        let z = put w.state Sent (tuple P N ts e w.state) in
        moved w (sent_to sending w.state z) (with_port w.outs (tuple P N ts e w.state)) (sent_same sending w.state z (λ m o. sym (or-false (sends w.state m o)))) told
    executed_told (c.Flood ts) e w told =
        let z = flooded w.state N.ports (tuple P N ts e w.state) in
        moved w (sent_to sending w.state z) (with_one same_out w.outs Flooding) (sent_same sending w.state z (λ m o. sym (or-false (sends w.state m o)))) told

    pub handled_told : (h : Option Handler) (s a b i : ℕ) → IsTold (handled P N sending h s a b i (from_state x))
    handled_told None s a b i = λ m o. inl refl
    handled_told (Some h) s a b i = executed_told h.body (for_packet h s a b i) (from_state x) (λ m o. inl refl)

-- who differs is listed

not_alone : (b : Bool) → either_alone b b ≡ false
not_alone true = refl
not_alone false = refl

apart : (a b : Bool) → either_alone a b ≡ true → a ≡ b → ⊥
apart a b alone same = true≢false (sym alone ∙ ap (either_alone a) (sym same) ∙ not_alone a)

in_filter : {X : Type 0} (f : X → Bool) (xs : List X) (x : X) → f x ≡ true → IsIn x xs → IsIn x (filter f xs)
in_filter f [] x passes there = absurd there
in_filter f (y ∷ ys) x passes (inl is) = subst (λ t. IsIn x (cond t (y ∷ filter f ys) (filter f ys))) (sym (ap f (sym is) ∙ passes)) (inl is)
in_filter f (y ∷ ys) x passes (inr there) = by_test (f y) (in_filter f ys x passes there)
  where
    by_test : (t : Bool) → IsIn x (filter f ys) → IsIn x (cond t (y ∷ filter f ys) (filter f ys))
    by_test true inside = inr inside
    by_test false inside = inside

same_match-is : (m n : Match) → same_match m n ≡ true → m ≡ n
same_match-is m n is =
    let at_s = and_parts (m.s == n.s) ((m.a == n.a) && ((m.b == n.b) && (m.i == n.i))) is in
    let at_a = and_parts (m.a == n.a) ((m.b == n.b) && (m.i == n.i)) at_s.1 in
    let at_b = and_parts (m.b == n.b) (m.i == n.i) at_a.1 in
    ap₂ (λ s a. record { s = s; a = a; b = m.b; i = m.i }) (eqb-true m.s n.s at_s.0) (eqb-true m.a n.a at_a.0)
    ∙ ap₂ (λ b i. record { s = n.s; a = n.a; b = b; i = i }) (eqb-true m.b n.b at_b.0) (eqb-true m.i n.i at_b.1)

module _ (N : Network) (x : State) where
  told_is : (w : Course) → IsTold x w → (m : Match) → differs N.ports x w.state m ≡ true → Contains w.changed m
  told_is w told m is =
      let one = found (λ o. either_alone (sends x m o) (sends w.state m o)) N.ports is in
      elim (told m one.0) [
        | inl same ↦ absurd (apart (sends x m one.0) (sends w.state m one.0) one.2 same)
        | inr listed ↦ let that = found (same_match m) w.changed listed in subst (λ (n : Match). Contains w.changed n) (sym (same_match-is m that.0 that.2)) that.1
      ]

  settled_is : (w : Course) → IsTold x w → (m : Match) → Contains (filter (λ n. differs N.ports x w.state n) w.changed) m ↔ IsTrue (differs N.ports x w.state m)
  settled_is w told m = (
    λ there. All-contains (λ n. differs N.ports x w.state n ≡ true) (filter (λ n. differs N.ports x w.state n) w.changed) m (filter_passes (λ n. differs N.ports x w.state n) w.changed) there,
    λ is. in_contains (filter (λ n. differs N.ports x w.state n) w.changed) m (in_filter (λ n. differs N.ports x w.state n) w.changed m is (contains_in w.changed m (told_is w told m is))),
  )

  -- nothing is changed
  none_differs : (y : State) → ((m : Match) (o : ℕ) → sends x m o ≡ sends y m o) → (m : Match) → Contains [] m ↔ IsTrue (differs N.ports x y m)
  none_differs y same m = (
    λ there. absurd (let within : there.0 < 0 = there.1 in omega arith),
    λ is. let one = found (λ o. either_alone (sends x m o) (sends y m o)) N.ports is in absurd (apart (sends x m one.0) (sends y m one.0) one.2 (same m one.0)),
  )

  module _ (key : Match) where
    abbrev ended : State
    ended = take_out_match x (match_cells key)

    ends : (o : ℕ) → sends x key o ≡ true → either_alone (sends x key o) (sends ended key o) ≡ true
    ends o there =
        ap (λ b. either_alone b (b && not (same_cells (match_cells key) (match_cells key)))) there
        ∙ ap (λ b. not (not b)) (same_cells-refl (match_cells key))

    stays : (m : Match) (o : ℕ) → same_cells (match_cells m) (match_cells key) ≡ false → sends x m o ≡ sends ended m o
    stays m o other = sym (and-true (sends x m o)) ∙ sym (ap (λ b. sends x m o && not b) other)

    by_key : (m : Match) (o : ℕ) (t : Bool) → same_cells (match_cells m) (match_cells key) ≡ t → either_alone (sends x m o) (sends ended m o) ≡ true → m ≡ key
    by_key m o true is alone = ap (λ cells. match_of cells) (same_cells-is (match_cells m) (match_cells key) is)
      where
        match_of : List ℕ → Match
        match_of (s ∷ a ∷ b ∷ i ∷ []) = record { s = s; a = a; b = b; i = i }
        match_of cells = key
    by_key m o false is alone = absurd (apart (sends x m o) (sends ended m o) alone (stays m o is))

    alone_in : (m : Match) → IsIn m (key ∷ []) → m ≡ key
    alone_in m (inl is) = is
    alone_in m (inr more) = absurd more

    expired_is : list_any (λ o. sends x key o) N.ports ≡ true → (m : Match) → Contains (key ∷ []) m ↔ IsTrue (differs N.ports x ended m)
    expired_is some m = (
      λ there. subst (λ (n : Match). differs N.ports x ended n ≡ true) (sym (alone_in m (contains_in (key ∷ []) m there)))
          (any_more (λ o. sends x key o) (λ o. either_alone (sends x key o) (sends ended key o)) ends N.ports some),
      λ is. let one = found (λ o. either_alone (sends x m o) (sends ended m o)) N.ports is in
          in_contains (key ∷ []) m (inl (by_key m one.0 (same_cells (match_cells m) (match_cells key)) refl one.2)),
    )

pub changed_is : (P : Parts) (N : Network) (sending : Sending) (event : Event) (x : State) → is_enabled P N x event ≡ true → (m : Match)
    → Contains (fired P N sending event (from_state x)).changed m ↔ IsTrue (differs N.ports x (fired P N sending event (from_state x)).state m)
changed_is P N sending (PktIn s a b i) x enabled m = settled_is N x (handled P N sending (first_fit P.handlers i) s a b i (from_state x)) (handled_told x P N sending (first_fit P.handlers i) s a b i) m
changed_is P N sending (PktFlow s a b i o) x enabled m = none_differs N x (put x Sent (s ∷ a ∷ b ∷ i ∷ o ∷ [])) (λ n p. sym (or-false (sends x n p))) m
changed_is P N sending (Expire s a b i) x enabled m =
    expired_is N x (record { s = s; a = a; b = b; i = i }) (and_parts (is_some P.timeout) (list_any (λ o. x Ft (s ∷ a ∷ b ∷ i ∷ o ∷ [])) N.ports) enabled).1 m
