-- The matches that the rows of a state tell of a switch are those that `ft` holds for it.
use Rattle.std.proofs.Common.{◌≡◌, ◌∙◌, ap, ap₂, sym, refl, ℕ, ◌==◌, Bool, true, false, cond, ◌&&◌, ◌||◌, if◌then◌else◌, List, [], ◌∷◌, ◌++◌, map, filter}
use Rattle.std.proofs.Math.Bool.{and-true, and-false, or-false}
use Rattle.std.proofs.Math.Path.{fun_ext}
use Rattle.std.proofs.lemmas.List.Folds.{list_any-append}
use Rattle.std.proofs.lemmas.Bool.{eqb-true}
use Rattle.std.specs.List.{flat_map, list_any}
use Rattle.general_facts.proofs.Lists.{list_any-map}
use Rattle.csdn_core.specs.declared.event.Match.{Match}
use Rattle.csdn_core.specs.declared.terms.Pred.TheVariants.{Ft}
use Rattle.csdn_core.specs.Network.{Network, same_pred}
use Rattle.net_structs.specs.declared.row.Row.{Row}
use Rattle.net_structs.specs.Flows.{outputs_of, port_of}
use Rattle.net_structs.specs.Networks.{has, in_order}
use Rattle.net_structs.specs.Rows.{held, rows_of}
use Rattle.csdn_step.proofs.Outputs.{rule_is}
use Rattle.csdn_step.specs.Courses.{same_match}
use Rattle.csdn_run.specs.Joins.{is_flow, match_at, match_of_cells}
use Rattle.csdn_run.specs.Places.{match_cmp}
use Rattle.csdn_run.specs.Replies.{has_rule, joined, matches_at}
use Rattle.csdn_run.proofs.Markings.{same_match-is}
use Rattle.csdn_run.proofs.Orders.{same_order}

-- ---- tests of lists

taken_in : (a b c : Bool) → (a ≡ true → c ≡ true) → (a || (b && c)) ≡ ((a || b) && c)
taken_in true b c h = sym (h refl)
taken_in false b c h = refl

left_out : (a b c : Bool) → (a ≡ true → c ≡ false) → (b && c) ≡ ((a || b) && c)
left_out true b c h = ap (λ t. b && t) (h refl) ∙ and-false b ∙ sym (h refl)
left_out false b c h = refl

any_filter : (p : Match → Bool) (m : Match) (ks : List Match) → list_any (same_match m) (filter p ks) ≡ (list_any (same_match m) ks && p m)
any_filter p m [] = refl
any_filter p m (k ∷ ks) = by (any_filter p m ks) (p k) refl
  where
    by : list_any (same_match m) (filter p ks) ≡ (list_any (same_match m) ks && p m) → (b : Bool) → p k ≡ b → list_any (same_match m) (cond b (k ∷ filter p ks) (filter p ks)) ≡ ((same_match m k || list_any (same_match m) ks) && p m)
    by later true is = ap (λ t. same_match m k || t) later ∙ taken_in (same_match m k) (list_any (same_match m) ks) (p m) (λ e. ap p (same_match-is m k e) ∙ is)
    by later false is = later ∙ left_out (same_match m k) (list_any (same_match m) ks) (p m) (λ e. ap p (same_match-is m k e) ∙ is)

any_flat : {X : Type 0} (t : Match → Bool) (f : X → List Match) (xs : List X) → list_any t (flat_map f xs) ≡ list_any (λ x. list_any t (f x)) xs
any_flat t f [] = refl
any_flat t f (x ∷ xs) = list_any-append t (f x) (flat_map f xs) ∙ ap (λ b. list_any t (f x) || b) (any_flat t f xs)

any_and : (c : Bool) (q : ℕ → Bool) (xs : List ℕ) → list_any (λ x. c && q x) xs ≡ (c && list_any q xs)
any_and true q xs = refl
any_and false q [] = refl
any_and false q (x ∷ xs) = any_and false q xs

both_with : (a b c : Bool) → ((a && c) || (b && c)) ≡ ((a || b) && c)
both_with true true true = refl
both_with true true false = refl
both_with true false true = refl
both_with true false false = refl
both_with false b c = refl

with_both : (c a b : Bool) → ((c && a) || (c && b)) ≡ (c && (a || b))
with_both true a b = refl
with_both false a b = refl

any_and_right : (q : ℕ → Bool) (c : Bool) (xs : List ℕ) → list_any (λ x. q x && c) xs ≡ (list_any q xs && c)
any_and_right q c [] = refl
any_and_right q c (x ∷ xs) = ap (λ b. (q x && c) || b) (any_and_right q c xs) ∙ both_with (q x) (list_any q xs) c

any_same : (p q : ℕ → Bool) (xs : List ℕ) → ((x : ℕ) → p x ≡ q x) → list_any p xs ≡ list_any q xs
any_same p q xs h = ap (λ (f : ℕ → Bool). list_any f xs) (fun_ext h)

-- ---- the definition's matches

module _ (N : Network) (s : ℕ) (m : Match) where
  -- the match is one of the switch, and its elements are the network's
  abbrev is_there : Bool
  is_there = (m.s == s) && (has N.hosts m.a && (has N.hosts m.b && has N.ports m.i))

  abbrev one : ℕ → ℕ → ℕ → Match
  one a b i = record { s = s; a = a; b = b; i = i }

  by_port : (a b : ℕ) → list_any (same_match m) (map (one a b) N.ports) ≡ ((m.s == s) && ((m.a == a) && ((m.b == b) && has N.ports m.i)))
  by_port a b =
      list_any-map (same_match m) (one a b) N.ports
      ∙ any_and (m.s == s) (λ i. (m.a == a) && ((m.b == b) && (m.i == i))) N.ports
      ∙ ap (λ t. (m.s == s) && t) (any_and (m.a == a) (λ i. (m.b == b) && (m.i == i)) N.ports
      ∙ ap (λ t. (m.a == a) && t) (any_and (m.b == b) (λ i. m.i == i) N.ports))

  by_target : (a : ℕ) → list_any (same_match m) (flat_map (λ b. map (one a b) N.ports) N.hosts) ≡ ((m.s == s) && ((m.a == a) && (has N.hosts m.b && has N.ports m.i)))
  by_target a =
      any_flat (same_match m) (λ b. map (one a b) N.ports) N.hosts
      ∙ any_same (λ b. list_any (same_match m) (map (one a b) N.ports)) (λ b. (m.s == s) && ((m.a == a) && ((m.b == b) && has N.ports m.i))) N.hosts (by_port a)
      ∙ any_and (m.s == s) (λ b. (m.a == a) && ((m.b == b) && has N.ports m.i)) N.hosts
      ∙ ap (λ t. (m.s == s) && t) (any_and (m.a == a) (λ b. (m.b == b) && has N.ports m.i) N.hosts
      ∙ ap (λ t. (m.a == a) && t) (any_and_right (λ b. m.b == b) (has N.ports m.i) N.hosts))

  at_is : list_any (same_match m) (matches_at N s) ≡ is_there
  at_is =
      any_flat (same_match m) (λ a. flat_map (λ b. map (one a b) N.ports) N.hosts) N.hosts
      ∙ any_same (λ a. list_any (same_match m) (flat_map (λ b. map (one a b) N.ports) N.hosts)) (λ a. (m.s == s) && ((m.a == a) && (has N.hosts m.b && has N.ports m.i))) N.hosts by_target
      ∙ any_and (m.s == s) (λ a. (m.a == a) && (has N.hosts m.b && has N.ports m.i)) N.hosts
      ∙ ap (λ t. (m.s == s) && t) (any_and_right (λ a. m.a == a) (has N.hosts m.b && has N.ports m.i) N.hosts)

  -- ---- the matches of the rows

  all_five : (t a b i o : Bool) → ((t && (a && (b && (i && o)))) && true) ≡ ((a && (b && i)) && ((t && true) && o))
  all_five true true true true o = and-true o
  all_five true true true false o = refl
  all_five true true false i o = refl
  all_five true false b i o = refl
  all_five false a b i o = sym (and-false (a && (b && i)))

  none_of : (x y t o : Bool) → (x && false) ≡ (y && ((t && false) && o))
  none_of x y t o = and-false x ∙ sym (ap (λ z. y && (z && o)) (and-false t) ∙ and-false y)

  one_row : (es ea eb ei st mt ha ma hb mb hi mi ho : Bool) → (es ≡ true → st ≡ mt) → (ea ≡ true → ha ≡ ma) → (eb ≡ true → hb ≡ mb) → (ei ≡ true → hi ≡ mi)
      → ((st && (ha && (hb && (hi && ho)))) && (es && (ea && (eb && ei)))) ≡ ((es && (ma && (mb && mi))) && ((mt && (ea && (eb && (ei && true)))) && ho))
  one_row true true true true st mt ha ma hb mb hi mi ho s' a' b' i' =
      ap (λ t. (t && (ha && (hb && (hi && ho)))) && true) (s' refl)
      ∙ ap (λ t. (mt && (t && (hb && (hi && ho)))) && true) (a' refl)
      ∙ ap (λ t. (mt && (ma && (t && (hi && ho)))) && true) (b' refl)
      ∙ ap (λ t. (mt && (ma && (mb && (t && ho)))) && true) (i' refl)
      ∙ all_five mt ma mb mi ho
  one_row true true true false st mt ha ma hb mb hi mi ho s' a' b' i' = none_of (st && (ha && (hb && (hi && ho)))) (ma && (mb && mi)) mt ho
  one_row true true false ei st mt ha ma hb mb hi mi ho s' a' b' i' = none_of (st && (ha && (hb && (hi && ho)))) (ma && (mb && mi)) mt ho
  one_row true false eb ei st mt ha ma hb mb hi mi ho s' a' b' i' = none_of (st && (ha && (hb && (hi && ho)))) (ma && (mb && mi)) mt ho
  one_row false ea eb ei st mt ha ma hb mb hi mi ho s' a' b' i' = and-false (st && (ha && (hb && (hi && ho))))

  if_one : (c : Bool) (k : Match) → list_any (same_match m) (if c then k ∷ [] else []) ≡ (c && same_match m k)
  if_one true k = or-false (same_match m k)
  if_one false k = refl

  if_port : (d : Bool) (o : ℕ) → list_any (has N.ports) (if d then o ∷ [] else []) ≡ (d && has N.ports o)
  if_port true o = or-false (has N.ports o)
  if_port false o = refl

  row_told : (cells : List ℕ) → list_any (same_match m) (match_of_cells N s cells) ≡ (is_there && list_any (has N.ports) (port_of m cells))
  row_told [] = sym (and-false is_there)
  row_told (t ∷ []) = sym (and-false is_there)
  row_told (t ∷ a ∷ []) = sym (and-false is_there)
  row_told (t ∷ a ∷ b ∷ []) = sym (and-false is_there)
  row_told (t ∷ a ∷ b ∷ i ∷ []) = sym (and-false is_there)
  row_told (t ∷ a ∷ b ∷ i ∷ o ∷ []) =
      if_one ((s == t) && is_flow N a b i o) (one a b i)
      ∙ one_row (m.s == s) (m.a == a) (m.b == b) (m.i == i) (s == t) (m.s == t) (has N.hosts a) (has N.hosts m.a) (has N.hosts b) (has N.hosts m.b) (has N.ports i) (has N.ports m.i) (has N.ports o)
      (λ e. ap (λ n. n == t) (sym (eqb-true m.s s e))) (λ e. ap (has N.hosts) (sym (eqb-true m.a a e))) (λ e. ap (has N.hosts) (sym (eqb-true m.b b e))) (λ e. ap (has N.ports) (sym (eqb-true m.i i e)))
      ∙ ap (λ z. is_there && z) (sym (if_port ((m.s == t) && ((m.a == a) && ((m.b == b) && ((m.i == i) && true)))) o))
  row_told (t ∷ a ∷ b ∷ i ∷ o ∷ n ∷ more) = sym (and-false is_there)

  rows_told : (rows : List Row) → list_any (same_match m) (flat_map (match_at N s) (rows_of Ft rows)) ≡ (is_there && list_any (has N.ports) (outputs_of m rows))
  rows_told [] = sym (and-false is_there)
  rows_told (row ∷ rows) = by (rows_told rows) (same_pred Ft row.pred)
    where
      by : list_any (same_match m) (flat_map (match_at N s) (rows_of Ft rows)) ≡ (is_there && list_any (has N.ports) (outputs_of m rows)) → (b : Bool) → list_any (same_match m) (flat_map (match_at N s) (cond b (row ∷ rows_of Ft rows) (rows_of Ft rows))) ≡ (is_there && list_any (has N.ports) ((if b then port_of m row.cells else []) ++ outputs_of m rows))
      by later true =
          list_any-append (same_match m) (match_at N s row) (flat_map (match_at N s) (rows_of Ft rows))
          ∙ ap₂ (λ a b. a || b) (row_told row.cells) later
          ∙ with_both is_there (list_any (has N.ports) (port_of m row.cells)) (list_any (has N.ports) (outputs_of m rows))
          ∙ ap (λ z. is_there && z) (sym (list_any-append (has N.ports) (port_of m row.cells) (outputs_of m rows)))
      by later false = later

  same_told : (rows : List Row) → list_any (same_match m) (flat_map (match_at N s) (rows_of Ft rows)) ≡ list_any (same_match m) (filter (has_rule N (held rows)) (matches_at N s))
  same_told rows =
      rows_told rows ∙ ap (λ z. is_there && z) (rule_is m rows N.ports)
      ∙ sym (any_filter (has_rule N (held rows)) m (matches_at N s) ∙ ap (λ z. z && has_rule N (held rows) m) at_is)

-- the matches of the rows in order
pub joined_is : (N : Network) (s : ℕ) (rows : List Row) → in_order match_cmp (flat_map (match_at N s) (rows_of Ft rows)) ≡ joined N (held rows) s
joined_is N s rows = same_order (flat_map (match_at N s) (rows_of Ft rows)) (filter (has_rule N (held rows)) (matches_at N s)) (λ m. same_told N s m rows)
