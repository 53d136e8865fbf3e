-- The outputs of a match in the rows of a state, and what they tell of a draft.
use Rattle.std.proofs.Common.{◌≡◌, ◌∙◌, sym, ap, ap₂, refl, ℕ, ◌==◌, Bool, true, false, true≢false, not, ◌&&◌, ◌||◌, if◌then◌else◌, List, [], ◌∷◌, ◌++◌, zero, Contains, arith}
use Rattle.std.proofs.Math.Bool.{and-true, and-false, or-false}
use Rattle.std.proofs.Math.Path.{fun_ext}
use Rattle.std.proofs.lemmas.Bool.{and_parts, eqb-true}
use Rattle.std.proofs.lemmas.List.Folds.{list_any-append}
use Rattle.std.specs.List.{list_any}
use Rattle.std.specs.Cmp.{both_ways, eq_by_cmp_equiv}
use Rattle.std.specs.Ordering.{eq_by_cmp}
use Rattle.std.specs.List.Sorted.{IsStrictlySortedBy}
use Rattle.std.specs.BTreeMap.{is_at}
use Rattle.general_facts.proofs.Lists.{contains_later}
use Rattle.general_facts.proofs.Numbers.{eqb-turned}
use Rattle.csdn_core.proofs.Same.{same_cells-is, same_cells-refl, same_pred-is}
use Rattle.csdn_core.specs.declared.terms.Pred.{Pred}
use Rattle.csdn_core.specs.declared.terms.Pred.TheVariants.{Stored, Ft, Sent, RcvThis}
use Rattle.csdn_core.specs.declared.event.Match.{Match}
use Rattle.csdn_core.specs.Network.{State, same_pred, same_cells}
use Rattle.csdn_core.specs.Execution.{take_out, take_out_match, is_rule_of}
use Rattle.net_structs.specs.declared.row.Row.{Row}
use Rattle.net_structs.specs.Rows.{row_cmp, row_total, held}
use Rattle.net_structs.specs.Flows.{match_cells, output_of, outputs_of}
use Rattle.net_structs.specs.Networks.{has}
use Rattle.net_structs.specs.Views.{but}
use Rattle.net_structs.proofs.Tied.{row_is}
use Rattle.net_structs.proofs.Rising.{taken, sorted_left}
use Rattle.net_structs.proofs.Taken.{but-none, one_more}
use Rattle.csdn_step.specs.Courses.{sends, either_alone, differs}
use Rattle.csdn_step.specs.Drafts.{without, taken_each}

-- the tuple of a flow rule of the match
abbrev flow : Match → ℕ → List ℕ
flow m o = m.s ∷ m.a ∷ m.b ∷ m.i ∷ o ∷ []

-- what is in a list of rows

pub listed : (q : Row) (rows : List Row) → list_any (λ row. eq_by_cmp row_cmp row q) rows ≡ held rows q.pred q.cells
listed q [] = refl
listed q (row ∷ rows) = ap₂ (λ a b. a || b) ((eq_by_cmp_equiv row_total).symm row q ∙ row_is q row) (listed q rows)

fits_one : (a b c d : Bool) (o p : ℕ) → (a && (b && (c && (d && ((o == p) && true))))) ≡ has (if a && (b && (c && (d && true))) then p ∷ [] else []) o
fits_one true true true true o p = and-true (o == p) ∙ sym (or-false (o == p))
fits_one true true true false o p = refl
fits_one true true false d o p = refl
fits_one true false c d o p = refl
fits_one false b c d o p = refl

four_fail : (a b c d : Bool) → (a && (b && (c && (d && false)))) ≡ false
four_fail true true true true = refl
four_fail true true true false = refl
four_fail true true false d = refl
four_fail true false c d = refl
four_fail false b c d = refl

three_fail : (a b c : Bool) → (a && (b && (c && false))) ≡ false
three_fail a b c = four_fail a b c true

five_fail : (a b c d e : Bool) → (a && (b && (c && (d && (e && false))))) ≡ false
five_fail a b c d true = four_fail a b c d
five_fail a b c d false = four_fail a b c d

row_sends : (m : Match) (o : ℕ) (q : Pred) (cells : List ℕ) → (same_pred Ft q && same_cells (flow m o) cells) ≡ has (output_of m (record { pred = q; cells = cells })) o
row_sends m o (Stored r) cells = refl
row_sends m o Sent cells = refl
row_sends m o RcvThis cells = refl
row_sends m o Ft [] = refl
row_sends m o Ft (s ∷ []) = three_fail (m.s == s) true true
row_sends m o Ft (s ∷ a ∷ []) = three_fail (m.s == s) (m.a == a) true
row_sends m o Ft (s ∷ a ∷ b ∷ []) = three_fail (m.s == s) (m.a == a) (m.b == b)
row_sends m o Ft (s ∷ a ∷ b ∷ i ∷ []) = four_fail (m.s == s) (m.a == a) (m.b == b) (m.i == i)
row_sends m o Ft (s ∷ a ∷ b ∷ i ∷ p ∷ []) = fits_one (m.s == s) (m.a == a) (m.b == b) (m.i == i) o p
row_sends m o Ft (s ∷ a ∷ b ∷ i ∷ p ∷ n ∷ more) = five_fail (m.s == s) (m.a == a) (m.b == b) (m.i == i) (o == p)

-- the outputs of the rows are those of the state
pub sends_is : (m : Match) (rows : List Row) (o : ℕ) → sends (held rows) m o ≡ has (outputs_of m rows) o
sends_is m [] o = refl
sends_is m (row ∷ rows) o = ap₂ (λ a b. a || b) (row_sends m o row.pred row.cells) (sends_is m rows o) ∙ sym (list_any-append (λ n. o == n) (output_of m row) (outputs_of m rows))

-- an element of two lists that passes a test is sought in either

module _ (t : ℕ → Bool) where
  same_test_by : (x y : ℕ) (b : Bool) → (b ≡ true → y ≡ x) → (b && t x) ≡ (b && t y)
  same_test_by x y true same = ap t (sym (same refl))
  same_test_by x y false same = refl

  same_test : (x y : ℕ) → ((x == y) && t x) ≡ ((y == x) && t y)
  same_test x y = ap (λ b. b && t x) (eqb-turned x y) ∙ same_test_by x y (y == x) (eqb-true y x)

  both_tested : (a h c : Bool) → ((a || h) && c) ≡ ((a && c) || (h && c))
  both_tested true true true = refl
  both_tested true true false = refl
  both_tested true false true = refl
  both_tested true false false = refl
  both_tested false h c = refl

  grouped : (a b c d : Bool) → ((a || b) || (c || d)) ≡ ((a || c) || (b || d))
  grouped true b c d = refl
  grouped false true true d = refl
  grouped false true false d = refl
  grouped false false c d = refl

  one : (x : ℕ) (ys : List ℕ) → (has ys x && t x) ≡ list_any (λ o. (o == x) && t o) ys
  one x [] = refl
  one x (y ∷ ys) = both_tested (x == y) (has ys x) (t x) ∙ ap₂ (λ a b. a || b) (same_test x y) (one x ys)

  more : (f g : ℕ → Bool) (ys : List ℕ) → list_any (λ o. (f o || g o) && t o) ys ≡ (list_any (λ o. f o && t o) ys || list_any (λ o. g o && t o) ys)
  more f g [] = refl
  more f g (y ∷ ys) = ap₂ (λ a b. a || b) (both_tested (f y) (g y) (t y)) (more f g ys) ∙ grouped (f y && t y) (g y && t y) (list_any (λ o. f o && t o) ys) (list_any (λ o. g o && t o) ys)

  none : (ys : List ℕ) → false ≡ list_any (λ o. false && t o) ys
  none [] = refl
  none (y ∷ ys) = none ys

  pub in_both : (xs ys : List ℕ) → list_any (λ o. has ys o && t o) xs ≡ list_any (λ o. has xs o && t o) ys
  in_both [] ys = none ys
  in_both (x ∷ xs) ys = ap₂ (λ a b. a || b) (one x ys) (in_both xs ys) ∙ sym (more (λ o. o == x) (has xs) ys)

-- whether a rule of the match is there
pub rule_is : (m : Match) (rows : List Row) (ports : List ℕ) → list_any (λ o. has ports o) (outputs_of m rows) ≡ list_any (λ o. sends (held rows) m o) ports
rule_is m rows ports =
    ap (λ (f : ℕ → Bool). list_any f (outputs_of m rows)) (fun_ext (λ o. sym (and-true (has ports o))))
    ∙ in_both (λ o. true) (outputs_of m rows) ports
    ∙ ap (λ (f : ℕ → Bool). list_any f ports) (fun_ext (λ o. and-true (has (outputs_of m rows) o) ∙ sym (sends_is m rows o)))

-- the rows from which the changes began

sorted_without : (added rows : List Row) → IsStrictlySortedBy row_cmp rows → IsStrictlySortedBy row_cmp (without added rows)
sorted_without [] rows sorted = sorted
sorted_without (row ∷ added) rows sorted = sorted_left row_cmp (is_at (row_cmp row)) (without added rows) (sorted_without added rows sorted)

later_out : (x h t : Bool) → ((x && not h) && not t) ≡ (x && not (t || h))
later_out true h true = and-false (not h)
later_out true h false = and-true (not h)
later_out false h t = refl

pub without_is : (added rows : List Row) → IsStrictlySortedBy row_cmp rows → held (without added rows) ≡ but (held rows) (held added)
without_is [] rows sorted = sym (but-none (held rows))
without_is (row ∷ added) rows sorted =
    taken row (without added rows) (sorted_without added rows sorted)
    ∙ ap (λ x. take_out x row.pred row.cells) (without_is added rows sorted)
    ∙ fun_ext (λ q. fun_ext (λ ds. later_out (held rows q ds) (held added q ds) (same_pred q row.pred && same_cells ds row.cells)))

alone_of : (x a g : Bool) → (x && either_alone a g) ≡ either_alone (x && not a) (x && not g)
alone_of true true true = refl
alone_of true true false = refl
alone_of true false true = refl
alone_of true false false = refl
alone_of false a g = refl

-- a match has other outputs where a row of it was put in and stays, or was there and is gone
pub differs_is : (m : Match) (ports : List ℕ) (rows added gone : List Row) → IsStrictlySortedBy row_cmp rows
    → list_any (λ o. has ports o && either_alone (sends (held added) m o) (sends (held gone) m o)) (outputs_of m rows) ≡ differs ports (held (without added rows)) (but (held rows) (held gone)) m
differs_is m ports rows added gone sorted =
    in_both (λ o. either_alone (sends (held added) m o) (sends (held gone) m o)) (outputs_of m rows) ports
    ∙ ap (λ (f : ℕ → Bool). list_any f ports) (fun_ext (λ o.
    ap (λ b. b && either_alone (sends (held added) m o) (sends (held gone) m o)) (sym (sends_is m rows o))
    ∙ alone_of (sends (held rows) m o) (sends (held added) m o) (sends (held gone) m o)))
    ∙ ap (λ x. differs ports x (but (held rows) (held gone)) m) (sym (without_is added rows sorted))

-- the flow rules of a match taken out, port by port

each_is : (m : Match) (ports : List ℕ) (x : State) (q : Pred) (ds : List ℕ) → taken_each m ports x q ds ≡ (x q ds && not (list_any (λ o. same_pred q Ft && same_cells ds (flow m o)) ports))
each_is m [] x q ds = sym (and-true (x q ds))
each_is m (o ∷ ports) x q ds =
    each_is m ports (take_out x Ft (flow m o)) q ds
    ∙ one_more (x q ds) (same_pred q Ft && same_cells ds (flow m o)) (list_any (λ p. same_pred q Ft && same_cells ds (flow m p)) ports)

pub found : {X : Type 0} (f : X → Bool) (xs : List X) → list_any f xs ≡ true → (x : X) × Contains xs x × (f x ≡ true)
found {X = X} f [] is = absurd (true≢false (sym is))
found {X = X} f (x ∷ xs) is = by_test (f x) refl is (found f xs)
  where
    by_test : (b : Bool) → f x ≡ b → (b || list_any f xs) ≡ true → (list_any f xs ≡ true → (y : X) × Contains xs y × (f y ≡ true)) → (y : X) × Contains (x ∷ xs) y × (f y ≡ true)
    by_test true here is later = (x, (zero, omega arith, refl), here)
    by_test false here is later = let one = later is in (one.0, contains_later xs x one.0 one.1, one.2)

pub any_more : {X : Type 0} (f g : X → Bool) → ((x : X) → f x ≡ true → g x ≡ true) → (xs : List X) → list_any f xs ≡ true → list_any g xs ≡ true
any_more f g to [] is = is
any_more f g to (x ∷ xs) is = by_test (f x) refl is (any_more f g to xs)
  where
    by_test : (b : Bool) → f x ≡ b → (b || list_any f xs) ≡ true → (list_any f xs ≡ true → list_any g xs ≡ true) → (g x || list_any g xs) ≡ true
    by_test true here is later = ap (λ b. b || list_any g xs) (to x here)
    by_test false here is later = or_later (g x) (later is)
      where
        or_later : (b : Bool) → list_any g xs ≡ true → (b || list_any g xs) ≡ true
        or_later true there = refl
        or_later false there = there

module _ (m : Match) where
  rule_of : (ds : List ℕ) → is_rule_of (match_cells m) ds ≡ true → (o : ℕ) × (ds ≡ flow m o)
  rule_of (s ∷ a ∷ b ∷ i ∷ o ∷ []) is = (o, ap (λ cells. cells ++ o ∷ []) (same_cells-is (s ∷ a ∷ b ∷ i ∷ []) (match_cells m) is))
  rule_of [] is = absurd (true≢false (sym is))
  rule_of (s ∷ []) is = absurd (true≢false (sym is))
  rule_of (s ∷ a ∷ []) is = absurd (true≢false (sym is))
  rule_of (s ∷ a ∷ b ∷ []) is = absurd (true≢false (sym is))
  rule_of (s ∷ a ∷ b ∷ i ∷ []) is = absurd (true≢false (sym is))
  rule_of (s ∷ a ∷ b ∷ i ∷ o ∷ n ∷ more) is = absurd (true≢false (sym is))

  module _ (rows : List Row) (q : Pred) (ds : List ℕ) (there : held rows q ds ≡ true) where
    abbrev is_listed : Bool
    is_listed = list_any (λ o. same_pred q Ft && same_cells ds (flow m o)) (outputs_of m rows)

    abbrev is_rule : Bool
    is_rule = same_pred q Ft && is_rule_of (match_cells m) ds

    listed_rule : is_listed ≡ true → is_rule ≡ true
    listed_rule is =
        let one = found (λ o. same_pred q Ft && same_cells ds (flow m o)) (outputs_of m rows) is in
        let parts = and_parts (same_pred q Ft) (same_cells ds (flow m one.0)) one.2 in
        ap₂ (λ a b. a && b) parts.0 (ap (is_rule_of (match_cells m)) (same_cells-is ds (flow m one.0) parts.1) ∙ same_cells-refl (match_cells m))

    at_port : (o : ℕ) → q ≡ Ft → ds ≡ flow m o → (p : ℕ) → (o == p) ≡ true → (same_pred q Ft && same_cells ds (flow m p)) ≡ true
    at_port o is_ft is p same =
        ap (λ r. same_pred r Ft && same_cells ds (flow m p)) is_ft
        ∙ ap₂ (λ cells n. same_cells cells (flow m n)) is (sym (eqb-true o p same)) ∙ same_cells-refl (flow m o)

    rule_listed : is_rule ≡ true → is_listed ≡ true
    rule_listed is =
        let parts = and_parts (same_pred q Ft) (is_rule_of (match_cells m) ds) is in
        let is_ft : q ≡ Ft = same_pred-is q Ft parts.0 in
        let port = rule_of ds parts.1 in
        any_more (λ p. port.0 == p) (λ p. same_pred q Ft && same_cells ds (flow m p)) (at_port port.0 is_ft port.1) (outputs_of m rows)
        (sym (sends_is m rows port.0) ∙ sym (ap₂ (λ r cells. held rows r cells) is_ft port.1) ∙ there)

    pub rules_listed : is_listed ≡ is_rule
    rules_listed = both_ways is_listed is_rule listed_rule rule_listed

gone_by : (a b k r : Bool) → (a ≡ true → k ≡ r) → ((a && not b) && not k) ≡ ((a && not b) && not r)
gone_by true b k r same = ap (λ l. not b && not l) (same refl)
gone_by false b k r same = refl

-- they are all that the match has
pub all_taken : (m : Match) (rows gone : List Row) → taken_each m (outputs_of m rows) (but (held rows) (held gone)) ≡ take_out_match (but (held rows) (held gone)) (match_cells m)
all_taken m rows gone = fun_ext (λ q. fun_ext (λ ds.
    each_is m (outputs_of m rows) (but (held rows) (held gone)) q ds
    ∙ gone_by (held rows q ds) (held gone q ds) (list_any (λ o. same_pred q Ft && same_cells ds (flow m o)) (outputs_of m rows)) (same_pred q Ft && is_rule_of (match_cells m) ds)
    (λ there. rules_listed m rows q ds there)))
