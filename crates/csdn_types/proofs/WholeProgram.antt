-- The parts of a program that breaks no rule are well-sorted.
use Rattle.std.proofs.Common.{◌≡◌, ℕ, ◌+◌, ◌<◌, ◌≤◌, ◌==◌, ◌↔◌, suc, zero, Bool, true, List, [], ◌++◌, map, flat_map, Contains, bytes_eq, refl, sym, ap, ap₂, subst, ◌∙◌, inl, inr, arith}
use Rattle.std.proofs.lemmas.Bool.{cases_eq, eq-eqb, ne_eqb}
use Rattle.std.proofs.lemmas.Bool.Decides.{Decides-eqb}
use Rattle.std.proofs.lemmas.List.Elements.{All-append, All-map, All-contains, recursion_from_All}
use Rattle.std.proofs.lemmas.Slice.Eq.{bytes_eq-Decides}
use Rattle.csdn_core.specs.Names.{IsName}
use Rattle.csdn_core.specs.Numerals as core
use Rattle.csdn_core.specs.Sorted.{most_numbers}
use Rattle.csdn_core.specs.WellSorted.{signature, IsNumeral, IsWellSorted, names_of_invariants, all_bound_in, handler_bound_in, invariant_bound_in}
use Rattle.csdn_core.specs.declared.program.Parts.{Parts}
use Rattle.csdn_core.specs.declared.program.StartRow.{StartRow}
use Rattle.csdn_tree.specs.declared.syntax.RawItem.{RawItem}
use Rattle.csdn_tree.specs.declared.syntax.RawProgram.{RawProgram}
use Rattle.csdn_tree.specs.FromText.{IsFromText, KeepsStatics, HasSeconds, items_names}
use Rattle.csdn_tree.specs.Numerals.{items_numerals}
use Rattle.csdn_types.specs.Numerals.{with_numerals}
use Rattle.csdn_types.specs.Programs.{ProgramDraft, items_faults, with_items}
use Rattle.csdn_types.specs.Resolved.{nothing_declared, broken_rules, parts_of_draft, parts_of}
use Rattle.csdn_types.specs.Signed.{counted}
use Rattle.csdn_types.proofs.Counts.{passes-true, passes-false, times, times-nil, times-append, times-filter, times-every, times-apart, times-All, times-Contains, Contains-times}
use Rattle.csdn_types.proofs.Rising.{numerals_rise, numerals_have, numerals_only}
use Rattle.csdn_types.proofs.Gathered.{gathered-is, Numbered, numbered_items, next_items, numerals_of_items}
use Rattle.csdn_types.proofs.Declared.{Declared, declared-items}
use Rattle.csdn_types.proofs.SortedItems.{SortedDraft, sorted-items, timeout-items}
use Rattle.csdn_types.proofs.NumeralSorts.{Named}

-- ---- numbers one after another

-- whether a number is this one
abbrev is_it : ℕ → ℕ → Bool
is_it n m = n == m

counted_low : (n from k : ℕ) → n < from → times (is_it n) (counted from k) ≡ 0
unfolding counted times
counted_low n from zero low = refl
counted_low n from (suc k) low = omega (arith, passes-false (n == from) (ne_eqb n from (λ e. omega (arith, e, low))), counted_low n (from + 1) k (omega (arith, low)))

counted_once : (n from k : ℕ) → times (is_it n) (counted from k) ≤ 1
unfolding counted times
counted_once n from zero = omega arith
counted_once n from (suc k) = elim (cases_eq n from) [
  | inl e ↦ omega (arith, passes-true (n == from) (eq-eqb n from e), counted_low n (from + 1) k (omega (arith, e)))
  | inr e ↦ omega (arith, passes-false (n == from) (ne_eqb n from e), counted_once n (from + 1) k)
]

counted_high : (n from k : ℕ) → 0 < times (is_it n) (counted from k) → n < from + k
unfolding counted times
counted_high n from zero more = absurd (omega (arith, more))
counted_high n from (suc k) more = elim (cases_eq n from) [
  | inl e ↦ omega (arith, e)
  | inr e ↦ omega (arith, counted_high n (from + 1) k (omega (arith, more, passes-false (n == from) (ne_eqb n from e))))
]

-- ---- before the first item

nothing_yet : Declared nothing_declared
nothing_yet = record {
  relations = record { words = λ k x within. absurd (omega (arith, within)); names = λ x. omega (arith, times-nil (bytes_eq x)); arities = λ k x within. absurd (omega (arith, within)); few = omega arith; rows = λ r. omega (arith, times-nil (λ (row : StartRow). row.rel.0 == r)); known_rows = λ r past. times-nil (λ (row : StartRow). row.rel.0 == r) };
  constants = record { words = λ k x within. absurd (omega (arith, within)); names = λ x. omega (arith, times-nil (bytes_eq x)); few = omega arith };
  invariants = record { topology_words = λ k x within. absurd (omega (arith, within)); safety_words = λ k x within. absurd (omega (arith, within)); trans_words = λ k x within. absurd (omega (arith, within)); once = λ x. omega (arith, times-nil (bytes_eq x)); same = λ q. refl; few = omega arith };
  handlers = omega arith;
}

nothing_sorted : (P : Parts) → SortedDraft P nothing_declared
nothing_sorted P = record {
  start = λ k x within. absurd (omega (arith, within));
  topology = λ k x within. absurd (omega (arith, within));
  safety = λ k x within. absurd (omega (arith, within));
  trans = λ k x within. absurd (omega (arith, within));
  handlers = λ k x within. absurd (omega (arith, within));
}

nothing_numbered : (q : ℕ → Bool) → Numbered q nothing_declared
unfolding counted times
nothing_numbered q = refl

-- ---- the whole

module _ (raw : RawProgram) (from : IsFromText raw) (free : broken_rules raw ≡ []) where
  abbrev whole : ProgramDraft
  whole = with_items nothing_declared raw.items

  abbrev parts : Parts
  parts = parts_of raw

  abbrev written : List ℕ
  written = items_numerals raw.items

  declared : Declared whole
  declared = declared-items nothing_declared raw.items (recursion_from_All IsName (items_names raw.items) from.names) free nothing_yet

  -- the numerals of the parts are those of the text
  has_numeral : (n : ℕ) → 0 < times (is_it n) written → Contains parts.numerals n
  has_numeral n more = Contains-times is_it Decides-eqb parts.numerals n (numerals_have (is_it n) [] written (omega (arith, more)))

  only_numeral : (n : ℕ) → 0 < times (is_it n) parts.numerals → 0 < times (is_it n) written
  only_numeral n more = omega (arith, more, numerals_only (is_it n) [] written, times-nil (is_it n))

  named : Named (signature parts) written
  named = recursion_from_All (Contains parts.numerals) written (times-All is_it Decides-eqb (Contains parts.numerals) written has_numeral)

  sorted : SortedDraft parts whole
  sorted = sorted-items parts nothing_declared raw.items refl (record { relations = λ k x is. is; constants = λ k x is. is }) named (recursion_from_All KeepsStatics raw.items from.statics) free (nothing_sorted parts)

  numbers : (q : ℕ → Bool) → times q (all_bound_in parts) ≡ times q (counted 0 whole.scope.next)
  numbers q = gathered-is q invariant_bound_in handler_bound_in whole ∙ numbered_items q nothing_declared raw.items (nothing_numbered q)

  few_numbers : whole.scope.next ≤ most_numbers
  few_numbers = omega (arith, next_items nothing_declared raw.items, from.few)

  counted_numerals : (q : ℕ → Bool) → times q (core.numerals_in parts) ≡ times q written
  counted_numerals q =
      omega (
        arith,
        times-append q (flat_map core.row_numerals whole.start) (flat_map core.invariant_numerals whole.topology ++ (flat_map core.invariant_numerals whole.safety ++ (flat_map core.invariant_numerals whole.trans ++ flat_map core.handler_numerals whole.handlers))),
        gathered-is q core.invariant_numerals core.handler_numerals whole,
        numerals_of_items q nothing_declared raw.items,
        times-nil q,
      )

  same_numerals : (k : ℕ) → Contains parts.numerals k ↔ Contains (core.numerals_in parts) k
  same_numerals k = (
    (λ there. Contains-times is_it Decides-eqb (core.numerals_in parts) k (omega (arith, counted_numerals (is_it k), only_numeral k (times-Contains is_it Decides-eqb parts.numerals k there)))),
    (λ there. has_numeral k (omega (arith, counted_numerals (is_it k), times-Contains is_it Decides-eqb (core.numerals_in parts) k there))),
  )

  pub parts_well_sorted : IsWellSorted parts
  parts_well_sorted = record {
    relation_words = All-map IsName (λ r. r.name) whole.scope.relations declared.relations.words;
    constant_words = All-map IsName (λ k. k.name) whole.scope.constants declared.constants.words;
    invariant_words = All-append IsName (map (λ v. v.name) whole.topology) (map (λ v. v.name) whole.safety ++ map (λ v. v.name) whole.trans)
        (All-map IsName (λ v. v.name) whole.topology declared.invariants.topology_words)
        (All-append IsName (map (λ v. v.name) whole.safety) (map (λ v. v.name) whole.trans) (All-map IsName (λ v. v.name) whole.safety declared.invariants.safety_words) (All-map IsName (λ v. v.name) whole.trans declared.invariants.trans_words));
    relation_names = times-apart bytes_eq bytes_eq-Decides (map (λ r. r.name) whole.scope.relations) declared.relations.names;
    constant_names = times-apart bytes_eq bytes_eq-Decides (map (λ k. k.name) whole.scope.constants) declared.constants.names;
    invariant_names = times-apart bytes_eq bytes_eq-Decides (names_of_invariants parts) (λ x. omega (arith, declared.invariants.same (bytes_eq x), declared.invariants.once x));
    arities = declared.relations.arities;
    relations = declared.relations.few;
    constants = declared.constants.few;
    invariants = omega (arith, declared.invariants.same (λ x. true), times-every (names_of_invariants parts), times-every whole.invariants, declared.invariants.few);
    handler_count = declared.handlers;
    rows = λ r. omega (arith, times-filter (λ row. row.rel.0 == r) whole.start, declared.relations.rows r);
    start = sorted.start;
    topology = sorted.topology;
    safety = sorted.safety;
    trans = sorted.trans;
    handlers = sorted.handlers;
    apart = times-apart is_it Decides-eqb (all_bound_in parts) (λ n. omega (arith, numbers (is_it n), counted_once n 0 whole.scope.next));
    below = times-All is_it Decides-eqb (λ n. n < most_numbers) (all_bound_in parts) (λ n more. omega (arith, counted_high n 0 whole.scope.next (omega (arith, more, numbers (is_it n))), few_numbers));
    numerals = numerals_rise written;
    numeral_range = times-All is_it Decides-eqb IsNumeral parts.numerals (λ n more. All-contains IsNumeral written n from.numerals (Contains-times is_it Decides-eqb written n (only_numeral n more)));
    numerals_named = same_numerals;
    timeout = timeout-items nothing_declared raw.items (recursion_from_All HasSeconds raw.items from.seconds) tt;
  }

-- .. as they are made of the items so far
pub sealed : (raw : RawProgram) → IsFromText raw → (P : Parts) (ns : List ℕ) (start d : ProgramDraft) (xs ys : List RawItem) → start ≡ nothing_declared → xs ≡ raw.items → ys ≡ raw.items → items_faults start xs ≡ [] → d ≡ with_items start xs → ns ≡ with_numerals [] (items_numerals ys) → P ≡ parts_of_draft ns d → IsWellSorted P
sealed raw from P ns start d xs ys empty first second free drafted listed made =
    let broken : broken_rules raw ≡ [] = ap₂ items_faults (sym empty) (sym first) ∙ free in
    let numerals : ns ≡ with_numerals [] (items_numerals raw.items) = listed ∙ ap (λ zs. with_numerals [] (items_numerals zs)) second in
    let whole_draft : d ≡ with_items nothing_declared raw.items = drafted ∙ ap₂ with_items empty first in
    subst IsWellSorted (sym (made ∙ ap₂ parts_of_draft numerals whole_draft)) (parts_well_sorted raw from broken)
