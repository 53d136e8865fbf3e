-- What loops over constants and lists have appended after a turn.
use Rattle.std.proofs.Common.{List, [], ap, ap₂, arith, get_or, length, map, refl, suc, sym, ℕ, ◌+◌, ◌++◌, ◌-◌, ◌<◌, ◌∙◌, ◌∷◌, ◌≡◌, if◌then◌else◌}
use Rattle.std.proofs.Math.Path.{fun_ext}
use Rattle.std.proofs.Math.Seq.{take-append_seam}
use Rattle.std.proofs.lemmas.Grind.{flat_map-append}
use Rattle.std.proofs.lemmas.List.{append-nil, append_assoc, drop_more, length-append, set_split, take-append-drop, take_more}
use Rattle.std.proofs.lemmas.List.Folds.{flat_map-map}
use Rattle.std.specs.Prelude.{drop, flat_map, slice_set, take}
use Rattle.csdn_core.specs.declared.program.Parts.{Parts}
use Rattle.csdn_core.specs.declared.terms.Pred.{Pred}
use Rattle.csdn_core.specs.declared.terms.Sort.{Sort}
use Rattle.csdn_core.specs.declared.terms.Sort.TheVariants.{Sw}
use Rattle.clause_log.specs.Literals.{Literal}
use Rattle.fol_forms.specs.Counts.{count_of}
use Rattle.decision_laws.specs.Classes.{all_tuples}
use Rattle.decision_laws.specs.Clauses.{may_meet, no, replace_clause, replace_from, yes}
use Rattle.decision_laws.specs.Copies.{Equation, Fact, Tuple}
use Rattle.decision_laws.specs.Vocabulary.{Vocabulary, places_from}
use Rattle.ground_inst.specs.Equality.{exchange_at, exchanges, numeral_of, numerals_differ}
use Rattle.ground_inst.specs.Facts.{num_of, vocabulary_of}
use Rattle.ground_inst.specs.declared.constants.Numeral.{Numeral}
use Rattle.ground_inst.specs.declared.facts.Facts.{Facts}
use Rattle.ground_inst.proofs.Steps.{flat-more}

-- one more constant
pub one_more : {Y : Type 0} (f : ℕ → List Y) (old now new : List Y) (i : ℕ) → now ≡ old ++ flat_map f (places_from 0 i) → new ≡ now ++ f i → new ≡ old ++ flat_map f (places_from 0 (i + 1))
one_more f old now new i so_far turn =
    let next : suc i ≡ i + 1 = omega arith in
    let same : 0 + i ≡ i = omega arith in
    turn ∙ ap (λ z. z ++ f i) so_far ∙ append_assoc old (flat_map f (places_from 0 i)) (f i)
    ∙ ap (λ z. old ++ z) (ap (λ k. flat_map f (places_from 0 i) ++ f k) (sym same) ∙ sym (flat-more f 0 i) ∙ ap (λ k. flat_map f (places_from 0 k)) next)

module _ (num : Fact → ℕ) (n : Sort → ℕ) (voc : Vocabulary) (r : Pred) where
  -- the clauses of a place of a tuple, and those of the places after it
  pub next_place : (at : ℕ) (cols : List Sort) (s : Sort) (xs : List ℕ) → at < length cols → at < length xs → s ≡ get_or cols at Sw
      → replace_from num n voc r (take at xs) (drop at cols) (drop at xs)
      ≡ flat_map (λ b. if may_meet voc s (get_or xs at 0) b then replace_clause num r s (take at xs) (drop (at + 1) xs) (get_or xs at 0) b ∷ [] else []) (places_from 0 (n s))
      ++ replace_from num n voc r (take (at + 1) xs) (drop (at + 1) cols) (drop (at + 1) xs)
  next_place at cols s xs in_cols in_xs is =
      let col : drop at cols ≡ s ∷ drop (at + 1) cols = drop_more cols at Sw in_cols ∙ ap (λ z. z ∷ drop (at + 1) cols) (sym is) in
      let place : drop at xs ≡ get_or xs at 0 ∷ drop (at + 1) xs = drop_more xs at 0 in_xs in
      ap₂ (λ ss ys. replace_from num n voc r (take at xs) ss ys) col place
      ∙ ap (λ z. flat_map (λ b. if may_meet voc s (get_or xs at 0) b then replace_clause num r s (take at xs) (drop (at + 1) xs) (get_or xs at 0) b ∷ [] else []) (places_from 0 (n s)) ++ replace_from num n voc r z (drop (at + 1) cols) (drop (at + 1) xs))
      (sym (take_more xs at 0 in_xs))

  -- a clause with the places before and after is one with the whole tuple
  pub exchanged_clause : (s : Sort) (at : ℕ) (xs : List ℕ) (b : ℕ) → at < length xs
      → replace_clause num r s (take at xs) (drop (at + 1) xs) (get_or xs at 0) b ≡ no (num (Equation s (get_or xs at 0) b)) ∷ no (num (Tuple r xs)) ∷ yes (num (Tuple r (slice_set xs at b))) ∷ []
  exchanged_clause s at xs b in_xs =
      let next : suc at ≡ at + 1 = omega arith in
      let whole : take at xs ++ get_or xs at 0 ∷ drop (at + 1) xs ≡ xs = ap (λ z. take at xs ++ z) (sym (drop_more xs at 0 in_xs)) ∙ take-append-drop at xs in
      let other : take at xs ++ b ∷ drop (at + 1) xs ≡ slice_set xs at b = ap (λ z. take at xs ++ b ∷ drop z xs) (sym next) ∙ sym (set_split xs at b in_xs) in
      ap₂ (λ ys zs. no (num (Equation s (get_or xs at 0) b)) ∷ no (num (Tuple r ys)) ∷ yes (num (Tuple r zs)) ∷ []) whole other

-- what was put last is taken off again
pub popped : {X : Type 0} (front before after : List X) (x : X) (k : ℕ) (set : List X) → set ≡ front ++ x ∷ [] → before ≡ set → k ≡ length before → after ≡ take (k - 1) before → after ≡ front
popped front before after x k set e kept long rest =
    let count : k - 1 ≡ length front = (let l = length-append front (x ∷ []) in let m = ap length e in let n = ap length kept in omega (arith, long, l, m, n)) in
    rest ∙ ap₂ (λ n xs. take n xs) count (kept ∙ e) ∙ take-append_seam front (x ∷ [])

pub flat_flat : {X Y Z : Type 0} (g : Y → List Z) (f : X → List Y) (xs : List X) → flat_map g (flat_map f xs) ≡ flat_map (λ x. flat_map g (f x)) xs
flat_flat g f [] = refl
flat_flat g f (x ∷ xs) = flat_map-append g (f x) (flat_map f xs) ∙ ap (λ z. flat_map g (f x) ++ z) (flat_flat g f xs)

module _ (P : Parts) (facts : Facts) (r : Pred) (cols : List Sort) where
  -- one more column of a tuple
  pub next_column : (rows new all : List (List Literal)) (at : ℕ) (s : Sort) (ys zs : List ℕ) → at < length cols → at < length ys → s ≡ get_or cols at Sw
      → rows ++ replace_from (num_of facts) (count_of facts.counts) (vocabulary_of P facts) r (take at ys) (drop at cols) (drop at ys) ≡ all
      → new ≡ rows ++ flat_map (λ b. exchange_at P facts r s ys (no (num_of facts (Tuple r ys))) at (get_or ys at 0) b) (places_from 0 (count_of facts.counts s)) → zs ≡ ys
      → new ++ replace_from (num_of facts) (count_of facts.counts) (vocabulary_of P facts) r (take (at + 1) zs) (drop (at + 1) cols) (drop (at + 1) zs) ≡ all
  next_column rows new all at s ys zs in_cols in_ys is so_far turn kept =
      let one : ℕ → List (List Literal) = λ b. exchange_at P facts r s ys (no (num_of facts (Tuple r ys))) at (get_or ys at 0) b in
      let part : ℕ → List (List Literal) = λ b. if may_meet (vocabulary_of P facts) s (get_or ys at 0) b then replace_clause (num_of facts) r s (take at ys) (drop (at + 1) ys) (get_or ys at 0) b ∷ [] else [] in
      let same : (b : ℕ) → one b ≡ part b =
      λ b. ap (λ z. if may_meet (vocabulary_of P facts) s (get_or ys at 0) b then z ∷ [] else []) (sym (exchanged_clause (num_of facts) (count_of facts.counts) (vocabulary_of P facts) r s at ys b in_ys)) in
      let later : List (List Literal) = replace_from (num_of facts) (count_of facts.counts) (vocabulary_of P facts) r (take (at + 1) ys) (drop (at + 1) cols) (drop (at + 1) ys) in
      ap₂ (λ z w. z ++ replace_from (num_of facts) (count_of facts.counts) (vocabulary_of P facts) r (take (at + 1) w) (drop (at + 1) cols) (drop (at + 1) w)) (turn ∙ ap (λ f. rows ++ flat_map f (places_from 0 (count_of facts.counts s))) (fun_ext same)) kept
      ∙ append_assoc rows (flat_map part (places_from 0 (count_of facts.counts s))) later
      ∙ ap (λ z. rows ++ z) (sym (next_place (num_of facts) (count_of facts.counts) (vocabulary_of P facts) r at cols s ys in_cols in_ys is))
      ∙ so_far

  -- the clauses of the tuples that begin so
  abbrev pub tuples_from : List Sort → List ℕ → List (List Literal)
  tuples_from ss front = flat_map (λ xs. exchanges P facts r cols (front ++ xs)) (all_tuples (count_of facts.counts) ss)

  longer_front : (ss : List Sort) (front : List ℕ) (a : ℕ) → tuples_from ss (front ++ a ∷ []) ≡ flat_map (λ xs. exchanges P facts r cols (front ++ a ∷ xs)) (all_tuples (count_of facts.counts) ss)
  longer_front ss front a =
      let same : (xs : List ℕ) → exchanges P facts r cols ((front ++ a ∷ []) ++ xs) ≡ exchanges P facts r cols (front ++ a ∷ xs) = λ xs. ap (exchanges P facts r cols) (append_assoc front (a ∷ []) xs) in
      ap (λ f. flat_map f (all_tuples (count_of facts.counts) ss)) (fun_ext same)

  pub turned : (ss : List Sort) (front set : List ℕ) (a : ℕ) (rows new : List (List Literal)) → set ≡ front ++ a ∷ [] → new ≡ rows ++ tuples_from ss set
      → new ≡ rows ++ flat_map (λ xs. exchanges P facts r cols (front ++ a ∷ xs)) (all_tuples (count_of facts.counts) ss)
  turned ss front set a rows new e made = made ∙ ap (λ z. rows ++ tuples_from ss z) e ∙ ap (λ z. rows ++ z) (longer_front ss front a)

  -- the tuples of one more sort, by their first place
  pub by_first : (s : Sort) (ss : List Sort) (front : List ℕ)
      → flat_map (λ a. flat_map (λ xs. exchanges P facts r cols (front ++ a ∷ xs)) (all_tuples (count_of facts.counts) ss)) (places_from 0 (count_of facts.counts s)) ≡ tuples_from (s ∷ ss) front
  by_first s ss front =
      let one : ℕ → List (List Literal) = λ a. flat_map (λ xs. exchanges P facts r cols (front ++ a ∷ xs)) (all_tuples (count_of facts.counts) ss) in
      let mapped : ℕ → List (List Literal) = λ a. flat_map (λ xs. exchanges P facts r cols (front ++ xs)) (map (λ xs. a ∷ xs) (all_tuples (count_of facts.counts) ss)) in
      let same : (a : ℕ) → one a ≡ mapped a = λ a. sym (flat_map-map (λ xs. exchanges P facts r cols (front ++ xs)) (λ xs. a ∷ xs) (all_tuples (count_of facts.counts) ss)) in
      ap (λ f. flat_map f (places_from 0 (count_of facts.counts s))) (fun_ext same)
      ∙ sym (flat_flat (λ xs. exchanges P facts r cols (front ++ xs)) (λ a. map (λ xs. a ∷ xs) (all_tuples (count_of facts.counts) ss)) (places_from 0 (count_of facts.counts s)))

module _ (P : Parts) (num : Fact → ℕ) where
  abbrev pub differ : List ℕ → ℕ → List (List Literal)
  differ ms k = flat_map (λ m. numerals_differ num (numeral_of P k) (numeral_of P m)) ms

  -- the numerals with their places
  pub numerals_are : (all : List Numeral) → all ≡ map (numeral_of P) P.numerals → flat_map (λ p. flat_map (λ q. numerals_differ num p q) all) all ≡ flat_map (differ P.numerals) P.numerals
  numerals_are all e =
      let same : (k : ℕ) → flat_map (λ q. numerals_differ num (numeral_of P k) q) (map (numeral_of P) P.numerals) ≡ differ P.numerals k = λ k. flat_map-map (λ q. numerals_differ num (numeral_of P k) q) (numeral_of P) P.numerals in
      ap (λ ps. flat_map (λ p. flat_map (λ q. numerals_differ num p q) ps) ps) e
      ∙ flat_map-map (λ p. flat_map (λ q. numerals_differ num p q) (map (numeral_of P) P.numerals)) (numeral_of P) P.numerals
      ∙ ap (λ f. flat_map f P.numerals) (fun_ext same)

-- three sorts, relations and numerals
pub five_parts : {X : Type 0} (old one two three four last a b c d e : List X) → one ≡ old ++ a → two ≡ one ++ b → three ≡ two ++ c → four ≡ three ++ d → last ≡ four ++ e
    → last ≡ old ++ ((a ++ (b ++ (c ++ []))) ++ (d ++ e))
five_parts old one two three four last a b c d e p q r s t =
    t ∙ ap (λ z. z ++ e) (s ∙ ap (λ z. z ++ d) (r ∙ ap (λ z. z ++ c) (q ∙ ap (λ z. z ++ b) p)))
    ∙ append_assoc (((old ++ a) ++ b) ++ c) d e
    ∙ ap (λ z. z ++ (d ++ e)) (append_assoc (old ++ a) b c ∙ append_assoc old a (b ++ c) ∙ ap (λ z. old ++ (a ++ (b ++ z))) (sym (append-nil c)))
    ∙ append_assoc old (a ++ (b ++ (c ++ []))) (d ++ e)
