-- The predictive parse always ends: it takes a row of symbols, or meets a fault.
use Rattle.std.proofs.Common.{◌≡◌, ℕ, zero, suc, ◌+◌, ◌*◌, ◌≤◌, ◌<◌, List, [], ◌∷◌, ◌++◌, Bool, true, false, ◌&&◌, cond, ltb, length, length-append, refl, subst, ap, inl, inr, arith}
use Rattle.std.proofs.lemmas.Bool.{and_parts, and_from, ltb-true, ltb-false}
use Rattle.csdn_tokens.specs.declared.Kind.{Kind}
use Rattle.csdn_tokens.specs.declared.Token.{Token}
use Rattle.csdn_text.specs.declared.TextRefusal.{TextRefusal}
use Rattle.csdn_tree.specs.declared.syntax.Connective.TheVariants as word
use Rattle.csdn_tree.specs.declared.tiers.Tier.TheVariants.{Single, Joins}
use Rattle.csdn_text.specs.Symbols.{Nonterminal, program, items, item, invariant_item, handler_port, sort_list, rows, terms, term, formula, binds, tier, tail, atom, atom_rest, commands, more_commands, command, Level, depth_of, Symbol, token, part, Values, Rule, same}
use Rattle.csdn_text.specs.Grammar.{rules}
use Rattle.csdn_text.specs.Derives.{Mark, tokens_of, Among, Derives}
use Rattle.csdn_text.specs.Derives.Derives.{nothing, one, by_rule}
use Rattle.csdn_text.specs.Machine.{Takes, Fails, choose, limit}
use Rattle.csdn_text.specs.Machine.Takes.{done, step, down}
use Rattle.csdn_text.specs.Machine.Fails.{unexpected, deep, after_one, inside, after_rule}
use Rattle.csdn_text.specs.Reading.{whole}
use Rattle.csdn_text.proofs.Tables.{nullable, erasable}
use Rattle.csdn_text.proofs.Theory.{choose-is_rule, sound, cond_then, empty_kept}
use Rattle.csdn_text.proofs.Faults.{Counts, refused_at-counts}

-- how many right sides may be entered, one inside the other, before a token is taken
abbrev rank : Nonterminal → ℕ
rank program = 3
rank items = 3
rank item = 2
rank invariant_item = 1
rank handler_port = 1
rank sort_list = 1
rank rows = 1
rank terms = 2
rank term = 1
rank formula = 7
rank (binds q) = 1
rank (tier Single) = 2
rank (tier (Joins word.And)) = 3
rank (tier (Joins word.Or)) = 4
rank (tier (Joins word.Implies)) = 5
rank (tier (Joins word.Iff)) = 6
rank atom = 1
rank atom_rest = 1
rank more_commands = 3
rank commands = 2
rank command = 1
rank _ = 0

-- whether all that a row can begin with has a lower rank
abbrev is_below : ℕ → List Symbol → Bool
is_below bound [] = true
is_below bound (token x l ∷ ss) = true
is_below bound (part n l ∷ ss) = ltb (rank n) bound && cond (nullable n) (is_below bound ss) true

abbrev are_below : {n : Nonterminal} → ℕ → List (Rule n) → Bool
are_below bound [] = true
are_below bound (r ∷ rs) = is_below bound r.parts && are_below bound rs

-- each right side begins with what has a lower rank
falls : (n : Nonterminal) → are_below (rank n) ((rules n).led ++ (rules n).last ∷ []) ≡ true
falls program = refl
falls (tier Single) = refl
falls (tier (Joins word.And)) = refl
falls (tier (Joins word.Or)) = refl
falls (tier (Joins word.Implies)) = refl
falls (tier (Joins word.Iff)) = refl
falls (tail word.And) = refl
falls (tail word.Or) = refl
falls (tail word.Implies) = refl
falls (tail word.Iff) = refl
falls _ = refl

rank_small : (n : Nonterminal) → ltb (rank n) 8 ≡ true
rank_small program = refl
rank_small (tier Single) = refl
rank_small (tier (Joins word.And)) = refl
rank_small (tier (Joins word.Or)) = refl
rank_small (tier (Joins word.Implies)) = refl
rank_small (tier (Joins word.Iff)) = refl
rank_small _ = refl

any_below : (ss : List Symbol) → is_below 8 ss ≡ true
any_below [] = refl
any_below (token x l ∷ ss) = refl
any_below (part n l ∷ ss) = and_from (ltb (rank n) 8) (cond (nullable n) (is_below 8 ss) true) (rank_small n) (by (nullable n) (any_below ss))
  where
    by : (b : Bool) → is_below 8 ss ≡ true → cond b (is_below 8 ss) true ≡ true
    by true is = is
    by false is = refl

below-among : {n : Nonterminal} (bound : ℕ) (rs : List (Rule n)) (r : Rule n) → are_below bound rs ≡ true → Among rs r → is_below bound r.parts ≡ true
below-among bound [] r all a = absurd a
below-among bound (x ∷ rs) r all (inl e) = subst (λ (y : Rule _). is_below bound y.parts ≡ true) e (and_parts (is_below bound x.parts) (are_below bound rs) all).0
below-among bound (x ∷ rs) r all (inr a) = below-among bound rs r (and_parts (is_below bound x.parts) (are_below bound rs) all).1 a

chosen_below : (n : Nonterminal) (ts : List Token) → is_below (rank n) (choose n ts).parts ≡ true
chosen_below n ts = below-among (rank n) ((rules n).led ++ (rules n).last ∷ []) (choose n ts) (falls n) (choose-is_rule n ts)

both_empty : (a b : List Mark) → a ++ b ≡ [] → (a ≡ []) × (b ≡ [])
both_empty [] b is = (refl, is)
both_empty (m ∷ a) b is = absurd cc

-- a row that derives no token is one that may be empty
erased : {d : ℕ} {ss : List Symbol} {ms : List Mark} {vs : Values ss} → Derives d ss ms vs → ms ≡ [] → erasable ss ≡ true
erased nothing none = refl
erased (one is later) none = absurd cc
erased (by_rule {n = n} {ss = ss} {ms = ms} {ms' = ms'} r is inner later) none =
    let empty = both_empty ms ms' none in
    and_from (nullable n) (erasable ss) (empty_kept n r is (erased inner empty.0)) (erased later empty.1)

-- A row of symbols is taken, or meets a fault other than want of memory.
pub data Decided (d : ℕ) (ss : List Symbol) (ts : List Token) : Type 0 where
  takes : {vs : Values ss} {rest : List Token} → Takes limit d ss ts vs rest → Decided d ss ts
  fails : {f : TextRefusal} → Fails limit d ss ts f → Counts f → Decided d ss ts

after_token : {d : ℕ} {x : Kind} {l : Level} {ss : List Symbol} {t : Token} {ts : List Token} → same t.kind x ≡ true → depth_of d l ≤ limit
    → Decided d ss ts → Decided d (token x l ∷ ss) (t ∷ ts)
after_token is within (takes later) = takes (step is within later)
after_token is within (fails later counts) = fails (after_one is within later) counts

by_token : {d : ℕ} {x : Kind} {l : Level} {ss : List Symbol} (t : Token) (ts : List Token) (fits beyond : Bool) → same t.kind x ≡ fits → ltb limit (depth_of d l) ≡ beyond
    → Decided d ss ts → Decided d (token x l ∷ ss) (t ∷ ts)
by_token t ts false beyond is far next = fails (unexpected is) (refused_at-counts (t ∷ ts))
by_token {d} {l = l} t ts true true is far next = fails (deep is (ltb-true limit (depth_of d l) far)) tt
by_token {d} {l = l} t ts true false is far next = after_token is (ltb-false limit (depth_of d l) far) next

after_part : {d : ℕ} {l : Level} {n : Nonterminal} {ss : List Symbol} {ts mid : List Token} {us : Values (choose n ts).parts}
    → Takes limit (depth_of d l) (choose n ts).parts ts us mid → Decided d ss mid → Decided d (part n l ∷ ss) ts
after_part inner (takes later) = takes (down inner later)
after_part inner (fails later counts) = fails (after_rule inner later) counts

-- what follows a nonterminal: a token was taken, or what follows is below the same rank
behind : (fuel d bound : ℕ) (l : Level) (n : Nonterminal) (ss : List Symbol) (ts mid : List Token) (us : Values (choose n ts).parts)
    → cond (nullable n) (is_below bound ss) true ≡ true → bound ≤ 8 → length ts * 8 + bound ≤ fuel
    → ((mid : List Token) (least : ℕ) → is_below least ss ≡ true → least ≤ 8 → length mid * 8 + least ≤ fuel → Decided d ss mid)
    → (ms : List Mark) → ts ≡ tokens_of ms ++ mid → Derives (depth_of d l) (choose n ts).parts ms us → Decided d ss mid
behind fuel d bound l n ss ts mid us low small room next [] split derives =
    next mid bound (cond_then (nullable n) (is_below bound ss) low (empty_kept n (choose n ts) (choose-is_rule n ts) (erased derives refl))) small
    (subst (λ xs. length xs * 8 + bound ≤ fuel) split room)
behind fuel d bound l n ss ts mid us low small room next (m ∷ ms) split derives =
    let longer : length ts ≡ length (m.token ∷ tokens_of ms ++ mid) = ap (λ xs. length xs) split in
    next mid 8 (any_below ss) (omega arith) (omega (arith, longer, length-append (tokens_of ms) mid, room))

by_part : (fuel d bound : ℕ) (l : Level) (n : Nonterminal) (ss : List Symbol) (ts : List Token)
    → cond (nullable n) (is_below bound ss) true ≡ true → bound ≤ 8 → length ts * 8 + bound ≤ fuel
    → ((mid : List Token) (least : ℕ) → is_below least ss ≡ true → least ≤ 8 → length mid * 8 + least ≤ fuel → Decided d ss mid)
    → Decided (depth_of d l) (choose n ts).parts ts → Decided d (part n l ∷ ss) ts
by_part fuel d bound l n ss ts low small room next (fails fault counts) = fails (inside fault) counts
by_part fuel d bound l n ss ts low small room next (takes {vs = us} {rest = mid} inner) =
    let s = sound inner in
    after_part inner (behind fuel d bound l n ss ts mid us low small room next s.0 s.1 s.3)

-- a row is decided, if each right side below it is
row : (fuel : ℕ) → ((d : ℕ) (n : Nonterminal) (ts : List Token) → length ts * 8 + rank n < fuel → Decided d (choose n ts).parts ts)
    → (d : ℕ) (ss : List Symbol) (ts : List Token) (bound : ℕ) → is_below bound ss ≡ true → bound ≤ 8 → length ts * 8 + bound ≤ fuel → Decided d ss ts
row fuel enter d [] ts bound low small room = takes done
row fuel enter d (token x l ∷ ss) [] bound low small room = fails (unexpected refl) (refused_at-counts [])
row fuel enter d (token x l ∷ ss) (t ∷ ts) bound low small room =
    by_token t ts (same t.kind x) (ltb limit (depth_of d l)) refl refl (row fuel enter d ss ts 8 (any_below ss) (omega arith) (omega (arith, room)))
row fuel enter d (part n l ∷ ss) ts bound low small room =
    let lower = and_parts (ltb (rank n) bound) (cond (nullable n) (is_below bound ss) true) low in
    by_part fuel d bound l n ss ts lower.1 small room
    (λ mid least low' small' room'. row fuel enter d ss mid least low' small' room')
    (enter (depth_of d l) n ts (omega (arith, ltb-true (rank n) bound lower.0, room)))

entered : (fuel d : ℕ) (n : Nonterminal) (ts : List Token) → length ts * 8 + rank n < fuel → Decided d (choose n ts).parts ts
entered zero d n ts room = absurd (omega (arith, room))
entered (suc fuel) d n ts room =
    row fuel (entered fuel) d (choose n ts).parts ts (rank n) (chosen_below n ts) (omega (arith, ltb-true (rank n) 8 (rank_small n))) (omega (arith, room))

-- tokens are taken as a program, or meet a fault
pub decided : (ts : List Token) → Decided 1 whole ts
decided ts = row (length ts * 8 + 8) (entered (length ts * 8 + 8)) 1 whole ts 8 (any_below whole) (omega arith) (omega arith)
