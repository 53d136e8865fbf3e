-- Asks that are one, and lists of them.
use Rattle.std.proofs.Common.{◌≡◌, ◌∙◌, ap, refl, ℕ, ◌==◌, Bool, true, false, ◌&&◌, if◌then◌else◌, List, [], ◌∷◌, ◌++◌, map, eqb-true}
use Rattle.std.proofs.lemmas.Bool.{and_from, and_parts}
use Rattle.general_facts.proofs.Numbers.{self_equal}
use Rattle.csdn_history.specs.declared.entry.Entry.{Entry}
use Rattle.csdn_run.specs.Sessions.{entries_of, session_of}
use Rattle.of10_session.specs.declared.turn.Ask.{Ask}
use Rattle.of10_session.specs.declared.turn.Ask.TheVariants.{Join, Packet, Expire}
use Rattle.session_asks.specs.Told.{ask_of, asks_of, same_ask}

pub same_itself : (ask : Ask) → same_ask ask ask ≡ true
same_itself (Join s) = self_equal s
same_itself (Packet s a b i) = and_from (s == s) ((a == a) && ((b == b) && (i == i))) (self_equal s) (and_from (a == a) ((b == b) && (i == i)) (self_equal a) (and_from (b == b) (i == i) (self_equal b) (self_equal i)))
same_itself (Expire s a b i cookie) =
    and_from (s == s) ((a == a) && ((b == b) && ((i == i) && (cookie == cookie)))) (self_equal s)
    (and_from (a == a) ((b == b) && ((i == i) && (cookie == cookie))) (self_equal a)
    (and_from (b == b) ((i == i) && (cookie == cookie)) (self_equal b) (and_from (i == i) (cookie == cookie) (self_equal i) (self_equal cookie))))

pub same_ask-is : (ask other : Ask) → same_ask ask other ≡ true → ask ≡ other
same_ask-is (Join s) (Join t) e = ap (λ n. Join n) (eqb-true s t e)
same_ask-is (Packet s a b i) (Packet t c d j) e =
    let one = and_parts (s == t) ((a == c) && ((b == d) && (i == j))) e in
    let two = and_parts (a == c) ((b == d) && (i == j)) one.1 in
    let three = and_parts (b == d) (i == j) two.1 in
    ap (λ n. Packet n a b i) (eqb-true s t one.0) ∙ ap (λ n. Packet t n b i) (eqb-true a c two.0) ∙ ap (λ n. Packet t c n i) (eqb-true b d three.0) ∙ ap (λ n. Packet t c d n) (eqb-true i j three.1)
same_ask-is (Expire s a b i cookie) (Expire t c d j mark) e =
    let one = and_parts (s == t) ((a == c) && ((b == d) && ((i == j) && (cookie == mark)))) e in
    let two = and_parts (a == c) ((b == d) && ((i == j) && (cookie == mark))) one.1 in
    let three = and_parts (b == d) ((i == j) && (cookie == mark)) two.1 in
    let four = and_parts (i == j) (cookie == mark) three.1 in
    ap (λ n. Expire n a b i cookie) (eqb-true s t one.0) ∙ ap (λ n. Expire t n b i cookie) (eqb-true a c two.0) ∙ ap (λ n. Expire t c n i cookie) (eqb-true b d three.0)
    ∙ ap (λ n. Expire t c d n cookie) (eqb-true i j four.0) ∙ ap (λ n. Expire t c d j n) (eqb-true cookie mark four.1)
same_ask-is (Join s) (Packet t c d j) e = absurd cc
same_ask-is (Join s) (Expire t c d j mark) e = absurd cc
same_ask-is (Packet s a b i) (Join t) e = absurd cc
same_ask-is (Packet s a b i) (Expire t c d j mark) e = absurd cc
same_ask-is (Expire s a b i cookie) (Join t) e = absurd cc
same_ask-is (Expire s a b i cookie) (Packet t c d j) e = absurd cc

-- ---- the asks of entries

own-append : (q : ℕ) (es fs : List Entry) → entries_of q (es ++ fs) ≡ entries_of q es ++ entries_of q fs
own-append q [] fs = refl
own-append q (e ∷ es) fs = by (own-append q es fs) (session_of e == q)
  where
    by : entries_of q (es ++ fs) ≡ entries_of q es ++ entries_of q fs → (b : Bool) → (if b then e ∷ entries_of q (es ++ fs) else entries_of q (es ++ fs)) ≡ (if b then e ∷ entries_of q es else entries_of q es) ++ entries_of q fs
    by same true = ap (λ (l : List Entry). e ∷ l) same
    by same false = same

map_append : (es fs : List Entry) → map ask_of (es ++ fs) ≡ map ask_of es ++ map ask_of fs
map_append [] fs = refl
map_append (e ∷ es) fs = ap (λ (l : List Ask). ask_of e ∷ l) (map_append es fs)

pub asks-append : (q : ℕ) (es fs : List Entry) → asks_of q (es ++ fs) ≡ asks_of q es ++ asks_of q fs
asks-append q es fs = ap (map ask_of) (own-append q es fs) ∙ map_append (entries_of q es) (entries_of q fs)

one_ask : (q : ℕ) (e : Entry) (b : Bool) → map ask_of (if b then e ∷ [] else []) ≡ (if b then ask_of e ∷ [] else [])
one_ask q e true = refl
one_ask q e false = refl

pub asks-next : (q : ℕ) (es : List Entry) (e : Entry) → asks_of q (es ++ e ∷ []) ≡ asks_of q es ++ (if session_of e == q then ask_of e ∷ [] else [])
asks-next q es e = asks-append q es (e ∷ []) ∙ ap (λ (l : List Ask). asks_of q es ++ l) (one_ask q e (session_of e == q))
