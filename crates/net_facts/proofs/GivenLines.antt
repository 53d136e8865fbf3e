-- What lines of network texts say is right.
use Rattle.std.proofs.Common.{◌≡◌, ◌∙◌, ap, sym, subst, refl, ℕ, suc, ◌+◌, ◌<◌, ◌≤◌, ◌^◌, ◌==◌, Bool, true, false, not, true≢false, List, [], ◌∷◌, ◌++◌, length, Option, Some, None, Result, Ok, Err, All, Contains, slice_get, arith, cond}
use Rattle.std.specs.Str.{bytes_eq}
use Rattle.std.proofs.lemmas.Bool.{and_parts}
use Rattle.std.proofs.lemmas.Option.{same_Some}
use Rattle.std.proofs.lemmas.List.Elements.{All-nil, All-push}
use Rattle.text_lines.specs.Text.{next, ended}
use Rattle.text_lines.specs.Numbers.{number_of}
use Rattle.text_lines.specs.Distinct.{are_distinct}
use Rattle.text_lines.proofs.Numerals.{number_is}
use Rattle.csdn_core.specs.declared.terms.Sort.{Sort}
use Rattle.csdn_core.specs.declared.event.Packet.{Packet}
use Rattle.csdn_core.specs.declared.event.Packet.TheVariants.{At}
use Rattle.csdn_core.specs.declared.program.Parts.{Parts}
use Rattle.csdn_core.specs.declared.program.Relation.{Relation}
use Rattle.csdn_core.specs.Network.{Network, elements, HaveElements}
use Rattle.csdn_core.specs.Sorted.{flow_sorts, packet_sorts}
use Rattle.csdn_core.specs.Truth.{same_truth}
use Rattle.fol_forms.proofs.NormalTruth.{same_truth-is}
use Rattle.net_structs.specs.declared.row.Row.{Row}
use Rattle.net_structs.specs.Networks.{has}
use Rattle.net_facts.specs.Cases.{IsPacket}
use Rattle.net_structs.specs.Refusals.{is_empty, have_elements}
use Rattle.net_structs.proofs.Accepted.{there}
use Rattle.net_text.specs.declared.refusal.NetWhy.{NetWhy}
use Rattle.net_text.specs.declared.refusal.NetWhy.TheVariants as why
use Rattle.net_text.specs.Lines.{◌>>=◌, most, or_why, wants, elements_from, sort_of, relation_from, cells_of, tuple_of, flow_of, packet_of}

-- ---- the parts of a chain that gives something

pub bound : {A B : Type 0} (r : Result A NetWhy) (f : A → Result B NetWhy) (y : B) → (r >>= f) ≡ Ok y → (x : A) × (r ≡ Ok x) × (f x ≡ Ok y)
bound (Ok x) f y is = (x, refl, is)
bound (Err e) f y is = absurd cc

pub wanted : (b : Bool) (e : NetWhy) (u : Unit {0}) → wants b e ≡ Ok u → b ≡ true
wanted true e u is = refl
wanted false e u is = absurd cc

pub found : {A : Type 0} (o : Option A) (e : NetWhy) (x : A) → or_why o e ≡ Ok x → o ≡ Some x
found (Some y) e x is = let same : y ≡ x = ok_is y x is in ap Some same
  where
    ok_is : {A : Type 0} (y x : A) → ◌≡◌ {A = Result A NetWhy} (Ok y) (Ok x) → y ≡ x
    ok_is y x is = cc
found None e x is = absurd cc

pub given : {A : Type 0} (x y : A) → ◌≡◌ {A = Result A NetWhy} (Ok x) (Ok y) → x ≡ y
given x y is = cc

-- ---- elements

abbrev pub IsSmall : ℕ → Type 0
IsSmall m = m < 2 ^ 64

pub elements_small : (before : List ℕ) (ws : List (List ℕ)) (es : List ℕ) → elements_from before ws ≡ Ok es → All IsSmall before → All IsSmall es
elements_small before [] es is all = subst (All IsSmall) (given before es is) all
elements_small before (w ∷ ws) es is all =
    let number = bound (or_why (number_of most w) why.Number) (λ n. elements_from (before ++ n ∷ []) ws) es is in
    let below : number.0 ≤ most = (number_is most number.0 w (found (number_of most w) why.Number number.0 number.1)).1 in
    elements_small (before ++ number.0 ∷ []) ws es number.2 (All-push IsSmall before number.0 all (omega arith))

pub record IsSort (es : List ℕ) : Type 0 where
  pub some : not (is_empty es) ≡ true
  pub small : All IsSmall es

pub sort_given : (ws : List (List ℕ)) (es : List ℕ) → sort_of ws ≡ Ok es → IsSort es
unfolding sort_of
sort_given ws es is =
    let numbers = bound (elements_from [] ws) _ es is in
    let some_of = bound (wants (not (is_empty numbers.0)) why.Empty) _ es numbers.2 in
    let once = bound (wants (are_distinct numbers.0) why.Repeated) _ es some_of.2 in
    subst IsSort (given numbers.0 es once.2) (record { some = wanted (not (is_empty numbers.0)) why.Empty some_of.0 some_of.1; small = elements_small [] ws numbers.0 numbers.1 (All-nil IsSmall) })

-- ---- cells

-- in a network with the same elements
pub cells_given : (N : Network) (ss : List Sort) (ms : List ℕ) → have_elements N ss ms ≡ true → HaveElements N ss ms
unfolding HaveElements
cells_given N [] [] is = tt
cells_given N [] (m ∷ ms) is = absurd (true≢false (sym is))
cells_given N (s ∷ ss) [] is = absurd (true≢false (sym is))
cells_given N (s ∷ ss) (m ∷ ms) is =
    let p = and_parts (has (elements N s) m) (have_elements N ss ms) is in
    (there (elements N s) m p.0, cells_given N ss ms p.1)

pub same_cells_given : (N M : Network) → ((s : Sort) → elements N s ≡ elements M s) → (ss : List Sort) (ms : List ℕ) → HaveElements N ss ms → HaveElements M ss ms
unfolding HaveElements
same_cells_given N M same [] [] all = tt
same_cells_given N M same [] (m ∷ ms) all = absurd all
same_cells_given N M same (s ∷ ss) [] all = absurd all
same_cells_given N M same (s ∷ ss) (m ∷ ms) all = (subst (λ (es : List ℕ). Contains es m) (same s) all.0, same_cells_given N M same ss ms all.1)

cells_of_given : (N : Network) (ss : List Sort) (es cells : List ℕ) → cells_of N ss es ≡ Ok cells → HaveElements N ss cells
unfolding cells_of
cells_of_given N ss es cells is =
    let many = bound (wants (length es == length ss) why.Arity) _ cells is in
    let known = bound (wants (have_elements N ss es) why.Stranger) _ cells many.2 in
    subst (HaveElements N ss) (given es cells known.2) (cells_given N ss es (wanted (have_elements N ss es) why.Stranger known.0 known.1))

relation_at : (at : ℕ) (rs : List Relation) (name : List ℕ) (r : ℕ × Relation) → relation_from at rs name ≡ Some r → (k : ℕ) × (r.0 ≡ at + k) × (slice_get rs k ≡ Some r.1)
relation_at at [] name r is = absurd cc
relation_at at (q ∷ rs) name r is = by_test (bytes_eq q.name name) is (relation_at (at + 1) rs name r)
  where
    by_test : (b : Bool) → cond b (Some (at, q)) (relation_from (at + 1) rs name) ≡ Some r
        → (relation_from (at + 1) rs name ≡ Some r → (k : ℕ) × (r.0 ≡ at + 1 + k) × (slice_get rs k ≡ Some r.1)) → (k : ℕ) × (r.0 ≡ at + k) × (slice_get (q ∷ rs) k ≡ Some r.1)
    by_test true here later = let same : (at, q) ≡ r = same_Some (at, q) r here in (0, (ap (λ p. p.0) (sym same) ∙ (omega arith)), ap (λ p. Some p.1) same)
    by_test false there later = let rest = later there in (suc rest.0, (omega (arith, rest.1)), rest.2)

-- what the line of a tuple of a declared relation says
pub record IsTold (P : Parts) (N : Network) (static : Bool) (t : ℕ × List ℕ) : Type 0 where
  pub relation : Relation
  pub declared : slice_get P.relations t.0 ≡ Some relation
  pub fixed : relation.fixed ≡ static
  pub cells : HaveElements N relation.sorts t.1

pub tuple_given : (P : Parts) (static : Bool) (N : Network) (ws : List (List ℕ)) (t : ℕ × List ℕ) → tuple_of P static N ws ≡ Ok t → IsTold P N static t
unfolding tuple_of
tuple_given P static N ws t is =
    let name = bound (or_why (next ws) why.Shape) _ t is in
    let numbers = bound (elements_from [] name.0.1) _ t name.2 in
    let relation_is = bound (or_why (relation_from 0 P.relations name.0.0) why.Name) _ t numbers.2 in
    let kind_is = bound (wants (same_truth relation_is.0.1.fixed static) why.Name) _ t relation_is.2 in
    let cells_are = bound (cells_of N relation_is.0.1.sorts numbers.0) _ t kind_is.2 in
    let at = relation_at 0 P.relations name.0.0 relation_is.0 (found (relation_from 0 P.relations name.0.0) why.Name relation_is.0 relation_is.1) in
    let number : at.0 ≡ relation_is.0.0 = omega (arith, at.1) in
    let all : HaveElements N relation_is.0.1.sorts cells_are.0 = cells_of_given N relation_is.0.1.sorts numbers.0 cells_are.0 cells_are.1 in
    subst (IsTold P N static) (given (relation_is.0.0, cells_are.0) t cells_are.2)
    (record { relation = relation_is.0.1; declared = ap (slice_get P.relations) (sym number) ∙ at.2; fixed = same_truth-is relation_is.0.1.fixed static (wanted (same_truth relation_is.0.1.fixed static) why.Name kind_is.0 kind_is.1); cells = all })

pub flow_given : (N : Network) (ws : List (List ℕ)) (cells : List ℕ) → flow_of N ws ≡ Ok cells → HaveElements N flow_sorts cells
unfolding flow_of
flow_given N ws cells is =
    let numbers = bound (elements_from [] ws) _ cells is in
    cells_of_given N flow_sorts numbers.0 cells numbers.2

pub packet_given : (N : Network) (ws : List (List ℕ)) (packet : Packet) (rows : List Row) → packet_of N ws ≡ Ok packet → IsPacket N (Some rows) packet
unfolding packet_of
packet_given N ws packet rows is =
    let s = bound (or_why (next ws) why.Shape) _ packet is in
    let a = bound (or_why (next s.0.1) why.Shape) _ packet s.2 in
    let b = bound (or_why (next a.0.1) why.Shape) _ packet a.2 in
    let i = bound (or_why (next b.0.1) why.Shape) _ packet b.2 in
    let end = bound (or_why (ended i.0.1) why.Shape) _ packet i.2 in
    let m = bound (or_why (number_of most s.0.0) why.Number) _ packet end.2 in
    let x = bound (or_why (number_of most a.0.0) why.Number) _ packet m.2 in
    let y = bound (or_why (number_of most b.0.0) why.Number) _ packet x.2 in
    let k = bound (or_why (number_of most i.0.0) why.Number) _ packet y.2 in
    let cells : List ℕ = m.0 ∷ x.0 ∷ y.0 ∷ k.0 ∷ [] in
    let known = bound (wants (have_elements N packet_sorts cells) why.Stranger) _ packet k.2 in
    subst (IsPacket N (Some rows)) (given (At m.0 x.0 y.0 k.0) packet known.2)
    (cells_given N packet_sorts cells (wanted (have_elements N packet_sorts cells) why.Stranger known.0 known.1))
