-- The names and the limits of what the items so far declare.
use Rattle.std.proofs.Common.{◌≡◌, ℕ, ◌+◌, ◌≤◌, ◌==◌, Bool, true, false, not, cond, List, [], ◌∷◌, ◌++◌, length, map, All, bytes_eq, is_some, position, nat_le, nat_lt, refl, ap, ◌∙◌, inl, inr, arith, length-append}
use Rattle.std.specs.List.{AllByRecursion as ByRecursion}
use Rattle.std.proofs.lemmas.Bool.{cases_eq, eq-eqb, ne_eqb}
use Rattle.std.proofs.lemmas.Bool.Decides.{nat_tests}
use Rattle.std.proofs.lemmas.List.{map-append}
use Rattle.std.proofs.lemmas.List.Elements.{All-push}
use Rattle.std.proofs.lemmas.Slice.Eq.{bytes_eq-Decides}
use Rattle.csdn_core.specs.Names.{IsName}
use Rattle.csdn_core.specs.declared.program.Relation.{Relation as AnyRelation}
use Rattle.csdn_core.specs.declared.program.Constant.{Constant as AnyConstant}
use Rattle.csdn_core.specs.declared.program.Invariant.{Invariant as NamedFormula}
use Rattle.csdn_core.specs.declared.program.StartRow.{StartRow}
use Rattle.csdn_core.specs.declared.terms.RelId.{RelId}
use Rattle.csdn_tree.specs.declared.names.RawName.{RawName}
use Rattle.csdn_tree.specs.declared.syntax.InvariantKind.{InvariantKind}
use Rattle.csdn_tree.specs.declared.syntax.InvariantKind.TheVariants.{Topology, Safety, Trans}
use Rattle.csdn_tree.specs.declared.syntax.RawFormula.{RawFormula}
use Rattle.csdn_tree.specs.declared.syntax.RawRelation.{RawRelation}
use Rattle.csdn_tree.specs.declared.syntax.RawRow.{RawRow}
use Rattle.csdn_tree.specs.declared.syntax.RawItem.{RawItem}
use Rattle.csdn_tree.specs.declared.syntax.RawItem.TheVariants.{Relation, Constant, Invariant, Handler, Timeout}
use Rattle.csdn_tree.specs.FromText.{item_names, items_names}
use Rattle.csdn_core.specs.declared.terms.Sort.{Sort}
use Rattle.csdn_types.specs.declared.refusal.SortRefusal.{SortRefusal}
use Rattle.csdn_types.specs.declared.refusal.SortRefusal.TheVariants.{Duplicate, WrongArity, TooMany}
use Rattle.csdn_types.specs.Faults.{fault_if, faults}
use Rattle.csdn_types.specs.Scope.{Scope, relation_named}
use Rattle.csdn_types.specs.Items.{name_faults, row_of, rows_of, rows_faults, row_faults, relation_item_faults, handler_of}
use Rattle.csdn_types.specs.Programs.{ProgramDraft, place_of, named_formula, with_invariant, constant_faults, invariant_faults, item_faults, with_item, items_faults, with_items}
use Rattle.csdn_types.proofs.Counts.{passes, passes-true, passes-false, times, times-append, times-push, times-new, times-once_more}
use Rattle.csdn_types.proofs.NumeralSorts.{all_left, all_right}
use Rattle.csdn_types.proofs.Sorts.{free_left, free_right, fault_free, below}

-- ---- what a rule that is not broken says

at_most : (m n : ℕ) (e : SortRefusal) → fault_if (nat_lt m n) e ≡ [] → n ≤ m
at_most m n e free = let b = fault_free (nat_lt m n) e free in grind (arith, nat_tests)

-- ---- names

-- how often a name is declared
abbrev pub uses : List ℕ → List (List ℕ) → ℕ
uses name names = times (bytes_eq name) names

new_name : (names : List (List ℕ)) (name : List ℕ) (e : SortRefusal) → fault_if (is_some (position (bytes_eq name) names)) e ≡ [] → uses name names ≡ 0
new_name names name e free = times-new (bytes_eq name) names (fault_free (is_some (position (bytes_eq name) names)) e free)

once_more : (names : List (List ℕ)) (name : List ℕ) (e : SortRefusal) → fault_if (is_some (position (bytes_eq name) names)) e ≡ [] → ((x : List ℕ) → uses x names ≤ 1) → (x : List ℕ) → uses x (names ++ name ∷ []) ≤ 1
once_more names name e free once = times-once_more bytes_eq bytes_eq-Decides names name (new_name names name e free) once

-- ---- rows

-- the rows of a relation
abbrev pub rows_at : ℕ → List StartRow → ℕ
rows_at r rows = times (λ row. row.rel.0 == r) rows

rows_counted : (s : Scope) (id : RelId) (r : ℕ) (b : Bool) → (id.0 == r) ≡ b → (rows : List RawRow) → rows_at r (map (row_of s id) rows) ≡ cond b (length rows) 0
unfolding times
rows_counted s id r true is [] = refl
rows_counted s id r false is [] = refl
rows_counted s id r true is (row ∷ rows) = omega (arith, passes-true (id.0 == r) is, rows_counted s id r true is rows)
rows_counted s id r false is (row ∷ rows) = omega (arith, passes-false (id.0 == r) is, rows_counted s id r false is rows)

rows_limited : (s : Scope) (sorts : List Sort) (count : ℕ) (rows : List RawRow) → count ≤ 1024 → rows_faults s sorts count rows ≡ [] → count + length rows ≤ 1024
unfolding rows_faults
rows_limited s sorts count [] low free = omega (arith, low)
rows_limited s sorts count (row ∷ rows) low free =
    let here = free_right (fault_if (not (length row.terms == length sorts)) (WrongArity row.at)) _ (free_left (row_faults s sorts count row) _ free) in
    let room = below 1024 count (TooMany row.at) (free_left (fault_if (nat_le 1024 count) (TooMany row.at)) _ here) in
    omega (arith, rows_limited s sorts (count + 1) rows (omega (arith, room)) (free_right (row_faults s sorts count row) _ free))

-- ---- the items so far

-- the relations and the rows
pub record KeptRelations (relations : List AnyRelation) (start : List StartRow) : Type 0 where
  pub words : All (λ r. IsName r.name) relations
  pub names : (x : List ℕ) → uses x (map (λ r. r.name) relations) ≤ 1
  pub arities : All (λ r. length r.sorts ≤ 5) relations
  pub few : length relations ≤ 64
  pub rows : (r : ℕ) → rows_at r start ≤ 1024
  -- no row is of a relation that is not declared
  pub known_rows : (r : ℕ) → length relations ≤ r → rows_at r start ≡ 0

pub record KeptConstants (constants : List AnyConstant) : Type 0 where
  pub words : All (λ k. IsName k.name) constants
  pub names : (x : List ℕ) → uses x (map (λ k. k.name) constants) ≤ 1
  pub few : length constants ≤ 64

abbrev pub gathered_names : List NamedFormula → List NamedFormula → List NamedFormula → List (List ℕ)
gathered_names xs ys zs = map (λ v. v.name) xs ++ (map (λ v. v.name) ys ++ map (λ v. v.name) zs)

abbrev pub HasName : NamedFormula → Type 0
HasName v = IsName v.name

-- the three kinds of invariants, and all their names in the order of the text
pub record KeptInvariants (topology safety trans : List NamedFormula) (names : List (List ℕ)) : Type 0 where
  pub topology_words : All HasName topology
  pub safety_words : All HasName safety
  pub trans_words : All HasName trans
  pub once : (x : List ℕ) → uses x names ≤ 1
  pub same : (q : List ℕ → Bool) → times q (gathered_names topology safety trans) ≡ times q names
  pub few : length names ≤ 64

pub record Declared (d : ProgramDraft) : Type 0 where
  pub relations : KeptRelations d.scope.relations d.start
  pub constants : KeptConstants d.scope.constants
  pub invariants : KeptInvariants d.topology d.safety d.trans d.invariants
  pub handlers : length d.handlers ≤ 32

-- ---- one more relation

module _ (s : Scope) (start : List StartRow) (r : RawRelation) (word : IsName r.name.text) (free : relation_item_faults s r ≡ []) (h : KeptRelations s.relations start) where
  abbrev declared : AnyRelation
  declared = record { name = r.name.text; sorts = r.sorts; fixed = r.fixed }

  abbrev id : RelId
  id = record { 0 = length s.relations }

  header : name_faults s r ≡ []
  header = free_left (name_faults s r) (rows_faults s r.sorts 0 r.rows) free

  new : fault_if (is_some (relation_named s r.name.text)) (Duplicate r.name.at) ≡ []
  new = free_left (fault_if (is_some (relation_named s r.name.text)) (Duplicate r.name.at)) _ header

  limits : fault_if (nat_lt 5 (length r.sorts)) (WrongArity r.name.at) ++ fault_if (nat_le 64 (length s.relations)) (TooMany r.name.at) ≡ []
  limits = free_right (fault_if (is_some (relation_named s r.name.text)) (Duplicate r.name.at)) _ header

  few_rows : length r.rows ≤ 1024
  few_rows = let n = rows_limited s r.sorts 0 r.rows (omega arith) (free_right (name_faults s r) (rows_faults s r.sorts 0 r.rows) free) in omega (arith, n)

  more : length (s.relations ++ declared ∷ []) ≡ length s.relations + 1
  more = length-append s.relations (declared ∷ [])

  sum : (k : ℕ) → rows_at k (start ++ rows_of s r) ≡ rows_at k start + rows_at k (rows_of s r)
  sum k = times-append (λ row. row.rel.0 == k) start (rows_of s r)

  rows_step : (k : ℕ) → rows_at k (start ++ rows_of s r) ≤ 1024
  rows_step k = elim (cases_eq (length s.relations) k) [
    | inl e ↦ omega (arith, sum k, few_rows, rows_counted s id k true (eq-eqb _ _ e) r.rows, h.known_rows k (omega (arith, e)))
    | inr e ↦ omega (arith, sum k, h.rows k, rows_counted s id k false (ne_eqb _ _ e) r.rows)
  ]

  known_step : (k : ℕ) → length (s.relations ++ declared ∷ []) ≤ k → rows_at k (start ++ rows_of s r) ≡ 0
  known_step k past =
      omega (arith, sum k, h.known_rows k (omega (arith, past, more)), rows_counted s id k false (ne_eqb _ _ (λ e. omega (arith, past, more, e))) r.rows)

  one_relation : KeptRelations (s.relations ++ declared ∷ []) (start ++ rows_of s r)
  one_relation = record {
    words = All-push (λ x. IsName x.name) s.relations declared h.words word;
    names = λ x. rw (map-append (λ y. y.name) s.relations (declared ∷ [])) (once_more (map (λ y. y.name) s.relations) r.name.text (Duplicate r.name.at) new h.names x);
    arities = All-push (λ x. length x.sorts ≤ 5) s.relations declared h.arities (at_most 5 (length r.sorts) (WrongArity r.name.at) (free_left (fault_if (nat_lt 5 (length r.sorts)) (WrongArity r.name.at)) _ limits));
    few = let room = below 64 (length s.relations) (TooMany r.name.at) (free_right (fault_if (nat_lt 5 (length r.sorts)) (WrongArity r.name.at)) _ limits) in omega (arith, more, room);
    rows = rows_step;
    known_rows = known_step;
  }

-- ---- one more constant

one_constant : (s : Scope) (name : RawName) (sort : Sort) → IsName name.text → constant_faults s name ≡ [] → KeptConstants s.constants → KeptConstants (s.constants ++ record { name = name.text; sort = sort } ∷ [])
one_constant s name sort word free h =
    let same = fault_if (is_some (position (bytes_eq name.text) (map (λ k. k.name) s.constants))) (Duplicate name.at) in
    let room = below 64 (length s.constants) (TooMany name.at) (free_right same _ free) in
    record {
      words = All-push (λ k. IsName k.name) s.constants _ h.words word;
      names = λ x. rw (map-append (λ k. k.name) s.constants ((record { name = name.text; sort = sort }) ∷ [])) (once_more (map (λ k. k.name) s.constants) name.text (Duplicate name.at) (free_left same _ free) h.names x);
      few = omega (arith, length-append s.constants (record { name = name.text; sort = sort } ∷ []), room);
    }

-- ---- one more invariant

names_pushed : (q : List ℕ → Bool) (vs : List NamedFormula) (v : NamedFormula) → times q (map (λ x. x.name) (vs ++ v ∷ [])) ≡ times q (map (λ x. x.name) vs) + passes (q v.name)
names_pushed q vs v = ap (λ names. times q names) (map-append (λ x. x.name) vs (v ∷ [])) ∙ times-push q (map (λ x. x.name) vs) v.name

names_sum : (q : List ℕ → Bool) (xs ys zs : List NamedFormula) → times q (gathered_names xs ys zs) ≡ times q (map (λ x. x.name) xs) + (times q (map (λ x. x.name) ys) + times q (map (λ x. x.name) zs))
names_sum q xs ys zs = rw (times-append q (map (λ x. x.name) xs) (map (λ x. x.name) ys ++ map (λ x. x.name) zs), times-append q (map (λ x. x.name) ys) (map (λ x. x.name) zs)) refl

module _ (d : ProgramDraft) (name : RawName) (p : RawFormula) (word : IsName name.text) (free : invariant_faults d name ≡ []) (h : KeptInvariants d.topology d.safety d.trans d.invariants) where
  abbrev made : NamedFormula
  made = named_formula d.scope name p

  new_one : fault_if (is_some (position (bytes_eq name.text) d.invariants)) (Duplicate name.at) ≡ []
  new_one = free_left (fault_if (is_some (position (bytes_eq name.text) d.invariants)) (Duplicate name.at)) _ free

  room : length (d.invariants ++ name.text ∷ []) ≤ 64
  room =
      let few = below 64 (length d.invariants) (TooMany name.at) (free_right (fault_if (is_some (position (bytes_eq name.text) d.invariants)) (Duplicate name.at)) _ free) in
      omega (arith, few, length-append d.invariants (name.text ∷ []))

  each_once : (x : List ℕ) → uses x (d.invariants ++ name.text ∷ []) ≤ 1
  each_once = once_more d.invariants name.text (Duplicate name.at) new_one h.once

  same_step : (q : List ℕ → Bool) (xs ys zs : List NamedFormula) → times q (map (λ x. x.name) xs) + (times q (map (λ x. x.name) ys) + times q (map (λ x. x.name) zs)) ≡ times q (gathered_names d.topology d.safety d.trans) + passes (q name.text)
      → times q (gathered_names xs ys zs) ≡ times q (d.invariants ++ name.text ∷ [])
  same_step q xs ys zs sum = omega (arith, names_sum q xs ys zs, sum, h.same q, times-push q d.invariants name.text)

  abbrev Grown : ProgramDraft → Type 0
  Grown e = KeptInvariants e.topology e.safety e.trans e.invariants

  one_invariant : (kind : InvariantKind) → Grown (with_invariant d kind name p)
  one_invariant Topology = record {
    topology_words = All-push HasName d.topology made h.topology_words word;
    safety_words = h.safety_words;
    trans_words = h.trans_words;
    once = each_once;
    same = λ q. same_step q (d.topology ++ made ∷ []) d.safety d.trans (omega (arith, names_pushed q d.topology made, names_sum q d.topology d.safety d.trans));
    few = room;
  }
  one_invariant Safety = record {
    topology_words = h.topology_words;
    safety_words = All-push HasName d.safety made h.safety_words word;
    trans_words = h.trans_words;
    once = each_once;
    same = λ q. same_step q d.topology (d.safety ++ made ∷ []) d.trans (omega (arith, names_pushed q d.safety made, names_sum q d.topology d.safety d.trans));
    few = room;
  }
  one_invariant Trans = record {
    topology_words = h.topology_words;
    safety_words = h.safety_words;
    trans_words = All-push HasName d.trans made h.trans_words word;
    once = each_once;
    same = λ q. same_step q d.topology d.safety (d.trans ++ made ∷ []) (omega (arith, names_pushed q d.trans made, names_sum q d.topology d.safety d.trans));
    few = room;
  }

  with_one : Declared d → (kind : InvariantKind) → Declared (with_invariant d kind name p)
  with_one all Topology = record { relations = all.relations; constants = all.constants; invariants = one_invariant Topology; handlers = all.handlers }
  with_one all Safety = record { relations = all.relations; constants = all.constants; invariants = one_invariant Safety; handlers = all.handlers }
  with_one all Trans = record { relations = all.relations; constants = all.constants; invariants = one_invariant Trans; handlers = all.handlers }

-- ---- all items

declared-item : (d : ProgramDraft) (item : RawItem) → ByRecursion IsName (item_names item) → item_faults d item ≡ [] → Declared d → Declared (with_item d item)
declared-item d (Relation r) words free h = record { relations = one_relation d.scope d.start r words.0 free h.relations; constants = h.constants; invariants = h.invariants; handlers = h.handlers }
declared-item d (Constant name sort) words free h = record { relations = h.relations; constants = one_constant d.scope name sort words.0 free h.constants; invariants = h.invariants; handlers = h.handlers }
declared-item d (Invariant kind name p) words free h =
    with_one d name p words.0 (free_left (invariant_faults d name) (faults (place_of kind) d.scope p) free) h.invariants h kind
declared-item d (Handler x) words free h =
    let few = below 32 (length d.handlers) (TooMany x.at) (free_left (fault_if (nat_le 32 (length d.handlers)) (TooMany x.at)) _ free) in
    record { relations = h.relations; constants = h.constants; invariants = h.invariants; handlers = omega (arith, few, length-append d.handlers (handler_of d.scope x ∷ [])) }
declared-item d (Timeout t) words free h = record { relations = h.relations; constants = h.constants; invariants = h.invariants; handlers = h.handlers }

pub declared-items : (d : ProgramDraft) (items : List RawItem) → ByRecursion IsName (items_names items) → items_faults d items ≡ [] → Declared d → Declared (with_items d items)
unfolding with_items items_faults
declared-items d [] words free h = h
declared-items d (item ∷ items) words free h =
    declared-items (with_item d item) items (all_right IsName (item_names item) (items_names items) words) (free_right (item_faults d item) (items_faults (with_item d item) items) free)
    (declared-item d item (all_left IsName (item_names item) (items_names items) words) (free_left (item_faults d item) (items_faults (with_item d item) items) free) h)
