-- A predictive parse: the next token alone says which right side is taken.
use Rattle.std.specs.Prelude.{◌≡◌, ℕ, ◌<◌, ◌≤◌, List, [], ◌∷◌, Bool, true, false, ◌||◌, if◌then◌else◌, Result, Ok, Err}
use Rattle.csdn_tokens.specs.declared.Kind.{Kind}
use Rattle.csdn_tokens.specs.declared.Kind.TheVariants as k
use Rattle.csdn_tokens.specs.declared.Token.{Token}
use Rattle.csdn_text.specs.declared.TextRefusal.{TextRefusal}
use Rattle.csdn_text.specs.declared.TextRefusal.TheVariants.{Memory, BadByte, BadName, BadNumber, Unexpected, TooDeep}
use Rattle.csdn_text.specs.Symbols.{Nonterminal, program, items, item, static_item, const_item, rel_item, invariant_item, invariant_kind, handler_item, handler_port, timeout_item, sorts, sort_list, more_sorts, sort, initial, rows, more_rows, row, terms, more_terms, name, term, port, formula, binds, more_binds, tier, tail, atom, atom_rest, fact, flow, packet, block, commands, more_commands, command, branch, choice, otherwise, action, Level, depth_of, Symbol, token, part, ValueOf, Values, made, Rule, same}
use Rattle.csdn_text.specs.Grammar.{kind_of, rules}

-- where the next token stands
abbrev pub place : List Token → ℕ
place [] = 0
place (t ∷ ts) = t.at

-- the refusal of a kind at a place
abbrev pub refused : Kind → ℕ → TextRefusal
refused k.BadByte at = BadByte at
refused k.BadName at = BadName at
refused k.BadNumber at = BadNumber at
refused _ at = Unexpected at

-- what is said of the next token, where none of its kind may stand
abbrev pub refused_at : List Token → TextRefusal
refused_at [] = Unexpected 0
refused_at (t ∷ ts) = refused t.kind t.at

abbrev pub next_is : List Token → Kind → Bool
next_is [] k = false
next_is (t ∷ ts) k = same t.kind k

abbrev pub has : List Kind → Kind → Bool
has [] x = false
has (k ∷ ks) x = same x k || has ks x

abbrev pub next_in : List Token → List Kind → Bool
next_in [] ks = false
next_in (t ∷ ts) ks = has ks t.kind

-- the kinds with which an atom begins
abbrev pub in_atom : List Kind
in_atom = k.True ∷ k.False ∷ k.Open ∷ k.Prt ∷ k.Name ∷ []

-- the kinds with which a formula without a quantifier begins
abbrev pub in_unary : List Kind
in_unary = k.Not ∷ k.True ∷ k.False ∷ k.Open ∷ k.Prt ∷ k.Name ∷ []

-- the kinds with which a command begins
abbrev pub in_command : List Kind
in_command = k.Skip ∷ k.Name ∷ k.If ∷ k.Pick ∷ []

-- the kinds with which an item begins
abbrev pub in_item : List Kind
in_item = k.Static ∷ k.Const ∷ k.Rel ∷ k.PktIn ∷ k.Timeout ∷ k.Topology ∷ k.Safety ∷ k.Trans ∷ []

-- the sorts
abbrev pub in_sort : List Kind
in_sort = k.Sw ∷ k.Ho ∷ k.Pr ∷ []

-- the kinds with which a term begins
abbrev pub in_term : List Kind
in_term = k.Name ∷ k.Prt ∷ []

-- the kinds with which a nonterminal can begin
abbrev pub first : Nonterminal → List Kind
first program = in_item
first items = in_item
first item = in_item
first static_item = k.Static ∷ []
first const_item = k.Const ∷ []
first rel_item = k.Rel ∷ []
first invariant_item = k.Topology ∷ k.Safety ∷ k.Trans ∷ []
first invariant_kind = k.Topology ∷ k.Safety ∷ k.Trans ∷ []
first handler_item = k.PktIn ∷ []
first timeout_item = k.Timeout ∷ []
first handler_port = k.Prt ∷ k.Name ∷ []
first sorts = k.Open ∷ []
first sort_list = in_sort
first more_sorts = k.Comma ∷ []
first sort = in_sort
first initial = k.Equals ∷ []
first rows = k.Open ∷ []
first more_rows = k.Comma ∷ []
first row = k.Open ∷ []
first terms = in_term
first more_terms = k.Comma ∷ []
first name = k.Name ∷ []
first term = in_term
first port = k.Prt ∷ []
first formula = k.Forall ∷ k.Exists ∷ k.Not ∷ k.True ∷ k.False ∷ k.Open ∷ k.Prt ∷ k.Name ∷ []
first (binds q) = k.Name ∷ []
first (more_binds q) = k.Comma ∷ k.Dot ∷ []
first (tier t) = in_unary
first (tail word) = kind_of word ∷ []
first atom = in_atom
first atom_rest = k.Equals ∷ k.Dot ∷ k.Open ∷ []
first fact = k.Ft ∷ k.Sent ∷ k.RcvThis ∷ []
first flow = k.Open ∷ []
first packet = k.Open ∷ []
first block = k.Begin ∷ []
first commands = in_command
first more_commands = in_command
first command = in_command
first branch = k.If ∷ []
first choice = k.Pick ∷ []
first otherwise = k.Else ∷ []
first action = k.Insert ∷ k.Remove ∷ k.Install ∷ k.Uninstall ∷ k.Forward ∷ k.Flood ∷ []

abbrev pub begins : List Symbol → List Token → Bool
begins [] ts = false
begins (token k l ∷ ss) ts = next_is ts k
begins (part n l ∷ ss) ts = next_in ts (first n)

abbrev pub pick : {n : Nonterminal} → List (Rule n) → Rule n → List Token → Rule n
pick [] last ts = last
pick (r ∷ rs) last ts = if begins r.parts ts then r else pick rs last ts

abbrev pub choose : (n : Nonterminal) → List Token → Rule n
choose n ts = pick (rules n).led (rules n).last ts

-- A row of symbols takes these values from the tokens, and leaves the rest. No token stands deeper than most.
pub data Takes (most : ℕ) : ℕ → (ss : List Symbol) → List Token → Values ss → List Token → Type 0 where
  done : {d : ℕ} {ts : List Token} → Takes most d [] ts tt ts
  step : {d : ℕ} {l : Level} {k : Kind} {ss : List Symbol} {t : Token} {ts rest : List Token} {vs : Values ss}
      → same t.kind k ≡ true → depth_of d l ≤ most → Takes most d ss ts vs rest
      → Takes most d (token k l ∷ ss) (t ∷ ts) (t, vs) rest
  down : {d : ℕ} {l : Level} {n : Nonterminal} {ss : List Symbol} {ts mid rest : List Token} {vs : Values ss}
      → {us : Values (choose n ts).parts}
      → Takes most (depth_of d l) (choose n ts).parts ts us mid → Takes most d ss mid vs rest
      → Takes most d (part n l ∷ ss) ts (made (choose n ts).parts (choose n ts).gives us, vs) rest

-- A row of symbols meets a fault. Memory may run out anywhere.
pub data Fails (most : ℕ) : ℕ → (ss : List Symbol) → List Token → TextRefusal → Type 0 where
  memory : {d : ℕ} {ss : List Symbol} {ts : List Token} → Fails most d ss ts Memory
  unexpected : {d : ℕ} {l : Level} {k : Kind} {ss : List Symbol} {ts : List Token}
      → next_is ts k ≡ false → Fails most d (token k l ∷ ss) ts (refused_at ts)
  deep : {d : ℕ} {l : Level} {k : Kind} {ss : List Symbol} {t : Token} {ts : List Token}
      → same t.kind k ≡ true → most < depth_of d l → Fails most d (token k l ∷ ss) (t ∷ ts) (TooDeep t.at)
  after_one : {d : ℕ} {l : Level} {k : Kind} {ss : List Symbol} {t : Token} {ts : List Token} {f : TextRefusal}
      → same t.kind k ≡ true → depth_of d l ≤ most → Fails most d ss ts f
      → Fails most d (token k l ∷ ss) (t ∷ ts) f
  inside : {d : ℕ} {l : Level} {n : Nonterminal} {ss : List Symbol} {ts : List Token} {f : TextRefusal}
      → Fails most (depth_of d l) (choose n ts).parts ts f → Fails most d (part n l ∷ ss) ts f
  after_rule : {d : ℕ} {l : Level} {n : Nonterminal} {ss : List Symbol} {ts mid : List Token} {f : TextRefusal}
      → {us : Values (choose n ts).parts}
      → Takes most (depth_of d l) (choose n ts).parts ts us mid → Fails most d ss mid f
      → Fails most d (part n l ∷ ss) ts f

abbrev pub limit : ℕ
limit = 64

-- what the parse of a symbol at a depth gives
pub data Parses (d : ℕ) (s : Symbol) (old new : List Token) : Result (ValueOf s) TextRefusal → Type 0 where
  reads : {v : ValueOf s} → Takes limit d (s ∷ []) old (v, tt) new → Parses d s old new (Ok v)
  refuses : {f : TextRefusal} → Fails limit d (s ∷ []) old f → Parses d s old new (Err f)
