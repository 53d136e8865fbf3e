-- Each program that prints is read again from its text.
use Rattle.std.proofs.Common.{◌≡◌, ℕ, ◌+◌, ◌≤◌, Bool, true, false, cond, List, [], ◌∷◌, ◌++◌, length, map, inl, inr, refl, sym, subst, ap, ap₂, ◌∙◌, append-nil, arith}
use Rattle.std.specs.Prelude.{codes}
use Rattle.csdn_core.specs.WellSorted.{IsNumeral}
use Rattle.csdn_core.specs.declared.terms.Sort.{Sort}
use Rattle.csdn_tokens.specs.declared.Kind.TheVariants as k
use Rattle.csdn_tokens.specs.declared.Token.{Token}
use Rattle.csdn_tokens.specs.Lex.{word_kind, token_at, Lexes}
use Rattle.csdn_tokens.specs.Lex.Lexes.{end}
use Rattle.csdn_tree.specs.declared.names.RawName.{RawName}
use Rattle.csdn_tree.specs.declared.syntax.InvariantKind.{InvariantKind}
use Rattle.csdn_tree.specs.declared.syntax.InvariantKind.TheVariants as v
use Rattle.csdn_tree.specs.declared.syntax.RawFormula.{RawFormula}
use Rattle.csdn_tree.specs.declared.syntax.RawHandler.{RawHandler}
use Rattle.csdn_tree.specs.declared.syntax.RawItem.{RawItem}
use Rattle.csdn_tree.specs.declared.syntax.RawItem.TheVariants as item
use Rattle.csdn_tree.specs.declared.syntax.RawPattern.{RawPattern}
use Rattle.csdn_tree.specs.declared.syntax.RawPattern.TheVariants.{Any as AnyPort, Port as OnePort}
use Rattle.csdn_tree.specs.declared.syntax.RawProgram.{RawProgram}
use Rattle.csdn_tree.specs.declared.syntax.RawRelation.{RawRelation}
use Rattle.csdn_tree.specs.declared.syntax.RawRow.{RawRow}
use Rattle.csdn_tree.specs.declared.syntax.RawTimeout.{RawTimeout}
use Rattle.csdn_text.specs.Symbols.{here, part, program, items, item as item_part, invariant_kind, handler_port, initial}
use Rattle.csdn_text.specs.Derives.{Mark, tokens_of, Derives}
use Rattle.csdn_text.specs.Derives.Derives.{nothing, one as one_token, by_rule}
use Rattle.csdn_text.specs.Machine.{limit}
use Rattle.csdn_text.specs.Reading.{Within, Reads}
use Rattle.csdn_text.proofs.Theory.{Within-append, Within-front, tokens-append}
use Rattle.csdn_print.specs.declared.forms.Lead.TheVariants.{Nothing}
use Rattle.csdn_print.specs.Words.{sort_text, sorts_text}
use Rattle.csdn_print.specs.Formulas.{formula_text}
use Rattle.csdn_print.specs.Commands.{inner}
use Rattle.csdn_print.specs.Again.{ReadsAgain}
use Rattle.csdn_print.specs.Programs.{initial_text, relation_text, pattern_text, item_text, items_text}
use Rattle.csdn_print.specs.Placeless.{bare_name, bare_row, bare_pattern, bare_item, bare_program}
use Rattle.csdn_print.proofs.Prints.{NamePrints, PatternPrints, RowsPrint, HandlerPrints, ItemPrints, ItemsPrint, Prints}
use Rattle.csdn_print.proofs.Lexing.{opens, IsWord, reserved, open_is, close_is, begin_is, end_is, comma_is, colon_is, semicolon_is, equals_is}
use Rattle.csdn_print.proofs.Lines.{Line, nil, gap, symbol, arrow, word, number, by, before, final}
use Rattle.csdn_print.proofs.WordLines.{Again, name_line, port_line, sort_line, sorts_line, rows_again}
use Rattle.csdn_print.proofs.FormulaTexts.{room_of}
use Rattle.csdn_print.proofs.CommandTexts.{whole_formula, block_again, command_room, command_reads}

-- the same item, places aside
abbrev pub SameItem : RawItem → RawItem → Type 0
SameItem x v = bare_item v ≡ bare_item x

-- ---- reserved words

static_is : IsWord (codes "static") k.Static
unfolding word_kind
static_is = reserved (codes "static") k.Static refl (omega arith) refl

const_is : IsWord (codes "const") k.Const
unfolding word_kind
const_is = reserved (codes "const") k.Const refl (omega arith) refl

rel_is : IsWord (codes "rel") k.Rel
unfolding word_kind
rel_is = reserved (codes "rel") k.Rel refl (omega arith) refl

topology_is : IsWord (codes "topology") k.Topology
unfolding word_kind
topology_is = reserved (codes "topology") k.Topology refl (omega arith) refl

safety_is : IsWord (codes "safety") k.Safety
unfolding word_kind
safety_is = reserved (codes "safety") k.Safety refl (omega arith) refl

trans_is : IsWord (codes "trans") k.Trans
unfolding word_kind
trans_is = reserved (codes "trans") k.Trans refl (omega arith) refl

pktin_is : IsWord (codes "pktIn") k.PktIn
unfolding word_kind
pktin_is = reserved (codes "pktIn") k.PktIn refl (omega arith) refl

timeout_is : IsWord (codes "timeout") k.Timeout
unfolding word_kind
timeout_is = reserved (codes "timeout") k.Timeout refl (omega arith) refl

-- ---- items

static_again : {most d : ℕ} (name : RawName) (sorts : List Sort) → d ≤ most → NamePrints name → (at : ℕ)
    → Line most d at (part item_part here ∷ []) (codes "static " ++ (name.text ++ (sorts_text sorts ++ (codes ";"))))
    (item.Relation (record { name = record { at = at + 6 + 1; text = name.text }; sorts = sorts; fixed = true; rows = [] }), tt)
static_again name sorts room is at =
    by _ (inl refl) (final (by _ (inl refl) (word (codes "static") static_is room refl (gap 32 refl (before (name_line name room is) refl (before (sorts_line sorts room) refl (symbol semicolon_is room nil)))))))

opens_initial : (rs : List RawRow) → opens (initial_text rs ++ (59 ∷ [])) ≡ true
opens_initial [] = refl
opens_initial (r ∷ rs) = refl

initial_again : {most d : ℕ} (rs : List RawRow) → d ≤ most → RowsPrint rs → (at : ℕ) → Again most d at initial (initial_text rs) (λ vs. map bare_row vs ≡ map bare_row rs)
initial_again [] room are at = record { value = []; line = by _ (inr (inl refl)) nil; same = refl }
initial_again (r ∷ rs) room are at =
    let a = rows_again (r ∷ rs) room are (at + 1 + 1 + 1 + 1) in
    record { value = a.value; line = by _ (inl refl) (gap 32 refl (symbol equals_is room (gap 32 refl (symbol begin_is room (before a.line refl (symbol end_is room nil)))))); same = a.same }

rel_again : {most d : ℕ} (name : RawName) (sorts : List Sort) (rs : List RawRow) → d ≤ most → NamePrints name → RowsPrint rs → (at : ℕ)
    → Again most d at item_part (codes "rel " ++ (name.text ++ (sorts_text sorts ++ (initial_text rs ++ codes ";")))) (SameItem (item.Relation (record { name = name; sorts = sorts; fixed = false; rows = rs })))
rel_again name sorts rs room is are at =
    let a = initial_again rs room are (at + 3 + 1 + length name.text + length (sorts_text sorts)) in
    record {
      value = item.Relation (record { name = record { at = at + 3 + 1; text = name.text }; sorts = sorts; fixed = false; rows = a.value });
      line = by _ (inr (inr (inl refl))) (final (by _ (inl refl) (word (codes "rel") rel_is room refl (gap 32 refl (before (name_line name room is) refl (before (sorts_line sorts room) (opens_initial rs)
          (before a.line refl (symbol semicolon_is room nil))))))));
      same = ap (λ rows. item.Relation (record { name = bare_name name; sorts = sorts; fixed = false; rows = rows })) a.same;
    }

relation_again : {most d : ℕ} (r : RawRelation) → d ≤ most → NamePrints r.name → RowsPrint r.rows → (r.fixed ≡ true → r.rows ≡ []) → (at : ℕ) → Again most d at item_part (relation_text r) (SameItem (item.Relation r))
relation_again {most} {d} r room is are none at = go r.fixed refl
  where
    go : (b : Bool) → r.fixed ≡ b → Again most d at item_part (cond b (codes "static ") (codes "rel ") ++ (r.name.text ++ (sorts_text r.sorts ++ (cond b [] (initial_text r.rows) ++ codes ";")))) (SameItem (item.Relation r))
    go true fixed =
        let empty = none fixed in
        record {
          value = _;
          line = static_again r.name r.sorts room is at;
          same = let e = sym fixed in let e' = sym empty in subst (λ b. item.Relation (record { name = bare_name r.name; sorts = r.sorts; fixed = true; rows = [] }) ≡ item.Relation (record { name = bare_name r.name; sorts = r.sorts; fixed = b; rows = map bare_row r.rows })) e
              (subst (λ rows. item.Relation (record { name = bare_name r.name; sorts = r.sorts; fixed = true; rows = [] }) ≡ item.Relation (record { name = bare_name r.name; sorts = r.sorts; fixed = true; rows = map bare_row rows })) e' refl);
        }
    go false fixed =
        let a = rel_again r.name r.sorts r.rows room is are at in
        record {
          value = a.value;
          line = a.line;
          same = a.same ∙ ap (λ b. item.Relation (record { name = bare_name r.name; sorts = r.sorts; fixed = b; rows = map bare_row r.rows })) (sym fixed);
        }

const_again : {most d : ℕ} (x : RawName) (s : Sort) → d ≤ most → NamePrints x → (at : ℕ) → Again most d at item_part (codes "const " ++ (x.text ++ (codes ":" ++ (sort_text s ++ codes ";")))) (SameItem (item.Constant x s))
const_again x s room is at = record {
  value = item.Constant (record { at = at + 5 + 1; text = x.text }) s;
  line = by _ (inr (inl refl)) (final (by _ (inl refl) (word (codes "const") const_is room refl (gap 32 refl (before (name_line x room is) refl (symbol colon_is room (before (sort_line s room) refl (symbol semicolon_is room nil))))))));
  same = refl;
}

-- an invariant, of which the word is read
invariant_from : {most d at : ℕ} (kind : InvariantKind) (w : List ℕ) (x : RawName) (p : RawFormula) → Prints most d p → NamePrints x → Line most d at (part invariant_kind here ∷ []) w (kind, tt)
    → Again most d at item_part (w ++ (32 ∷ (x.text ++ (codes ": " ++ (formula_text Nothing p ++ codes ";"))))) (SameItem (item.Invariant kind x p))
invariant_from {d = d} {at = at} kind w x p h is first =
    let room = room_of d p h in
    let a = whole_formula p h (at + length w + 1 + length x.text + 1 + 1) in
    record {
      value = item.Invariant kind (record { at = at + length w + 1; text = x.text }) a.value;
      line = by _ (inr (inr (inr (inr (inr (inl refl)))))) (final (by _ (inl refl) (before first refl (gap 32 refl (before (name_line x room is) refl (symbol colon_is room (gap 32 refl (before a.line refl (symbol semicolon_is room nil)))))))));
      same = ap (item.Invariant kind (bare_name x)) a.same;
    }

invariant_again : {most d : ℕ} (kind : InvariantKind) (x : RawName) (p : RawFormula) → Prints most d p → NamePrints x → (at : ℕ) → Again most d at item_part (item_text (item.Invariant kind x p)) (SameItem (item.Invariant kind x p))
invariant_again {d = d} v.Topology x p h is at = invariant_from v.Topology (codes "topology") x p h is (by _ (inl refl) (word (codes "topology") topology_is (room_of d p h) refl nil))
invariant_again {d = d} v.Safety x p h is at = invariant_from v.Safety (codes "safety") x p h is (by _ (inr (inl refl)) (word (codes "safety") safety_is (room_of d p h) refl nil))
invariant_again {d = d} v.Trans x p h is at = invariant_from v.Trans (codes "trans") x p h is (by _ (inr (inr (inl refl))) (word (codes "trans") trans_is (room_of d p h) refl nil))

pattern_again : {most d : ℕ} (x : RawPattern) → d ≤ most → PatternPrints x → (at : ℕ) → Again most d at handler_port (pattern_text x) (λ v. bare_pattern v ≡ bare_pattern x)
pattern_again (AnyPort x) room is at = record { value = AnyPort (record { at = at; text = x.text }); line = by _ (inr (inl refl)) (final (name_line x room is)); same = refl }
pattern_again (OnePort n) room is at = record { value = OnePort (record { at = at; number = n.number }); line = by _ (inl refl) (final (port_line n room is)); same = refl }

handler_again : {most d : ℕ} (h : RawHandler) → HandlerPrints most d h → (at : ℕ) → Again most d at item_part (item_text (item.Handler h)) (SameItem (item.Handler h))
handler_again {most} {d} h is at =
    let deep = command_room (d + 1) h.body is.1.1.1.1 in
    let room : d ≤ most = omega (arith, deep) in
    let s_at = at + 5 + 1 in
    let a_at = s_at + length h.switch.text + 1 + 1 in
    let b_at = a_at + length h.source.text + 2 in
    let i_at = b_at + length h.target.text + 1 + 1 in
    let i = pattern_again h.ingress room is.1.1.1.0 i_at in
    let body = block_again h.body d [] refl refl deep ((command_reads h.body).all (32 ∷ []) refl most (d + 1) is.1.1.1.1) (i_at + length (pattern_text h.ingress) + 1 + 1) in
    record {
      value = item.Handler (record { at = at; switch = record { at = s_at; text = h.switch.text }; source = record { at = a_at; text = h.source.text }; target = record { at = b_at; text = h.target.text }; ingress = i.value; body = body.value });
      line = by _ (inr (inr (inr (inl refl)))) (final (by _ (inl refl) (word (codes "pktIn") pktin_is room refl (symbol open_is room (before (name_line h.switch room is.0) refl (symbol comma_is room (gap 32 refl
          (before (name_line h.source room is.1.0) refl (arrow room (before (name_line h.target room is.1.1.0) refl (symbol comma_is room (gap 32 refl (before i.line refl (symbol close_is room (gap 32 refl (final body.line))))))))))))))));
      same = let e = i.same in let e' = body.same in cc;
    }

timeout_again : {most d : ℕ} (t : RawTimeout) → d ≤ most → IsNumeral t.seconds → (at : ℕ) → Again most d at item_part (item_text (item.Timeout t)) (SameItem (item.Timeout t))
timeout_again t room is at = record {
  value = item.Timeout (record { at = at; seconds = t.seconds });
  line = by _ (inr (inr (inr (inr (inl refl))))) (final (by _ (inl refl) (word (codes "timeout") timeout_is room refl (gap 32 refl (number t.seconds is room refl (symbol semicolon_is room nil))))));
  same = refl;
}

item_again : {most d : ℕ} (x : RawItem) → d ≤ most → ItemPrints most d x → (at : ℕ) → Again most d at item_part (item_text x) (SameItem x)
item_again (item.Relation r) room is at = relation_again r room is.0 is.1.0 is.1.1 at
item_again (item.Constant x s) room is at = const_again x s room is at
item_again (item.Invariant kind x p) room is at = invariant_again kind x p is.1 is.0 at
item_again (item.Handler h) room is at = handler_again h is at
item_again (item.Timeout t) room is at = timeout_again t room is at

items_again : {most d : ℕ} (xs : List RawItem) → d ≤ most → ItemsPrint most d xs → (at : ℕ) → Again most d at items (items_text xs) (λ vs. map bare_item vs ≡ map bare_item xs)
items_again [] room are at = record { value = []; line = by _ (inr (inl refl)) nil; same = refl }
items_again (x ∷ xs) room are at =
    let a = item_again x room are.0 at in
    let b = items_again xs room are.1 (at + length (item_text x) + 1) in
    record { value = a.value ∷ b.value; line = by _ (inl refl) (before a.line refl (gap 10 refl (final b.line))); same = ap₂ (λ v vs. v ∷ vs) a.same b.same }

-- a program of one item or more
program_again : {most d : ℕ} (x : RawItem) (xs : List RawItem) → d ≤ most → ItemsPrint most d (x ∷ xs) → (at : ℕ)
    → Again most d at program (items_text (x ∷ xs)) (λ v. bare_program v ≡ bare_program (record { items = x ∷ xs }))
program_again x xs room are at =
    let a = item_again x room are.0 at in
    let b = items_again xs room are.1 (at + length (item_text x) + 1) in
    record { value = record { items = a.value ∷ b.value }; line = by _ (inl refl) (before a.line refl (gap 10 refl (final b.line))); same = ap₂ (λ v vs. record { items = v ∷ vs }) a.same b.same }

-- ---- the text of a program

-- the token that stands at the end of a text
abbrev stop_at : ℕ → Token
stop_at at = token_at k.Stop at 0 []

reads_from : (bytes : List ℕ) (raw : RawProgram) → length bytes ≤ 65536 → Line limit 1 0 (part program here ∷ []) bytes (raw, tt) → Reads bytes raw
reads_from bytes raw short a = go a.marks raw a.within a.derives (a.lexes [] (stop_at (0 + length bytes) ∷ []) refl end)
  where
    go : (ms : List Mark) (raw : RawProgram) → Within limit ms → Derives 1 (part program here ∷ []) ms (raw, tt) → Lexes 0 (bytes ++ []) (tokens_of ms ++ (stop_at (0 + length bytes) ∷ [])) → Reads bytes raw
    go ms raw deep (by_rule {ms = ms'} r is inner nothing) lexes = record {
      short = short;
      tokens = tokens_of (ms' ++ []) ++ (stop_at (0 + length bytes) ∷ []);
      lexes = subst (λ xs. Lexes 0 xs (tokens_of (ms' ++ []) ++ (stop_at (0 + length bytes) ∷ []))) (append-nil bytes) lexes;
      reads = record {
        marks = ms' ++ (record { token = stop_at (0 + length bytes); depth = 1 } ∷ []);
        rest = [];
        program = record { stop = stop_at (0 + length bytes); derives = by_rule r is inner (one_token refl nothing) };
        spelled = ap (λ ms. tokens_of ms ++ (stop_at (0 + length bytes) ∷ [])) (append-nil ms') ∙ sym (tokens-append ms' (record { token = stop_at (0 + length bytes); depth = 1 } ∷ [])) ∙ sym (append-nil (tokens_of (ms' ++ (record { token = stop_at (0 + length bytes); depth = 1 } ∷ []))));
        within = Within-append limit ms' (record { token = stop_at (0 + length bytes); depth = 1 } ∷ []) (Within-front limit ms' [] deep) (omega arith, tt);
      };
    }

pub printed_reads : (x : RawItem) (xs : List RawItem) → ItemsPrint limit 1 (x ∷ xs) → length (items_text (x ∷ xs)) ≤ 65536 → ReadsAgain (items_text (x ∷ xs)) (record { items = x ∷ xs })
printed_reads x xs are short =
    let a = program_again x xs (omega arith) are 0 in
    record { tree = a.value; reads = reads_from (items_text (x ∷ xs)) a.value short a.line; same = a.same }
