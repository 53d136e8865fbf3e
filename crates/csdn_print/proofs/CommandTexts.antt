-- Each command that prints is read again from its text.
use Rattle.std.proofs.Common.{◌≡◌, ℕ, suc, ◌+◌, ◌≤◌, Bool, true, false, ◌&&◌, List, [], ◌∷◌, ◌++◌, length, inl, inr, refl, subst, ap, ap₂, ◌∙◌, append-nil, arith}
use Rattle.std.specs.Prelude.{codes}
use Rattle.std.specs.List.{list_all}
use Rattle.csdn_core.specs.declared.terms.Sort.{Sort}
use Rattle.csdn_tokens.specs.declared.Kind.TheVariants as k
use Rattle.csdn_tokens.specs.Lex.{word_kind}
use Rattle.csdn_tree.specs.declared.names.RawName.{RawName}
use Rattle.csdn_tree.specs.declared.names.RawTerm.{RawTerm}
use Rattle.csdn_tree.specs.declared.syntax.ChangeWord.{ChangeWord}
use Rattle.csdn_tree.specs.declared.syntax.ChangeWord.TheVariants as change
use Rattle.csdn_tree.specs.declared.syntax.RawFlow.{RawFlow}
use Rattle.csdn_tree.specs.declared.syntax.RawPacket.{RawPacket}
use Rattle.csdn_tree.specs.declared.syntax.RawFormula.{RawFormula}
use Rattle.csdn_tree.specs.declared.syntax.RawCommand.{RawCommand}
use Rattle.csdn_tree.specs.declared.syntax.RawCommand.TheVariants as c
use Rattle.csdn_tree.specs.declared.syntax.RawRow.{RawRow}
use Rattle.csdn_tree.specs.declared.syntax.SwitchWord.{SwitchWord}
use Rattle.csdn_tree.specs.declared.syntax.SwitchWord.TheVariants as switch
use Rattle.csdn_tree.specs.RawTree.{raw_seq, raw_if, raw_pick}
use Rattle.csdn_text.specs.declared.parts.Action.TheVariants as a
use Rattle.csdn_text.specs.declared.parts.FlowTerms.{FlowTerms}
use Rattle.csdn_text.specs.Symbols.{Values, Symbol, here, part, row, flow, action, block, commands, command, otherwise, formula}
use Rattle.csdn_print.specs.declared.forms.Lead.TheVariants.{Nothing}
use Rattle.csdn_print.specs.Words.{sort_text}
use Rattle.csdn_print.specs.Formulas.{level, formula_text}
use Rattle.csdn_print.specs.Commands.{inner, is_skip, block_text, otherwise_text, change_word, switch_word, command_text}
use Rattle.csdn_print.specs.Placeless.{bare_name, bare_command}
use Rattle.csdn_print.specs.Steps.{bare_command-Seq, bare_command-If, bare_command-Pick}
use Rattle.csdn_print.proofs.Prints.{Prints, is_single, CommandPrints}
use Rattle.csdn_print.proofs.Lexing.{opens, opens-append, is_blank, IsWord, reserved, begin_is, end_is, colon_is, dot_is, semicolon_is}
use Rattle.csdn_print.proofs.Lines.{Line, nil, gap, symbol, word, along, by, before, final}
use Rattle.csdn_print.proofs.WordLines.{Again, name_line, row_again, sort_line}
use Rattle.csdn_print.proofs.FormulaLines.{SameAs, to_level, flow_again, packet_again}
use Rattle.csdn_print.proofs.FormulaTexts.{formula_reads, room_of}

-- the same command, places aside
abbrev pub SameCommand : RawCommand → RawCommand → Type 0
SameCommand x v = bare_command v ≡ bare_command x

-- ---- reserved words

skip_is : IsWord (codes "skip") k.Skip
unfolding word_kind
skip_is = reserved (codes "skip") k.Skip refl (omega arith) refl

if_is : IsWord (codes "if") k.If
unfolding word_kind
if_is = reserved (codes "if") k.If refl (omega arith) refl

pick_is : IsWord (codes "pick") k.Pick
unfolding word_kind
pick_is = reserved (codes "pick") k.Pick refl (omega arith) refl

where_is : IsWord (codes "where") k.Where
unfolding word_kind
where_is = reserved (codes "where") k.Where refl (omega arith) refl

else_is : IsWord (codes "else") k.Else
unfolding word_kind
else_is = reserved (codes "else") k.Else refl (omega arith) refl

insert_is : IsWord (codes "insert") k.Insert
unfolding word_kind
insert_is = reserved (codes "insert") k.Insert refl (omega arith) refl

remove_is : IsWord (codes "remove") k.Remove
unfolding word_kind
remove_is = reserved (codes "remove") k.Remove refl (omega arith) refl

install_is : IsWord (codes "install") k.Install
unfolding word_kind
install_is = reserved (codes "install") k.Install refl (omega arith) refl

uninstall_is : IsWord (codes "uninstall") k.Uninstall
unfolding word_kind
uninstall_is = reserved (codes "uninstall") k.Uninstall refl (omega arith) refl

forward_is : IsWord (codes "forward") k.Forward
unfolding word_kind
forward_is = reserved (codes "forward") k.Forward refl (omega arith) refl

flood_is : IsWord (codes "flood") k.Flood
unfolding word_kind
flood_is = reserved (codes "flood") k.Flood refl (omega arith) refl

-- ---- lines and blocks

-- blanks in front
pub gaps : {most d : ℕ} {ss : List Symbol} {bytes : List ℕ} {vs : Values ss} (bs : List ℕ) (at : ℕ) → list_all is_blank bs ≡ true → Line most d (at + length bs) ss bytes vs → Line most d at ss (bs ++ bytes) vs
gaps {most} {d} {ss} {bytes} {vs} [] at h a = subst (λ n. Line most d n ss bytes vs) (let e : at + 0 ≡ at = omega arith in e) a
gaps {most} {d} {ss} {bytes} {vs} (b ∷ bs) at h a = go (is_blank b) refl h (gaps bs (at + 1))
  where
    go : (v : Bool) → is_blank b ≡ v → (v && list_all is_blank bs) ≡ true → (list_all is_blank bs ≡ true → Line most d (at + 1 + length bs) ss bytes vs → Line most d (at + 1) ss (bs ++ bytes) vs) → Line most d at ss (b ∷ (bs ++ bytes)) vs
    go true is all more = gap b is (more all (subst (λ n. Line most d n ss bytes vs) (let e : at + suc (length bs) ≡ at + 1 + length bs = omega arith in e) a))
    go false is all more = absurd cc

-- a formula, where none is needed
pub whole_formula : {most d : ℕ} (p : RawFormula) → Prints most d p → (at : ℕ) → Again most d at formula (formula_text Nothing p) (SameAs p)
whole_formula {most} {d} p h at = (to_level (level p) 0 (omega arith) (((formula_reads p).own most d h).line at)).again

-- the room of a command
pub command_room : {most : ℕ} (d : ℕ) (x : RawCommand) → CommandPrints most d x → d ≤ most
unfolding CommandPrints
command_room d c.Skip h = h
command_room d (raw_seq a b) h = command_room d a h.1.0
command_room d (raw_if p a b) h = let e = command_room (d + 1) a h.1.0 in omega (arith, e)
command_room d (raw_pick x s p a b) h = let e = command_room (d + 1) a h.1.1.0 in omega (arith, e)
command_room d (c.Change word x us) h = h.0
command_room d (c.Switch word ts) h = h.0
command_room d (c.Flood ts) h = h.0

pub block_again : {most : ℕ} {body : List ℕ} (x : RawCommand) (d : ℕ) (indent : List ℕ) → list_all is_blank indent ≡ true → opens (indent ++ (125 ∷ [])) ≡ true → d + 1 ≤ most
    → ((at : ℕ) → Again most (d + 1) at commands body (SameCommand x)) → (at : ℕ) → Again most d at block (block_text indent body) (SameCommand x)
block_again {body = body} x d indent blanks free room h at =
    let a = h (at + 1 + 1) in
    record { value = a.value; line = by _ (inl refl) (symbol begin_is room (gap 10 refl (before a.line free (gaps indent (at + 1 + 1 + length body) blanks (symbol end_is room nil))))); same = a.same }

skip_is_skip : (b : RawCommand) → is_skip b ≡ true → c.Skip ≡ b
unfolding is_skip
skip_is_skip c.Skip h = refl
skip_is_skip (raw_seq a b) h = absurd cc
skip_is_skip (raw_if p a b) h = absurd cc
skip_is_skip (raw_pick x s p a b) h = absurd cc
skip_is_skip (c.Change word x us) h = absurd cc
skip_is_skip (c.Switch word ts) h = absurd cc
skip_is_skip (c.Flood ts) h = absurd cc

opens_otherwise : (indent : List ℕ) (plain : Bool) (other : List ℕ) → opens (otherwise_text indent plain other ++ (10 ∷ [])) ≡ true
opens_otherwise indent true other = refl
opens_otherwise indent false other = refl

otherwise_again : {most : ℕ} {body : List ℕ} (d : ℕ) (i : List ℕ) (b : RawCommand) → list_all is_blank i ≡ true → d ≤ most
    → (is_skip b ≡ false → (d + 1 ≤ most) × ((at : ℕ) → Again most (d + 1) at commands body (SameCommand b))) → (at : ℕ)
    → Again most d at otherwise (otherwise_text (32 ∷ i) (is_skip b) body) (SameCommand b)
otherwise_again {most} {body} d i b blanks room h at = go (is_skip b) refl
  where
    go : (v : Bool) → is_skip b ≡ v → Again most d at otherwise (otherwise_text (32 ∷ i) v body) (SameCommand b)
    go true is = record { value = c.Skip; line = by _ (inr (inl refl)) nil; same = ap bare_command (skip_is_skip b is) }
    go false is =
        let a = block_again b d (32 ∷ i) blanks refl (h is).0 (h is).1 (at + 1 + 4 + 1) in
        record { value = a.value; line = by _ (inl refl) (gap 32 refl (word (codes "else") else_is room refl (gap 32 refl (final a.line)))); same = a.same }

-- what is proved of a command: it is read at the head of a row of commands, and as a whole row
pub record CommandReads (x : RawCommand) : Type 0 where
  pub one : is_single x ≡ true → (i : List ℕ) → list_all is_blank i ≡ true → (most d : ℕ) → CommandPrints most d x → (at : ℕ) → Again most d at command (command_text (32 ∷ i) x) (SameCommand x)
  pub all : (i : List ℕ) → list_all is_blank i ≡ true → (most d : ℕ) → CommandPrints most d x → (at : ℕ) → Again most d at commands (command_text (32 ∷ i) x) (SameCommand x)

-- a command alone is a row
alone : {most d at : ℕ} {bytes : List ℕ} (x : RawCommand) → Again most d at command bytes (SameCommand x) → Again most d at commands bytes (SameCommand x)
alone {bytes = bytes} x a = record { value = a.value; line = by _ (inl refl) (along (append-nil bytes) (before a.line refl (final (by _ (inr (inl refl)) nil)))); same = a.same }

single : (x : RawCommand) → ((i : List ℕ) → list_all is_blank i ≡ true → (most d : ℕ) → CommandPrints most d x → (at : ℕ) → Again most d at command (command_text (32 ∷ i) x) (SameCommand x)) → CommandReads x
single x h = record { one = λ is i blanks most d prints at. h i blanks most d prints at; all = λ i blanks most d prints at. alone x (h i blanks most d prints at) }

skip_reads : CommandReads c.Skip
unfolding command_text CommandPrints
skip_reads = single c.Skip (λ i blanks most d room at. record { value = c.Skip; line = by _ (inl refl) (gaps (32 ∷ i) at blanks (word (codes "skip") skip_is room refl (symbol semicolon_is room (gap 10 refl nil)))); same = refl })

-- the word of a change and its terms, with more behind them
change_line : {most d at : ℕ} {ss : List Symbol} {bytes bytes' : List ℕ} {r : RawRow} {vs : Values ss} (which : ChangeWord) → d ≤ most → Line most d (at + length (change_word which)) (part row here ∷ []) bytes (r, tt) → opens bytes ≡ true
    → opens bytes' ≡ true → Line most d (at + length (change_word which ++ bytes)) ss bytes' vs → Line most d at (part action here ∷ ss) (change_word which ++ (bytes ++ bytes')) (a.Change which r.terms, vs)
change_line change.Insert room r free free' more = before (by _ (inl refl) (word (codes "insert") insert_is room free (final r))) free' more
change_line change.Remove room r free free' more = before (by _ (inr (inl refl)) (word (codes "remove") remove_is room free (final r))) free' more

switch_line : {most d at : ℕ} {ss : List Symbol} {bytes bytes' : List ℕ} {ts : FlowTerms} {vs : Values ss} (which : SwitchWord) → d ≤ most → Line most d (at + length (switch_word which)) (part flow here ∷ []) bytes (ts, tt) → opens bytes ≡ true
    → opens bytes' ≡ true → Line most d (at + length (switch_word which ++ bytes)) ss bytes' vs → Line most d at (part action here ∷ ss) (switch_word which ++ (bytes ++ bytes')) (a.Switch which ts, vs)
switch_line switch.Install room r free free' more = before (by _ (inr (inr (inl refl))) (word (codes "install") install_is room free (final r))) free' more
switch_line switch.Uninstall room r free free' more = before (by _ (inr (inr (inr (inl refl)))) (word (codes "uninstall") uninstall_is room free (final r))) free' more
switch_line switch.Forward room r free free' more = before (by _ (inr (inr (inr (inr (inl refl))))) (word (codes "forward") forward_is room free (final r))) free' more

change_reads : (word : ChangeWord) (x : RawName) (us : List RawTerm) → CommandReads (c.Change word x us)
unfolding command_text CommandPrints bare_command
change_reads word x us = single (c.Change word x us) (λ i blanks most d h at.
    let start = at + length (32 ∷ i) in
    let a = row_again us h.0 h.1.1 (start + length x.text + 1 + length (change_word word)) in
    record {
      value = c.Change word (record { at = start; text = x.text }) a.value.terms;
      line = by _ (inr (inr (inr (inl refl)))) (gaps (32 ∷ i) at blanks (before (name_line x h.0 h.1.0) refl (symbol dot_is h.0 (change_line word h.0 a.line refl refl (symbol semicolon_is h.0 (gap 10 refl nil))))));
      same = ap (c.Change word (bare_name x)) a.same;
    })

switch_reads : (word : SwitchWord) (ts : RawFlow) → CommandReads (c.Switch word ts)
unfolding command_text CommandPrints bare_command
switch_reads word ts = single (c.Switch word ts) (λ i blanks most d h at.
    let start = at + length (32 ∷ i) in
    let x : RawName = record { at = start; text = ts.switch.text } in
    let a = flow_again x ts h.0 h.1 (start + length ts.switch.text + 1 + length (switch_word word)) in
    record {
      value = _;
      line = by _ (inr (inr (inr (inl refl)))) (gaps (32 ∷ i) at blanks (before (name_line ts.switch h.0 h.1.0) refl (symbol dot_is h.0 (switch_line word h.0 a.line refl refl (symbol semicolon_is h.0 (gap 10 refl nil))))));
      same = ap (c.Switch word) a.same;
    })

flood_reads : (ts : RawPacket) → CommandReads (c.Flood ts)
unfolding command_text CommandPrints bare_command
flood_reads ts = single (c.Flood ts) (λ i blanks most d h at.
    let start = at + length (32 ∷ i) in
    let x : RawName = record { at = start; text = ts.switch.text } in
    let a = packet_again x ts h.0 h.1 (start + length ts.switch.text + 1 + 5) in
    record {
      value = _;
      line = by _ (inr (inr (inr (inl refl)))) (gaps (32 ∷ i) at blanks (before (name_line ts.switch h.0 h.1.0) refl (symbol dot_is h.0 (before (by _ (inr (inr (inr (inr (inr (inl refl)))))) (word (codes "flood") flood_is h.0 refl (final a.line))) refl (symbol semicolon_is h.0 (gap 10 refl nil))))));
      same = ap c.Flood a.same;
    })

three : {A B C D : Type 0} (op : A → B → C → D) {a a' : A} {b b' : B} {e e' : C} → a ≡ a' → b ≡ b' → e ≡ e' → op a b e ≡ op a' b' e'
three op x y z = cc

if_reads : (p : RawFormula) (a b : RawCommand) → CommandReads a → CommandReads b → CommandReads (raw_if p a b)
unfolding command_text CommandPrints bare_command
if_reads p a b ra rb = single (raw_if p a b) (λ i blanks most d h at.
    let room = room_of d p h.0 in
    let start = at + length (32 ∷ i) + 2 + 1 in
    let f = whole_formula p h.0 start in
    let body = block_again a d (32 ∷ i) blanks refl (command_room (d + 1) a h.1.0) (ra.all (32 ∷ 32 ∷ i) blanks most (d + 1) h.1.0) (start + length (formula_text Nothing p) + 1) in
    let other = otherwise_again d i b blanks room (λ e. (command_room (d + 1) b (h.1.1 e), rb.all (32 ∷ 32 ∷ i) blanks most (d + 1) (h.1.1 e)))
    (start + length (formula_text Nothing p) + 1 + length (block_text (32 ∷ i) (command_text (inner (32 ∷ i)) a))) in
    record {
      value = c.If f.value body.value other.value;
      line = by _ (inr (inl refl)) (gaps (32 ∷ i) at blanks (final (by _ (inl refl) (word (codes "if") if_is room refl (gap 32 refl (before f.line refl (gap 32 refl
          (before body.line (opens_otherwise (32 ∷ i) (is_skip b) (command_text (inner (32 ∷ i)) b)) (before other.line refl (gap 10 refl nil))))))))));
      same = bare_command-If f.value body.value other.value ∙ three c.If f.same body.same other.same;
    })

pick_reads : (x : RawName) (s : Sort) (p : RawFormula) (a b : RawCommand) → CommandReads a → CommandReads b → CommandReads (raw_pick x s p a b)
unfolding command_text CommandPrints bare_command
pick_reads x s p a b ra rb = single (raw_pick x s p a b) (λ i blanks most d h at.
    let room = room_of d p h.1.0 in
    let name_at = at + length (32 ∷ i) + 4 + 1 in
    let start = name_at + length x.text + 1 + length (sort_text s) + 1 + 5 + 1 in
    let f = whole_formula p h.1.0 start in
    let body = block_again a d (32 ∷ i) blanks refl (command_room (d + 1) a h.1.1.0) (ra.all (32 ∷ 32 ∷ i) blanks most (d + 1) h.1.1.0) (start + length (formula_text Nothing p) + 1) in
    let other = otherwise_again d i b blanks room (λ e. (command_room (d + 1) b (h.1.1.1 e), rb.all (32 ∷ 32 ∷ i) blanks most (d + 1) (h.1.1.1 e)))
    (start + length (formula_text Nothing p) + 1 + length (block_text (32 ∷ i) (command_text (inner (32 ∷ i)) a))) in
    record {
      value = c.Pick (record { at = name_at; text = x.text }) s f.value body.value other.value;
      line = by _ (inr (inr (inl refl))) (gaps (32 ∷ i) at blanks (final (by _ (inl refl) (word (codes "pick") pick_is room refl (gap 32 refl (before (name_line x room h.0) refl (symbol colon_is room
          (before (sort_line s room) refl (gap 32 refl (word (codes "where") where_is room refl (gap 32 refl (before f.line refl (gap 32 refl
          (before body.line (opens_otherwise (32 ∷ i) (is_skip b) (command_text (inner (32 ∷ i)) b)) (before other.line refl (gap 10 refl nil))))))))))))))));
      same = bare_command-Pick (record { at = name_at; text = x.text }) s f.value body.value other.value ∙ three (c.Pick (bare_name x) s) f.same body.same other.same;
    })

opens_command : (i : List ℕ) (x : RawCommand) → opens (command_text (32 ∷ i) x) ≡ true
unfolding command_text
opens_command i c.Skip = refl
opens_command i (raw_seq a b) = opens-append (command_text (32 ∷ i) a) (command_text (32 ∷ i) b) (opens_command i a) (opens_command i b)
opens_command i (raw_if p a b) = refl
opens_command i (raw_pick x s p a b) = refl
opens_command i (c.Change word x us) = refl
opens_command i (c.Switch word ts) = refl
opens_command i (c.Flood ts) = refl

seq_reads : (a b : RawCommand) → CommandReads a → CommandReads b → CommandReads (raw_seq a b)
unfolding command_text CommandPrints bare_command is_single
seq_reads a b ra rb = record {
  one = λ is. absurd cc;
  all = λ i blanks most d h at.
      let x = ra.one h.0 i blanks most d h.1.0 at in
      let y = rb.all i blanks most (d + 1) h.1.1 (at + length (command_text (32 ∷ i) a)) in
      record {
        value = c.Seq x.value y.value;
        line = by _ (inl refl) (before x.line (opens_command i b) (final (by _ (inl refl) (final y.line))));
        same = bare_command-Seq x.value y.value ∙ ap₂ c.Seq x.same y.same;
      };
}

-- every command that prints is read again
pub command_reads : (x : RawCommand) → CommandReads x
command_reads c.Skip = skip_reads
command_reads (raw_seq a b) = seq_reads a b (command_reads a) (command_reads b)
command_reads (raw_if p a b) = if_reads p a b (command_reads a) (command_reads b)
command_reads (raw_pick x s p a b) = pick_reads x s p a b (command_reads a) (command_reads b)
command_reads (c.Change word x us) = change_reads word x us
command_reads (c.Switch word ts) = switch_reads word ts
command_reads (c.Flood ts) = flood_reads ts
