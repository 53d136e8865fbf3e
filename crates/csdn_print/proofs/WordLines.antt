-- Names, terms, rows and sorts, as they are printed.
use Rattle.std.proofs.Common.{◌≡◌, ℕ, ◌+◌, ◌≤◌, true, List, [], ◌∷◌, length, map, inl, inr, refl, append-nil, arith}
use Rattle.std.specs.Prelude.{codes}
use Rattle.csdn_core.specs.Names.{IsName}
use Rattle.csdn_core.specs.WellSorted.{IsNumeral}
use Rattle.csdn_core.specs.declared.terms.Sort.{Sort}
use Rattle.csdn_core.specs.declared.terms.Sort.TheVariants as s
use Rattle.csdn_tokens.specs.declared.Kind.TheVariants as k
use Rattle.csdn_tokens.specs.Lex.{word_kind}
use Rattle.csdn_tree.specs.declared.names.RawName.{RawName}
use Rattle.csdn_tree.specs.declared.names.RawNumeral.{RawNumeral}
use Rattle.csdn_tree.specs.declared.names.RawTerm.{RawTerm}
use Rattle.csdn_tree.specs.declared.names.RawTerm.TheVariants as t
use Rattle.csdn_tree.specs.declared.syntax.RawRow.{RawRow}
use Rattle.csdn_text.specs.Symbols.{Nonterminal, here, Value, part, name, port, term, terms, more_terms, row, rows, more_rows, sort, sorts, sort_list, more_sorts}
use Rattle.csdn_print.specs.Words.{sort_text, port_text, term_text, more_listed, listed, terms_text, sorts_text}
use Rattle.csdn_print.specs.Placeless.{bare_term, bare_terms, bare_row}
use Rattle.csdn_print.proofs.Prints.{TermPrints, TermsPrint, RowsPrint}
use Rattle.csdn_print.proofs.Lexing.{opens, IsWord, reserved, name_is, open_is, close_is, comma_is}
use Rattle.csdn_print.proofs.Lines.{Line, nil, gap, symbol, word, number, along, by, before, final}

-- From a place on these bytes are read as a nonterminal, whose value is this one, places aside.
pub record Again (most d at : ℕ) (n : Nonterminal) (bytes : List ℕ) (Same : Value n → Type 0) : Type 0 where
  pub value : Value n
  pub line : Line most d at (part n here ∷ []) bytes (value, tt)
  pub same : Same value

-- ---- reserved words

pub prt_is : IsWord (codes "prt") k.Prt
unfolding word_kind
prt_is = reserved (codes "prt") k.Prt refl (omega arith) refl

pub sw_is : IsWord (codes "SW") k.Sw
unfolding word_kind
sw_is = reserved (codes "SW") k.Sw refl (omega arith) refl

pub ho_is : IsWord (codes "HO") k.Ho
unfolding word_kind
ho_is = reserved (codes "HO") k.Ho refl (omega arith) refl

pub pr_is : IsWord (codes "PR") k.Pr
unfolding word_kind
pr_is = reserved (codes "PR") k.Pr refl (omega arith) refl

-- ---- names and terms

pub name_line : {most d at : ℕ} (x : RawName) → d ≤ most → IsName x.text → Line most d at (part name here ∷ []) x.text (record { at = at; text = x.text }, tt)
name_line x room is = along (append-nil x.text) (by _ (inl refl) (word x.text (name_is x.text is) room refl nil))

pub port_line : {most d at : ℕ} (n : RawNumeral) → d ≤ most → IsNumeral n.number → Line most d at (part port here ∷ []) (port_text n) (record { at = at; number = n.number }, tt)
port_line n room is = by _ (inl refl) (word (codes "prt") prt_is room refl (symbol open_is room (number n.number is room refl (symbol close_is room nil))))

pub term_again : {most d : ℕ} (u : RawTerm) → d ≤ most → TermPrints u → (at : ℕ) → Again most d at term (term_text u) (λ v. bare_term v ≡ bare_term u)
term_again (t.Name x) room is at = record { value = t.Name (record { at = at; text = x.text }); line = by _ (inr (inl refl)) (final (name_line x room is)); same = refl }
term_again (t.Port n) room is at = record { value = t.Port (record { at = at; number = n.number }); line = by _ (inl refl) (final (port_line n room is)); same = refl }

opens_more : (xs : List (List ℕ)) → opens (more_listed xs) ≡ true
opens_more [] = refl
opens_more (x ∷ xs) = refl

pub more_terms_again : {most d : ℕ} (us : List RawTerm) → d ≤ most → TermsPrint us → (at : ℕ) → Again most d at more_terms (more_listed (map term_text us)) (λ vs. bare_terms vs ≡ bare_terms us)
more_terms_again [] room is at = record { value = []; line = by _ (inr (inl refl)) nil; same = refl }
more_terms_again (u ∷ us) room is at =
    let a = term_again u room is.0 (at + 1 + 1) in
    let b = more_terms_again us room is.1 (at + 1 + 1 + length (term_text u)) in
    record {
      value = a.value ∷ b.value;
      line = by _ (inl refl) (symbol comma_is room (gap 32 refl (before a.line (opens_more (map term_text us)) (final b.line))));
      same = let e = a.same in let e' = b.same in cc;
    }

pub terms_again : {most d : ℕ} (us : List RawTerm) → d ≤ most → TermsPrint us → (at : ℕ) → Again most d at terms (listed (map term_text us)) (λ vs. bare_terms vs ≡ bare_terms us)
terms_again [] room is at = record { value = []; line = by _ (inr (inl refl)) nil; same = refl }
terms_again (u ∷ us) room is at =
    let a = term_again u room is.0 at in
    let b = more_terms_again us room is.1 (at + length (term_text u)) in
    record {
      value = a.value ∷ b.value;
      line = by _ (inl refl) (before a.line (opens_more (map term_text us)) (final b.line));
      same = let e = a.same in let e' = b.same in cc;
    }

pub row_again : {most d : ℕ} (us : List RawTerm) → d ≤ most → TermsPrint us → (at : ℕ) → Again most d at row (terms_text us) (λ v. bare_terms v.terms ≡ bare_terms us)
row_again us room is at =
    let a = terms_again us room is (at + 1) in
    record { value = record { at = at; terms = a.value }; line = by _ (inl refl) (symbol open_is room (before a.line refl (symbol close_is room nil))); same = a.same }

abbrev pub row_texts : List RawRow → List (List ℕ)
row_texts rs = map (λ (r : RawRow). terms_text r.terms) rs

pub more_rows_again : {most d : ℕ} (rs : List RawRow) → d ≤ most → RowsPrint rs → (at : ℕ) → Again most d at more_rows (more_listed (row_texts rs)) (λ vs. map bare_row vs ≡ map bare_row rs)
more_rows_again [] room is at = record { value = []; line = by _ (inr (inl refl)) nil; same = refl }
more_rows_again (r ∷ rs) room is at =
    let a = row_again r.terms room is.0 (at + 1 + 1) in
    let b = more_rows_again rs room is.1 (at + 1 + 1 + length (terms_text r.terms)) in
    record {
      value = a.value ∷ b.value;
      line = by _ (inl refl) (symbol comma_is room (gap 32 refl (before a.line (opens_more (row_texts rs)) (final b.line))));
      same = let e = a.same in let e' = b.same in cc;
    }

pub rows_again : {most d : ℕ} (rs : List RawRow) → d ≤ most → RowsPrint rs → (at : ℕ) → Again most d at rows (listed (row_texts rs)) (λ vs. map bare_row vs ≡ map bare_row rs)
rows_again [] room is at = record { value = []; line = by _ (inr (inl refl)) nil; same = refl }
rows_again (r ∷ rs) room is at =
    let a = row_again r.terms room is.0 at in
    let b = more_rows_again rs room is.1 (at + length (terms_text r.terms)) in
    record {
      value = a.value ∷ b.value;
      line = by _ (inl refl) (before a.line (opens_more (row_texts rs)) (final b.line));
      same = let e = a.same in let e' = b.same in cc;
    }

-- ---- sorts

pub sort_line : {most d at : ℕ} (x : Sort) → d ≤ most → Line most d at (part sort here ∷ []) (sort_text x) (x, tt)
sort_line s.Sw room = by _ (inl refl) (word (codes "SW") sw_is room refl nil)
sort_line s.Ho room = by _ (inr (inl refl)) (word (codes "HO") ho_is room refl nil)
sort_line s.Pr room = by _ (inr (inr (inl refl))) (word (codes "PR") pr_is room refl nil)

more_sorts_line : {most d : ℕ} (xs : List Sort) → d ≤ most → (at : ℕ) → Line most d at (part more_sorts here ∷ []) (more_listed (map sort_text xs)) (xs, tt)
more_sorts_line [] room at = by _ (inr (inl refl)) nil
more_sorts_line (x ∷ xs) room at = by _ (inl refl) (symbol comma_is room (gap 32 refl (before (sort_line x room) (opens_more (map sort_text xs)) (final (more_sorts_line xs room _)))))

sort_list_line : {most d : ℕ} (xs : List Sort) → d ≤ most → (at : ℕ) → Line most d at (part sort_list here ∷ []) (listed (map sort_text xs)) (xs, tt)
sort_list_line [] room at = by _ (inr (inl refl)) nil
sort_list_line (x ∷ xs) room at = by _ (inl refl) (before (sort_line x room) (opens_more (map sort_text xs)) (final (more_sorts_line xs room _)))

pub sorts_line : {most d at : ℕ} (xs : List Sort) → d ≤ most → Line most d at (part sorts here ∷ []) (sorts_text xs) (xs, tt)
sorts_line {at = at} xs room = by _ (inl refl) (symbol open_is room (before (sort_list_line xs room (at + 1)) refl (symbol close_is room nil)))
