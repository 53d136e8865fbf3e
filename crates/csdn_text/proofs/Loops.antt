-- A loop over a list: what more of it gives, put behind what is found, is what all of it gives.
use Rattle.std.proofs.Common.{◌≡◌, ℕ, ◌≤◌, List, [], ◌∷◌, ◌++◌, Ok, Err, true, false, length, refl, sym, subst, append_assoc, append-nil, arith}
use Rattle.csdn_tokens.specs.declared.Kind.TheVariants as k
use Rattle.csdn_tokens.specs.declared.Token.{Token}
use Rattle.csdn_core.specs.declared.terms.Sort.{Sort}
use Rattle.csdn_tree.specs.declared.names.RawTerm.{RawTerm}
use Rattle.csdn_tree.specs.declared.syntax.RawItem.{RawItem}
use Rattle.csdn_tree.specs.declared.syntax.RawProgram.{RawProgram}
use Rattle.csdn_tree.specs.declared.syntax.RawRow.{RawRow}
use Rattle.csdn_text.specs.declared.TextRefusal.{TextRefusal}
use Rattle.csdn_text.specs.Symbols.{Nonterminal, Value, here, token, part, sort, sort_list, more_sorts, row, rows, more_rows, term, terms, more_terms, item, items, program}
use Rattle.csdn_text.specs.Machine.{Fails, Parses, next_is, next_in, first, limit}
use Rattle.csdn_text.specs.Machine.Takes.{done}
use Rattle.csdn_text.proofs.Steps.{last, this, other, by, not_by, then_token, then, no_part_by, after_token, after_part}

-- From here more of m is all of n, if put behind what is found.
pub record GoesOn (d : ℕ) (n m : Nonterminal) (old now : List Token) (put : Value m → Value n) : Type 0 where
  pub takes : (v : Value m) (rest : List Token) → Parses d (part m here) now rest (Ok v) → Parses d (part n here) old rest (Ok (put v))
  pub fails : (f : TextRefusal) (rest : List Token) → Fails limit d (part m here ∷ []) now f → Parses d (part n here) old rest (Err f)
  pub shorter : length now ≤ length old

pub sorts_from : {d : ℕ} {old now : List Token} {x : Sort} → next_in old (first sort) ≡ true → Parses d (part sort here) old now (Ok x)
    → length now ≤ length old → GoesOn d sort_list more_sorts old now (λ xs. (x ∷ []) ++ xs)
sorts_from begun one shorter = record {
  takes = λ xs rest more. by (this begun) (then one (then more done)) refl;
  fails = λ f rest more. not_by (this begun) (after_part one more);
  shorter = shorter;
}

pub sorts_on : {d : ℕ} {old now mid later : List Token} {c : Token} {x : Sort} (found : List Sort) → GoesOn d sort_list more_sorts old now (λ xs. found ++ xs)
    → next_is now k.Comma ≡ true → Parses d (token k.Comma here) now mid (Ok c) → Parses d (part sort here) mid later (Ok x)
    → length later ≤ length now → GoesOn d sort_list more_sorts old later (λ xs. (found ++ x ∷ []) ++ xs)
sorts_on {d} {old} {x = x} found goes comma a b shorter = record {
  takes = λ xs rest more. subst (λ ys. Parses d (part sort_list here) old rest (Ok ys)) (sym (append_assoc found (x ∷ []) xs))
      (goes.takes (x ∷ xs) rest (by (this comma) (then_token a (then b (then more done))) refl));
  fails = λ f rest more. goes.fails f rest (no_part_by (this comma) (after_token a (after_part b more)));
  shorter = omega arith;
}

pub sorts_end : {d : ℕ} {old now : List Token} (found : List Sort) → GoesOn d sort_list more_sorts old now (λ xs. found ++ xs) → next_is now k.Comma ≡ false
    → Parses d (part sort_list here) old now (Ok found)
sorts_end {d} {old} {now} found goes ended = subst (λ ys. Parses d (part sort_list here) old now (Ok ys)) (append-nil found)
    (goes.takes [] now (by (other ended last) done refl))

pub rows_from : {d : ℕ} {old now : List Token} {x : RawRow} → next_in old (first row) ≡ true → Parses d (part row here) old now (Ok x)
    → length now ≤ length old → GoesOn d rows more_rows old now (λ xs. (x ∷ []) ++ xs)
rows_from begun one shorter = record {
  takes = λ xs rest more. by (this begun) (then one (then more done)) refl;
  fails = λ f rest more. not_by (this begun) (after_part one more);
  shorter = shorter;
}

pub rows_on : {d : ℕ} {old now mid later : List Token} {c : Token} {x : RawRow} (found : List RawRow) → GoesOn d rows more_rows old now (λ xs. found ++ xs)
    → next_is now k.Comma ≡ true → Parses d (token k.Comma here) now mid (Ok c) → Parses d (part row here) mid later (Ok x)
    → length later ≤ length now → GoesOn d rows more_rows old later (λ xs. (found ++ x ∷ []) ++ xs)
rows_on {d} {old} {x = x} found goes comma a b shorter = record {
  takes = λ xs rest more. subst (λ ys. Parses d (part rows here) old rest (Ok ys)) (sym (append_assoc found (x ∷ []) xs))
      (goes.takes (x ∷ xs) rest (by (this comma) (then_token a (then b (then more done))) refl));
  fails = λ f rest more. goes.fails f rest (no_part_by (this comma) (after_token a (after_part b more)));
  shorter = omega arith;
}

pub rows_end : {d : ℕ} {old now : List Token} (found : List RawRow) → GoesOn d rows more_rows old now (λ xs. found ++ xs) → next_is now k.Comma ≡ false
    → Parses d (part rows here) old now (Ok found)
rows_end {d} {old} {now} found goes ended = subst (λ ys. Parses d (part rows here) old now (Ok ys)) (append-nil found)
    (goes.takes [] now (by (other ended last) done refl))

pub terms_from : {d : ℕ} {old now : List Token} {x : RawTerm} → next_in old (first term) ≡ true → Parses d (part term here) old now (Ok x)
    → length now ≤ length old → GoesOn d terms more_terms old now (λ xs. (x ∷ []) ++ xs)
terms_from begun one shorter = record {
  takes = λ xs rest more. by (this begun) (then one (then more done)) refl;
  fails = λ f rest more. not_by (this begun) (after_part one more);
  shorter = shorter;
}

pub terms_on : {d : ℕ} {old now mid later : List Token} {c : Token} {x : RawTerm} (found : List RawTerm) → GoesOn d terms more_terms old now (λ xs. found ++ xs)
    → next_is now k.Comma ≡ true → Parses d (token k.Comma here) now mid (Ok c) → Parses d (part term here) mid later (Ok x)
    → length later ≤ length now → GoesOn d terms more_terms old later (λ xs. (found ++ x ∷ []) ++ xs)
terms_on {d} {old} {x = x} found goes comma a b shorter = record {
  takes = λ xs rest more. subst (λ ys. Parses d (part terms here) old rest (Ok ys)) (sym (append_assoc found (x ∷ []) xs))
      (goes.takes (x ∷ xs) rest (by (this comma) (then_token a (then b (then more done))) refl));
  fails = λ f rest more. goes.fails f rest (no_part_by (this comma) (after_token a (after_part b more)));
  shorter = omega arith;
}

pub terms_end : {d : ℕ} {old now : List Token} (found : List RawTerm) → GoesOn d terms more_terms old now (λ xs. found ++ xs) → next_is now k.Comma ≡ false
    → Parses d (part terms here) old now (Ok found)
terms_end {d} {old} {now} found goes ended = subst (λ ys. Parses d (part terms here) old now (Ok ys)) (append-nil found)
    (goes.takes [] now (by (other ended last) done refl))

-- the tree of some items
abbrev pub of_items : List RawItem → RawProgram
of_items xs = record { items = xs }

pub items_from : {d : ℕ} {old now : List Token} {x : RawItem} → Parses d (part item here) old now (Ok x)
    → length now ≤ length old → GoesOn d program items old now (λ xs. of_items ((x ∷ []) ++ xs))
items_from one shorter = record {
  takes = λ xs rest more. by last (then one (then more done)) refl;
  fails = λ f rest more. not_by last (after_part one more);
  shorter = shorter;
}

pub items_on : {d : ℕ} {old now later : List Token} {x : RawItem} (found : List RawItem) → GoesOn d program items old now (λ xs. of_items (found ++ xs)) → next_in now (first item) ≡ true
    → Parses d (part item here) now later (Ok x)
    → length later ≤ length now → GoesOn d program items old later (λ xs. of_items ((found ++ x ∷ []) ++ xs))
items_on {d} {old} {x = x} found goes begun one shorter = record {
  takes = λ xs rest more. subst (λ ys. Parses d (part program here) old rest (Ok (of_items ys))) (sym (append_assoc found (x ∷ []) xs))
      (goes.takes (x ∷ xs) rest (by (this begun) (then one (then more done)) refl));
  fails = λ f rest more. goes.fails f rest (no_part_by (this begun) (after_part one more));
  shorter = omega arith;
}

pub items_end : {d : ℕ} {old now : List Token} (found : List RawItem) → GoesOn d program items old now (λ xs. of_items (found ++ xs)) → next_in now (first item) ≡ false
    → Parses d (part program here) old now (Ok (of_items found))
items_end {d} {old} {now} found goes ended = subst (λ ys. Parses d (part program here) old now (Ok (of_items ys))) (append-nil found)
    (goes.takes [] now (by (other ended last) done refl))
