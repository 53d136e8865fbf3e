-- Each formula that prints is read again from its text.
use Rattle.std.proofs.Common.{◌≡◌, ℕ, ◌+◌, ◌≤◌, true, List, [], ◌∷◌, ◌++◌, length, inl, inr, refl, ap, ap₂, ◌∙◌, arith}
use Rattle.std.specs.Prelude.{codes}
use Rattle.csdn_core.specs.declared.terms.Sort.{Sort}
use Rattle.csdn_tree.specs.declared.names.RawName.{RawName}
use Rattle.csdn_tree.specs.declared.names.RawTerm.{RawTerm}
use Rattle.csdn_tree.specs.declared.names.RawTerm.TheVariants as t
use Rattle.csdn_tree.specs.declared.syntax.FlowWord.{FlowWord}
use Rattle.csdn_tree.specs.declared.syntax.FlowWord.TheVariants as w
use Rattle.csdn_tree.specs.declared.syntax.RawFlow.{RawFlow}
use Rattle.csdn_tree.specs.declared.syntax.RawPacket.{RawPacket}
use Rattle.csdn_tree.specs.declared.syntax.RawFormula.{RawFormula}
use Rattle.csdn_tree.specs.declared.syntax.RawFormula.TheVariants as f
use Rattle.csdn_tree.specs.RawTree.{raw_not, raw_two, raw_bind}
use Rattle.csdn_tree.specs.declared.syntax.Connective.{Connective}
use Rattle.csdn_tree.specs.declared.tiers.Tier.TheVariants.{Joins}
use Rattle.csdn_tree.specs.Tiers.{left_of, right_of}
use Rattle.csdn_text.specs.Symbols.{here, part, formula, binds, more_binds}
use Rattle.csdn_print.specs.declared.forms.Lead.TheVariants.{Nothing, Binds}
use Rattle.csdn_tree.specs.declared.syntax.Quantifier.{Quantifier}
use Rattle.csdn_tree.specs.declared.syntax.Quantifier.TheVariants as q
use Rattle.csdn_print.specs.Words.{sort_text, term_text, terms_text, flow_text, packet_text}
use Rattle.csdn_print.specs.Formulas.{tier_level, level, operand, quantifier_word, quantifier_text, connective_text, flow_word, formula_text}
use Rattle.csdn_print.specs.Placeless.{bare_name, bare_formula}
use Rattle.csdn_print.specs.Steps.{bare_formula-Not, bare_formula-Two, bare_formula-Bind}
use Rattle.csdn_print.proofs.Prints.{NamePrints, TermPrints, TermsPrint, FlowPrints, PacketPrints, inside, inside_least, Prints}
use Rattle.csdn_print.proofs.Lexing.{opens, comma_is, colon_is, dot_is, equals_is}
use Rattle.csdn_print.proofs.Lines.{Line, nil, gap, symbol, word, by, before, final}
use Rattle.csdn_print.proofs.WordLines.{Again, name_line, port_line, term_again, row_again, sort_line}
use Rattle.csdn_print.proofs.FormulaLines.{SameAs, true_is, false_is, not_is, forall_is, exists_is, ft_is, sent_is, rcv_this_is, flow_again, packet_again, to_level, Own, operand_at, tier_small, at_tier, by_word, opens_between, between}

-- ---- what has no formula in it

true_own : {most d : ℕ} → d ≤ most → Own most d 5 (codes "true") f.True
true_own room = record { room = room; line = λ at. record { again = record { value = f.True; line = by _ (inr (inl refl)) (final (by _ (inl refl) (word (codes "true") true_is room refl nil))); same = refl } } }

false_own : {most d : ℕ} → d ≤ most → Own most d 5 (codes "false") f.False
false_own room = record { room = room; line = λ at. record { again = record { value = f.False; line = by _ (inr (inl refl)) (final (by _ (inr (inl refl)) (word (codes "false") false_is room refl nil))); same = refl } } }

atom_own : {most d : ℕ} (x : RawName) (us : List RawTerm) → d ≤ most → NamePrints x → TermsPrint us → Own most d 5 (x.text ++ terms_text us) (f.Atom x us)
unfolding bare_formula
atom_own x us room is are = record {
  room = room;
  line = λ at.
      let a = row_again us room are (at + length x.text) in
      record {
        again = record {
          value = f.Atom (record { at = at; text = x.text }) a.value.terms;
          line = by _ (inr (inl refl)) (final (by _ (inr (inr (inr (inr (inl refl))))) (before (name_line x room is) refl (final (by _ (inr (inr (inl refl))) (final a.line))))));
          same = ap (f.Atom (bare_name x)) a.same;
        };
      };
}

same_own : {most d : ℕ} (u v : RawTerm) → d ≤ most → TermPrints u → TermPrints v → Own most d 5 (term_text u ++ (codes " = " ++ term_text v)) (f.Same u v)
unfolding bare_formula
same_own (t.Name x) v room is is' = record {
  room = room;
  line = λ at.
      let b = term_again v room is' (at + length x.text + 1 + 1 + 1) in
      record {
        again = record {
          value = f.Same (t.Name (record { at = at; text = x.text })) b.value;
          line = by _ (inr (inl refl)) (final (by _ (inr (inr (inr (inr (inl refl))))) (before (name_line x room is) refl (final (by _ (inl refl) (gap 32 refl (symbol equals_is room (gap 32 refl (final b.line)))))))));
          same = ap (f.Same (t.Name (bare_name x))) b.same;
        };
      };
}
same_own (t.Port n) v room is is' = record {
  room = room;
  line = λ at.
      let b = term_again v room is' (at + length (term_text (t.Port n)) + 1 + 1 + 1) in
      record {
        again = record {
          value = f.Same (t.Port (record { at = at; number = n.number })) b.value;
          line = by _ (inr (inl refl)) (final (by _ (inr (inr (inr (inl refl)))) (before (port_line n room is) refl (gap 32 refl (symbol equals_is room (gap 32 refl (final b.line)))))));
          same = ap (f.Same (t.Port (record { at = 0; number = n.number }))) b.same;
        };
      };
}

flow_own : {most d : ℕ} (place : ℕ) (kind : FlowWord) (ts : RawFlow) → d ≤ most → FlowPrints ts → Own most d 5 (ts.switch.text ++ (flow_word kind ++ flow_text ts)) (f.Flow place kind ts)
unfolding bare_formula
flow_own place w.Ft ts room is = record {
  room = room;
  line = λ at.
      let x : RawName = record { at = at; text = ts.switch.text } in
      let a = flow_again x ts room is (at + length ts.switch.text + 1 + 2) in
      record {
        again = record {
          value = _;
          line = by _ (inr (inl refl)) (final (by _ (inr (inr (inr (inr (inl refl))))) (before (name_line ts.switch room is.0) refl (final (by _ (inr (inl refl)) (symbol dot_is room (final (by _ (inl refl) (word (codes "ft") ft_is room refl (final a.line))))))))));
          same = ap (f.Flow 0 w.Ft) a.same;
        };
      };
}
flow_own place w.Sent ts room is = record {
  room = room;
  line = λ at.
      let x : RawName = record { at = at; text = ts.switch.text } in
      let a = flow_again x ts room is (at + length ts.switch.text + 1 + 4) in
      record {
        again = record {
          value = _;
          line = by _ (inr (inl refl)) (final (by _ (inr (inr (inr (inr (inl refl))))) (before (name_line ts.switch room is.0) refl (final (by _ (inr (inl refl)) (symbol dot_is room (final (by _ (inr (inl refl)) (word (codes "sent") sent_is room refl (final a.line))))))))));
          same = ap (f.Flow 0 w.Sent) a.same;
        };
      };
}

packet_own : {most d : ℕ} (place : ℕ) (ts : RawPacket) → d ≤ most → PacketPrints ts → Own most d 5 (ts.switch.text ++ (codes ".rcv_this" ++ packet_text ts)) (f.RcvThis place ts)
unfolding bare_formula
packet_own place ts room is = record {
  room = room;
  line = λ at.
      let x : RawName = record { at = at; text = ts.switch.text } in
      let a = packet_again x ts room is (at + length ts.switch.text + 1 + 8) in
      record {
        again = record {
          value = _;
          line = by _ (inr (inl refl)) (final (by _ (inr (inr (inr (inr (inl refl))))) (before (name_line ts.switch room is.0) refl (final (by _ (inr (inl refl)) (symbol dot_is room (final (by _ (inr (inr (inl refl))) (word (codes "rcv_this") rcv_this_is room refl (final a.line))))))))));
          same = ap (f.RcvThis 0) a.same;
        };
      };
}

-- ---- connectives

outer_room : {most : ℕ} (needed own d : ℕ) → inside needed own d ≤ most → d ≤ most
outer_room needed own d h = let e = inside_least needed own d in omega (arith, e, h)

not_own : {most own : ℕ} {bytes : List ℕ} {p : RawFormula} (d : ℕ) → Own most (inside 5 own (d + 1)) own bytes p → Own most d 5 (codes "not " ++ operand 5 own bytes) (raw_not p)
unfolding bare_formula
not_own {most} {own} {bytes} {p} d h =
    let room = outer_room 5 own (d + 1) h.room in
    record {
      room = omega (arith, room);
      line = λ at.
          let a = operand_at (d + 1) 5 own (omega arith) h (at + 3 + 1) in
          record {
            again = record {
              value = f.Not a.again.value;
              line = by _ (inl refl) (word (codes "not") not_is room refl (gap 32 refl (final a.again.line)));
              same = bare_formula-Not a.again.value ∙ ap f.Not a.again.same;
            };
          };
    }

two_own : {most o o' : ℕ} {bytes bytes' : List ℕ} {p r : RawFormula} (d : ℕ) (word : Connective) → Own most (inside (tier_level (left_of word)) o d) o bytes p → Own most (inside (tier_level (right_of word)) o' (d + 1)) o' bytes' r
    → Own most d (tier_level (Joins word)) (operand (tier_level (left_of word)) o bytes ++ (connective_text word ++ operand (tier_level (right_of word)) o' bytes')) (raw_two word p r)
unfolding bare_formula
two_own {most} {o} {o'} {bytes} {bytes'} {p} {r} d word h h' =
    let left = tier_level (left_of word) in
    let right = tier_level (right_of word) in
    let room = outer_room right o' (d + 1) h'.room in
    record {
      room = omega (arith, room);
      line = λ at.
          let a = at_tier (left_of word) (operand_at d left o (tier_small (left_of word)) h at) in
          let b = at_tier (right_of word) (operand_at (d + 1) right o' (tier_small (right_of word)) h' (at + length (operand left o bytes) + length (connective_text word))) in
          let rest = between word room (final b.line) in
          by_word word (record {
            value = f.Two word a.value b.value;
            line = by _ (inl refl) (before a.line (opens_between word (operand right o' bytes')) (final (by _ (inl refl) rest.1)));
            same = bare_formula-Two word a.value b.value ∙ ap₂ (f.Two word) a.same b.same;
          });
    }

-- ---- quantifiers

-- behind the names of a quantifier
behind_dot : {most d own : ℕ} {bytes : List ℕ} {p : RawFormula} (q : Quantifier) → Own most d own bytes p → (at : ℕ) → Again most d at (more_binds q) (codes ". " ++ bytes) (SameAs p)
behind_dot {own = own} q h at =
    let a = to_level own 0 (omega arith) (h.line (at + 1 + 1)) in
    record { value = a.again.value; line = by _ (inr (inl refl)) (symbol dot_is h.room (gap 32 refl (final a.again.line))); same = a.again.same }

bind_line : {most d at : ℕ} {bytes : List ℕ} {v : RawFormula} (which : Quantifier) (x : RawName) (s : Sort) → d + 1 ≤ most → NamePrints x → opens bytes ≡ true
    → Line most (d + 1) (at + length x.text + 1 + length (sort_text s)) (part (more_binds which) here ∷ []) bytes (v, tt)
    → Line most d at (part (binds which) here ∷ []) (x.text ++ (codes ":" ++ (sort_text s ++ bytes))) (f.Bind which (record { at = at; text = x.text }) s v, tt)
bind_line which x s room is free a = by _ (inl refl) (before (name_line x room is) refl (symbol colon_is room (before (sort_line s room) free (final a))))

-- what is proved of a formula: it is read where nothing stands before it, and where a quantifier does
pub record Reads (p : RawFormula) : Type 0 where
  pub own : (most d : ℕ) → Prints most d p → Own most d (level p) (formula_text Nothing p) p
  pub bound : (which : Quantifier) (most d : ℕ) → Prints most d p → (at : ℕ) → Again most d at (more_binds which) (formula_text (Binds which) p) (SameAs p)

opens_bound : (which : Quantifier) (p : RawFormula) → opens (formula_text (Binds which) p) ≡ true
unfolding formula_text
opens_bound which f.True = refl
opens_bound which f.False = refl
opens_bound which (f.Atom x us) = refl
opens_bound which (f.Same u v) = refl
opens_bound which (f.Flow at kind ts) = refl
opens_bound which (f.RcvThis at ts) = refl
opens_bound which (raw_not p) = refl
opens_bound which (raw_two word p r) = refl
opens_bound q.All (raw_bind q.All x s p) = refl
opens_bound q.Some (raw_bind q.All x s p) = refl
opens_bound q.All (raw_bind q.Some x s p) = refl
opens_bound q.Some (raw_bind q.Some x s p) = refl

-- the room of a formula
pub room_of : {most : ℕ} (d : ℕ) (p : RawFormula) → Prints most d p → d ≤ most
unfolding Prints
room_of d f.True h = h
room_of d f.False h = h
room_of d (f.Atom x us) h = h.0
room_of d (f.Same u v) h = h.0
room_of d (f.Flow at kind ts) h = h.0
room_of d (f.RcvThis at ts) h = h.0
room_of d (raw_not p) h = let e = inside_least 5 (level p) (d + 1) in let e' = room_of (inside 5 (level p) (d + 1)) p h in omega (arith, e, e')
room_of d (raw_two word p r) h = let left = tier_level (left_of word) in outer_room left (level p) d (room_of (inside left (level p) d) p h.0)
room_of d (raw_bind which x s p) h = let e = room_of (d + 1) p h.1 in omega (arith, e)

-- the word of a quantifier and the names that it binds
begins : {most d at : ℕ} {bytes : List ℕ} {v : RawFormula} (which : Quantifier) → d ≤ most → Line most d (at + 6 + 1) (part (binds which) here ∷ []) bytes (v, tt)
    → Line most d at (part formula here ∷ []) (quantifier_word which ++ bytes) (v, tt)
begins q.All room a = by _ (inl refl) (word (codes "forall") forall_is room refl (gap 32 refl (final a)))
begins q.Some room a = by _ (inr (inl refl)) (word (codes "exists") exists_is room refl (gap 32 refl (final a)))

-- behind the names of a quantifier, those of the same one or another
behind : {most d : ℕ} {bytes : List ℕ} {p : RawFormula} (w which : Quantifier) → Own most d 0 (quantifier_word which ++ bytes) p → ((at : ℕ) → Again most d at (more_binds which) (codes ", " ++ bytes) (SameAs p))
    → (at : ℕ) → Again most d at (more_binds w) (quantifier_text (Binds w) which ++ bytes) (SameAs p)
behind q.All q.All own more at = more at
behind q.Some q.Some own more at = more at
behind q.All q.Some own more at = behind_dot q.All own at
behind q.Some q.All own more at = behind_dot q.Some own at

bind_reads : (which : Quantifier) (x : RawName) (s : Sort) (p : RawFormula) → Reads p → Reads (raw_bind which x s p)
unfolding formula_text level Prints bare_formula
bind_reads which x s p r = record { own = λ most d h. go most d h; bound = λ w most d h at. behind w which (go most d h) (more most d h) at }
  where
    bindings : (most d : ℕ) → Prints most d (raw_bind which x s p) → (at : ℕ) → Again most d at (binds which) (x.text ++ (codes ":" ++ (sort_text s ++ formula_text (Binds which) p))) (SameAs (raw_bind which x s p))
    bindings most d h at =
        let room = room_of (d + 1) p h.1 in
        let a = r.bound which most (d + 1) h.1 (at + length x.text + 1 + length (sort_text s)) in
        record { value = _; line = bind_line which x s room h.0 (opens_bound which p) a.line; same = bare_formula-Bind which (record { at = at; text = x.text }) s a.value ∙ ap (f.Bind which (bare_name x) s) a.same }

    go : (most d : ℕ) → Prints most d (raw_bind which x s p) → Own most d 0 (quantifier_word which ++ (x.text ++ (codes ":" ++ (sort_text s ++ formula_text (Binds which) p)))) (raw_bind which x s p)
    go most d h =
        let room = room_of (d + 1) p h.1 in
        record {
          room = omega (arith, room);
          line = λ at.
              let a = bindings most d h (at + 6 + 1) in
              record { again = record { value = a.value; line = begins which (omega (arith, room)) a.line; same = a.same } };
        }

    -- behind the same quantifier
    more : (most d : ℕ) → Prints most d (raw_bind which x s p) → (at : ℕ) → Again most d at (more_binds which) (codes ", " ++ (x.text ++ (codes ":" ++ (sort_text s ++ formula_text (Binds which) p)))) (SameAs (raw_bind which x s p))
    more most d h at =
        let room = room_of (d + 1) p h.1 in
        let a = bindings most d h (at + 1 + 1) in
        record { value = a.value; line = by _ (inl refl) (symbol comma_is (omega (arith, room)) (gap 32 refl (final a.line))); same = a.same }

-- every formula that prints is read again
pub formula_reads : (p : RawFormula) → Reads p
unfolding formula_text level Prints
formula_reads f.True = record { own = λ most d h. true_own h; bound = λ w most d h at. behind_dot w (true_own h) at }
formula_reads f.False = record { own = λ most d h. false_own h; bound = λ w most d h at. behind_dot w (false_own h) at }
formula_reads (f.Atom x us) = record { own = λ most d h. atom_own x us h.0 h.1.0 h.1.1; bound = λ w most d h at. behind_dot w (atom_own x us h.0 h.1.0 h.1.1) at }
formula_reads (f.Same u v) = record { own = λ most d h. same_own u v h.0 h.1.0 h.1.1; bound = λ w most d h at. behind_dot w (same_own u v h.0 h.1.0 h.1.1) at }
formula_reads (f.Flow place kind ts) = record { own = λ most d h. flow_own place kind ts h.0 h.1; bound = λ w most d h at. behind_dot w (flow_own place kind ts h.0 h.1) at }
formula_reads (f.RcvThis place ts) = record { own = λ most d h. packet_own place ts h.0 h.1; bound = λ w most d h at. behind_dot w (packet_own place ts h.0 h.1) at }
formula_reads (raw_not p) =
    let r = formula_reads p in
    record {
      own = λ most d h. not_own d (r.own most (inside 5 (level p) (d + 1)) h);
      bound = λ w most d h at. behind_dot w (not_own d (r.own most (inside 5 (level p) (d + 1)) h)) at;
    }
formula_reads (raw_two word p r) =
    let a = formula_reads p in
    let b = formula_reads r in
    let left = tier_level (left_of word) in
    let right = tier_level (right_of word) in
    record {
      own = λ most d h. two_own d word (a.own most (inside left (level p) d) h.0) (b.own most (inside right (level r) (d + 1)) h.1);
      bound = λ w most d h at. behind_dot w (two_own d word (a.own most (inside left (level p) d) h.0) (b.own most (inside right (level r) (d + 1)) h.1)) at;
    }
formula_reads (raw_bind which x s p) = bind_reads which x s p (formula_reads p)
