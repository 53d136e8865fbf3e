-- The next note of a trace, and the next of the matches that it marks.
use Rattle.std.proofs.Common.{◌≡◌, ◌∙◌, ◌≤◌, ◌-◌, ◌+◌, ap, sym, ℕ, List, [], ◌∷◌, length, take, drop, get_or, Option, None, arith}
use Rattle.general_facts.proofs.Lists.{rest_is}
use Rattle.csdn_core.specs.declared.event.Match.{Match}
use Rattle.csdn_core.specs.declared.event.Packet.{Packet}
use Rattle.csdn_core.specs.declared.program.Parts.{Parts}
use Rattle.csdn_core.specs.Network.{Network}
use Rattle.csdn_run.specs.Standings.{Standing, with_marks}
use Rattle.csdn_run.proofs.Markings.{with_more}
use Rattle.journal_text.specs.declared.note.Note.{Note}
use Rattle.journal_text.specs.declared.note.Note.TheVariants.{Kept, Flow}
use Rattle.trace_listing.specs.Traces.{traced, unless_refused, with_note, refusal_of, after, looked_at, first_broken}

-- the next of the matches got its mark
pub next_set : (old new : Match → ℕ) (rest : List Match) (other : Match) (n : ℕ) (answer : Match → ℕ) → 1 ≤ length rest → new ≡ with_marks old (get_or rest 0 other ∷ []) n → with_marks old rest n ≡ answer
    → with_marks new (take (length rest - 1) (drop 1 rest)) n ≡ answer
next_set old new [] other n answer some made h = absurd (omega (arith, some))
next_set old new (x ∷ xs) other n answer some made h =
    ap (λ (zs : List Match). with_marks new zs n) (rest_is x xs) ∙ ap (λ (f : Match → ℕ). with_marks f xs n) made ∙ with_more old x xs n ∙ h

-- one note less is left
pub next_length : (rest : List Note) (j n : ℕ) → 1 ≤ length rest → j + length rest ≡ n → j + 1 + length (take (length rest - 1) (drop 1 rest)) ≡ n
next_length [] j n some is = absurd (omega (arith, some))
next_length (note ∷ notes) j n some is =
    let e : length (take (length (note ∷ notes) - 1) (drop 1 (note ∷ notes))) ≡ length notes = ap length (rest_is note notes) in
    omega (arith, e, is)

module _ (P : Parts) (N : Network) where
  -- a note that happened, and those behind it
  pub next_traced : (rest : List Note) (other : Note) (w z : Standing) (packet : Option Packet) (j : ℕ) → 1 ≤ length rest → refusal_of P N w (get_or rest 0 other) ≡ None
      → packet ≡ looked_at P N w (get_or rest 0 other) → z ≡ after P N w (get_or rest 0 other)
      → with_note j (first_broken P N z.state packet) (traced P N (j + 1) z (take (length rest - 1) (drop 1 rest))) ≡ traced P N j w rest
  next_traced [] other w z packet j some happened packet_is after_is = absurd (omega (arith, some))
  next_traced (note ∷ notes) other w z packet j some happened packet_is after_is =
      ap (λ (ns : List Note). with_note j (first_broken P N z.state packet) (traced P N (j + 1) z ns)) (rest_is note notes)
      ∙ ap (λ (y : Standing). with_note j (first_broken P N y.state packet) (traced P N (j + 1) y notes)) after_is
      ∙ ap (λ (p : Option Packet). with_note j (first_broken P N (after P N w note).state p) (traced P N (j + 1) (after P N w note) notes)) packet_is
      ∙ sym (ap (λ o. unless_refused j o (with_note j (first_broken P N (after P N w note).state (looked_at P N w note)) (traced P N (j + 1) (after P N w note) notes))) happened)

  count_after : (w : Standing) (note : Note) → (after P N w note).count ≤ w.count + 1
  unfolding after
  count_after w (Kept entry) = omega arith
  count_after w (Flow s a b i o) = omega arith

  -- not more entries than notes
  pub next_count : (rest : List Note) (other : Note) (w z : Standing) (most : ℕ) → 1 ≤ length rest → z ≡ after P N w (get_or rest 0 other) → w.count + length rest ≤ most
      → z.count + length (take (length rest - 1) (drop 1 rest)) ≤ most
  next_count [] other w z most some after_is below = absurd (omega (arith, some))
  next_count (note ∷ notes) other w z most some after_is below =
      let e : length (take (length (note ∷ notes) - 1) (drop 1 (note ∷ notes))) ≡ length notes = ap length (rest_is note notes) in
      let f : z.count ≡ (after P N w note).count = ap (λ (y : Standing). y.count) after_is in
      let g = count_after w note in
      omega (arith, e, f, g, below)
