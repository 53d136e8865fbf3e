use Rattle.std.proofs.Common.{◌∙◌, ◌++◌, ◌&&◌, ◌+◌, ap, subst, append_assoc, length, take, drop, get_or, ◌-◌, is_none, List, ℕ}
use Rattle.std.proofs.Math.Bool.{and_assoc}
use Rattle.csdn_history.specs.declared.entry.Entry.TheVariants.{Join}
use Rattle.journal_text.specs.declared.note.Note.TheVariants.{Kept}
use Rattle.trace_listing.specs.declared.progress.Taken.{Taken}
use Rattle.trace_listing.specs.Traces.{IsTaken, Traced, first_broken, note_text, standing_of, traced}
use Rattle.trace_listing.proofs.Marking.{next_traced, next_count, next_length}
use Rattle.trace_listing.proofs.trace.put_notes.Goals as goal

pub notes-preserved : goal.notes-preserved
notes-preserved c =
    let P = c.args.program.now in
    let N = c.args.network.now in
    let w = standing_of c.notes.progress in
    let z = standing_of c.take.new.progress in
    let rest = c.notes.rest.now in
    let j = c.notes.number in
    let packet = c.in-Happened.packet in
    let other = Kept (Join 0 0 0) in
    let taken = subst (λ (t : Taken). IsTaken P N w (get_or rest 0 other) t z) c.in-Happened.is c.in_ok-refusal.ensures in
    let broken = first_broken P N z.state packet in
    let later = traced P N (j + 1) z (take (length rest - 1) (drop 1 rest)) in
    let turned = next_traced P N rest other w z packet j c.in-len1-up.len_at_least taken.0 taken.1 taken.2 in
    record {
      text =
          ap (λ (t : List ℕ). t ++ later.text) c.in_ok-is_true-in-Happened.ensures.text ∙ append_assoc c.notes.out.items (note_text j broken) later.text
          ∙ ap (λ (t : Traced). c.notes.out.items ++ t.text) turned ∙ c.notes.invariant.text;
      last = ap (λ (t : Traced). t.last) turned ∙ c.notes.invariant.last;
      unbroken =
          ap (λ b. (c.notes.unbroken && b) && later.unbroken) c.in_ok-is_true-in-Happened.ensures.unbroken ∙ and_assoc c.notes.unbroken (is_none broken) later.unbroken
          ∙ ap (λ (t : Traced). c.notes.unbroken && t.unbroken) turned ∙ c.notes.invariant.unbroken;
      pairs = ap (λ e. e.pairs) c.in_ok-is_true-in-Happened.ensures.env ∙ c.notes.invariant.pairs;
      room = ap (λ e. e.room) c.in_ok-is_true-in-Happened.ensures.env ∙ c.notes.invariant.room;
      number = next_length rest j (length c.args.notes.now + 1) c.in-len1-up.len_at_least c.notes.invariant.number;
      count = next_count P N rest other w z (length c.args.notes.now) c.in-len1-up.len_at_least taken.2 c.notes.invariant.count;
    }
