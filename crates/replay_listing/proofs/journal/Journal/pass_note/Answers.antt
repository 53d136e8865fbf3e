use Rattle.std.proofs.Common.{◌∙◌, ap, sym, ◌∷◌, List}
use Rattle.journal_text.specs.declared.note.Note.{Note}
use Rattle.replay_listing.specs.Journals.{noted}
use Rattle.replay_listing.proofs.Taking.{other_number, passes_entry}
use Rattle.replay_listing.proofs.journal.Journal.pass_note.Goals as goal

pub returns-in_ok-enter-in-Kept-clause-passes : goal.returns-in_ok-enter-in-Kept-clause-passes
returns-in_ok-enter-in-Kept-clause-passes c =
    passes_entry c.args.self.now c.enter.new.self c.in-Kept.entry c.in_ok-enter-in-Kept.ensures.entered c.in_ok-enter-in-Kept.ensures.kept.0 c.in_ok-enter-in-Kept.ensures.kept.1
    (ap noted c.requires ∙ ap (λ (n : Note). noted (n ∷ c.args.more.now)) c.in-Kept.is ∙ ap (λ (l : List Note). c.in-Kept.entry ∷ noted l) (sym c.in_ok-enter-in-Kept.ensures.rest))
    (other_number _ _ (λ same. c.if-session_of-self.false (c.session_of.ensures ∙ same)))
