use Rattle.std.proofs.Common.{◌∙◌, ap, sym, ◌∷◌, List}
use Rattle.journal_text.specs.declared.note.Note.{Note}
use Rattle.replay_listing.specs.Journals.{noted}
use Rattle.session_asks.proofs.SameAsks.{same_ask-is}
use Rattle.replay_listing.proofs.Taking.{same_number, takes_entry}
use Rattle.replay_listing.proofs.journal.Journal.take_entry.Goals as goal

pub returns-in-Ok : goal.returns-in-Ok
returns-in-Ok c =
    takes_entry c.args.self.now c.enter.new.self c.args.entry.now c.args.ask c.in-Ok.reply c.in-Ok.ensures.servable c.in-Ok.ensures.entered c.in-Ok.ensures.kept.0 c.in-Ok.ensures.kept.1 c.requires.missing
    (ap noted c.requires.rest ∙ ap (λ (l : List Note). c.args.entry.now ∷ noted l) (sym c.in-Ok.ensures.rest))
    (same_number _ _ (sym c.session_of.ensures ∙ c.if-session_of-self.false))
    (same_ask-is _ _ (sym c.is_same.ensures ∙ c.if-not-is_same.false) ∙ c.ask_of.ensures)
    c.in-Ok.ensures.reply
