use Rattle.session_asks.proofs.Servable.{entered_sent}
use Rattle.replay_listing.proofs.journal.Journal.enter.Goals as goal

pub returns-in-Ok-clause-servable : goal.returns-in-Ok-clause-servable
returns-in-Ok-clause-servable c =
    entered_sent c.args.self.now.runtime c.args.entry.now c.in-Ok.reply c.stands.ensures.sorted c.stands.ensures.network c.stands.ensures.servable c.in-Ok.ensures.answer c.in-Ok.ensures.reply
