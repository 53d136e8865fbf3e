use Rattle.std.proofs.Common.{◌∙◌, subst, ℕ, List}
use Rattle.std.proofs.lemmas.Result.{IfOk-weaker}
use Rattle.replay_listing.specs.Tellings.{IsTelling}
use Rattle.replay_listing.proofs.Replayed.{listed_session}
use Rattle.replay_listing.proofs.listing.list_replay.Goals as goal

pub returns : goal.returns
returns c =
    IfOk-weaker c.tell.result _ _ (λ replay h.
    listed_session c.args.program c.args.network 4194304 c.args.notes.now c.args.session c.new-journal.result c.speak.new.program c.args.stream.now c.new-said.result.items c.speak.new.out.items c.in-Ok.spoken replay.text.items replay.ending
    (c.new-journal.ensures.runtime ∙ c.in_ok-runtime.ensures) c.new-journal.ensures.session c.new-journal.ensures.rest c.in-Ok.ensures.source c.new-said.ensures.items c.in-Ok.ensures.answer
    (subst (λ (l : List ℕ). IsTelling c.speak.new.program c.in-Ok.spoken l replay.text.items replay.ending) c.deref.ensures.value h)) c.tell.ensures
