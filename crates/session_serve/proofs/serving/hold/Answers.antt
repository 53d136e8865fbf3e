use Rattle.std.proofs.Common.{ap}
use Rattle.shared_hall.specs.Halls.{SeatView}
use Rattle.session_entries.specs.Additions.{Origin}
use Rattle.session_serve.proofs.Served.{none_asked, none_given}
use Rattle.session_serve.proofs.serving.hold.Goals as goal

pub speak_over-requires-clause-given : goal.speak_over-requires-clause-given
speak_over-requires-clause-given g c =
    none_given c.args.entries.now.hall.now.opening c.args.entries.now.session c.args.entries.now.begun.value.account c.args.entries.now.seat.now.account (ap (λ (v : SeatView). v.account) c.requires.begun)

pub speak_over-requires-clause-asked : goal.speak_over-requires-clause-asked
speak_over-requires-clause-asked g c = none_asked c.args.entries.now.begun.value.account c.args.entries.now.seat.now.account (ap (λ (v : SeatView). v.account) c.requires.begun)

pub returns-clause-same_reference : goal.returns-clause-same_reference
returns-clause-same_reference g c = ap (λ (o : Origin). o.reference) c.speak_over.ensures.source

pub returns-clause-hall : goal.returns-clause-hall
returns-clause-hall g c = ap (λ (o : Origin). o.hall) c.speak_over.ensures.source

pub returns-clause-session : goal.returns-clause-session
returns-clause-session g c = ap (λ (o : Origin). o.session) c.speak_over.ensures.source

pub returns-clause-begun : goal.returns-clause-begun
returns-clause-begun g c = ap (λ (o : Origin). o.begun) c.speak_over.ensures.source
