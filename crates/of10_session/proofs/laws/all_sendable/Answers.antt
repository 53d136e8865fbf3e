use Rattle.std.proofs.Common.{refl, []}
use Rattle.of10_session.proofs.Sendable.{sendable_hello}
use Rattle.of10_session.proofs.Sent.{turn_sends, answer_sends}
use Rattle.of10_session.proofs.laws.all_sendable.Goals as goal

pub returns-clause-greeting : goal.returns-clause-greeting
returns-clause-greeting c = λ x. sendable_hello x 1 [] refl

pub returns-clause-said : goal.returns-clause-said
returns-clause-said c = turn_sends

pub returns-clause-answers : goal.returns-clause-answers
returns-clause-answers c = answer_sends
