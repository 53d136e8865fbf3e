use Rattle.std.proofs.Common.{List, ℕ, ap, ◌∙◌}
use Rattle.of10_wire.specs.Layout.{appended}
use Rattle.of10_wire.proofs.Standing.{appended-nil, appended-spells}
use Rattle.of10_msgs.specs.Messages.{message_slots}
use Rattle.of10_msgs.proofs.writing.encode.Goals as goal

pub returns-clause-appended : goal.returns-clause-appended
returns-clause-appended c = c.put_message.ensures.items ∙ ap (λ (b : List ℕ). appended b (message_slots c.args.message.now)) c.in_ok-reserve.ensures.items ∙ appended-nil c.args.out.now.items (message_slots c.args.message.now)

pub returns-clause-spelled : goal.returns-clause-spelled
returns-clause-spelled c = appended-spells (message_slots c.args.message.now) c.put_message.ensures.fits
