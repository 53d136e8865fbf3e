use Rattle.of10_msgs.proofs.Tails.{writes_tail}
use Rattle.of10_msgs.proofs.writing.put_actions_and_body.Goals as goal

pub returns : goal.returns
returns c = writes_tail c.args.out.now c.put_all.new.out c.put_bytes.new.out c.args.actions.now c.args.body.now c.put_all.ensures (rw (← c.as_slice.ensures) c.put_bytes.ensures)
