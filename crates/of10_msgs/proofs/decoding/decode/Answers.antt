use Rattle.of10_msgs.proofs.Readings.{answer-only, answer-place, answer-sendable}
use Rattle.of10_msgs.proofs.decoding.decode.Goals as goal

pub returns-clause-only : goal.returns-clause-only
returns-clause-only c = answer-only c.args.bytes.now c.read.result c.read.ensures.answer

pub returns-clause-place : goal.returns-clause-place
returns-clause-place c = answer-place c.args.bytes.now c.read.result c.read.ensures.answer

pub returns-clause-sendable : goal.returns-clause-sendable
returns-clause-sendable c = answer-sendable c.args.bytes.now c.read.result c.read.ensures.answer c.read.ensures.short
