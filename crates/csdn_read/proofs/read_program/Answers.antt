use Rattle.text_facts.proofs.Facts.{from_text}
use Rattle.csdn_read.proofs.Refused.{exit_text, exit_sorts}
use Rattle.csdn_read.proofs.read_program.Goals as goal

pub returns-in_err-raw : goal.returns-in_err-raw
returns-in_err-raw c = exit_text _ c.args.bytes.now _ _ c.from_residual.ensures.1 c.in_err-raw.ensures.reads

pub resolve-requires : goal.resolve-requires
resolve-requires c = from_text c.args.bytes.now c.in_ok-raw.raw c.in_ok-raw.ensures.reads

pub returns-in_err-program : goal.returns-in_err-program
returns-in_err-program c =
    exit_sorts _ c.args.bytes.now c.in_ok-raw.raw _ _ c.from_residual-in_err-program.ensures.1 c.in_ok-raw.ensures.reads c.in_err-program.ensures
