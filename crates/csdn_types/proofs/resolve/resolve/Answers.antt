use Rattle.csdn_types.proofs.Refusals.{exit_refusal, exit_memory}
use Rattle.csdn_types.proofs.WholeProgram.{sealed}
use Rattle.csdn_types.proofs.resolve.resolve.Goals as goal

pub returns-in_err-items : goal.returns-in_err-items
returns-in_err-items c = exit_refusal c.args.raw.now _ _ c.new-draft.result c.from_residual.ensures.1 c.requires c.new-draft.ensures (rw (← c.as_slice.ensures) c.in_err-items.ensures.passes)

pub returns-in_err-numerals : goal.returns-in_err-numerals
returns-in_err-numerals c = exit_memory c.args.raw.now _ c.from_residual-in_err-numerals.ensures.1

pub seal-requires : goal.seal-requires
seal-requires c =
    sealed c.args.raw.now c.requires c.into_parts.result c.in_ok-numerals.numerals c.new-draft.result c.items.new.draft c.as_slice.result.now c.as_slice-2.result.now
    c.new-draft.ensures c.as_slice.ensures c.as_slice-2.ensures c.in_ok-items.ensures.passes c.in_ok-items.ensures.draft c.in_ok-numerals.ensures c.into_parts.ensures
