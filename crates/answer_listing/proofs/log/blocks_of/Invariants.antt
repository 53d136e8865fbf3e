use Rattle.std.proofs.Common.{◌≡◌, true, length, drop}
use Rattle.std.specs.Vec.Iter.{into_iter_items, into_iter_len}
use Rattle.csdn_conditions.specs.Conditions.{conditions}
use Rattle.log_text.specs.LogText.{are_blocks}
use Rattle.vericon_decide.specs.Levels.{AreProofsOf}
use Rattle.answer_listing.proofs.Blocks.{GoesOn}
use Rattle.answer_listing.proofs.log.blocks_of.Given as goal

abbrev pub invariant-conditions : goal.invariant-conditions
invariant-conditions l =
    record {
      going : GoesOn l.program (conditions l.program l.level) l.index l.blocks;
      left : AreProofsOf l.program (drop l.index (conditions l.program l.level)) (into_iter_items l.proofs_left);
      as_many : into_iter_len l.proofs_left ≡ length (into_iter_items l.proofs_left);
      fit : are_blocks l.blocks ≡ true;
    }
