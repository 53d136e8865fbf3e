use Rattle.form_trees.specs.Trees.{tree_form}
use Rattle.lazy_ground.proofs.WholeFound.{both_of}
use Rattle.lazy_ground.proofs.adding.broken_rows.Goals as goal

pub returns : goal.returns
returns c = both_of c.args.r.now (tree_form c.args.tree.now) c.new-rows.result c.find_copies.new.rows c.find_equality.new.rows c.new-rows.ensures c.in_ok-find_copies.ensures c.in_ok-find_equality.ensures
