use Rattle.std.proofs.Common.{◌∙◌, ◌++◌, ap}
use Rattle.net_text.specs.NetText.{head_lines, part_lines, net_text}
use Rattle.net_text.proofs.Appended.{two}
use Rattle.net_text.proofs.print.text_of.Goals as goal

pub returns : goal.returns
returns c =
    two c.new-out.result.items c.put_head.new.out.items c.put_parts.new.out.items (head_lines c.args.case.now.network) (part_lines c.args.program.now c.args.case.now) c.in_ok-put_head.ensures c.in_ok-put_parts.ensures
    ∙ ap (λ t. t ++ net_text c.args.program.now c.args.case.now) c.new-out.ensures.items
