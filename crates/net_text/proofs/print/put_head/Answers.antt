use Rattle.std.proofs.Common.{◌∷◌, map}
use Rattle.std.specs.Prelude.{codes, decimal}
use Rattle.std.proofs.lemmas.Result.{on_ok_weaker}
use Rattle.net_text.specs.NetText.{header_words}
use Rattle.net_text.proofs.Appended.{four}
use Rattle.net_text.proofs.print.put_head.Goals as goal

pub returns : goal.returns
returns c =
    let N = c.args.network.now in
    on_ok_weaker c.put_sort-3.result (λ e. four c.args.out.now.items c.put_named.new.out.items c.put_sort.new.out.items c.put_sort-2.new.out.items c.put_sort-3.new.out.items
    header_words (codes "sw" ∷ map decimal N.switches) (codes "ho" ∷ map decimal N.hosts) (codes "pr" ∷ map decimal N.ports)
    c.in_ok-put_named.ensures c.in_ok-put_sort.ensures c.in_ok-put_sort-2.ensures e) c.put_sort-3.ensures
