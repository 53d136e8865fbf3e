use Rattle.std.proofs.Common.{[], Ok}
use Rattle.file_loads.specs.declared.read.FileKind.TheVariants.{Network}
use Rattle.file_loads.specs.Gives.{IsValueOf}
use Rattle.file_loads.specs.Networks.{IsOpenNetwork, IsNoOpenNetwork}
use Rattle.file_loads.specs.Outputs.{Then}
use Rattle.file_loads.proofs.Explaining.{ended, if_ok}
use Rattle.vericon_run.specs.Outputs.{IsBroken}
use Rattle.vericon_app.proofs.Replayed.{network_of_text}
use Rattle.vericon_run.proofs.Steps.{over_file}
use Rattle.vericon_run.proofs.preparing.prepare_proven.Goals as goal

pub prepare_network-requires-clause-of_program : goal.prepare_network-requires-clause-of_program
prepare_network-requires-clause-of_program g c =
    let value : IsValueOf _ Network c.args.net.now (IsOpenNetwork c.args.program) c.in-Loaded.network = rw c.in-Loaded.is at c.in_ok-network.ensures.load in
    network_of_text c.args.program value.bytes c.in-Loaded.network value.is (c.texts_give_cases.ensures.case c.args.program value.bytes (Ok value.is.case) value.is.reads)

pub prepare_network-requires-clause-servable : goal.prepare_network-requires-clause-servable
prepare_network-requires-clause-servable g c =
    let value : IsValueOf _ Network c.args.net.now (IsOpenNetwork c.args.program) c.in-Loaded.network = rw c.in-Loaded.is at c.in_ok-network.ensures.load in
    value.is.servable

pub returns-in-Loaded-clause-prepared : goal.returns-in-Loaded-clause-prepared
returns-in-Loaded-clause-prepared g c =
    if_ok c.prepare_network.result _ _ (λ p is. over_file _ c.args.order.now c.args.program c.args.net.now c.in-Loaded.network c.args.level c.in_ok-network.ensures.reads (rw c.in-Loaded.is at c.in_ok-network.ensures.load) p is) c.prepare_network.ensures

pub returns-in-Refused-clause-prepared : goal.returns-in-Refused-clause-prepared
returns-in-Refused-clause-prepared g c =
    let P = c.args.program in
    let net = c.args.net.now in
    ended Network net (IsOpenNetwork P) (IsNoOpenNetwork P net) (λ N. Then (IsBroken P net N)) _ [] _ _ (rw c.in-Refused.is at c.in_ok-network.ensures.load)
