use Rattle.std.proofs.Common.{◌∙◌, ap}
use Rattle.net_structs.specs.Networks.{has}
use Rattle.net_structs.proofs.Searched.{search_is}
use Rattle.net_structs.proofs.network.Network.has.Goals as goal

pub returns : goal.returns
returns c =
    c.is_ok.ensures.value ∙ search_is c.args.element c.elements.result.now c.binary_search.result c.binary_search.ensures.position c.elements.ensures.rising
    ∙ ap (λ xs. has xs c.args.element) c.elements.ensures.elements
