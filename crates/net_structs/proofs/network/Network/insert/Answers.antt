use Rattle.std.proofs.Common.{◌∙◌, ap, not, refl}
use Rattle.net_structs.proofs.Tied.{holds_is}
use Rattle.net_structs.proofs.Stored.{insert_is}
use Rattle.net_structs.proofs.network.Network.insert.Goals as goal

pub returns-clause-is_new : goal.returns-clause-is_new
returns-clause-is_new c = c.in_ok-is_new.ensures.added ∙ ap not (holds_is _ _ _ _ _ _ refl (ap (λ n. n.rows) c.self.view_is) c.copy.ensures)

pub returns-clause-put : goal.returns-clause-put
returns-clause-put c = insert_is c.self.inside.sw c.self.inside.ho c.self.inside.pr c.self.inside.consts c.self.inside.rows.keys _ _ _ _ _ c.self.view_is c.copy.ensures c.in_ok-is_new.ensures.keys
