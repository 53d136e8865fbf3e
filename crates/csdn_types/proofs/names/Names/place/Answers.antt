use Rattle.std.proofs.Common.{sym, ◌∙◌}
use Rattle.std.specs.Str.{bytes_eq}
use Rattle.csdn_types.proofs.Lists.{position-map}
use Rattle.csdn_types.proofs.names.Names.place.Goals as goal

pub returns-clause-value : goal.returns-clause-value
returns-clause-value c = rw (← c.self.view_is) (c.get_index_of.ensures.index ∙ sym (position-map (bytes_eq c.args.name.now) (λ k. k.items) _))
