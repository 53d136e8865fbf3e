use Rattle.std.proofs.Common.{◌≡◌, false, map, ◌∙◌, sym}
use Rattle.std.specs.List.{list_any}
use Rattle.std.specs.Str.{bytes_eq}
use Rattle.csdn_types.proofs.Lists.{mapped-insert, is_some-position}
use Rattle.csdn_types.proofs.names.Names.add.Goals as goal

pub returns-clause-ok : goal.returns-clause-ok
returns-clause-ok c =
    let free : list_any (bytes_eq c.args.name.now) c.args.self.now ≡ false = sym (is_some-position (bytes_eq c.args.name.now) c.args.self.now) ∙ c.requires in
    let new : list_any (bytes_eq c.in_ok-name.name.items) (map (λ k. k.items) c.self.inside.set.keys) ≡ false = rw (c.in_ok-name.ensures.items, c.self.view_is) free in
    rw (c.in_ok-insert.ensures.keys, ← c.self.view_is, ← c.in_ok-name.ensures.items) (mapped-insert (λ k. k.items) (bytes_eq c.in_ok-name.name.items) c.self.inside.set.keys c.in_ok-name.name new)
