use Rattle.std.proofs.Common.{rules, refl, ap, Some}
use Rattle.vericon_links.proofs.TakenLemmas.{taken_more}
use Rattle.vericon_links.proofs.mem_link.MemLinkLink.read.Goals as goal

-- src/mem_link.rt:145:5
pub returns-clause-answer : goal.returns-clause-answer
returns-clause-answer c =
    (search rules, search rules, ap Some (taken_more c.args.self.now.script.gives.items c.deref.result.now c.copy_front.new.into c.args.self.now.taken c.min-width.result c.deref.ensures.value c.copy_front.ensures.front), refl, refl)
