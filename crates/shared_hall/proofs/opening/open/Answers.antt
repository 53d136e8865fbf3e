use Rattle.std.proofs.Common.{[], ◌∷◌, ◌++◌, ap, ◌∙◌, sym, subst, List}
use Rattle.std.specs.Prelude.{Option, Some}
use Rattle.csdn_run.specs.Histories.{Running}
use Rattle.shared_hall.specs.Views.{opened}
use Rattle.shared_hall.specs.declared.view.Setting.{Setting}
use Rattle.shared_hall.specs.Rules.{Kept}
use Rattle.shared_hall.proofs.Cuts.{opens}
use Rattle.shared_hall.proofs.opening.open.Goals as goal

pub new-requires : goal.new-requires
new-requires c =
    let k : Setting = record { opening = c.of-opening.result; seats = c.args.seats } in
    let slots = c.push_reserved.ensures.items ∙ ap (λ l. l ++ Some c.args.runtime ∷ []) c.in-Ok.ensures.items in
    let P : List (Option Running) → Type 0 = λ l. Kept k (Rattle.atomic_table.specs.Table.opening (0 ∷ 0 ∷ []) l (opened c.of-opening.result.value c.args.seats)) in
    subst P (sym slots) (opens k c.args.runtime c.of-opening.ensures c.requires.new c.requires.seats.0 c.requires.seats.1)
