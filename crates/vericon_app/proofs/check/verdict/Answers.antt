use Rattle.std.proofs.Common.{refl}
use Rattle.file_loads.proofs.Explaining.{if_ok}
use Rattle.vericon_app.specs.Check.{is_proven, is_not_proven, wants_no_log}
use Rattle.vericon_app.proofs.check.verdict.Goals as goal

pub returns-in-Proven : goal.returns-in-Proven
returns-in-Proven c =
    if_ok c.yes.result _ _ (λ outcome says. is_proven c.in-Proven.level c.in-Proven._proofs.items (rw c.in-Proven.is at c.in_ok-level.ensures) (wants_no_log refl (record { no_read = refl; no_write = refl; said = says }))) c.yes.ensures

pub returns-in-Told : goal.returns-in-Told
returns-in-Told c = is_not_proven (record { no_read = refl; no_write = refl; said = rw c.in-Told.is at c.in_ok-level.ensures })
