use Rattle.std.proofs.Common.{[], ap}
use Rattle.std.specs.Prelude.{option_map}
use Rattle.file_loads.specs.Outputs.{Then}
use Rattle.file_loads.proofs.Explaining.{if_ok, said_so, unread, untouched}
use Rattle.vericon_app.specs.Check.{IsYesLine, YesOutput, wants_no_log}
use Rattle.vericon_app.proofs.check.proven.Goals as goal

pub returns-in-None-clause-output : goal.returns-in-None-clause-output
returns-in-None-clause-output g c =
    let level = c.args.level in
    if_ok c.yes.result _ _ (λ outcome yes. said_so _ [] (Then (IsYesLine level)) _ _ _ (λ answers write out. wants_no_log (ap (option_map (λ name. name.now)) c.in-None.is) out) (unread (IsYesLine level) _ _ _ yes)) c.yes.ensures

pub returns-in-None-clause-touches : goal.returns-in-None-clause-touches
returns-in-None-clause-touches g c = untouched _ _
