-- Replies that are written down.
use Rattle.std.specs.Prelude.{◌==◌, List, [], ◌∷◌, Bool, not}
use Rattle.csdn_core.specs.declared.event.Out.{Out}
use Rattle.csdn_core.specs.declared.event.Out.TheVariants.{Port, Flood}
use Rattle.csdn_history.specs.declared.reply.Rule.{Rule}
use Rattle.csdn_history.specs.declared.reply.Reply.{Reply}
use Rattle.of10_session.specs.declared.turn.Ask.{Ask}
use Rattle.of10_session.specs.declared.turn.Ask.TheVariants.{Join, Packet, Expire}
use Rattle.of10_session_tests.specs.declared.replies.Change.{Change}
use Rattle.of10_session_tests.specs.declared.replies.Change.TheVariants.{Same, Has, Gone}
use Rattle.of10_session_tests.specs.declared.replies.Sending.{Sending}
use Rattle.of10_session_tests.specs.declared.replies.Sending.TheVariants.{Nowhere, To, Everywhere}
use Rattle.of10_session_tests.specs.declared.replies.Step.{Step}

abbrev pub rule_list : Change → List Rule
rule_list Same = []
rule_list (Has a b i port cookie idle) = record { key = record { s = 1; a = a; b = b; i = i }; ports = port ∷ []; cookie = cookie; idle = idle } ∷ []
rule_list (Gone a b i cookie) = record { key = record { s = 1; a = a; b = b; i = i }; ports = []; cookie = cookie; idle = 0 } ∷ []

abbrev pub out_list : Sending → List Out
out_list Nowhere = []
out_list (To port) = Port port ∷ []
out_list Everywhere = Flood ∷ []

abbrev pub reply_of : Step → Reply
reply_of step = record { rules = rule_list step.change; outs = out_list step.sending }

-- a network of switch 1 without host 9, and a program whose rules end or don't
abbrev pub declared_where : (expires : Bool) → Ask → Bool
declared_where expires (Join switch) = switch == 1
declared_where expires (Packet switch a b i) = not (a == 9)
declared_where expires (Expire switch a b i cookie) = expires
