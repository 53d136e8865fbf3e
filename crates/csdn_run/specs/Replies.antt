-- What is answered to an entry.
use Rattle.std.specs.Prelude.{ℕ, Bool, List, [], map, filter, Option, Some, None}
use Rattle.std.specs.List.{list_any, flat_map}
use Rattle.csdn_core.specs.declared.event.Match.{Match}
use Rattle.csdn_core.specs.declared.program.Parts.{Parts}
use Rattle.csdn_core.specs.Network.{Network, State}
use Rattle.net_structs.specs.Networks.{in_order}
use Rattle.csdn_step.specs.Courses.{Course, sends}
use Rattle.csdn_history.specs.declared.entry.Entry.{Entry}
use Rattle.csdn_history.specs.declared.entry.Entry.TheVariants.{Join, Packet, Expire}
use Rattle.csdn_history.specs.declared.reply.Rule.{Rule}
use Rattle.csdn_history.specs.declared.reply.Reply.{Reply}
use Rattle.csdn_run.specs.Places.{match_cmp}
use Rattle.csdn_run.specs.Standings.{Standing, done, marked, after}

-- a rule has the mark of its match as its cookie where rules end, else 0
abbrev pub cookie_for : Option ℕ → ℕ → ℕ
cookie_for None mark = 0
cookie_for (Some seconds) mark = mark

abbrev pub idle_for : Option ℕ → ℕ
idle_for None = 0
idle_for (Some seconds) = seconds

-- the rule of a match in a state, with a mark: all outputs of the match, which rise as the ports of the network do
abbrev pub rule_in : Parts → Network → State → ℕ → Match → Rule
rule_in P N x mark m = record { key = m; ports = filter (sends x m) N.ports; cookie = cookie_for P.timeout mark; idle = idle_for P.timeout }

abbrev pub rule : Parts → Network → Standing → Match → Rule
rule P N w m = rule_in P N w.state (w.marks m) m

-- the matches that were changed on the way, and the executed outs
abbrev pub reply_to_packet : Parts → Network → Standing → Course → Reply
reply_to_packet P N w course = record { rules = map (rule P N (marked w course)) course.changed; outs = course.outs }

-- all matches of a switch
abbrev pub matches_at : Network → ℕ → List Match
matches_at N s = flat_map (λ a. flat_map (λ b. map (λ i. record { s = s; a = a; b = b; i = i }) N.ports) N.hosts) N.hosts

-- whether `ft` holds the match
abbrev pub has_rule : Network → State → Match → Bool
has_rule N x m = list_any (sends x m) N.ports

-- the matches that `ft` holds for a switch, rising by source, destination and port
abbrev pub joined : Network → State → ℕ → List Match
joined N x s = in_order match_cmp (filter (has_rule N x) (matches_at N s))

-- a join is answered by the rules of its switch
abbrev pub reply_to_join : Parts → Network → Standing → ℕ → Reply
reply_to_join P N w s = record { rules = map (rule P N w) (joined N w.state s); outs = [] }

-- what is answered to an entry that is declared; its rules are those after the step
unfoldable pub reply_in : Parts → Network → Standing → Entry → Reply
reply_in P N w (Join seat session s) = reply_to_join P N w s
reply_in P N w (Packet seat session s a b i) = reply_to_packet P N w (done P N w (Packet seat session s a b i))
reply_in P N w (Expire seat session s a b i cookie) = record { rules = []; outs = [] }

-- the reply to an entry at its place: behind these entries
abbrev pub reply : Parts → Network → List Entry → Entry → Reply
reply P N entries entry = reply_in P N (after P N entries) entry
