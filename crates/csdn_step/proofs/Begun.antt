-- Where a handler's execution begins.
use Rattle.std.proofs.Common.{◌≡◌, ◌∙◌, ap, ℕ, List, [], ◌∷◌, ◌++◌}
use Rattle.csdn_core.specs.declared.event.Match.{Match}
use Rattle.csdn_core.specs.declared.event.Out.{Out}
use Rattle.csdn_core.specs.declared.event.Tally.{Tally}
use Rattle.csdn_core.specs.declared.program.Handler.{Handler}
use Rattle.csdn_core.specs.declared.terms.VarId.{VarId}
use Rattle.csdn_core.specs.Network.{State}
use Rattle.csdn_core.specs.Run.{for_packet}
use Rattle.net_structs.specs.declared.env.Pair.{Pair}
use Rattle.net_structs.specs.declared.row.Row.{Row}
use Rattle.net_structs.specs.Binds.{assignment}
use Rattle.net_structs.specs.Rows.{held}
use Rattle.net_structs.proofs.Taken.{but-none}
use Rattle.csdn_step.specs.declared.draft.StateDraft.{StateDraft}
use Rattle.csdn_step.specs.Drafts.{standing}
use Rattle.csdn_step.specs.Courses.{Course, drafted, from_state}

abbrev course_of : State → List Match → List Out → Course
course_of x changed outs = record { state = x; changed = changed; outs = outs }

-- nothing is told yet
pub begun : (draft : StateDraft) (tally : Tally) → tally.changed ≡ [] → tally.outs ≡ [] → drafted draft tally ≡ from_state (standing draft)
begun draft tally none_changed no_outs =
    ap (λ (changed : List Match). course_of (standing draft) changed tally.outs) none_changed ∙ ap (course_of (standing draft) []) no_outs

-- a draft in which nothing is done yet
pub fresh : (draft : StateDraft) (rows : List Row) → draft ≡ record { state = rows; gone = []; added = [] } → standing draft ≡ held rows
fresh draft rows is = ap standing is ∙ but-none (held rows)

abbrev with_pair : VarId → ℕ → List Pair → List Pair
with_pair v m pairs = pairs ++ record { var = v; value = m } ∷ []

-- the variables of a handler stand for the packet
pub packet_bound : (h : Handler) (s a b i : ℕ) (none one two three four : List Pair) → none ≡ [] → one ≡ none ++ record { var = h.s; value = s } ∷ [] → two ≡ one ++ record { var = h.a; value = a } ∷ [] → three ≡ two ++ record { var = h.b; value = b } ∷ [] → four ≡ three ++ record { var = h.i; value = i } ∷ []
    → assignment four ≡ for_packet h s a b i
packet_bound h s a b i none one two three four at_0 at_1 at_2 at_3 at_4 =
    ap assignment (at_4 ∙ ap (with_pair h.i i) (at_3 ∙ ap (with_pair h.b b) (at_2 ∙ ap (with_pair h.a a) (at_1 ∙ ap (with_pair h.s s) at_0))))
