-- Runs that nothing disturbs.
use Rattle.std.proofs.Common.{◌≡◌, ℕ, ◌<◌, ◌⊎◌, inl, inr, List, [], ◌∷◌, Option, None, Result, Ok, Err, sym, ◌∙◌, ap, subst, refl, arith}
use Rattle.std.proofs.lemmas.Option.{same_Some}
use Rattle.csdn_core.specs.declared.program.Parts.{Parts}
use Rattle.csdn_core.specs.Network.{Network}
use Rattle.csdn_history.specs.declared.entry.Entry.{Entry}
use Rattle.csdn_read.specs.Programs.{Spells}
use Rattle.csdn_read.proofs.Exact.{none_spelled}
use Rattle.net_structs.specs.declared.case.Case.{Case}
use Rattle.net_structs.specs.Networks.{IsServable}
use Rattle.vericon_edge.specs.Counts.{Rose}
use Rattle.vericon_edge.specs.Told.{Told, holds, MayHold, MayBeMissing, MayBeLonger}
use Rattle.session_workers.specs.declared.halt.Halt.{Halt}
use Rattle.session_workers.specs.declared.halt.Halt.TheVariants.{Done, Fault, Memory}
use Rattle.session_workers.specs.Endings.{HaltsFor}
use Rattle.command_words.specs.Call.{Call}
use Rattle.file_loads.specs.declared.read.FileKind.TheVariants.{Program, Network as NetworkFile}
use Rattle.file_loads.specs.Lines.{memory_text}
use Rattle.file_loads.specs.Views.{Change, calm}
use Rattle.file_loads.specs.Answers.{Answer, held, missing, longer, failed, FileMayAnswer, MayAnswerAll}
use Rattle.file_loads.specs.Writes.{Write}
use Rattle.file_loads.specs.Explained.{IsExplained}
use Rattle.file_loads.specs.Outputs.{IsNone, was_value, was_refused, was_none}
use Rattle.file_loads.specs.Loads.{WithProgram}
use Rattle.file_loads.specs.Networks.{IsOpenNetwork, IsNoOpenNetwork, has_bad_line, is_closed, IsClosed, by_state, by_elements}
use Rattle.file_loads.proofs.Explaining.{calmed}
use Rattle.vericon_app.specs.Calls.{file_name, files_named, level_named, level_of, size_named, size_of}
use Rattle.vericon_app.specs.Check.{IsNotProven, is_broken, is_not_decided, has_no_network}
use Rattle.vericon_app.specs.Decided as ends
use Rattle.vericon_app.specs.Decided.{IsDecided}
use Rattle.vericon_app.specs.Left as left
use Rattle.vericon_app.specs.Left.{Finishes, all, front}
use Rattle.vericon_app.specs.Output.{MayPrint, Output}
use Rattle.vericon_app.specs.Quiet as app
use Rattle.vericon_app.specs.Quiet.{IsUndisturbed}
use Rattle.vericon_run.specs.declared.prepared.Start.{Start}
use Rattle.vericon_run.specs.Words.{IsRun}
use Rattle.vericon_run.specs.Runs.{HasRun, HasSaid, ListenerView, whole, short, cut, accepted_status, accepted_text, is_fault}
use Rattle.vericon_run.specs.Outputs.{Unserved, UnservedNetwork, UnservedProgram, is_not_proven, is_proven}
use Rattle.vericon_run.specs.Left.{HasRunLeft, has_left, is_short}
use Rattle.vericon_run.specs.Quiet as quiet
use Rattle.vericon_run.specs.Quiet.{IsRunAnswered, IsRunDecided, IsYesOf, breaks_topology, is_answered, is_no_network, is_no_yes, is_served, is_too_long}
use Rattle.vericon_run.specs.Starts.{IsStartAsked, run_files}
use Rattle.vericon_run.proofs.Asked.{AsksRun, as_called}
use Rattle.vericon_run.proofs.Served.{accepted_for}
use Rattle.vericon_run.proofs.Topologies.{breaks_one}

-- a count that stands where it stood, and could have risen, didn't rise
steady : (before after : ℕ) → after ≡ before → before < 18446744073709551615 → Rose before after → ⊥
steady before after same few rose = omega (arith, rose, same, few)

-- ---- an undisturbed run answers, or memory was short

module _ (run : Call → MayPrint) (asked : Option Call) (change : Change) (old new : Option (List ℕ)) (before after status : ℕ) (undisturbed : IsUndisturbed change before after) where
  no_sink_rose : Rose before after → ⊥
  no_sink_rose = steady before after undisturbed.no_write_fault undisturbed.writes_counted

  calmly : (text : List ℕ) (given : ℕ) → IsExplained change (files_named asked) (Output run asked) text given → IsExplained (calm change) (files_named asked) (Output run asked) text given
  calmly text given out =
      calmed change (files_named asked) (Output run asked) text given
      (steady change.before.read_faults change.after.read_faults undisturbed.no_read_fault undisturbed.reads_counted)
      (steady change.before.write_faults change.after.write_faults undisturbed.no_file_fault undisturbed.files_counted) out

  pub answered : HasRunLeft (IsExplained change (files_named asked) (Output run asked)) old new before after status → IsRunAnswered run asked change old new status
  answered (has_left (left.whole text out grown same)) = is_answered (app.answers text (calmly text status out) grown)
  answered (has_left (left.no_memory is grown same)) = is_answered (app.wants_memory is grown)
  answered (has_left (left.cut text other out is grown rose)) = absurd (no_sink_rose rose)
  answered (has_left (left.cut_memory is grown rose)) = absurd (no_sink_rose rose)
  answered (is_short text other out is grown same) = quiet.is_short text other (calmly text other out) is grown

-- ---- what is told where nobody is served

-- bytes that are no network over which sessions are served are none
closed_apart : (P : Parts) (name : List ℕ) (case : Case) (text : List ℕ) → IsClosed name case text → (N : Network) → case.network ≡ N → case.state ≡ None → IsServable N → ⊥
closed_apart P name case text (by_state rows some text_is) N network none servable = absurd cc
closed_apart P name case text (by_elements none closed text_is) N network none_again servable = closed (subst IsServable (sym network) servable)

abbrev case_or : {E : Type 0} → Case → Result Case E → Case
case_or case (Ok found) = found
case_or case (Err why) = case

unopened : (P : Parts) (name bytes text : List ℕ) → IsNoOpenNetwork P name bytes text → (N : Network) → IsOpenNetwork P bytes N → ⊥
unopened P name bytes text (has_bad_line (line, why, is, text_is)) N open_so = absurd (let reads = open_so.reads in cc)
unopened P name bytes text (is_closed case reads closed) N open_so =
    let same : case ≡ open_so.case = ap (case_or case) (sym reads ∙ open_so.reads) in
    closed_apart P name case text closed N (ap (λ (c : Case). c.network) same ∙ sym open_so.network) (ap (λ (c : Case). c.state) same ∙ open_so.no_state) open_so.servable

not_proven_decided : (size most : ℕ) (bytes net text : List ℕ) (status : ℕ) (P : Parts) → Spells bytes P → IsNotProven size most P text status → IsRunDecided size most bytes net status
not_proven_decided size most bytes net text status P spells (is_broken level index case counter shows status_is) = is_no_yes (ends.is_counterexample P level index case spells counter status_is) (λ zero_is. absurd (omega (arith, zero_is, status_is)))
not_proven_decided size most bytes net text status P spells (is_not_decided level index why unknown line status_is) = is_no_yes (ends.is_unknown P level index why spells unknown status_is) (λ zero_is. absurd (omega (arith, zero_is, status_is)))
not_proven_decided size most bytes net text status P spells (has_no_network proof unmet text_is status_is) = is_no_yes (ends.has_no_network P proof spells unmet status_is) (λ zero_is. absurd (omega (arith, zero_is, status_is)))

module _ (change : Change) (size most : ℕ) (bytes net : List ℕ) (no_read_fault : Rose change.before.read_faults change.after.read_faults → ⊥) where
  module _ (name : List ℕ) (told : change.before.told name ≡ holds net) (P : Parts) (proven : IsYesOf size most bytes P) where
    network_none : (text : List ℕ) (status : ℕ) (answer : Answer) → FileMayAnswer change (record { kind = NetworkFile; name = name }) answer → IsNone NetworkFile name answer text status → IsRunDecided size most bytes net status
    network_none text status (held found) may said = absurd said
    network_none text status missing may said = absurd (subst (λ (t : Told). MayBeMissing t change.before.read_faults change.after.read_faults) told may)
    network_none text status longer may said = is_too_long P proven (subst (λ (t : Told). MayBeLonger t 16777216) told may) said.1
    network_none text status failed may said = absurd (no_read_fault may)

    network_found : (found : List ℕ) → MayHold (change.before.told name) found → found ≡ net
    network_found found may = subst (λ (t : Told). MayHold t found) told may

    network_decided : (answers : List Answer) (write : Option Write) (text : List ℕ) (status : ℕ) → ((answer : Answer) (rest : List Answer) → answers ≡ answer ∷ rest → FileMayAnswer change (record { kind = NetworkFile; name = name }) answer) → UnservedNetwork P name answers write text status
        → IsRunDecided size most bytes net status
    network_decided answers write text status may (was_value found N rest is open_so out) =
        let same = network_found found (may (held found) rest is).0 in
        breaks_topology P N proven (subst (λ (b : List ℕ). IsOpenNetwork P b N) same open_so) (breaks_one P N out.said.name out.said.first) out.said.status_is
    network_decided answers write text status may (was_refused found is none refused status_is) =
        let same = network_found found (may (held found) [] is).0 in
        is_no_network P proven (λ N open_so. unopened P name found text refused N (subst (λ (b : List ℕ). IsOpenNetwork P b N) (sym same) open_so)) status_is
    network_decided answers write text status may (was_none answer is none said) = network_none text status answer (may answer [] is) said

  module _ (name net_name : List ℕ) (told : change.before.told name ≡ holds bytes) (told_net : change.before.told net_name ≡ holds net) where
    program_none : (text : List ℕ) (status : ℕ) (answer : Answer) → FileMayAnswer change (record { kind = Program; name = name }) answer → IsNone Program name answer text status → IsRunDecided size most bytes net status
    program_none text status (held found) may said = absurd said
    program_none text status missing may said = absurd (subst (λ (t : Told). MayBeMissing t change.before.read_faults change.after.read_faults) told may)
    program_none text status longer may said = let three = said.1 in is_no_yes (ends.is_too_long (subst (λ (t : Told). MayBeLonger t 65536) told may) three) (λ zero_is. absurd (omega (arith, zero_is, three)))
    program_none text status failed may said = absurd (no_read_fault may)

    program_found : (found : List ℕ) → MayHold (change.before.told name) found → found ≡ bytes
    program_found found may = subst (λ (t : Told). MayHold t found) told may

    abbrev MayRead : List Answer → Type 0
    MayRead answers = MayAnswerAll change (record { kind = Program; name = name } ∷ record { kind = NetworkFile; name = net_name } ∷ []) answers

    second_answer : (answers rest : List Answer) (found : List ℕ) → answers ≡ held found ∷ rest → MayRead answers → (answer : Answer) (more : List Answer) → rest ≡ answer ∷ more → FileMayAnswer change (record { kind = NetworkFile; name = net_name }) answer
    second_answer answers rest found is may answer more is_more =
        let here : MayRead (held found ∷ answer ∷ more) = subst MayRead (is ∙ ap (λ (r : List Answer). held found ∷ r) is_more) may in here.1.0

    first_answer : (answers rest : List Answer) (answer : Answer) → answers ≡ answer ∷ rest → MayRead answers → FileMayAnswer change (record { kind = Program; name = name }) answer
    first_answer answers rest answer is may = let here : MayRead (answer ∷ rest) = subst MayRead is may in here.0

    program_decided : (rest : List Answer) (write : Option Write) (text : List ℕ) (status : ℕ) (P : Parts) → Spells bytes P → ((answer : Answer) (more : List Answer) → rest ≡ answer ∷ more → FileMayAnswer change (record { kind = NetworkFile; name = net_name }) answer)
        → UnservedProgram size most net_name P rest write text status → IsRunDecided size most bytes net status
    program_decided rest write text status P spells may (is_not_proven out) = not_proven_decided size most bytes net text status P spells out.said
    program_decided rest write text status P spells may (is_proven level proofs proven out) =
        network_decided net_name told_net P (record { spells = spells; level = level; proofs = proofs; decided = proven }) rest write text status may out

    files_decided : (answers : List Answer) (write : Option Write) (text : List ℕ) (status : ℕ) → MayRead answers → WithProgram name (UnservedProgram size most net_name) answers write text status → IsRunDecided size most bytes net status
    files_decided answers write text status may (was_value found P rest is spells out) =
        let same = program_found found (first_answer answers rest (held found) is may).0 in
        program_decided rest write text status P (subst (λ (b : List ℕ). Spells b P) same spells) (second_answer answers rest found is may) out
    files_decided answers write text status may (was_refused found is none (at, why, refusal, text_is) status_is) =
        let same = program_found found (first_answer answers [] (held found) is may).0 in
        is_no_yes (ends.spells_none (subst (λ (b : List ℕ). (P : Parts) → Spells b P → ⊥) same (none_spelled found at why refusal)) status_is) (λ zero_is. absurd (omega (arith, zero_is, status_is)))
    files_decided answers write text status may (was_none answer is none said) = program_none text status answer (first_answer answers [] answer is may) said

-- ---- what the words name

module _ (asked : Option Call) (only : AsksRun asked) (change : Change) (program network bytes net : List ℕ) (run : IsRun asked program network) (told : change.before.told program ≡ holds bytes) (told_net : change.before.told network ≡ holds net) where
  told_called : change.before.told (file_name run.call 0) ≡ holds bytes
  told_called = ap change.before.told run.program_is ∙ told

  told_net_called : change.before.told (file_name run.call 1) ≡ holds net
  told_net_called = ap change.before.told run.network_is ∙ told_net

  as_named : (status : ℕ) → IsRunDecided (size_of run.call) (level_of run.call) bytes net status → IsRunDecided (size_named asked) (level_named asked) bytes net status
  as_named status out =
      subst (λ (n : ℕ). IsRunDecided n (level_named asked) bytes net status) (sym (ap size_named run.asked_is))
      (subst (λ (n : ℕ). IsRunDecided (size_of run.call) n bytes net status) (sym (ap level_named run.asked_is)) out)

  module _ (old new : Option (List ℕ)) (before after status : ℕ) (undisturbed : IsUndisturbed change before after) where
    no_rose : Rose before after → ⊥
    no_rose = steady before after undisturbed.no_write_fault undisturbed.writes_counted

    -- a run that serves nobody
    pub told_decided : (text : List ℕ) (given : ℕ) → IsExplained change (files_named asked) (Output Unserved asked) text given → Finishes text given old new before after status → IsRunDecided (size_named asked) (level_named asked) bytes net status ⊎ (status ≡ 7)
    told_decided text given out (all is grown same) =
        let called : IsExplained change (run_files run.call) (Unserved run.call) text given = as_called asked run.call run.asked_is (only run.call run.asked_is) change Unserved text given out in
        let decided : IsRunDecided (size_of run.call) (level_of run.call) bytes net given =
        files_decided change (size_of run.call) (level_of run.call) bytes net (steady change.before.read_faults change.after.read_faults undisturbed.no_read_fault undisturbed.reads_counted)
        (file_name run.call 0) (file_name run.call 1) told_called told_net_called called.answers called.write text given called.answered called.said in
        inl (as_named status (subst (λ (n : ℕ). IsRunDecided (size_of run.call) (level_of run.call) bytes net n) (sym is) decided))
    told_decided text given out (front is grown rose) = absurd (no_rose rose)

    -- .. or that wants memory
    pub memory_decided : Finishes memory_text 7 old new before after status → IsRunDecided (size_named asked) (level_named asked) bytes net status ⊎ (status ≡ 7)
    memory_decided (all is grown same) = inr is
    memory_decided (front is grown rose) = absurd (no_rose rose)

    -- .. or that serves, over a listener that doesn't fail
    module _ (start : Start) (is : IsStartAsked change asked start) where
      found_is : (name found held_there : List ℕ) → change.before.told name ≡ holds held_there → MayHold (change.before.told name) found → found ≡ held_there
      found_is name found held_there told_here may = subst (λ (t : Told). MayHold t found) told_here may

      same_call : is.call ≡ run.call
      same_call = same_Some is.call run.call (sym is.asked_is ∙ run.asked_is)

      yes_served : status ≡ 0 → IsRunDecided (size_of is.call) (level_of is.call) bytes net status
      yes_served zero_is =
          let a = accepted_for is.call change start is.by in
          let P = a.verified.program in
          let program_told : change.before.told (file_name is.call 0) ≡ holds bytes = ap (λ (c : Call). change.before.told (file_name c 0)) same_call ∙ told_called in
          let network_told : change.before.told (file_name is.call 1) ≡ holds net = ap (λ (c : Call). change.before.told (file_name c 1)) same_call ∙ told_net_called in
          let same = found_is (file_name is.call 0) a.verified.bytes bytes program_told a.verified.told_bytes in
          let same_net = found_is (file_name is.call 1) a.bytes net network_told a.told_bytes in
          is_served P a.network (record { spells = subst (λ (b : List ℕ). Spells b P) same a.verified.spells; level = a.verified.level; proofs = a.proofs; decided = a.decided })
          (subst (λ (b : List ℕ). IsOpenNetwork P b a.network) same_net a.reads) a.topology zero_is

      served_status : (text : List ℕ) (halt : Halt) → (halt ≡ Fault → ⊥) → (status ≡ 0 → halt ≡ Done) → HasSaid text (accepted_status (is_fault halt)) old new before after status → (status ≡ 0) ⊎ (status ≡ 7)
      served_status text Done steadily done (whole said grown same) = inl said
      served_status text Fault steadily done (whole said grown same) = absurd (steadily refl)
      served_status text Memory steadily done (whole said grown same) = inl said
      served_status text halt steadily done (short said grown same) = inr said
      served_status text halt steadily done (cut said grown rose) = absurd (no_rose rose)

      decided_as : (status ≡ 0) ⊎ (status ≡ 7) → IsRunDecided (size_named asked) (level_named asked) bytes net status ⊎ (status ≡ 7)
      decided_as (inl zero_is) =
          inl (as_named status (subst (λ (c : Call). IsRunDecided (size_of c) (level_of c) bytes net status) same_call (yes_served zero_is)))
      decided_as (inr seven) = inr seven

      pub served_decided : (first : List ℕ) (history : List Entry) (l l' : ListenerView) → l'.faults ≡ l.faults → l.faults < 18446744073709551615 → HasRun start.terms first start.runtime history l l' old new before after status
          → IsRunDecided (size_named asked) (level_named asked) bytes net status ⊎ (status ≡ 7)
      served_decided first history l l' no_fault few ran =
          decided_as (served_status (accepted_text first ran.rows history (is_fault ran.halt)) ran.halt
          (λ (fault : ran.halt ≡ Fault). steady l.faults l'.faults no_fault few (subst (λ (h : Halt). HaltsFor start.terms h l.faults l'.faults l'.came l'.ended) fault ran.served.halts)) ran.done ran.said)
