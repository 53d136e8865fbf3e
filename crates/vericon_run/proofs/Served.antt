-- What a run leaves that has served.
use Rattle.std.proofs.Common.{◌≡◌, ℕ, ◌⊎◌, inl, inr, Bool, true, false, List, [], ◌∷◌, length, Option, Some, None, sym, ◌∙◌, ap, subst, refl, arith}
use Rattle.csdn_core.proofs.Induction.{sound}
use Rattle.csdn_history.specs.declared.entry.Entry.{Entry}
use Rattle.csdn_run.specs.Histories.{Running, running, with_history}
use Rattle.vericon_decide.specs.Answers.{IsYes}
use Rattle.vericon_edge.specs.Counts.{Rose}
use Rattle.session_workers.specs.declared.row.Row.{Row}
use Rattle.session_workers.specs.declared.halt.Halt.{Halt}
use Rattle.session_workers.specs.declared.halt.Halt.TheVariants.{Done, Fault, Memory}
use Rattle.session_workers.specs.Endings.{HaltsFor}
use Rattle.command_words.specs.Call.{Call}
use Rattle.file_loads.specs.Views.{Change, OnlyReads}
use Rattle.file_loads.specs.Answers.{held}
use Rattle.file_loads.specs.Explained.{IsExplained}
use Rattle.file_loads.proofs.Explaining.{unwritten}
use Rattle.vericon_app.specs.Calls.{file_name, files_named, level_of, size_of}
use Rattle.vericon_app.specs.Left as left
use Rattle.vericon_app.specs.Output.{Output}
use Rattle.vericon_run.specs.declared.prepared.Start.{Start}
use Rattle.vericon_run.specs.Words.{AreTerms, room_of}
use Rattle.vericon_run.specs.Runs.{HasBegun, HasRun, HasSaid, HasServed, IsOf, ListenerView, whole, short, cut, accepted_status, accepted_text, is_fault, status_of}
use Rattle.vericon_run.specs.Outputs.{RunOutput, is_served}
use Rattle.vericon_run.specs.Left.{CameAll, HasCause, HasRunLeft, has_left, is_short}
use Rattle.vericon_run.specs.Accepted.{HandsBack, HasSaidYes, IsAccepted, IsAcceptedCall}
use Rattle.vericon_run.specs.Starts.{IsStartAsked, IsStartFor, run_files}
use Rattle.vericon_run.proofs.Asked.{AsksRun, as_asked, reads_called}
use Rattle.vericon_run.proofs.Topologies.{meets}

-- ---- what was printed

said_left : (output : List ℕ → ℕ → Type 0) (text : List ℕ) (halt : Halt) (old new : Option (List ℕ)) (before after status : ℕ) → (status ≡ 0 → halt ≡ Done) → HasSaid text (accepted_status (is_fault halt)) old new before after status → output text (status_of halt)
    → HasRunLeft output old new before after status
said_left output text Done old new before after status done (whole is grown same) out = has_left (left.whole text (subst (λ (n : ℕ). output text n) (sym is) out) grown same)
said_left output text Fault old new before after status done (whole is grown same) out = has_left (left.whole text (subst (λ (n : ℕ). output text n) (sym is) out) grown same)
said_left output text Memory old new before after status done (whole is grown same) out = absurd (let e : Memory ≡ Done = done is in cc)
said_left output text halt old new before after status done (short is grown same) out = is_short text (status_of halt) out is grown same
said_left output text halt old new before after status done (cut is grown rose) out = has_left (left.cut text (status_of halt) out is grown rose)

-- ---- the terms

module _ (call : Call) (change : Change) (start : Start) (is : IsStartFor change call start) where
  pub terms_called : AreTerms call start.terms
  terms_called = subst (AreTerms call) (sym is.by.by.by.over.terms) is.order_is.terms

  pub runtime_called : start.runtime ≡ running is.by.program is.by.by.by.network (room_of call) []
  runtime_called = is.by.by.by.over.runtime ∙ ap (λ (room : ℕ). running is.by.program is.by.by.by.network room []) is.order_is.room

  pub decided_called : IsYes is.by.program (size_of call) (level_of call) is.by.by.level is.by.by.proofs
  decided_called =
      let P = is.by.program in
      let a : IsYes P (size_of call) is.order.most is.by.by.level is.by.by.proofs = subst (λ (n : ℕ). IsYes P n is.order.most is.by.by.level is.by.by.proofs) is.order_is.size is.by.by.proven in
      subst (λ (n : ℕ). IsYes P (size_of call) n is.by.by.level is.by.by.proofs) is.order_is.most a

  -- what is served is an output of the call
  served_for : (l l' : ListenerView) (history : List Entry) (rows : List Row) (halt : Halt) → OnlyReads 2 change → HasServed start.terms start.runtime history rows halt l l'
      → IsExplained change (run_files call) (RunOutput l l' history call) (accepted_text start.first.items rows history (is_fault halt)) (status_of halt)
  served_for l l' history rows halt reads served =
      let program = is.by in
      let proven = program.by in
      let network = proven.by in
      record {
        answers = held program.of_file.bytes ∷ held network.of_file.bytes ∷ [];
        write = None;
        answered = (program.of_file.answered, (network.of_file.answered, tt));
        counted = reads.reads;
        written = unwritten 2 change reads;
        said =
            is_served (record {
              bytes = program.of_file.bytes;
              net = network.of_file.bytes;
              answers_are = refl;
              no_write = refl;
              program = program.program;
              network = network.network;
              level = proven.level;
              admitted = record { spells = program.of_file.is; proofs = proven.proofs; proven = decided_called; reads = network.of_file.is; unbroken = network.over.unbroken };
              terms = start.terms;
              terms_are = terms_called;
              rows = rows;
              halt = halt;
              served = subst (λ (r : Running). HasServed start.terms r history rows halt l l') runtime_called served;
              text_is = ap (λ (first : List ℕ). accepted_text first rows history (is_fault halt)) network.over.first;
              status_is = refl;
            });
      }

  -- .. over an accepted program and network
  abbrev pub accepted_for : IsAccepted (size_of call) (level_of call) (change.before.told (file_name call 0)) (change.before.told (file_name call 1))
  accepted_for =
      let program = is.by in
      let network = program.by.by in
      record {
        verified =
            record {
              bytes = program.of_file.bytes;
              told_bytes = program.of_file.answered.0;
              program = program.program;
              spells = program.of_file.is;
              level = program.by.level;
              within = decided_called.within;
              inductive = decided_called.inductive;
              holds = sound program.program program.by.level decided_called.inductive;
              network = decided_called.met.network;
            };
        proofs = program.by.proofs;
        decided = decided_called;
        bytes = network.of_file.bytes;
        told_bytes = network.of_file.answered.0;
        network = network.network;
        reads = network.of_file.is;
        topology = meets program.program network.network network.over.of_program network.over.unbroken;
      }

-- ---- what the words asked for

module _ (asked : Option Call) (only : AsksRun asked) (change : Change) (start : Start) (is : IsStartAsked change asked start) where
  abbrev by_call : IsAcceptedCall asked change.before.told
  by_call = record { call = is.call; asked_is = is.asked_is; accepted = accepted_for is.call change start is.by }

  -- the runtime is of the accepted program and network
  pub hands_back : {L : Type 0} (back : Option Running) (before after : L) → IsOf start.runtime back → HandsBack asked change.before.told back before after
  hands_back None before after of = absurd of
  hands_back (Some r) before after of =
      record {
        by = by_call;
        runtime = of ∙ ap (λ (s : Running). with_history s r.history) (runtime_called is.call change start is.by);
      }

  -- the yes was printed, or the listener wasn't used
  pub says_yes : (first : List ℕ) (old new : Option (List ℕ)) {L : Type 0} (before after : L) → first ≡ start.first.items → HasBegun first old new ⊎ (after ≡ before) → (after ≡ before) ⊎ HasSaidYes asked change.before.told old new
  says_yes first old new before after first_is (inl begun) =
      inr (record { by = by_call; begun = subst (λ (f : List ℕ). HasBegun f old new) (first_is ∙ is.by.by.by.by.over.first) begun })
  says_yes first old new before after first_is (inr same) = inl same

  module _ (first : List ℕ) (first_is : first ≡ start.first.items) (history : List Entry) (l l' : ListenerView) (old new : Option (List ℕ)) (before after status : ℕ) (run : HasRun start.terms first start.runtime history l l' old new before after status) where
    said_asked : OnlyReads (length (files_named asked)) change → IsExplained change (files_named asked) (Output (RunOutput l l' history) asked) (accepted_text first run.rows history (is_fault run.halt)) (status_of run.halt)
    said_asked reads =
        let out : IsExplained change (files_named asked) (Output (RunOutput l l' history) asked) (accepted_text start.first.items run.rows history (is_fault run.halt)) (status_of run.halt) =
        as_asked asked is.call is.asked_is (only is.call is.asked_is) change (RunOutput l l' history) (accepted_text start.first.items run.rows history (is_fault run.halt)) (status_of run.halt)
        (served_for is.call change start is.by l l' history run.rows run.halt (reads_called asked is.call is.asked_is (only is.call is.asked_is) change reads) run.served) in
        subst (λ (f : List ℕ). IsExplained change (files_named asked) (Output (RunOutput l l' history) asked) (accepted_text f run.rows history (is_fault run.halt)) (status_of run.halt)) (sym first_is) out

    -- what is left
    pub served_left : OnlyReads (length (files_named asked)) change → HasRunLeft (IsExplained change (files_named asked) (Output (RunOutput l l' history) asked)) old new before after status
    served_left reads =
        said_left (IsExplained change (files_named asked) (Output (RunOutput l l' history) asked)) (accepted_text first run.rows history (is_fault run.halt)) run.halt old new before after status run.done run.said (said_asked reads)

    came_all : (l'.came ≡ start.terms.sessions) ⊎ (l'.ended ≡ true) → CameAll asked l' ⊎ (l'.ended ≡ true)
    came_all (inl all) = inl (record { call = is.call; asked_is = is.asked_is; came = all ∙ (terms_called is.call change start is.by).sessions })
    came_all (inr ended) = inr ended

    halted : (halt : Halt) → halt ≡ run.halt → HaltsFor start.terms halt l.faults l'.faults l'.came l'.ended
    halted halt same = subst (λ (h : Halt). HaltsFor start.terms h l.faults l'.faults l'.came l'.ended) (sym same) run.served.halts

    -- a status of 8 has its cause, and others tell that the sink didn't fail
    sink_cause : (text : List ℕ) (is_faulted : Bool) → HasSaid text (accepted_status is_faulted) old new before after status → (status ≡ 8 → Rose before after) × ((status ≡ 8 → ⊥) → after ≡ before)
    sink_cause text true (whole nine grown same) = (λ eight. absurd (omega arith), λ other. same)
    sink_cause text false (whole zero_is grown same) = (λ eight. absurd (omega arith), λ other. same)
    sink_cause text is_faulted (short seven grown same) = (λ eight. absurd (omega arith), λ other. same)
    sink_cause text is_faulted (cut eight grown rose) = (λ again. rose, λ other. absurd (other eight))

    -- what the last statuses stand for
    pub served_cause : HasCause asked l l' before after status
    served_cause =
        let s = sink_cause (accepted_text first run.rows history (is_fault run.halt)) (is_fault run.halt) run.said in
        record {
          done = λ zero_is. let h = halted Done (sym (run.done zero_is)) in (h.0, s.1 (λ eight. absurd (omega arith)), came_all h.1);
          listen_fault = λ nine. (halted Fault (sym (run.faulted nine)), s.1 (λ eight. absurd (omega arith)));
          write_fault = s.0;
        }
