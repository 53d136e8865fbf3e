-- What is kept of an entry, and what is answered to it.
use Rattle.std.proofs.Common.{◌≡◌, ◌∙◌, ap, ap₂, sym, refl, ℕ, ◌+◌, ◌<◌, ◌==◌, Bool, true, false, ◌&&◌, ◌||◌, if◌then◌else◌, List, [], ◌∷◌, ◌++◌, length, length-append, map, Option, Some, None, arith}
use Rattle.std.proofs.lemmas.Bool.{and_from}
use Rattle.std.proofs.lemmas.List.Sums.{fold_push}
use Rattle.std.proofs.lemmas.Option.{none-some}
use Rattle.std.specs.List.{list_any}
use Rattle.general_facts.proofs.Numbers.{self_equal}
use Rattle.csdn_core.specs.declared.event.Event.TheVariants.{Expire}
use Rattle.csdn_core.specs.declared.event.Match.{Match}
use Rattle.csdn_core.specs.declared.event.Tally.{Tally}
use Rattle.csdn_core.specs.declared.program.Parts.{Parts}
use Rattle.csdn_core.specs.Network.{Network, State}
use Rattle.csdn_history.specs.declared.entry.Entry.{Entry}
use Rattle.csdn_history.specs.declared.entry.Entry.TheVariants.{Packet}
use Rattle.csdn_history.specs.declared.reply.Reply.{Reply}
use Rattle.csdn_history.specs.declared.reply.Rule.{Rule}
use Rattle.net_structs.specs.Rows.{held}
use Rattle.csdn_step.specs.declared.draft.StateDraft.{StateDraft}
use Rattle.csdn_step.specs.declared.events.StepRefusal.{StepRefusal}
use Rattle.csdn_step.specs.declared.events.StepRefusal.TheVariants.{Stranger, NotEnabled}
use Rattle.csdn_step.specs.declared.setting.Sending.TheVariants.{Kept as KeptSending}
use Rattle.csdn_step.specs.Answers.{first_refusal, is_enabled, is_of_network}
use Rattle.csdn_step.specs.Courses.{Course, drafted, fired, from_state, same_match}
use Rattle.csdn_step.specs.Drafts.{standing}
use Rattle.csdn_run.specs.declared.standing.Kept.{Kept}
use Rattle.csdn_run.specs.Histories.{Running, Stands, running}
use Rattle.csdn_run.specs.Marked.{mark_of}
use Rattle.csdn_run.specs.Replies.{reply_in, reply_to_packet, rule_in}
use Rattle.csdn_run.specs.Sights.{standing_of}
use Rattle.csdn_run.specs.Standings.{Standing, after, done, ended_now, entered, is_declared, marked, opening, taken, with_marks}

pack : (x y : State) (f g : Match → ℕ) (m n : ℕ) → x ≡ y → f ≡ g → m ≡ n → ◌≡◌ {A = Standing} (record { state = x; marks = f; count = m }) (record { state = y; marks = g; count = n })
pack x y f g m n xs fs ms =
    ap {B = Standing} (λ (z : State). record { state = z; marks = f; count = m }) xs
    ∙ ap {B = Standing} (λ (z : Match → ℕ). record { state = y; marks = z; count = m }) fs
    ∙ ap {B = Standing} (λ (z : ℕ). record { state = y; marks = g; count = z }) ms

-- a draft that is kept
pub kept_is : (w : Standing) (new : Kept) (draft : StateDraft) (tally : Tally) (changed : List Match) (course : Course) → drafted draft tally ≡ course → changed ≡ tally.changed
    → held new.state ≡ standing draft → mark_of new.marks ≡ with_marks w.marks changed (w.count + 1) → new.count ≡ w.count + 1 → standing_of new ≡ marked w course
kept_is w new draft tally changed course is same state marks count =
    pack (held new.state) (standing draft) (mark_of new.marks) (with_marks w.marks tally.changed (w.count + 1)) new.count (w.count + 1)
    state (marks ∙ ap (λ (ms : List Match). with_marks w.marks ms (w.count + 1)) same) count
    ∙ ap (marked w) is

-- the rules of what was changed have the number of the entry

same_itself : (m : Match) → same_match m m ≡ true
same_itself m = and_from (m.s == m.s) ((m.a == m.a) && ((m.b == m.b) && (m.i == m.i))) (self_equal m.s) (and_from (m.a == m.a) ((m.b == m.b) && (m.i == m.i)) (self_equal m.a) (and_from (m.b == m.b) (m.i == m.i) (self_equal m.b) (self_equal m.i)))

or_later : (a b : Bool) → b ≡ true → (a || b) ≡ true
or_later true b there = refl
or_later false b there = there

each_given : (f : ℕ → Match → Rule) (marks : Match → ℕ) (n : ℕ) (all ms : List Match) → ((m : Match) → list_any (same_match m) ms ≡ true → list_any (same_match m) all ≡ true)
    → map (f n) ms ≡ map (λ m. f (with_marks marks all n m) m) ms
each_given f marks n all [] h = refl
each_given f marks n all (m ∷ ms) h =
    ap₂ (λ (r : Rule) (rs : List Rule). r ∷ rs)
    (ap (λ b. f (if b then n else marks m) m) (sym (h m (ap (λ b. b || list_any (same_match m) ms) (same_itself m)))))
    (each_given f marks n all ms (λ k there. h k (or_later (same_match k m) (list_any (same_match k) ms) there)))

pub reply_is : (P : Parts) (N : Network) (w : Standing) (draft : StateDraft) (tally : Tally) (changed : List Match) (rules : List Rule) (course : Course) → drafted draft tally ≡ course → changed ≡ tally.changed
    → rules ≡ map (rule_in P N (standing draft) (w.count + 1)) changed → ◌≡◌ {A = Reply} (record { rules = rules; outs = tally.outs }) (reply_to_packet P N w course)
reply_is P N w draft tally changed rules course is same made =
    ap {B = Reply} (λ (rs : List Rule). record { rules = rs; outs = tally.outs })
    (made ∙ ap (map (rule_in P N (standing draft) (w.count + 1))) same ∙ each_given (rule_in P N (standing draft)) w.marks (w.count + 1) tally.changed tally.changed (λ m there. there))
    ∙ ap (reply_to_packet P N w) is

-- an expire that happens

enabled_by : (a b : Bool) → ◌≡◌ {A = Option StepRefusal} (if a then (if b then None else Some NotEnabled) else Some Stranger) None → b ≡ true
enabled_by true true is = refl
enabled_by true false is = absurd (none-some _ (sym is))
enabled_by false b is = absurd (none-some _ (sym is))

pub ended_is : (P : Parts) (N : Network) (x : State) (m : Match) → first_refusal P N x (Expire m.s m.a m.b m.i) ≡ None
    → fired P N KeptSending (Expire m.s m.a m.b m.i) (from_state x) ≡ ended_now P N x m
ended_is P N x m none =
    sym (ap (λ b. if b then fired P N KeptSending (Expire m.s m.a m.b m.i) (from_state x) else from_state x)
    (enabled_by (is_of_network N (Expire m.s m.a m.b m.i)) (is_enabled P N x (Expire m.s m.a m.b m.i)) none))

pub packet_reply : (P : Parts) (N : Network) (w : Standing) (seat session s a b i : ℕ) → reply_to_packet P N w (done P N w (Packet seat session s a b i)) ≡ reply_in P N w (Packet seat session s a b i)
unfolding reply_in
packet_reply P N w seat session s a b i = refl

-- a history with one entry more

counted : (P : Parts) (N : Network) (w : Standing) (entry : Entry) → (entered P N w entry).count ≡ w.count + 1
unfolding entered
counted P N w entry = refl

pub grown : (r : Running) (kept new : Kept) (entry : Entry) (items : List Entry) → Stands r kept → is_declared r.program r.network entry ≡ true → length r.history < r.room
    → standing_of new ≡ entered r.program r.network (standing_of kept) entry → items ≡ r.history ++ entry ∷ [] → Stands (running r.program r.network r.room items) new
grown r kept new entry items stands declared below is more = record {
  standing =
      is ∙ ap (λ (w : Standing). entered r.program r.network w entry) stands.standing
      ∙ sym (ap (λ b. if b then entered r.program r.network (after r.program r.network r.history) entry else after r.program r.network r.history) declared)
      ∙ sym (fold_push (taken r.program r.network) (opening r.program r.network) r.history entry)
      ∙ ap (after r.program r.network) (sym more);
  count = ap (λ (w : Standing). w.count) is ∙ counted r.program r.network (standing_of kept) entry ∙ ap (λ n. n + 1) stands.count ∙ longer;
  room = let e : length r.history + 1 ≡ length items = longer in omega (arith, e, below);
  most = stands.most;
  network = stands.network;
  servable = stands.servable;
}
  where
    longer : length r.history + 1 ≡ length items
    longer = sym (ap length more ∙ length-append r.history (entry ∷ []))
