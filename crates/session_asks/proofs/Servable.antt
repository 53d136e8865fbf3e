-- Replies that name elements of a network that can be served.
use Rattle.std.proofs.Common.{◌≡◌, ℕ, ◌<◌, ◌≤◌, ◌^◌, Bool, true, false, if◌then◌else◌, length, Contains, Option, Some, None, arith, refl, sym, subst}
use Rattle.std.specs.Prelude.{nat_lt}
use Rattle.std.proofs.lemmas.Option.{none-some}
use Rattle.std.proofs.lemmas.List.Elements.{All-contains}
use Rattle.csdn_core.specs.declared.event.Out.{Out}
use Rattle.csdn_core.specs.declared.event.Out.TheVariants.{Port, Flood}
use Rattle.csdn_core.specs.Network.{IsNetwork, Network}
use Rattle.csdn_core.specs.WellSorted.{IsWellSorted}
use Rattle.csdn_history.specs.declared.entry.Entry.{Entry}
use Rattle.csdn_history.specs.declared.reply.Rule.{Rule}
use Rattle.csdn_history.specs.declared.reply.Reply.{Reply}
use Rattle.csdn_step.specs.OfNetwork.{IsOutOf}
use Rattle.csdn_run.specs.declared.runtime.RunRefusal.{RunRefusal}
use Rattle.csdn_run.specs.declared.runtime.RunRefusal.TheVariants.{Stranger, HistoryFull}
use Rattle.csdn_run.specs.Histories.{Running, first_refusal}
use Rattle.csdn_run.specs.OfNetwork.{IsRuleOf, IsReplyOf}
use Rattle.csdn_run.specs.Replies.{reply}
use Rattle.csdn_run.specs.Standings.{after, is_declared}
use Rattle.csdn_run.proofs.Named.{reply_is_of}
use Rattle.net_structs.specs.Networks.{IsServable}
use Rattle.of10_session.specs.Replies.{IsServableOut, IsServableRule}
use Rattle.of10_session.specs.Replies.{IsServable as CanBeSent}

module _ (N : Network) (served : IsServable N) where
  a_port : (k : ℕ) → Contains N.ports k → k < 2 ^ 16
  a_port k there = let h = All-contains (λ (n : ℕ). (1 ≤ n) × (n ≤ 65280)) N.ports k served.ports there in omega (arith, h.1)

  a_rule : (r : Rule) → IsRuleOf N r → IsServableRule r
  a_rule r of = record {
    source = All-contains (λ (n : ℕ). n < 2 ^ 48) N.hosts r.key.a served.hosts of.key.source;
    destination = All-contains (λ (n : ℕ). n < 2 ^ 48) N.hosts r.key.b served.hosts of.key.target;
    port = a_port r.key.i of.key.ingress;
    ports = λ k d within. a_port _ (of.ports k d within);
    few = omega (arith, of.few, served.few);
  }

  an_out : (o : Out) → IsOutOf N o → IsServableOut o
  an_out (Port k) there = a_port k there
  an_out Flood there = tt

  pub can_be_sent : (reply : Reply) → IsReplyOf N reply → CanBeSent reply
  can_be_sent reply of = record {
    rules = λ k d within. a_rule _ (of.rules k d within);
    outs = λ k d within. an_out _ (of.outs k d within);
  }

declared_by : (a b : Bool) → ◌≡◌ {A = Option RunRefusal} (if a then (if b then None else Some HistoryFull) else Some Stranger) None → a ≡ true
declared_by true b is = refl
declared_by false b is = absurd (none-some _ (sym is))

-- what is entered is declared
pub entered_declared : (r : Running) (entry : Entry) → first_refusal r entry ≡ None → is_declared r.program r.network entry ≡ true
entered_declared r entry is = declared_by (is_declared r.program r.network entry) (nat_lt (length r.history) r.room) is

-- .. and its reply can be sent
pub entered_sent : (r : Running) (entry : Entry) (answer : Reply) → IsWellSorted r.program → IsNetwork r.program r.network → IsServable r.network → first_refusal r entry ≡ None → answer ≡ reply r.program r.network r.history entry → CanBeSent answer
entered_sent r entry answer sorted network served none is =
    can_be_sent r.network served answer
    (subst (IsReplyOf r.network) (sym is) (reply_is_of r.program r.network sorted network (after r.program r.network r.history) entry (entered_declared r entry none)))
