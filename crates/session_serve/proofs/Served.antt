-- A session of a seat, once its link is shut.
use Rattle.std.proofs.Common.{◌≡◌, ℕ, ◌-◌, ◌^◌, ◌≤◌, ◌<◌, Bool, true, [], length, map, ap, sym, subst, ◌∙◌, arith}
use Rattle.std.proofs.Math.Seq.{drop-length}
use Rattle.csdn_run.specs.Histories.{Running}
use Rattle.of10_speech.specs.declared.stops.SpeechStop.{SpeechStop}
use Rattle.of10_speech.specs.Speeches.{Told}
use Rattle.session_asks.specs.Told.{ask_of}
use Rattle.shared_hall.specs.declared.view.Account.{Account}
use Rattle.shared_hall.specs.Views.{mine}
use Rattle.session_entries.specs.Additions.{Keeps, added, is_full, replies_given, replies_since, told_since}
use Rattle.session_entries.proofs.Adding.{adds_for}
use Rattle.vericon_edge.specs.Counts.{Rose}
use Rattle.link_sessions.specs.declared.ends.Ended.{Ended}
use Rattle.link_sessions.specs.declared.ends.SessionEnd.{SessionEnd}
use Rattle.link_sessions.specs.declared.ends.SessionEnd.TheVariants.{Closed, ReadFault, WriteFault, Wire, Incompatible, OutOfTurn, UnknownSwitch, HistoryFull, StreamFull, Memory}
use Rattle.link_sessions.specs.Links.{LinkView}
use Rattle.link_sessions.specs.Said.{IsCauseOf, IsSaidOver}
use Rattle.link_sessions.proofs.Telling.{tells_same}
use Rattle.session_serve.specs.Servings.{IsServed}

-- ---- before the first entry

pub none_given : (r : Running) (q : ℕ) (b a : Account) → b ≡ a → replies_since r q b a ≡ []
unfolding replies_since
none_given r q b a same = ap (λ (x : Account). replies_since r q x a) same ∙ drop-length (replies_given r q a)

pub none_asked : (b a : Account) → b ≡ a → map ask_of (added b a) ≡ []
unfolding added
none_asked b a same = ap (λ (x : Account). map ask_of (added x a)) same ∙ ap (map ask_of) (drop-length (mine a))

-- ---- after the link was shut

-- a link that was shut tells the same
pub record IsSame (mid link : LinkView) : Type 0 where
  pub taken : link.taken ≡ mid.taken
  pub written : link.written ≡ mid.written
  pub closed : link.closed ≡ mid.closed
  pub read_faults : link.read_faults ≡ mid.read_faults
  pub write_faults : link.write_faults ≡ mid.write_faults

cause_shut : (stop : SpeechStop) (full : Bool) (most n : ℕ) (before mid link : LinkView) (end : SessionEnd) → IsSame mid link → IsCauseOf stop full most n before mid end → IsCauseOf stop full most n before link end
cause_shut stop full most n before mid link Closed same h = h
cause_shut stop full most n before mid link ReadFault same h = (h.0, h.1, subst (λ (k : ℕ). Rose before.read_faults k) (sym same.read_faults) h.2)
cause_shut stop full most n before mid link WriteFault same h = subst (λ (k : ℕ). Rose before.write_faults k) (sym same.write_faults) h
cause_shut stop full most n before mid link (Wire at why) same h = h
cause_shut stop full most n before mid link Incompatible same h = h
cause_shut stop full most n before mid link (OutOfTurn at) same h = h
cause_shut stop full most n before mid link (UnknownSwitch s) same h = h
cause_shut stop full most n before mid link HistoryFull same h = h
cause_shut stop full most n before mid link StreamFull same h = h
cause_shut stop full most n before mid link Memory same h = h

said_shut : (t : Told) (full : Bool) (number most left left' : ℕ) (before mid link : LinkView) (ended : Ended) → IsSame mid link → IsSaidOver t full number most left left' before mid ended → IsSaidOver t full number most left left' before link ended
said_shut t full number most left left' before mid link ended same (h, few) = (
  record {
    taken = h.taken;
    took = tells_same mid.taken link.taken h.taken same.taken h.took;
    few = h.few;
    written = h.written;
    wrote = tells_same mid.written link.written h.written same.written h.wrote;
    answer = h.answer;
    spoken = h.spoken;
    asks_left = h.asks_left;
    asks = h.asks;
    entered = h.entered;
    bytes_left = h.bytes_left;
    bytes = h.bytes;
    whole = h.whole;
    ignored = h.ignored;
    counted = h.counted;
    cause = cause_shut h.answer.stop full most (length h.taken) before mid link ended.end same h.cause;
    counts = record {
      closed = (λ is. h.counts.closed.0 (sym same.closed ∙ is), λ is. same.closed ∙ h.counts.closed.1 is);
      read_faults = λ no. same.read_faults ∙ h.counts.read_faults no;
      write_faults = λ no. same.write_faults ∙ h.counts.write_faults no;
    };
  },
  few,
)

-- what a seat kept and said, where its hall, session and account at the beginning are these
served_here : (r : Running) (q most : ℕ) (b a : Account) (before mid link : LinkView) (ended : Ended) → Keeps r q b a → IsSaidOver (told_since r q b a) (is_full r a) q most (2 ^ 56 - b.acts) (2 ^ 56 - a.acts) before mid ended
    → b.acts < 2 ^ 55 → a.acts ≤ 2 ^ 56 → IsSame mid link → link.is_shut ≡ true → IsServed r q most b a before link ended
served_here r q most b a before mid link ended keeps over low high same shut =
    let x = said_shut (told_since r q b a) (is_full r a) q most (2 ^ 56 - b.acts) (2 ^ 56 - a.acts) before mid link ended same over in
    record { seat = adds_for r q b a keeps; said = x.0; acts = omega (arith, x.1, low, high); shut = shut }

pub served : (r r' : Running) (q q' most : ℕ) (b b' a : Account) (before mid link : LinkView) (ended : Ended) → r' ≡ r → q' ≡ q → b' ≡ b → Keeps r' q' b' a
    → IsSaidOver (told_since r' q' b' a) (is_full r' a) q most (2 ^ 56 - b.acts) (2 ^ 56 - a.acts) before mid ended → b.acts < 2 ^ 55 → a.acts ≤ 2 ^ 56 → IsSame mid link → link.is_shut ≡ true → IsServed r q most b a before link ended
served r r' q q' most b b' a before mid link ended r_is q_is b_is keeps over low high same shut =
    let K : Running × ℕ × Account → Type 0 = λ x. Keeps x.0 x.1 x.2 a in
    let S : Running × ℕ × Account → Type 0 = λ x. IsSaidOver (told_since x.0 x.1 x.2 a) (is_full x.0 a) q most (2 ^ 56 - b.acts) (2 ^ 56 - a.acts) before mid ended in
    served_here r q most b a before mid link ended (subst K (λ z. (r_is z, q_is z, b_is z)) keeps) (subst S (λ z. (r_is z, q_is z, b_is z)) over) low high same shut
