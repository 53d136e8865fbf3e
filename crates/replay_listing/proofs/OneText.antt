-- A session of a journal has one text.
use Rattle.std.proofs.Common.{◌≡◌, ◌∙◌, ap, ap₂, sym, subst, ℕ, List, ◌++◌, Option, Some, None}
use Rattle.std.specs.List.{flat_map}
use Rattle.csdn_core.specs.declared.program.Parts.{Parts}
use Rattle.csdn_core.specs.Network.{Network}
use Rattle.csdn_history.specs.declared.entry.Entry.{Entry}
use Rattle.of10_session.specs.Sessions.{spelled}
use Rattle.of10_speech.specs.Speeches.{Speech}
use Rattle.of10_speech.proofs.Ends.{one_spoken}
use Rattle.of10_stream.proofs.Cutting.{cuts-once}
use Rattle.replay_listing.specs.declared.listing.Ending.{Ending}
use Rattle.replay_listing.specs.Replays.{AreOutLines, IsListed, IsReplay, end_line, first_difference, out_line, rest_line}
use Rattle.session_asks.specs.Told.{asks_of, told_by}

one_outs : (bytes text other : List ℕ) → AreOutLines bytes text → AreOutLines bytes other → text ≡ other
one_outs bytes text other a b =
    let same = cuts-once bytes a.messages b.messages a.rest b.rest a.cut b.cut in
    a.lines ∙ ap₂ (λ (ms : List (List ℕ)) (r : List ℕ). flat_map out_line ms ++ rest_line r) same.0 same.1 ∙ sym b.lines

one_listed : (d : Option ℕ) (x : Speech) (text other : List ℕ) (ending end : Ending) → IsListed d x text ending → IsListed d x other end → (text ≡ other) × (ending ≡ end)
one_listed (Some k) x text other ending end a b = (a.0 ∙ sym b.0, a.1 ∙ sym b.1)
one_listed None x text other ending end a b =
    (a.text_is ∙ ap (λ (outs : List ℕ). outs ++ end_line x.stop x.session.ignored) (one_outs (spelled x.sent) a.outs b.outs a.sent b.sent) ∙ sym b.text_is, a.ends ∙ sym b.ends)

pub one_replay : (P : Parts) (N : Network) (entries : List Entry) (q : ℕ) (bytes text other : List ℕ) (ending end : Ending) → IsReplay P N entries q bytes text ending → IsReplay P N entries q bytes other end → (text ≡ other) × (ending ≡ end)
one_replay P N entries q bytes text other ending end a b =
    let one = one_spoken (told_by P N entries q) q bytes in
    let same : b.answer ≡ a.answer = one.only b.answer b.said ∙ sym (one.only a.answer a.said) in
    one_listed (first_difference 1 a.answer.asks (asks_of q entries)) a.answer text other ending end a.text_is
    (subst (λ (x : Speech). IsListed (first_difference 1 x.asks (asks_of q entries)) x other end) same b.text_is)
