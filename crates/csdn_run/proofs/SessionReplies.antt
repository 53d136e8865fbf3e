-- The replies to a session's entries, where there are more entries.
use Rattle.std.proofs.Common.{◌≡◌, ◌∙◌, ap, sym, refl, ℕ, ◌==◌, if◌then◌else◌, List, [], ◌∷◌, ◌++◌, fold, append_assoc}
use Rattle.std.proofs.lemmas.List.{append-nil}
use Rattle.csdn_core.specs.declared.program.Parts.{Parts}
use Rattle.csdn_core.specs.Network.{Network}
use Rattle.csdn_history.specs.declared.entry.Entry.{Entry}
use Rattle.csdn_history.specs.declared.reply.Reply.{Reply}
use Rattle.csdn_run.specs.Replies.{reply, reply_in}
use Rattle.csdn_run.specs.Sessions.{replies, replies_from, session_of}
use Rattle.csdn_run.specs.Standings.{Standing, after, opening, taken}

module _ (P : Parts) (N : Network) (q : ℕ) where
  from-append : (w : Standing) (es fs : List Entry) → replies_from P N w q (es ++ fs) ≡ replies_from P N w q es ++ replies_from P N (fold (taken P N) w es) q fs
  from-append w [] fs = refl
  from-append w (e ∷ es) fs =
      let own : List Reply = if session_of e == q then reply_in P N w e ∷ [] else [] in
      ap (λ (l : List Reply). own ++ l) (from-append (taken P N w e) es fs)
      ∙ sym (append_assoc own (replies_from P N (taken P N w e) q es) (replies_from P N (fold (taken P N) (taken P N w e) es) q fs))

  pub replies-append : (es fs : List Entry) → replies P N q (es ++ fs) ≡ replies P N q es ++ replies_from P N (after P N es) q fs
  replies-append es fs = from-append (opening P N) es fs

  pub replies-next : (es : List Entry) (e : Entry) → replies P N q (es ++ e ∷ []) ≡ replies P N q es ++ (if session_of e == q then reply P N es e ∷ [] else [])
  replies-next es e =
      replies-append es (e ∷ [])
      ∙ ap (λ (l : List Reply). replies P N q es ++ l) (append-nil (if session_of e == q then reply P N es e ∷ [] else []))
