-- Drafts, one after another.
use Rattle.std.proofs.Common.{◌≡◌, ℕ, ◌+◌, ◌<◌, List, [], ◌∷◌, ◌++◌, length, take, get_or, refl, sym, ap, ◌∙◌, append_assoc}
use Rattle.std.specs.Prelude.{map}
use Rattle.std.proofs.lemmas.List.{map-append, take_more}
use Rattle.std.proofs.lemmas.Grind.{flat_map-append}
use Rattle.csdn_history.specs.declared.reply.Rule.{Rule}
use Rattle.of10_msgs.specs.declared.message.Message.{Message}
use Rattle.of10_msgs.specs.Messages.{zeroed}
use Rattle.of10_session.specs.Progresses.{next_xid}
use Rattle.of10_session.specs.Sessions.{spelled}
use Rattle.of10_session.specs.Replies.{MessageDraft, numbered, xid_behind, spelled_from, changing}

pub numbered-append : (x : ℕ) (ds es : List MessageDraft) → numbered x (ds ++ es) ≡ numbered x ds ++ numbered (xid_behind x ds) es
numbered-append x [] es = refl
numbered-append x (d ∷ ds) es = ap (λ (l : List Message). d x ∷ l) (numbered-append (next_xid x) ds es)

pub xid_behind-append : (x : ℕ) (ds es : List MessageDraft) → xid_behind x (ds ++ es) ≡ xid_behind (xid_behind x ds) es
xid_behind-append x [] es = refl
xid_behind-append x (d ∷ ds) es = xid_behind-append (next_xid x) ds es

pub spelled_from-append : (x : ℕ) (ds es : List MessageDraft) → spelled_from x (ds ++ es) ≡ spelled_from x ds ++ spelled_from (xid_behind x ds) es
spelled_from-append x ds es = ap spelled (numbered-append x ds es) ∙ flat_map-append zeroed (numbered x ds) (numbered (xid_behind x ds) es)

pub one_more : (rules : List Rule) (i : ℕ) (d r : Rule) → i < length rules → r ≡ get_or rules i d → map changing (take (i + 1) rules) ≡ map changing (take i rules) ++ changing r ∷ []
one_more rules i d r h is = ap (map changing) (take_more rules i d h) ∙ (map-append changing (take i rules) (get_or rules i d ∷ []) ∙ ap (λ (q : Rule). map changing (take i rules) ++ changing q ∷ []) (sym is))

-- one more draft was written
pub written_more : (x : ℕ) (start now then' : List ℕ) (xid next : ℕ) (ds : List MessageDraft) (d : MessageDraft) (all : List MessageDraft) → all ≡ ds ++ d ∷ [] → xid ≡ xid_behind x ds → now ≡ start ++ spelled_from x ds → then' ≡ now ++ spelled (d xid ∷ []) → next ≡ next_xid xid
    → (next ≡ xid_behind x all) × (then' ≡ start ++ spelled_from x all)
written_more x start now then' xid next ds d all is xid_is now_is then_is next_is = (
  next_is ∙ (ap next_xid xid_is ∙ (sym (xid_behind-append x ds (d ∷ [])) ∙ ap (xid_behind x) (sym is))),
  then_is ∙ (ap (λ (l : List ℕ). l ++ spelled (d xid ∷ [])) now_is ∙ (append_assoc start (spelled_from x ds) (spelled (d xid ∷ [])) ∙ ap (λ (l : List ℕ). start ++ l)
      (ap (λ (y : ℕ). spelled_from x ds ++ spelled (d y ∷ [])) xid_is ∙ (sym (spelled_from-append x ds (d ∷ [])) ∙ ap (spelled_from x) (sym is))))),
)

-- more drafts were written behind the first ones
pub xid_then : (x xid next : ℕ) (ds es : List MessageDraft) → xid ≡ xid_behind x ds → next ≡ xid_behind xid es → next ≡ xid_behind x (ds ++ es)
xid_then x xid next ds es xid_is next_is = next_is ∙ (ap (λ (y : ℕ). xid_behind y es) xid_is ∙ sym (xid_behind-append x ds es))

pub bytes_then : (x : ℕ) (start now then' : List ℕ) (xid : ℕ) (ds es : List MessageDraft) → xid ≡ xid_behind x ds → now ≡ start ++ spelled_from x ds → then' ≡ now ++ spelled_from xid es → then' ≡ start ++ spelled_from x (ds ++ es)
bytes_then x start now then' xid ds es xid_is now_is then_is =
    then_is ∙ (ap (λ (l : List ℕ). l ++ spelled_from xid es) now_is ∙ (append_assoc start (spelled_from x ds) (spelled_from xid es) ∙ ap (λ (l : List ℕ). start ++ l)
    (ap (λ (y : ℕ). spelled_from x ds ++ spelled_from y es) xid_is ∙ sym (spelled_from-append x ds es))))
