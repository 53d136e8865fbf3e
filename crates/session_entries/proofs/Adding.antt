-- What a seat adds for a session.
use Rattle.std.proofs.Common.{◌≡◌, ◌∙◌, ap, sym, refl, subst, ℕ, ◌==◌, Bool, zero, suc, true, false, ◌&&◌, if◌then◌else◌, List, [], ◌∷◌, ◌++◌, length, drop, map, Result, Ok, Err, IfOk, get_or, ◌<◌, arith, append_assoc, eqb-true}
use Rattle.std.specs.Prelude.{IfErr, ◌↔◌}
use Rattle.std.specs.List.{list_all}
use Rattle.std.proofs.lemmas.Bool.{and_from, and_parts, true_from_ne_false}
use Rattle.std.proofs.lemmas.List.{append-nil}
use Rattle.std.proofs.lemmas.List.Folds.{list_all-append}
use Rattle.std.proofs.Math.Seq.{drop-append_seam, drop-length}
use Rattle.general_facts.proofs.Numbers.{self_equal}
use Rattle.csdn_core.specs.declared.program.Parts.{Parts}
use Rattle.csdn_core.specs.Network.{Network}
use Rattle.csdn_history.specs.declared.entry.Entry.{Entry}
use Rattle.csdn_history.specs.declared.reply.Reply.{Reply}
use Rattle.csdn_run.specs.declared.runtime.RunRefusal.{RunRefusal}
use Rattle.csdn_run.specs.declared.runtime.RunRefusal.TheVariants.{Stranger}
use Rattle.csdn_run.specs.Histories.{Running}
use Rattle.csdn_run.specs.Sessions.{session_of}
use Rattle.csdn_run.specs.OfNetwork.{IsReplyOf}
use Rattle.csdn_run.specs.Standings.{after, is_declared}
use Rattle.csdn_run.proofs.Named.{reply_is_of}
use Rattle.of10_session.specs.declared.turn.Ask.{Ask}
use Rattle.of10_session.specs.declared.turn.Ask.TheVariants.{Join, Packet, Expire}
use Rattle.of10_session.specs.Replies.{IsServable}
use Rattle.session_asks.specs.Told.{ask_of, declares, entry_of}
use Rattle.session_asks.proofs.Servable.{can_be_sent}
use Rattle.shared_hall.specs.declared.view.Account.{Account}
use Rattle.shared_hall.specs.Views.{seat_of, mine}
use Rattle.shared_hall.specs.Halls.{CanServe, Enters, IsTurnedAway}
use Rattle.shared_hall.specs.Told.{PicksOf, replies_to}
use Rattle.shared_hall.proofs.Replied.{entered_told, turned_away_told}
use Rattle.session_entries.specs.Additions.{AddsFor, Keeps, added, is_of, replies_given, replies_since}

-- ---- lists that grow

-- what stands behind the beginning of a list
pub begun_with : {A : Type 0} (xs ys rest : List A) → ys ≡ xs ++ rest → ys ≡ xs ++ drop (length xs) ys
begun_with {A} xs ys rest e = e ∙ ap (λ (l : List A). xs ++ l) (sym (ap (drop (length xs)) e ∙ drop-append_seam xs rest))

pub grown_behind : {A : Type 0} (xs old new more : List A) → old ≡ xs ++ drop (length xs) old → new ≡ old ++ more → drop (length xs) new ≡ drop (length xs) old ++ more
grown_behind {A} xs old new more begun e =
    ap (drop (length xs)) (e ∙ (ap (λ (l : List A). l ++ more) begun ∙ append_assoc xs (drop (length xs) old) more)) ∙ drop-append_seam xs (drop (length xs) old ++ more)

pub grown_whole : {A : Type 0} (xs old new more : List A) → old ≡ xs ++ drop (length xs) old → new ≡ old ++ more → new ≡ xs ++ drop (length xs) new
grown_whole {A} xs old new more begun e = begun_with xs new (drop (length xs) old ++ more) (e ∙ (ap (λ (l : List A). l ++ more) begun ∙ append_assoc xs (drop (length xs) old) more))

-- ---- asks and entries

seat_same : (seat session : ℕ) (ask : Ask) → seat_of (entry_of seat session ask) ≡ seat
seat_same seat session (Join s) = refl
seat_same seat session (Packet s a b i) = refl
seat_same seat session (Expire s a b i cookie) = refl

session_same : (seat session : ℕ) (ask : Ask) → session_of (entry_of seat session ask) ≡ session
session_same seat session (Join s) = refl
session_same seat session (Packet s a b i) = refl
session_same seat session (Expire s a b i cookie) = refl

ask_same : (seat session : ℕ) (ask : Ask) → ask_of (entry_of seat session ask) ≡ ask
ask_same seat session (Join s) = refl
ask_same seat session (Packet s a b i) = refl
ask_same seat session (Expire s a b i cookie) = refl

pub entry_seat : (seat session : ℕ) (ask : Ask) (entry : Entry) → entry ≡ entry_of seat session ask → seat_of entry ≡ seat
entry_seat seat session ask entry e = ap seat_of e ∙ seat_same seat session ask

-- an ask is declared as its entry is
pub declared_same : (P : Parts) (N : Network) (seat session : ℕ) (ask : Ask) → is_declared P N (entry_of seat session ask) ≡ declares P N ask
declared_same P N seat session (Join s) = refl
declared_same P N seat session (Packet s a b i) = refl
declared_same P N seat session (Expire s a b i cookie) = refl

map_snoc : (es : List Entry) (e : Entry) → map ask_of (es ++ e ∷ []) ≡ map ask_of es ++ ask_of e ∷ []
map_snoc [] e = refl
map_snoc (x ∷ es) e = ap (λ (l : List Ask). ask_of x ∷ l) (map_snoc es e)

pub own_picks : (seat session : ℕ) → PicksOf seat (is_of seat session)
own_picks seat session e is = eqb-true (seat_of e) seat (and_parts (seat_of e == seat) (session_of e == session) is).0

pub picked : (seat session : ℕ) (ask : Ask) → is_of seat session (entry_of seat session ask) ≡ true
picked seat session ask =
    let e = entry_of seat session ask in
    and_from (seat_of e == seat) (session_of e == session) (ap (λ (n : ℕ). n == seat) (seat_same seat session ask) ∙ self_equal seat) (ap (λ (n : ℕ). n == session) (session_same seat session ask) ∙ self_equal session)

-- ---- steps of a seat

-- before its first entry
nothing_since : {A : Type 0} (xs : List A) → xs ≡ xs ++ drop (length xs) xs
nothing_since xs = begun_with xs xs [] (sym (append-nil xs))

pub keeps_nothing : (r : Running) (q : ℕ) (a : Account) → Keeps r q a a
unfolding added replies_since
keeps_nothing r q a = record {
  number = refl;
  seen = nothing_since a.seen;
  mine = nothing_since (mine a);
  own = ap (list_all (λ (e : Entry). session_of e == q)) (drop-length (mine a));
  replies = nothing_since (replies_given r q a);
}

-- one entry more
pub record AddsOne (r : Running) (q : ℕ) (b old new : Account) (ask : Ask) (reply : Reply) : Type 0 where
  pub keeps : Keeps r q b new
  pub asked : map ask_of (added b new) ≡ map ask_of (added b old) ++ ask ∷ []
  pub given : replies_since r q b new ≡ replies_since r q b old ++ reply ∷ []

pub adds_one : (r : Running) (q : ℕ) (b old new : Account) (ask : Ask) (entry : Entry) (reply : Reply) → Keeps r q b old → entry ≡ entry_of old.number q ask → new.number ≡ old.number → Enters r old new entry reply → AddsOne r q b old new ask reply
unfolding added replies_since replies_given
adds_one r q b old new ask entry reply keeps is number x =
    let picks = is_of old.number q in
    let picked_it : picks entry ≡ true = ap picks is ∙ picked old.number q ask in
    let here : seat_of entry ≡ old.number = entry_seat old.number q ask entry is in
    let told : replies_to picks r new.seen ≡ replies_to picks r old.seen ++ reply ∷ [] =
    entered_told r picks old new entry reply (own_picks old.number q) x number here ∙ ap (λ (c : Bool). replies_to picks r old.seen ++ (if c then reply ∷ [] else [])) picked_it in
    let given : replies_given r q new ≡ replies_given r q old ++ reply ∷ [] = ap (λ (n : ℕ). replies_to (is_of n q) r new.seen) number ∙ told in
    let more : added b new ≡ added b old ++ entry ∷ [] = grown_behind (mine b) (mine old) (mine new) (entry ∷ []) keeps.mine x.mine in
    let own : (session_of entry == q) ≡ true = ap (λ (e : Entry). session_of e == q) is ∙ (ap (λ (n : ℕ). n == q) (session_same old.number q ask) ∙ self_equal q) in
    let seen : new.seen ≡ old.seen ++ (x.begins.0 ++ entry ∷ []) = x.seen ∙ (ap (λ (l : List Entry). l ++ entry ∷ []) x.begins.1 ∙ append_assoc old.seen x.begins.0 (entry ∷ [])) in
    record {
      keeps = record {
        number = number ∙ keeps.number;
        seen = grown_whole b.seen old.seen new.seen (x.begins.0 ++ entry ∷ []) keeps.seen seen;
        mine = grown_whole (mine b) (mine old) (mine new) (entry ∷ []) keeps.mine x.mine;
        own = ap (list_all (λ (e : Entry). session_of e == q)) more ∙ (list_all-append (λ (e : Entry). session_of e == q) (added b old) (entry ∷ []) ∙ and_from (list_all (λ (e : Entry). session_of e == q) (added b old)) ((session_of entry == q) && true) keeps.own (and_from (session_of entry == q) true own refl));
        replies = grown_whole (replies_given r q b) (replies_given r q old) (replies_given r q new) (reply ∷ []) keeps.replies given;
      };
      asked = ap (map ask_of) more ∙ (map_snoc (added b old) entry ∙ ap (λ (a : Ask). map ask_of (added b old) ++ a ∷ []) (ap ask_of is ∙ ask_same old.number q ask));
      given = grown_behind (replies_given r q b) (replies_given r q old) (replies_given r q new) (reply ∷ []) keeps.replies given;
    }

-- none more
pub record AddsNone (r : Running) (q : ℕ) (b old new : Account) : Type 0 where
  pub keeps : Keeps r q b new
  pub asked : map ask_of (added b new) ≡ map ask_of (added b old)
  pub given : replies_since r q b new ≡ replies_since r q b old

pub adds_none : (r : Running) (q : ℕ) (b old new : Account) (why : RunRefusal) → Keeps r q b old → new.number ≡ old.number → IsTurnedAway r old new why → AddsNone r q b old new
unfolding added replies_since replies_given
adds_none r q b old new why keeps number x =
    let told = turned_away_told r (is_of old.number q) old new why (own_picks old.number q) x number in
    let given : replies_given r q new ≡ replies_given r q old = ap (λ (n : ℕ). replies_to (is_of n q) r new.seen) number ∙ told in
    let same : added b new ≡ added b old = ap (drop (length (mine b))) x.mine in
    record {
      keeps = record {
        number = number ∙ keeps.number;
        seen = grown_whole b.seen old.seen new.seen x.begins.0 keeps.seen x.begins.1;
        mine = x.mine ∙ (keeps.mine ∙ ap (λ (l : List Entry). mine b ++ l) (sym same));
        own = ap (list_all (λ (e : Entry). session_of e == q)) same ∙ keeps.own;
        replies = given ∙ (keeps.replies ∙ ap (λ (l : List Reply). replies_given r q b ++ l) (sym (ap (drop (length (replies_given r q b))) given)));
      };
      asked = ap (map ask_of) same;
      given = ap (drop (length (replies_given r q b))) given;
    }

-- ---- an act of a seat

pub after_act : (r : Running) (q : ℕ) (b old new : Account) (ask : Ask) (entry : Entry) (result : Result Reply RunRefusal) → Keeps r q b old → entry ≡ entry_of old.number q ask → new.number ≡ old.number
    → IfOk result (λ reply. Enters r old new entry reply) → IfErr result (λ why. IsTurnedAway r old new why) → Keeps r q b new
after_act r q b old new ask entry (Ok reply) keeps is number ok err = (adds_one r q b old new ask entry reply keeps is number ok).keeps
after_act r q b old new ask entry (Err why) keeps is number ok err = (adds_none r q b old new why keeps number err).keeps

-- an act that was entered was declared
pub entered_declared : (P : Parts) (N : Network) (seat session : ℕ) (ask : Ask) (entry : Entry) (result : Result Reply RunRefusal) (reply : Reply) → entry ≡ entry_of seat session ask → result ≡ Ok reply
    → ((result ≡ Err Stranger) ↔ (is_declared P N entry ≡ false)) → is_declared P N entry ≡ true
entered_declared P N seat session ask entry result reply is ok stranger = true_from_ne_false (is_declared P N entry) (λ no. ok_err (sym ok ∙ stranger.1 no))
  where
    ok_err : ◌≡◌ {A = Result Reply RunRefusal} (Ok reply) (Err Stranger) → ⊥
    ok_err e = cc

pub declares_it : (P : Parts) (N : Network) (seat session : ℕ) (ask : Ask) (entry : Entry) (b : Bool) → entry ≡ entry_of seat session ask → is_declared P N entry ≡ b → declares P N ask ≡ b
declares_it P N seat session ask entry b is there = sym (declared_same P N seat session ask) ∙ (ap (is_declared P N) (sym is) ∙ there)

-- what was entered can be sent
pub entered_servable : (r : Running) (old new : Account) (entry : Entry) (answer : Reply) → CanServe r.program r.network → is_declared r.program r.network entry ≡ true → Enters r old new entry answer → IsServable answer
entered_servable r old new entry answer stands declared x =
    can_be_sent r.network stands.servable answer
    (subst (IsReplyOf r.network) (sym x.answer) (reply_is_of r.program r.network stands.sorted stands.network (after r.program r.network x.past) entry declared))

pub full_there : (n room : ℕ) → n ≡ room → (n == room) ≡ true
full_there n room e = ap (λ (k : ℕ). k == room) e ∙ self_equal room

-- ---- at the end

all_own : (q : ℕ) (es : List Entry) → list_all (λ e. session_of e == q) es ≡ true → (k : ℕ) (d : Entry) → k < length es → session_of (get_or es k d) ≡ q
all_own q [] h k d within = absurd (omega (arith, within))
all_own q (e ∷ es) h zero d within = eqb-true (session_of e) q (and_parts (session_of e == q) (list_all (λ x. session_of x == q) es) h).0
all_own q (e ∷ es) h (suc k) d within = all_own q es (and_parts (session_of e == q) (list_all (λ x. session_of x == q) es) h).1 k d (omega (arith, within))

pub adds_for : (r : Running) (q : ℕ) (b a : Account) → Keeps r q b a → AddsFor r q b a
adds_for r q b a keeps = record {
  number = keeps.number;
  seen = (drop (length b.seen) a.seen, keeps.seen);
  mine = keeps.mine;
  own = all_own q (added b a) keeps.own;
  replies = keeps.replies;
}
