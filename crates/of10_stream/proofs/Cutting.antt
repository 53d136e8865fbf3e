-- However a stream is cut into pieces, its frames are the same.
use Rattle.std.proofs.Common.{◌≡◌, ◌≢◌, ℕ, ◌+◌, List, [], ◌∷◌, ◌++◌, length, take, drop, refl, sym, ap, subst, ◌∙◌, arith, length-append, append_assoc}
use Rattle.std.specs.List.{AllByRecursion}
use Rattle.std.proofs.lemmas.List.{append-nil, drop_at}
use Rattle.std.proofs.lemmas.Grind.{flat_map-append}
use Rattle.std.proofs.Math.Seq.{take-append_seam}
use Rattle.of10_wire.specs.declared.refusal.WireRefusal.{WireRefusal}
use Rattle.of10_wire.specs.declared.rules.Opening.TheVariants.{Wants, Frame, Refused}
use Rattle.of10_wire.specs.Headers.{opening_of}
use Rattle.of10_wire.proofs.Openings.{frame-stays}
use Rattle.of10_msgs.specs.declared.message.Message.{Message}
use Rattle.of10_msgs.specs.Messages.{spells}
use Rattle.of10_stream.specs.declared.framer.Fed.{Fed}
use Rattle.of10_stream.specs.declared.framer.FrameRefusal.{FrameRefusal}
use Rattle.of10_stream.specs.declared.tail.Tail.{Tail}
use Rattle.of10_stream.specs.Streams.{IsRead, IsStream}
use Rattle.of10_stream.specs.Framings.{Framing, framing, IsFrame, IsOpen, IsReady, Takes, IsRefusedAt}
use Rattle.of10_stream.specs.Cuttings.{joined, Cuts, Follows, Spell}

wants_no_frame : (bytes : List ℕ) (m n : ℕ) → opening_of bytes ≡ Wants m → opening_of bytes ≢ Frame n
wants_no_frame bytes m n p w = let k : Wants m ≡ Frame n = sym p ∙ w in absurd cc

refused_no_frame : (bytes : List ℕ) (e : WireRefusal) (n : ℕ) → opening_of bytes ≡ Refused e → opening_of bytes ≢ Frame n
refused_no_frame bytes e n p w = let k : Refused e ≡ Frame n = sym p ∙ w in absurd cc

each-next : (frames : List (List ℕ)) (frame : List ℕ) → AllByRecursion IsFrame frames → IsFrame frame → AllByRecursion IsFrame (frames ++ frame ∷ [])
each-next [] frame h k = (k, tt)
each-next (f ∷ fs) frame h k = (h.0, each-next fs frame h.1 k)

joined-next : (frames : List (List ℕ)) (frame : List ℕ) → joined (frames ++ frame ∷ []) ≡ joined frames ++ frame
joined-next frames frame = flat_map-append (λ (f : List ℕ). f) frames (frame ∷ []) ∙ ap (λ (l : List ℕ). joined frames ++ l) (append-nil frame)

-- ---- what a framer does

pub follows_new : Follows [] [] (framing 0 [])
follows_new = record { whole = refl; each = tt; place = refl }

pub follows_fed : (taken : List ℕ) (frames : List (List ℕ)) (f g : Framing) (piece : List ℕ) (fed : Fed) → Follows taken frames f → Takes f piece g fed → Follows (taken ++ take fed.used piece) frames g
follows_fed taken frames f g piece fed w t = record {
  whole = ap (λ (l : List ℕ). l ++ take fed.used piece) w.whole ∙ (append_assoc (joined frames) f.held (take fed.used piece) ∙ ap (λ (h : Framing). joined frames ++ h.held) (sym t.came));
  each = w.each;
  place = ap (λ (h : Framing). h.start) t.came ∙ w.place;
}

pub follows_gone : (taken : List ℕ) (frames : List (List ℕ)) (f : Framing) → Follows taken frames f → IsReady f → Follows taken (frames ++ f.held ∷ []) (framing (f.start + length f.held) [])
follows_gone taken frames f w r = record {
  whole = w.whole ∙ (sym (joined-next frames f.held) ∙ sym (append-nil (joined (frames ++ f.held ∷ []))));
  each = each-next frames f.held w.each r.frame;
  place = omega (arith, w.place, ap (λ (l : List ℕ). length l) (joined-next frames f.held), length-append (joined frames) f.held);
}

pub cut_open : (taken : List ℕ) (frames : List (List ℕ)) (f : Framing) → Follows taken frames f → IsOpen f → Cuts taken frames f.held
cut_open taken frames f w o = record { whole = w.whole; each = w.each; last = λ n. wants_no_frame f.held o.wanting.0 n o.wanting.1 }

pub cut_refused : (taken : List ℕ) (frames : List (List ℕ)) (f : Framing) (piece : List ℕ) (r : FrameRefusal) → Follows taken frames f → (h : IsRefusedAt f.start (f.held ++ piece) r)
    → Cuts (taken ++ piece) frames (f.held ++ piece) × (r.at ≡ length (joined frames) + h.0.at)
cut_refused taken frames f piece r w h = (
  record { whole = ap (λ (l : List ℕ). l ++ piece) w.whole ∙ append_assoc (joined frames) f.held piece; each = w.each; last = λ n. refused_no_frame (f.held ++ piece) h.0 n h.1 },
  ap (λ (x : FrameRefusal). x.at) h.2 ∙ ap (λ (n : ℕ). n + h.0.at) w.place,
)

-- ---- bytes fall into frames in one way

same_length : (m n : ℕ) → Frame m ≡ Frame n → m ≡ n
same_length m n e = cc

-- the first frame opens the bytes
opens : (bytes frame : List ℕ) (frames : List (List ℕ)) (rest : List ℕ) → Cuts bytes (frame ∷ frames) rest → opening_of bytes ≡ Frame (length frame)
opens bytes frame frames rest a = ap opening_of (a.whole ∙ append_assoc frame (joined frames) rest) ∙ frame-stays frame (joined frames ++ rest) (length frame) a.each.0

take_first : (bytes frame : List ℕ) (frames : List (List ℕ)) (rest : List ℕ) → Cuts bytes (frame ∷ frames) rest → take (length frame) bytes ≡ frame
take_first bytes frame frames rest a = ap (λ (l : List ℕ). take (length frame) l) (a.whole ∙ append_assoc frame (joined frames) rest) ∙ take-append_seam frame (joined frames ++ rest)

drop_first : (bytes frame : List ℕ) (frames : List (List ℕ)) (rest : List ℕ) → Cuts bytes (frame ∷ frames) rest → drop (length frame) bytes ≡ joined frames ++ rest
drop_first bytes frame frames rest a = ap (λ (l : List ℕ). drop (length frame) l) (a.whole ∙ append_assoc frame (joined frames) rest) ∙ drop_at frame (joined frames ++ rest) (length frame) refl

others : (bytes frame : List ℕ) (frames : List (List ℕ)) (rest : List ℕ) → Cuts bytes (frame ∷ frames) rest → Cuts (drop (length frame) bytes) frames rest
others bytes frame frames rest a = record { whole = drop_first bytes frame frames rest a; each = a.each.1; last = a.last }

-- bytes without a first frame have none
none_first : (bytes frame : List ℕ) (frames : List (List ℕ)) (q r : List ℕ) → Cuts bytes [] q → Cuts bytes (frame ∷ frames) r → ⊥
none_first bytes frame frames q r a b = a.last (length frame) (ap opening_of (sym a.whole) ∙ opens bytes frame frames r b)

pub cuts-once : (bytes : List ℕ) (fs gs : List (List ℕ)) (q r : List ℕ) → Cuts bytes fs q → Cuts bytes gs r → (fs ≡ gs) × (q ≡ r)
cuts-once bytes [] [] q r a b = (refl, sym a.whole ∙ b.whole)
cuts-once bytes [] (g ∷ gs) q r a b = absurd (none_first bytes g gs q r a b)
cuts-once bytes (f ∷ fs) [] q r a b = absurd (none_first bytes f fs r q b a)
cuts-once bytes (f ∷ fs) (g ∷ gs) q r a b =
    let n : length f ≡ length g = same_length (length f) (length g) (sym (opens bytes f fs q a) ∙ opens bytes g gs r b) in
    let first : f ≡ g = sym (take_first bytes f fs q a) ∙ (ap (λ (k : ℕ). take k bytes) n ∙ take_first bytes g gs r b) in
    let behind : Cuts (drop (length f) bytes) gs r = subst (λ (k : ℕ). Cuts (drop k bytes) gs r) (sym n) (others bytes g gs r b) in
    let rest = cuts-once (drop (length f) bytes) fs gs q r (others bytes f fs q a) behind in
    (λ i. first i ∷ rest.0 i, rest.1)

-- ---- and the first ones spell the messages

pub frames_read : (ms : List Message) (bytes rest : List ℕ) (frames : List (List ℕ)) (q : List ℕ) → IsRead bytes ms rest → Cuts bytes frames q → Spell ms frames
unfolding IsRead
frames_read [] bytes rest frames q h a = tt
frames_read (m ∷ ms) bytes rest [] q h a = absurd (a.last h.0 (ap opening_of (sym a.whole) ∙ h.1.frame))
frames_read (m ∷ ms) bytes rest (f ∷ fs) q h a =
    let n : h.0 ≡ length f = same_length h.0 (length f) (sym h.1.frame ∙ opens bytes f fs q a) in
    let frame : take h.0 bytes ≡ f = ap (λ (k : ℕ). take k bytes) n ∙ take_first bytes f fs q a in
    let behind : Cuts (drop h.0 bytes) fs q = subst (λ (k : ℕ). Cuts (drop k bytes) fs q) (sym n) (others bytes f fs q a) in
    (subst (λ (l : List ℕ). spells m l) frame h.1.spelled, frames_read ms (drop h.0 bytes) rest fs q h.2 behind)

pub stream_frames : (bytes : List ℕ) (frames : List (List ℕ)) (q : List ℕ) (ms : List Message) (t : Tail) → Cuts bytes frames q → IsStream bytes ms t → Spell ms frames
stream_frames bytes frames q ms t a (rest, h, tail) = frames_read ms bytes rest frames q h a
