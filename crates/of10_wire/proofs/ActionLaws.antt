-- The laws of actions.
use Rattle.std.proofs.Common.{◌≡◌, ℕ, ◌+◌, ◌-◌, ◌%◌, ◌<◌, ◌≤◌, List, length, Bool, true, false, not, ◌||◌, eqb, ltb, refl, sym, ap, ◌∙◌, inl, inr, ◌⊎◌, arith}
use Rattle.std.specs.Prelude.{IsTrue}
use Rattle.std.proofs.lemmas.Bool.{or_parts, le-ltb, ltb-false, eqb-true, not-false}
use Rattle.std.proofs.lemmas.Bool.Decides.{nat_tests}
use Rattle.of10_wire.specs.declared.action.Action.{Action}
use Rattle.of10_wire.specs.declared.action.Action.TheVariants.{Output, SetVlanVid, SetVlanPcp, StripVlan, SetDlSrc, SetDlDst, SetNwSrc, SetNwDst, SetNwTos, SetTpSrc, SetTpDst, Enqueue, Vendor}
use Rattle.of10_wire.specs.declared.refusal.WireRefusal.{WireRefusal}
use Rattle.of10_wire.specs.declared.refusal.WireWhy.TheVariants.{BadAction}
use Rattle.of10_wire.specs.Refusals.{refusal}
use Rattle.of10_wire.specs.Layout.{width, Stand, number, part}
use Rattle.of10_wire.specs.Actions.{IsProper, action_slots, is_no_action, allows_action_len, RefusesAction}
use Rattle.of10_wire.proofs.Standing.{length-part}
use Rattle.of10_wire.proofs.Tests.{each_below, refusal_is}
use Rattle.std.specs.List.{flat_map, AllByRecursion}
use Rattle.of10_wire.proofs.Items.{items-proper}
use Rattle.of10_wire.proofs.Once.{IsPart}
use Rattle.of10_wire.proofs.Listed.{PartOrRefusal, IsItem}

pub action-once : (i : ℕ) (x y : Action) (bytes : List ℕ) → Stand i (action_slots x) bytes → Stand i (action_slots y) bytes → x ≡ y
unfolding Stand action_slots
action-once i (Output a b) (Output c d) bytes h k = cc
action-once i (Output a b) y bytes h k = absurd cc
action-once i (SetVlanVid a) (SetVlanVid c) bytes h k = cc
action-once i (SetVlanVid a) y bytes h k = absurd cc
action-once i (SetVlanPcp a) (SetVlanPcp c) bytes h k = cc
action-once i (SetVlanPcp a) y bytes h k = absurd cc
action-once i StripVlan StripVlan bytes h k = refl
action-once i StripVlan y bytes h k = absurd cc
action-once i (SetDlSrc a) (SetDlSrc c) bytes h k = cc
action-once i (SetDlSrc a) y bytes h k = absurd cc
action-once i (SetDlDst a) (SetDlDst c) bytes h k = cc
action-once i (SetDlDst a) y bytes h k = absurd cc
action-once i (SetNwSrc a) (SetNwSrc c) bytes h k = cc
action-once i (SetNwSrc a) y bytes h k = absurd cc
action-once i (SetNwDst a) (SetNwDst c) bytes h k = cc
action-once i (SetNwDst a) y bytes h k = absurd cc
action-once i (SetNwTos a) (SetNwTos c) bytes h k = cc
action-once i (SetNwTos a) y bytes h k = absurd cc
action-once i (SetTpSrc a) (SetTpSrc c) bytes h k = cc
action-once i (SetTpSrc a) y bytes h k = absurd cc
action-once i (SetTpDst a) (SetTpDst c) bytes h k = cc
action-once i (SetTpDst a) y bytes h k = absurd cc
action-once i (Enqueue a b) (Enqueue c d) bytes h k = cc
action-once i (Enqueue a b) y bytes h k = absurd cc
action-once i (Vendor a b) (Vendor c d) bytes h k = let e : length b ≡ length d = omega arith in cc
action-once i (Vendor a b) y bytes h k = absurd cc

positive : (x : Action) → 0 < width (action_slots x)
unfolding action_slots
positive (Output a b) = omega arith
positive (SetVlanVid a) = omega arith
positive (SetVlanPcp a) = omega arith
positive StripVlan = omega arith
positive (SetDlSrc a) = omega arith
positive (SetDlDst a) = omega arith
positive (SetNwSrc a) = omega arith
positive (SetNwDst a) = omega arith
positive (SetNwTos a) = omega arith
positive (SetTpSrc a) = omega arith
positive (SetTpDst a) = omega arith
positive (Enqueue a b) = omega arith
positive (Vendor a b) = omega arith

good_from : (bytes : List ℕ) (kind len : ℕ) → number 2 0 bytes ≡ kind → number 2 2 bytes ≡ len → allows_action_len kind len ≡ true → 4 ≤ len → len ≤ length bytes → is_no_action bytes ≡ false
unfolding is_no_action
good_from bytes kind len h k allowed long within = rw (h, k, allowed, le-ltb (length bytes) 4 (omega arith), le-ltb (length bytes) len within) refl

vendor_len : (n : ℕ) → n % 8 ≡ 0 → allows_action_len 65535 (4 + (4 + (n + 0))) ≡ true
vendor_len n e =
    let m : (4 + (4 + (n + 0))) % 8 ≡ 0 = omega arith in
    grind (arith, m, nat_tests)

-- Where an action stands, and fits, nothing is bad.
action-good : (x : Action) (bytes : List ℕ) → Stand 0 (action_slots x) bytes → width (action_slots x) ≤ length bytes → is_no_action bytes ≡ false
unfolding action_slots Stand
action-good (Output a b) bytes h le = good_from bytes 0 8 h.0 h.1.0 refl (omega arith) le
action-good (SetVlanVid a) bytes h le = good_from bytes 1 8 h.0 h.1.0 refl (omega arith) le
action-good (SetVlanPcp a) bytes h le = good_from bytes 2 8 h.0 h.1.0 refl (omega arith) le
action-good StripVlan bytes h le = good_from bytes 3 8 h.0 h.1.0 refl (omega arith) le
action-good (SetDlSrc a) bytes h le = good_from bytes 4 16 h.0 h.1.0 refl (omega arith) le
action-good (SetDlDst a) bytes h le = good_from bytes 5 16 h.0 h.1.0 refl (omega arith) le
action-good (SetNwSrc a) bytes h le = good_from bytes 6 8 h.0 h.1.0 refl (omega arith) le
action-good (SetNwDst a) bytes h le = good_from bytes 7 8 h.0 h.1.0 refl (omega arith) le
action-good (SetNwTos a) bytes h le = good_from bytes 8 8 h.0 h.1.0 refl (omega arith) le
action-good (SetTpSrc a) bytes h le = good_from bytes 9 8 h.0 h.1.0 refl (omega arith) le
action-good (SetTpDst a) bytes h le = good_from bytes 10 8 h.0 h.1.0 refl (omega arith) le
action-good (Enqueue a b) bytes h le = good_from bytes 11 16 h.0 h.1.0 refl (omega arith) le
action-good (Vendor a b) bytes h le = good_from bytes 65535 (4 + (4 + (length b + 0))) h.0 h.1.0 (vendor_len (length b) h.1.1.1.1) (omega arith) (omega (arith, le))

action_kept : (x : Action) (place : ℕ) (bytes : List ℕ) (e : WireRefusal) → Stand 0 (action_slots x) bytes → width (action_slots x) ≤ length bytes → RefusesAction place bytes e → ⊥
action_kept x place bytes e h le r =
    let good : is_no_action bytes ≡ false = action-good x bytes h le in
    let bad : IsTrue (is_no_action bytes) = r.0 in
    let nope = rw good at bad in
    absurd cc

-- ---- an action or a refusal

-- an action stands at the front
abbrev There : List ℕ → Type 0
There bytes = (x : Action) × Stand 0 (action_slots x) bytes × (width (action_slots x) ≤ length bytes)

-- what bytes show that begin with an action
record BegunAction (bytes : List ℕ) : Type 0 where
  pub allowed : allows_action_len (number 2 0 bytes) (number 2 2 bytes) ≡ true
  pub within : number 2 2 bytes ≤ length bytes

begun : (bytes : List ℕ) → is_no_action bytes ≡ false → BegunAction bytes
unfolding is_no_action
begun bytes h =
    let parts = or_parts (ltb (length bytes) 4 || not (allows_action_len (number 2 0 bytes) (number 2 2 bytes))) (ltb (length bytes) (number 2 2 bytes)) h in
    let first = or_parts (ltb (length bytes) 4) (not (allows_action_len (number 2 0 bytes) (number 2 2 bytes))) parts.0 in
    record { allowed = not-false (allows_action_len (number 2 0 bytes) (number 2 2 bytes)) first.1; within = ltb-false (length bytes) (number 2 2 bytes) parts.1 }

-- the len of an action of a known type
len_of : (bytes : List ℕ) (kind len : ℕ) → BegunAction bytes → number 2 0 bytes ≡ kind → allows_action_len kind (number 2 2 bytes) ≡ eqb (number 2 2 bytes) len → number 2 2 bytes ≡ len
len_of bytes kind len b is e =
    let allowed : allows_action_len kind (number 2 2 bytes) ≡ true = rw is at b.allowed in
    eqb-true (number 2 2 bytes) len (sym e ∙ allowed)

output : (bytes : List ℕ) → BegunAction bytes → number 2 0 bytes ≡ 0 → There bytes
unfolding Stand action_slots
output bytes b is = let len = len_of bytes 0 8 b is refl in (Output (number 2 4 bytes) (number 2 6 bytes), (is, (len, (refl, (refl, tt)))), omega (arith, len, b.within))

set_vlan_vid : (bytes : List ℕ) → BegunAction bytes → number 2 0 bytes ≡ 1 → There bytes
unfolding Stand action_slots
set_vlan_vid bytes b is = let len = len_of bytes 1 8 b is refl in (SetVlanVid (number 2 4 bytes), (is, (len, (refl, tt))), omega (arith, len, b.within))

set_vlan_pcp : (bytes : List ℕ) → BegunAction bytes → number 2 0 bytes ≡ 2 → There bytes
unfolding Stand action_slots
set_vlan_pcp bytes b is = let len = len_of bytes 2 8 b is refl in (SetVlanPcp (number 1 4 bytes), (is, (len, (refl, tt))), omega (arith, len, b.within))

strip_vlan : (bytes : List ℕ) → BegunAction bytes → number 2 0 bytes ≡ 3 → There bytes
unfolding Stand action_slots
strip_vlan bytes b is = let len = len_of bytes 3 8 b is refl in (StripVlan, (is, (len, tt)), omega (arith, len, b.within))

set_dl_src : (bytes : List ℕ) → BegunAction bytes → number 2 0 bytes ≡ 4 → There bytes
unfolding Stand action_slots
set_dl_src bytes b is = let len = len_of bytes 4 16 b is refl in (SetDlSrc (part 6 4 bytes), (is, (len, (refl, tt))), omega (arith, len, b.within))

set_dl_dst : (bytes : List ℕ) → BegunAction bytes → number 2 0 bytes ≡ 5 → There bytes
unfolding Stand action_slots
set_dl_dst bytes b is = let len = len_of bytes 5 16 b is refl in (SetDlDst (part 6 4 bytes), (is, (len, (refl, tt))), omega (arith, len, b.within))

set_nw_src : (bytes : List ℕ) → BegunAction bytes → number 2 0 bytes ≡ 6 → There bytes
unfolding Stand action_slots
set_nw_src bytes b is = let len = len_of bytes 6 8 b is refl in (SetNwSrc (number 4 4 bytes), (is, (len, (refl, tt))), omega (arith, len, b.within))

set_nw_dst : (bytes : List ℕ) → BegunAction bytes → number 2 0 bytes ≡ 7 → There bytes
unfolding Stand action_slots
set_nw_dst bytes b is = let len = len_of bytes 7 8 b is refl in (SetNwDst (number 4 4 bytes), (is, (len, (refl, tt))), omega (arith, len, b.within))

set_nw_tos : (bytes : List ℕ) → BegunAction bytes → number 2 0 bytes ≡ 8 → There bytes
unfolding Stand action_slots
set_nw_tos bytes b is = let len = len_of bytes 8 8 b is refl in (SetNwTos (number 1 4 bytes), (is, (len, (refl, tt))), omega (arith, len, b.within))

set_tp_src : (bytes : List ℕ) → BegunAction bytes → number 2 0 bytes ≡ 9 → There bytes
unfolding Stand action_slots
set_tp_src bytes b is = let len = len_of bytes 9 8 b is refl in (SetTpSrc (number 2 4 bytes), (is, (len, (refl, tt))), omega (arith, len, b.within))

set_tp_dst : (bytes : List ℕ) → BegunAction bytes → number 2 0 bytes ≡ 10 → There bytes
unfolding Stand action_slots
set_tp_dst bytes b is = let len = len_of bytes 10 8 b is refl in (SetTpDst (number 2 4 bytes), (is, (len, (refl, tt))), omega (arith, len, b.within))

enqueue : (bytes : List ℕ) → BegunAction bytes → number 2 0 bytes ≡ 11 → There bytes
unfolding Stand action_slots
enqueue bytes b is = let len = len_of bytes 11 16 b is refl in (Enqueue (number 2 4 bytes) (number 4 12 bytes), (is, (len, (refl, (refl, tt)))), omega (arith, len, b.within))

vendor_parts : (n : ℕ) → allows_action_len 65535 n ≡ true → (8 ≤ n) × ((n - 8) % 8 ≡ 0)
vendor_parts n h =
    let both : (8 ≤ n) × (n % 8 ≡ 0) = grind (arith, nat_tests, h) in
    (both.0, omega (arith, both.0, both.1))

vendor : (bytes : List ℕ) → BegunAction bytes → number 2 0 bytes ≡ 65535 → There bytes
unfolding Stand action_slots
vendor bytes b is =
    let allowed : allows_action_len 65535 (number 2 2 bytes) ≡ true = rw is at b.allowed in
    let parts = vendor_parts (number 2 2 bytes) allowed in
    let n = number 2 2 bytes - 8 in
    let len : length (part n 8 bytes) ≡ n = length-part n 8 bytes (omega (arith, b.within, parts.0)) in
    let body : part (length (part n 8 bytes)) 8 bytes ≡ part n 8 bytes = ap (λ (m : ℕ). part m 8 bytes) len in
    let blocks : length (part n 8 bytes) % 8 ≡ 0 = rw len parts.1 in
    (Vendor (number 4 4 bytes) (part n 8 bytes), (is, (omega (arith, len, parts.0), (refl, (body, blocks, tt)))), omega (arith, len, parts.0, b.within))

no_other : (kind len : ℕ) → allows_action_len kind len ≡ true → (kind ≤ 11) ⊎ (kind ≡ 65535)
no_other kind len h = grind (arith, nat_tests, h)

there : (bytes : List ℕ) → BegunAction bytes → There bytes
there bytes b = elim (no_other (number 2 0 bytes) (number 2 2 bytes) b.allowed) [
  | inr is ↦ vendor bytes b is
  | inl low ↦ each_below (λ (kind : ℕ). number 2 0 bytes ≡ kind → There bytes) 12 (
    output bytes b,
    (set_vlan_vid bytes b, (set_vlan_pcp bytes b, (strip_vlan bytes b, (set_dl_src bytes b, (set_dl_dst bytes b, (set_nw_src bytes b, (set_nw_dst bytes b, (set_nw_tos bytes b, (set_tp_src bytes b, (set_tp_dst bytes b, (enqueue bytes b, tt))))))))))),
  )
      (number 2 0 bytes) (omega (arith, low)) refl
]

action_front_by : (place : ℕ) (bytes : List ℕ) (bad : Bool) → is_no_action bytes ≡ bad → PartOrRefusal action_slots RefusesAction place bytes
action_front_by place bytes true is = inr (refusal place BadAction, (is, refl))
action_front_by place bytes false is = inl (there bytes (begun bytes is))

pub action_part : IsPart action_slots
action_part = record { once = action-once; positive = positive }

pub action_item : IsItem action_slots RefusesAction
action_item = record {
  part = action_part;
  kept = action_kept;
  refused-once = λ place bytes d e h k. h.1 ∙ sym k.1;
  refused-within = λ place bytes e h. refusal_is place (place + length bytes) BadAction e (omega arith) (λ is. absurd cc) h.1;
  front = λ place bytes. action_front_by place bytes (is_no_action bytes) refl;
}

-- what stands can be written
action_proper : (i : ℕ) (x : Action) (bytes : List ℕ) → Stand i (action_slots x) bytes → IsProper x
unfolding Stand action_slots
action_proper i (Vendor vendor body) bytes h = h.1.1.1.1
action_proper i x bytes h = tt

pub actions_proper : (i : ℕ) (xs : List Action) (bytes : List ℕ) → Stand i (flat_map action_slots xs) bytes → AllByRecursion IsProper xs
actions_proper i xs bytes h = items-proper action_slots IsProper action_proper i xs bytes h
