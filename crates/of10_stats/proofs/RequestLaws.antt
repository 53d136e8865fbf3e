-- The laws of requests for statistics: of any bytes exactly one holds, that they hold one request, or that they are
-- refused.
use Rattle.std.proofs.Common.{◌≡◌, ℕ, ◌+◌, ◌-◌, ◌≤◌, List, [], ◌∷◌, ◌++◌, length, true, Option, Some, None, refl, sym, ◌∙◌, inl, inr, ◌⊎◌, arith}
use Rattle.std.specs.Prelude.{IfSome}
use Rattle.std.proofs.lemmas.Bool.{eq-eqb, eqb-true, le-leb, leb-true}
use Rattle.of10_wire.specs.declared.types.FlowMatch.{FlowMatch}
use Rattle.of10_wire.specs.declared.refusal.WireRefusal.{WireRefusal}
use Rattle.of10_wire.specs.Refusals.{IsOfBytes}
use Rattle.of10_wire.specs.Layout.{Slot, Number, Pad, width, number, Stand}
use Rattle.of10_wire.specs.Parts.{match_slots}
use Rattle.of10_wire.proofs.Standing.{Stand-front, width-append, bytes_from, length-bytes_from, rest-stands}
use Rattle.of10_wire.proofs.Tests.{apart}
use Rattle.of10_wire.proofs.PartLaws.{match-once, match_there, width-match, behind_match, with_match}
use Rattle.of10_stats.specs.declared.request.StatsRequest.{StatsRequest}
use Rattle.of10_stats.specs.declared.request.StatsRequest.TheVariants.{Desc, Flow, Aggregate, Table, Port, Queue, Vendor}
use Rattle.of10_stats.specs.Kinds.{is_stats_kind}
use Rattle.of10_stats.specs.Requests.{request_kind, request_slots, allows_request, request_refusal, IsRequest}
use Rattle.of10_stats.proofs.KindLaws.{BegunBody, begun, allowed, by_kind, low_refusal}

-- what stands behind the match
abbrev after_match : (table_id out_port : ℕ) → List Slot
after_match table_id out_port = Number 1 table_id ∷ Pad 1 ∷ Number 2 out_port ∷ []

-- ---- at most one

flow_parts : (x y : FlowMatch) (a b c d : ℕ) (bytes : List ℕ) → Stand 12 (match_slots x ++ after_match a b) bytes → Stand 12 (match_slots y ++ after_match c d) bytes → (x ≡ y) × (a ≡ c) × (b ≡ d)
unfolding Stand
flow_parts x y a b c d bytes h k =
    let flow : x ≡ y = match-once 12 x y bytes (Stand-front 12 (match_slots x) (after_match a b) bytes h) (Stand-front 12 (match_slots y) (after_match c d) bytes k) in
    let p : Stand 52 (after_match a b) bytes = behind_match 12 x (after_match a b) bytes h in
    let q : Stand 52 (after_match c d) bytes = behind_match 12 y (after_match c d) bytes k in
    (flow, cc, cc)

flow-once : (x y : FlowMatch) (a b c d : ℕ) (bytes : List ℕ) → IsRequest bytes (Flow x a b) → IsRequest bytes (Flow y c d) → Flow x a b ≡ Flow y c d
unfolding request_slots
flow-once x y a b c d bytes h k = let e = flow_parts x y a b c d bytes h.stand k.stand in cc

aggregate-once : (x y : FlowMatch) (a b c d : ℕ) (bytes : List ℕ) → IsRequest bytes (Aggregate x a b) → IsRequest bytes (Aggregate y c d) → Aggregate x a b ≡ Aggregate y c d
unfolding request_slots
aggregate-once x y a b c d bytes h k = let e = flow_parts x y a b c d bytes h.stand k.stand in cc

port-once : (a b : ℕ) (bytes : List ℕ) → IsRequest bytes (Port a) → IsRequest bytes (Port b) → Port a ≡ Port b
unfolding Stand request_slots
port-once a b bytes h k = let p = h.stand in let q = k.stand in cc

queue-once : (a b c d : ℕ) (bytes : List ℕ) → IsRequest bytes (Queue a b) → IsRequest bytes (Queue c d) → Queue a b ≡ Queue c d
unfolding Stand request_slots
queue-once a b c d bytes h k = let p = h.stand in let q = k.stand in cc

vendor-once : (a c : ℕ) (b d bytes : List ℕ) → IsRequest bytes (Vendor a b) → IsRequest bytes (Vendor c d) → Vendor a b ≡ Vendor c d
unfolding Stand request_slots
vendor-once a c b d bytes h k =
    let len : length b ≡ length d = omega (arith, h.whole, k.whole) in
    let p = h.stand in
    let q = k.stand in
    cc

pub request-once : (x y : StatsRequest) (bytes : List ℕ) → IsRequest bytes x → IsRequest bytes y → x ≡ y
request-once Desc Desc bytes h k = refl
request-once Desc z bytes h k = absurd (apart (number 2 8 bytes) 0 (request_kind z) h.kind k.kind refl)
request-once (Flow x a b) (Flow y c d) bytes h k = flow-once x y a b c d bytes h k
request-once (Flow x a b) z bytes h k = absurd (apart (number 2 8 bytes) 1 (request_kind z) h.kind k.kind refl)
request-once (Aggregate x a b) (Aggregate y c d) bytes h k = aggregate-once x y a b c d bytes h k
request-once (Aggregate x a b) z bytes h k = absurd (apart (number 2 8 bytes) 2 (request_kind z) h.kind k.kind refl)
request-once Table Table bytes h k = refl
request-once Table z bytes h k = absurd (apart (number 2 8 bytes) 3 (request_kind z) h.kind k.kind refl)
request-once (Port a) (Port b) bytes h k = port-once a b bytes h k
request-once (Port a) z bytes h k = absurd (apart (number 2 8 bytes) 4 (request_kind z) h.kind k.kind refl)
request-once (Queue a b) (Queue c d) bytes h k = queue-once a b c d bytes h k
request-once (Queue a b) z bytes h k = absurd (apart (number 2 8 bytes) 5 (request_kind z) h.kind k.kind refl)
request-once (Vendor a b) (Vendor c d) bytes h k = vendor-once a c b d bytes h k
request-once (Vendor a b) z bytes h k = absurd (apart (number 2 8 bytes) 65535 (request_kind z) h.kind k.kind refl)

-- ---- what stands is not refused

kind_known : (x : StatsRequest) → is_stats_kind (request_kind x) ≡ true
kind_known Desc = refl
kind_known x = refl

width-flow : (x : FlowMatch) (a b : ℕ) → width (match_slots x ++ after_match a b) ≡ 44
width-flow x a b = omega (arith, width-append (match_slots x) (after_match a b), width-match x)

length_allowed : (x : StatsRequest) → allows_request (request_kind x) (width (request_slots x)) ≡ true
unfolding request_slots
length_allowed Desc = refl
length_allowed (Flow x a b) = eq-eqb (width (match_slots x ++ after_match a b)) 44 (width-flow x a b)
length_allowed (Aggregate x a b) = eq-eqb (width (match_slots x ++ after_match a b)) 44 (width-flow x a b)
length_allowed Table = refl
length_allowed (Port a) = refl
length_allowed (Queue a b) = refl
length_allowed (Vendor a b) = le-leb 4 (4 + (length b + 0)) (omega arith)

not_refused : (x : StatsRequest) (bytes : List ℕ) → IsRequest bytes x → request_refusal bytes ≡ None
unfolding request_refusal
not_refused x bytes h =
    let len : length bytes - 12 ≡ width (request_slots x) = omega (arith, h.whole) in
    rw (h.kind, len, kind_known x, length_allowed x) refl

pub request-kept : (x : StatsRequest) (bytes : List ℕ) (e : WireRefusal) → IsRequest bytes x → request_refusal bytes ≡ Some e → ⊥
request-kept x bytes e h r = let same : None ≡ Some e = sym (not_refused x bytes h) ∙ r in absurd cc

front : (bytes : List ℕ) → IfSome (request_refusal bytes) (IsOfBytes 12)
unfolding request_refusal
front bytes = low_refusal allows_request bytes

pub request-within : (bytes : List ℕ) (e : WireRefusal) → request_refusal bytes ≡ Some e → IsOfBytes 12 e
request-within bytes e r = let low = front bytes in rw r at low

-- ---- a request or a refusal

abbrev pub RequestOrRefusal : List ℕ → Type 0
RequestOrRefusal bytes = ((x : StatsRequest) × IsRequest bytes x) ⊎ ((e : WireRefusal) × (request_refusal bytes ≡ Some e))

begun_by : (bytes : List ℕ) → 12 ≤ length bytes → request_refusal bytes ≡ None → BegunBody allows_request bytes
unfolding request_refusal
begun_by bytes long h = begun allows_request bytes long h

desc : (bytes : List ℕ) → BegunBody allows_request bytes → number 2 8 bytes ≡ 0 → RequestOrRefusal bytes
unfolding Stand request_slots
desc bytes b is =
    let len = eqb-true (length bytes - 12) 0 (allowed allows_request 0 bytes b is) in
    inl (Desc, record { kind = is; stand = tt; whole = omega (arith, len, b.long) })

flow_stands : (bytes : List ℕ) → Stand 12 (match_slots (match_there 12 bytes).0 ++ after_match (number 1 52 bytes) (number 2 54 bytes)) bytes
unfolding Stand
flow_stands bytes = with_match 12 (match_there 12 bytes).0 (after_match (number 1 52 bytes) (number 2 54 bytes)) bytes (match_there 12 bytes).1 (refl, (refl, tt))

flow : (bytes : List ℕ) → BegunBody allows_request bytes → number 2 8 bytes ≡ 1 → RequestOrRefusal bytes
unfolding request_slots
flow bytes b is =
    let len = eqb-true (length bytes - 12) 44 (allowed allows_request 1 bytes b is) in
    let wide = width-flow (match_there 12 bytes).0 (number 1 52 bytes) (number 2 54 bytes) in
    inl (Flow (match_there 12 bytes).0 (number 1 52 bytes) (number 2 54 bytes), record { kind = is; stand = flow_stands bytes; whole = omega (arith, len, wide, b.long) })

aggregate : (bytes : List ℕ) → BegunBody allows_request bytes → number 2 8 bytes ≡ 2 → RequestOrRefusal bytes
unfolding request_slots
aggregate bytes b is =
    let len = eqb-true (length bytes - 12) 44 (allowed allows_request 2 bytes b is) in
    let wide = width-flow (match_there 12 bytes).0 (number 1 52 bytes) (number 2 54 bytes) in
    inl (Aggregate (match_there 12 bytes).0 (number 1 52 bytes) (number 2 54 bytes), record { kind = is; stand = flow_stands bytes; whole = omega (arith, len, wide, b.long) })

table : (bytes : List ℕ) → BegunBody allows_request bytes → number 2 8 bytes ≡ 3 → RequestOrRefusal bytes
unfolding Stand request_slots
table bytes b is =
    let len = eqb-true (length bytes - 12) 0 (allowed allows_request 3 bytes b is) in
    inl (Table, record { kind = is; stand = tt; whole = omega (arith, len, b.long) })

port : (bytes : List ℕ) → BegunBody allows_request bytes → number 2 8 bytes ≡ 4 → RequestOrRefusal bytes
unfolding Stand request_slots
port bytes b is =
    let len = eqb-true (length bytes - 12) 8 (allowed allows_request 4 bytes b is) in
    inl (Port (number 2 12 bytes), record { kind = is; stand = (refl, tt); whole = omega (arith, len, b.long) })

queue : (bytes : List ℕ) → BegunBody allows_request bytes → number 2 8 bytes ≡ 5 → RequestOrRefusal bytes
unfolding Stand request_slots
queue bytes b is =
    let len = eqb-true (length bytes - 12) 8 (allowed allows_request 5 bytes b is) in
    inl (Queue (number 2 12 bytes) (number 4 16 bytes), record { kind = is; stand = (refl, (refl, tt)); whole = omega (arith, len, b.long) })

vendor : (bytes : List ℕ) → BegunBody allows_request bytes → number 2 8 bytes ≡ 65535 → RequestOrRefusal bytes
unfolding Stand request_slots
vendor bytes b is =
    let long : 4 ≤ length bytes - 12 = leb-true 4 (length bytes - 12) (allowed allows_request 65535 bytes b is) in
    let le : 16 ≤ length bytes = omega (arith, long, b.long) in
    let len = length-bytes_from 16 bytes le in
    inl (Vendor (number 4 12 bytes) (bytes_from 16 bytes), record { kind = is; stand = (refl, (rest-stands 16 bytes le, tt)); whole = omega (arith, len) })

kind_found : (bytes : List ℕ) → BegunBody allows_request bytes → RequestOrRefusal bytes
kind_found bytes b = by_kind (number 2 8 bytes) b.known (desc bytes b) (flow bytes b) (aggregate bytes b) (table bytes b) (port bytes b) (queue bytes b) (vendor bytes b)

pub request_found : (bytes : List ℕ) → 12 ≤ length bytes → RequestOrRefusal bytes
request_found bytes long = found_by bytes long (request_refusal bytes) refl where
  found_by : (bytes : List ℕ) → 12 ≤ length bytes → (first : Option WireRefusal) → request_refusal bytes ≡ first → RequestOrRefusal bytes
  found_by bytes long None is = kind_found bytes (begun_by bytes long is)
  found_by bytes long (Some e) is = inr (e, is)
