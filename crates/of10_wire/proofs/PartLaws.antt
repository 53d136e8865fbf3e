-- The laws of matches and ports.
use Rattle.std.proofs.Common.{◌≡◌, ℕ, ◌+◌, List, ◌++◌, refl, arith}
use Rattle.of10_wire.specs.declared.types.FlowMatch.{FlowMatch}
use Rattle.of10_wire.specs.declared.types.PhyPort.{PhyPort}
use Rattle.of10_wire.specs.Layout.{Slot, width, Stand, number, part}
use Rattle.of10_wire.specs.Parts.{match_slots, port_slots}
use Rattle.of10_wire.proofs.Standing.{Stand-append, Stand-back, Stand-at}
use Rattle.of10_wire.proofs.Widths.{IsFixed}

abbrev match_of : (a b : ℕ) (c d : List ℕ) (e f g h k l m n o : ℕ) → FlowMatch
match_of a b c d e f g h k l m n o = record { wildcards = a; in_port = b; dl_src = c; dl_dst = d; dl_vlan = e; dl_vlan_pcp = f; dl_type = g; nw_tos = h; nw_proto = k; nw_src = l; nw_dst = m; tp_src = n; tp_dst = o }

abbrev port_of : (a : ℕ) (b c : List ℕ) (d e f g h k : ℕ) → PhyPort
port_of a b c d e f g h k = record { port_no = a; hw_addr = b; name = c; config = d; state = e; curr = f; advertised = g; supported = h; peer = k }

pub match-once : (i : ℕ) (x y : FlowMatch) (bytes : List ℕ) → Stand i (match_slots x) bytes → Stand i (match_slots y) bytes → x ≡ y
unfolding Stand match_slots
match-once i x y bytes h k =
    let e : match_of x.wildcards x.in_port x.dl_src x.dl_dst x.dl_vlan x.dl_vlan_pcp x.dl_type x.nw_tos x.nw_proto x.nw_src x.nw_dst x.tp_src x.tp_dst ≡ match_of y.wildcards y.in_port y.dl_src y.dl_dst y.dl_vlan y.dl_vlan_pcp y.dl_type y.nw_tos y.nw_proto y.nw_src y.nw_dst y.tp_src y.tp_dst = cc in e

pub port-once : (i : ℕ) (x y : PhyPort) (bytes : List ℕ) → Stand i (port_slots x) bytes → Stand i (port_slots y) bytes → x ≡ y
unfolding Stand port_slots
port-once i x y bytes h k =
    let e : port_of x.port_no x.hw_addr x.name x.config x.state x.curr x.advertised x.supported x.peer ≡ port_of y.port_no y.hw_addr y.name y.config y.state y.curr y.advertised y.supported y.peer = cc in e

pub width-match : (x : FlowMatch) → width (match_slots x) ≡ 40
unfolding match_slots
width-match x = refl

pub width-port : (x : PhyPort) → width (port_slots x) ≡ 48
unfolding port_slots
width-port x = refl

-- the match that any bytes are
pub match_there : (i : ℕ) (bytes : List ℕ) → (x : FlowMatch) × Stand i (match_slots x) bytes
unfolding Stand match_slots
match_there i bytes = (match_of (number 4 i bytes) (number 2 (i + 4) bytes) (part 6 (i + 4 + 2) bytes) (part 6 (i + 4 + 2 + 6) bytes) (number 2 (i + 4 + 2 + 6 + 6) bytes) (number 1 (i + 4 + 2 + 6 + 6 + 2) bytes) (number 2 (i + 4 + 2 + 6 + 6 + 2 + 1 + 1) bytes) (number 1 (i + 4 + 2 + 6 + 6 + 2 + 1 + 1 + 2) bytes) (number 1 (i + 4 + 2 + 6 + 6 + 2 + 1 + 1 + 2 + 1) bytes) (number 4 (i + 4 + 2 + 6 + 6 + 2 + 1 + 1 + 2 + 1 + 1 + 2) bytes) (number 4 (i + 4 + 2 + 6 + 6 + 2 + 1 + 1 + 2 + 1 + 1 + 2 + 4) bytes) (number 2 (i + 4 + 2 + 6 + 6 + 2 + 1 + 1 + 2 + 1 + 1 + 2 + 4 + 4) bytes) (number 2 (i + 4 + 2 + 6 + 6 + 2 + 1 + 1 + 2 + 1 + 1 + 2 + 4 + 4 + 2) bytes), (refl, (refl, (refl, (refl, (refl, (refl, (refl, (refl, (refl, (refl, (refl, (refl, (refl, tt))))))))))))))

pub port_there : (i : ℕ) (bytes : List ℕ) → (x : PhyPort) × Stand i (port_slots x) bytes
unfolding Stand port_slots
port_there i bytes = (port_of (number 2 i bytes) (part 6 (i + 2) bytes) (part 16 (i + 2 + 6) bytes) (number 4 (i + 2 + 6 + 16) bytes) (number 4 (i + 2 + 6 + 16 + 4) bytes) (number 4 (i + 2 + 6 + 16 + 4 + 4) bytes) (number 4 (i + 2 + 6 + 16 + 4 + 4 + 4) bytes) (number 4 (i + 2 + 6 + 16 + 4 + 4 + 4 + 4) bytes) (number 4 (i + 2 + 6 + 16 + 4 + 4 + 4 + 4 + 4) bytes), (refl, (refl, (refl, (refl, (refl, (refl, (refl, (refl, (refl, tt))))))))))

pub port_fixed : IsFixed port_slots 48
port_fixed = record { part = record { once = port-once; positive = λ x. omega (arith, width-port x) }; wide = width-port; there = port_there }

-- ---- a match with slots behind it

pub behind_match : (i : ℕ) (x : FlowMatch) (slots : List Slot) (bytes : List ℕ) → Stand i (match_slots x ++ slots) bytes → Stand (i + 40) slots bytes
behind_match i x slots bytes h = Stand-at (i + width (match_slots x)) (i + 40) slots bytes (omega (arith, width-match x)) (Stand-back i (match_slots x) slots bytes h)

pub with_match : (i : ℕ) (x : FlowMatch) (slots : List Slot) (bytes : List ℕ) → Stand i (match_slots x) bytes → Stand (i + 40) slots bytes → Stand i (match_slots x ++ slots) bytes
with_match i x slots bytes h k = Stand-append i (match_slots x) slots bytes h (Stand-at (i + 40) (i + width (match_slots x)) slots bytes (omega (arith, width-match x)) k)
