-- Numbers in place of a port (OpenFlow Switch Specification 1.0.0, section 5.2.1, `ofp_port`).
use Rattle.std.specs.Prelude.{ℕ}

-- the port that the packet came in at
abbrev pub in_port : ℕ
in_port = 65528

-- all ports but the one that the packet came in at
abbrev pub all : ℕ
all = 65532

-- no port
abbrev pub none : ℕ
none = 65535
