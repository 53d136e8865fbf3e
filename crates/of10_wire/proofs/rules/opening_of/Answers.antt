use Rattle.std.proofs.Common.{◌≡◌, ◌∙◌, sym, arith}
use Rattle.std.specs.Prelude.{None}
use Rattle.of10_wire.specs.Layout.{Stand}
use Rattle.of10_wire.specs.Headers.{header_refusal}
use Rattle.of10_wire.proofs.Openings.{counts_header}
use Rattle.of10_wire.proofs.rules.opening_of.Goals as goal

pub returns-else-bytes-len-clause-whole : goal.returns-else-bytes-len-clause-whole
unfolding Stand
returns-else-bytes-len-clause-whole c = λ n is.
    let same : c.from-len.result ≡ n = cc in
    let kept : header_refusal c.args.bytes.now ≡ None = sym c.header_refusal.ensures ∙ c.in_default.is in
    let told = counts_header c.args.bytes.now kept in
    (omega (arith, told, c.read.ensures.stand.1.1.0, c.from-len.ensures, same), omega (arith, c.if-bytes-len.false, same), omega (arith, c.read.type_inv, c.from-len.ensures, same))
