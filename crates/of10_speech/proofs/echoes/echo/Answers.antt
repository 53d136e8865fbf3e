use Rattle.std.proofs.Common.{◌≡◌, ◌+◌, ◌-◌, ◌++◌, ℕ, List, length, set, sym, ap, ◌∙◌, arith}
use Rattle.std.proofs.lemmas.List.{set-append_right}
use Rattle.of10_wire.proofs.Openings.{framed}
use Rattle.of10_speech.proofs.Echoed.{request_spelled, reply_again}
use Rattle.of10_speech.proofs.echoes.echo.Goals as goal

pub returns-in_err-extend_from_slice-clause-request : goal.returns-in_err-extend_from_slice-clause-request
returns-in_err-extend_from_slice-clause-request c = request_spelled c.args.frame.now c.requires.opens (framed c.args.frame.now (length c.args.frame.now) c.requires.whole).long

pub index_mut-requires : goal.index_mut-requires
index_mut-requires c = let f = framed c.args.frame.now (length c.args.frame.now) c.requires.whole in omega (arith, c.in_ok-extend_from_slice.ensures.len, c.len-kind.ensures, f.long)

pub returns-clause-request : goal.returns-clause-request
returns-clause-request c = request_spelled c.args.frame.now c.requires.opens (framed c.args.frame.now (length c.args.frame.now) c.requires.whole).long

pub returns-clause-bytes : goal.returns-clause-bytes
returns-clause-bytes c =
    let frame : List ℕ = c.args.frame.now in
    let n : ℕ = c.len-kind.result in
    let second : (n + 1) - n ≡ 1 = omega arith in
    let again = reply_again frame c.requires.opens (framed frame (length frame) c.requires.whole).long (λ k. omega (arith, c.type_inv.frame k)) in
    ap (λ (l : List ℕ). set l (n + 1) 3) c.in_ok-extend_from_slice.ensures.items
    ∙ (set-append_right c.args.out.now.items frame n (n + 1) 3 (sym (c.len-kind.ensures ∙ c.args.out.now.ok.0)) (omega arith)
    ∙ ap (λ (l : List ℕ). c.args.out.now.items ++ l) (ap (λ (k : ℕ). set frame k 3) second ∙ sym again))
