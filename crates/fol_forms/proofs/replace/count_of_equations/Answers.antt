use Rattle.std.proofs.Common.{◌≡◌, ◌<◌, length, arith}
use Rattle.fol_forms.proofs.AtomNodes.{nodes-same_alike, nodes-same_other}
use Rattle.fol_forms.proofs.replace.count_of_equations.Goals as goal
use Rattle.fol_forms.proofs.replace.count_of_equations.Goals.{else-us-ts-via-then-us-ts+else-shared-gt0, else-us-ts-via-else-us-ts}

pub returns-then-shared-gt0-clause-count : goal.returns-then-shared-gt0-clause-count
returns-then-shared-gt0-clause-count c =
    let long : length c.args.us.now ≡ length c.args.ts.now = c.if-us-ts.true in
    let some : 0 < length c.args.us.now = omega (arith, long, c.min-shared.ensures, c.if-shared-gt0.true) in
    let twice = nodes-same_alike c.args.us.now c.args.ts.now long some in
    omega (arith, twice, long, c.min-shared.ensures)

pub returns-else-us-ts-clause-count : goal.returns-else-us-ts-clause-count
returns-else-us-ts-clause-count c =
    let differ : length c.args.us.now ≡ length c.args.ts.now → 0 < length c.args.us.now → ⊥ = λ long some. elim c.else-us-ts.branch [
      | else-us-ts-via-then-us-ts+else-shared-gt0 w ↦ omega (arith, long, some, c.min-shared.ensures, w.if-shared-gt0.false)
      | else-us-ts-via-else-us-ts w ↦ absurd (w.if-us-ts.false long)
    ] in
    let count = nodes-same_other c.args.us.now c.args.ts.now differ in
    omega (arith, count, c.min-shared.ensures)
