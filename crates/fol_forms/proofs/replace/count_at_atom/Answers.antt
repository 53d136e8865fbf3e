use Rattle.std.proofs.Common.{◌∙◌, sym}
use Rattle.fol_forms.proofs.AtomNodes.{or_row-count, not_row-count, not_match-count, is_row-count, no_row-count, or_flood-count, or_row-other, not_row-other, not_match-other, is_row-other, or_flood-other}
use Rattle.fol_forms.proofs.replace.count_at_atom.Goals as goal

pub returns-then-is_same : goal.returns-then-is_same
returns-then-is_same c =
    let call = c.count_of_same in
    rw c.in-AddRow.is (or_row-count c.in-AddRow.r c.in-AddRow.ts c.args.pred c.args.terms.now call.result (sym c.is_same.ensures ∙ c.if-is_same.true) call.ensures.count call.ensures.few)

pub returns-else-is_same : goal.returns-else-is_same
returns-else-is_same c = rw c.in-AddRow.is (or_row-other c.in-AddRow.r c.in-AddRow.ts c.args.pred c.args.terms.now (sym c.is_same.ensures ∙ c.if-is_same.false))

pub returns-then-is_same-2 : goal.returns-then-is_same-2
returns-then-is_same-2 c =
    let call = c.count_of_same-then-is_same-2 in
    rw c.in-DropRow.is (not_row-count c.in-DropRow.r c.in-DropRow.ts c.args.pred c.args.terms.now call.result (sym c.is_same-in-DropRow.ensures ∙ c.if-is_same-2.true) call.ensures.count call.ensures.few)

pub returns-else-is_same-2 : goal.returns-else-is_same-2
returns-else-is_same-2 c = rw c.in-DropRow.is (not_row-other c.in-DropRow.r c.in-DropRow.ts c.args.pred c.args.terms.now (sym c.is_same-in-DropRow.ensures ∙ c.if-is_same-2.false))

pub returns-then-is_same-3 : goal.returns-then-is_same-3
returns-then-is_same-3 c =
    let call = c.count_of_rule in
    rw c.in-DropMatch.is (not_match-count c.in-DropMatch.ts c.args.pred c.args.terms.now call.result (sym c.is_same-in-DropMatch.ensures ∙ c.if-is_same-3.true) call.ensures.count call.ensures.few)

pub returns-else-is_same-3 : goal.returns-else-is_same-3
returns-else-is_same-3 c = rw c.in-DropMatch.is (not_match-other c.in-DropMatch.ts c.args.pred c.args.terms.now (sym c.is_same-in-DropMatch.ensures ∙ c.if-is_same-3.false))

pub returns-then-is_same-4 : goal.returns-then-is_same-4
returns-then-is_same-4 c =
    let call = c.count_of_floods in
    rw c.in-AddFlood.is (or_flood-count c.in-AddFlood.ts c.args.pred c.args.terms.now call.result (sym c.is_same-in-AddFlood.ensures ∙ c.if-is_same-4.true) call.ensures.count call.ensures.few)

pub returns-else-is_same-4 : goal.returns-else-is_same-4
returns-else-is_same-4 c = rw c.in-AddFlood.is (or_flood-other c.in-AddFlood.ts c.args.pred c.args.terms.now (sym c.is_same-in-AddFlood.ensures ∙ c.if-is_same-4.false))

pub returns-then-is_same-5 : goal.returns-then-is_same-5
returns-then-is_same-5 c =
    let call = c.count_of_same-then-is_same-5 in
    rw c.in-FixPacket.is (is_row-count c.in-FixPacket.ts c.args.pred c.args.terms.now call.result (sym c.is_same-in-FixPacket.ensures ∙ c.if-is_same-5.true) call.ensures.count call.ensures.few)

pub returns-else-is_same-5 : goal.returns-else-is_same-5
returns-else-is_same-5 c = rw c.in-FixPacket.is (is_row-other c.in-FixPacket.ts c.args.pred c.args.terms.now (sym c.is_same-in-FixPacket.ensures ∙ c.if-is_same-5.false))

pub returns-in-NoPacket : goal.returns-in-NoPacket
returns-in-NoPacket c = rw c.in-NoPacket.is (no_row-count c.args.pred c.args.terms.now)
