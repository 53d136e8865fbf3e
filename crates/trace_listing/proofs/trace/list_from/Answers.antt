use Rattle.std.proofs.Common.{◌++◌, ◌∙◌, sym, ap, subst}
use Rattle.csdn_run.specs.Standings.{Standing}
use Rattle.net_structs.specs.Rows.{held}
use Rattle.net_text.specs.NetText.{net_text}
use Rattle.trace_listing.specs.Traces.{IsEnding, standing_of, traced, last_case, has_last}
use Rattle.trace_listing.proofs.Ends.{stopped}
use Rattle.trace_listing.proofs.trace.list_from.Goals as goal

pub returns-then-is_stopped : goal.returns-then-is_stopped
returns-then-is_stopped c =
    let P = c.args.program.now in
    let N = c.args.network in
    let notes = c.args.notes.now in
    let y = held c.put_notes.new.progress.state in
    let opening = c.in_ok-progress.ensures.standing in
    stopped P N (held c.args.state) y notes c.put_notes.new.out.items c.in_ok-ending.ending (sym c.is_stopped.ensures ∙ c.if-is_stopped.true)
    (subst (λ (w : Standing). IsEnding (traced P N 1 w notes) c.in_ok-ending.ending y) opening c.in_ok-ending.ensures.ending)
    (c.in_ok-ending.ensures.text ∙ ap (λ t. t ++ (traced P N 1 (standing_of c.in_ok-progress.progress) notes).text) c.new-text.ensures.items ∙ ap (λ (w : Standing). (traced P N 1 w notes).text) opening)

pub returns : goal.returns
returns c =
    let P = c.args.program.now in
    let N = c.args.network in
    let notes = c.args.notes.now in
    let rows = c.put_notes.new.progress.state in
    let opening = c.in_ok-progress.ensures.standing in
    has_last rows c.in_ok-put_last.ensures.rising
    (subst (λ (w : Standing). IsEnding (traced P N 1 w notes) c.in_ok-ending.ending (held rows)) opening c.in_ok-ending.ensures.ending)
    (c.in_ok-put_last.ensures.text ∙ ap (λ t. t ++ net_text P (last_case N rows)) (c.in_ok-ending.ensures.text ∙ ap (λ t. t ++ (traced P N 1 (standing_of c.in_ok-progress.progress) notes).text) c.new-text.ensures.items ∙ ap (λ (w : Standing). (traced P N 1 w notes).text) opening))
    (sym c.is_stopped.ensures ∙ c.if-is_stopped.false)
