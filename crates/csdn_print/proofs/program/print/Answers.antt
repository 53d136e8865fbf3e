use Rattle.std.proofs.Common.{rules, ◌≡◌, ◌≤◌, List, ℕ, length, sym, subst}
use Rattle.csdn_print.specs.Programs.{program_text}
use Rattle.csdn_print.specs.Again.{ReadsAgain}
use Rattle.csdn_print.proofs.Law.{printed_again}
use Rattle.csdn_print.proofs.program.print.Goals as goal

pub returns-clause-again : goal.returns-clause-again
returns-clause-again c = λ text reads.
    let is : c.put_items.new.out.items ≡ program_text c.args.raw.now = search rules in
    subst (λ (bytes : List ℕ). length bytes ≤ 65536 → ReadsAgain bytes c.args.raw.now) (sym is) (printed_again text c.args.raw.now reads)
