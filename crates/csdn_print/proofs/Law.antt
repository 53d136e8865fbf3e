-- What is printed of a tree that a text reads as reads as the tree again.
use Rattle.std.proofs.Common.{ℕ, ◌≤◌, List, [], ◌∷◌, ◌++◌, length, subst}
use Rattle.csdn_tokens.specs.declared.Token.{Token}
use Rattle.csdn_tree.specs.declared.syntax.RawItem.{RawItem}
use Rattle.csdn_tree.specs.declared.syntax.RawProgram.{RawProgram}
use Rattle.csdn_text.specs.Derives.{tokens_of}
use Rattle.csdn_text.specs.Machine.{limit}
use Rattle.csdn_text.specs.Reading.{Reads}
use Rattle.text_facts.proofs.Tokens.{AreFine, tokens_fine}
use Rattle.csdn_print.specs.Again.{ReadsAgain}
use Rattle.csdn_print.specs.Programs.{items_text, program_text}
use Rattle.csdn_print.proofs.Prints.{ItemsPrint}
use Rattle.csdn_print.proofs.ItemTexts.{printed_reads}
use Rattle.csdn_print.proofs.Fits.{HasItem, goods}

fine_first : (ts rest : List Token) → AreFine (ts ++ rest) → AreFine ts
fine_first [] rest h = tt
fine_first (t ∷ ts) rest h = (h.0, fine_first ts rest h.1)

items_again : (xs : List RawItem) → HasItem xs × ItemsPrint limit 1 xs → length (items_text xs) ≤ 65536 → ReadsAgain (items_text xs) (record { items = xs })
items_again [] h short = absurd h.0
items_again (x ∷ xs) h short = printed_reads x xs h.1 short

pub printed_again : (text : List ℕ) (raw : RawProgram) → Reads text raw → length (program_text raw) ≤ 65536 → ReadsAgain (program_text raw) raw
printed_again text raw h short =
    let fine = fine_first (tokens_of h.reads.marks) h.reads.rest (subst AreFine h.reads.spelled (tokens_fine h.lexes)) in
    let good = goods limit h.reads.program.derives h.reads.within fine in
    items_again raw.items good.0 short
