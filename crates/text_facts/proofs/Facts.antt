-- What is said of trees from texts holds of each tree that a text reads as.
use Rattle.std.proofs.Common.{◌≡◌, ℕ, ◌+◌, ◌≤◌, List, [], ◌∷◌, ◌++◌, length, refl, sym, ap, subst, ◌∙◌, arith}
use Rattle.std.proofs.lemmas.List.Elements.{All-from_recursion}
use Rattle.csdn_core.specs.Names.{IsName}
use Rattle.csdn_core.specs.WellSorted.{IsNumeral}
use Rattle.csdn_tokens.specs.declared.Token.{Token}
use Rattle.csdn_tree.specs.declared.syntax.RawProgram.{RawProgram}
use Rattle.csdn_tree.specs.Numerals.{items_numerals}
use Rattle.csdn_tree.specs.FromText.{items_names, KeepsStatics, HasSeconds, IsFromText}
use Rattle.csdn_text.specs.Derives.{Mark, tokens_of}
use Rattle.csdn_text.specs.Reading.{Reads}
use Rattle.text_facts.proofs.Tokens.{Rise, AreFine, tokens_fine, tokens_rise, slack}
use Rattle.text_facts.proofs.Fewer.{items_fewer}
use Rattle.text_facts.proofs.Placed.{before, stood}
use Rattle.text_facts.proofs.Fine.{derived}

before-is : (ms : List Mark) (ts : List Token) → before ms ts ≡ tokens_of ms ++ ts
before-is [] ts = refl
before-is (m ∷ ms) ts = ap (λ (us : List Token). m.token ∷ us) (before-is ms ts)

fits : (text : List ℕ) → length text ≤ 65536 → 0 + length text + slack text ≤ 65538
fits [] h = omega arith
fits (b ∷ text) h = omega (arith, h)

pub from_text : (text : List ℕ) (raw : RawProgram) → Reads text raw → IsFromText raw
from_text text raw h =
    let ts : tokens_of h.reads.marks ++ h.reads.rest ≡ before h.reads.marks h.reads.rest = sym (before-is h.reads.marks h.reads.rest) in
    let same : h.tokens ≡ before h.reads.marks h.reads.rest = h.reads.spelled ∙ ts in
    let rise = subst (Rise 65538 0) same (tokens_rise 65538 h.lexes (fits text h.short)) in
    let fine = subst AreFine same (tokens_fine h.lexes) in
    let s = stood 65538 h.reads.program.derives 0 h.reads.rest (omega arith) rise in
    let d = derived h.reads.program.derives h.reads.rest fine in
    record {
      end = s.1.0;
      places = s.1.1;
      few = omega (arith, items_fewer raw.items 0 s.1.0 s.1.1, s.1.2.0, s.1.2.1, s.3);
      names = All-from_recursion IsName (items_names raw.items) d.0.0.0;
      numerals = All-from_recursion IsNumeral (items_numerals raw.items) d.0.0.1;
      statics = All-from_recursion KeepsStatics raw.items d.0.0.2;
      seconds = All-from_recursion HasSeconds raw.items d.0.0.3;
    }
