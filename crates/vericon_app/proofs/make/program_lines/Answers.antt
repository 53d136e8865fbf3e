use Rattle.std.proofs.Common.{◌≡◌, ℕ, List, ◌++◌, ◌∙◌}
use Rattle.vericon_app.proofs.make.program_lines.Goals as goal

three : (made conditions said text first second third whole : List ℕ) → text ≡ made → second ≡ conditions → first ≡ text ++ second → third ≡ said → whole ≡ first ++ third → whole ≡ made ++ conditions ++ said
three made conditions said text first second third whole text_is second_is first_is third_is whole_is = cc

pub returns : goal.returns
returns c =
    record {
      said = c.in_ok-said.said.text.items;
      checked = c.in_ok-said.ensures;
      text_is = three _ _ _ c.in_ok-text.text.items _ _ _ _ c.in_ok-text.ensures (c.deref.ensures.value ∙ c.in_ok-conditions.ensures) c.in_ok-put_word.ensures c.deref-2.ensures.value c.in_ok-put_word-2.ensures;
    }
