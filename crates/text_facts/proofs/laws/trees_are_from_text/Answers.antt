use Rattle.text_facts.proofs.Facts.{from_text}
use Rattle.text_facts.proofs.laws.trees_are_from_text.Goals as goal

pub returns : goal.returns
returns c = from_text
