-- What the private steps of reading answer.
use Rattle.std.specs.Prelude.{◌≡◌, ◌⊎◌, List, Result, Ok, Err}
use denote.Bor.{Bor}
use Rattle.csdn_tokens.specs.declared.Token.{Token}
use Rattle.csdn_text.specs.declared.TextRefusal.{TextRefusal}
use Rattle.csdn_text.specs.declared.TextRefusal.TheVariants.{Memory}
use Rattle.csdn_text.specs.Reading.{IsRefusedTokens}

-- what a token that is handed out by reference is
abbrev pub seen : {E : Type 0} → Result (Bor Token) E → Result Token E
seen (Ok t) = Ok t.now
seen (Err e) = Err e

-- what may be answered of tokens in place of a tree
abbrev pub IsTokensRefusal : List Token → TextRefusal → Type 0
IsTokensRefusal ts f = (f ≡ Memory) ⊎ IsRefusedTokens ts f
