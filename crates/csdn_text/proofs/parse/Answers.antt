use Rattle.std.proofs.Common.{refl, sym, subst, inl, inr, arith}
use Rattle.csdn_tokens.specs.Lex.{Lexes}
use Rattle.csdn_text.specs.Reading.{IsTextRefusal}
use Rattle.csdn_text.specs.Reading.IsRefusedText.{long}
use Rattle.csdn_text.proofs.Whole.{exit, text_answer}
use Rattle.csdn_text.proofs.parse.Goals as goal

pub returns-then-text-gt-LONGEST-clause-reads : goal.returns-then-text-gt-LONGEST-clause-reads
returns-then-text-gt-LONGEST-clause-reads c = inr (long c.if-text-gt-LONGEST.true)

pub returns-in_err-tokens-clause-reads : goal.returns-in_err-tokens-clause-reads
returns-in_err-tokens-clause-reads c = exit _ (IsTextRefusal c.args.text.now) _ c.from_residual.ensures.1 (inl refl)

pub returns-in_err-tokens-clause-too_long : goal.returns-in_err-tokens-clause-too_long
returns-in_err-tokens-clause-too_long c = λ many. absurd (omega (arith, many, c.if-text-gt-LONGEST.false))

pub returns-clause-reads : goal.returns-clause-reads
returns-clause-reads c =
    text_answer _ c.if-text-gt-LONGEST.false (subst (λ xs. Lexes 0 c.args.text.now xs) (sym c.deref.ensures.value) c.in_ok-tokens.ensures) c.parse_tokens.ensures

pub returns-clause-too_long : goal.returns-clause-too_long
returns-clause-too_long c = λ many. absurd (omega (arith, many, c.if-text-gt-LONGEST.false))
