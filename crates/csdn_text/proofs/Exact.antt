-- A text reads as one tree, or is refused for one reason, and not both.
use Rattle.std.proofs.Common.{◌≡◌, ℕ, inl, inr, List, [], ◌∷◌, ◌++◌, Bool, true, false, ltb, Result, Ok, Err, MatchResult, refl, subst, ap, ◌∙◌, append_assoc, length, arith}
use Rattle.std.proofs.lemmas.Bool.{ltb-true, ltb-false}
use Rattle.std.proofs.lemmas.Result.{MatchResult-weaker}
use Rattle.csdn_tokens.specs.Lex.{Lexes}
use Rattle.csdn_tokens.specs.declared.Kind.TheVariants as k
use Rattle.csdn_tokens.specs.declared.Token.{Token}
use Rattle.csdn_tokens.proofs.Runs.{lexes_one}
use Rattle.csdn_tokens.proofs.Total.{lexes_some, nothing_behind}
use Rattle.csdn_tree.specs.declared.syntax.RawProgram.{RawProgram}
use Rattle.csdn_text.specs.declared.TextRefusal.{TextRefusal}
use Rattle.csdn_text.specs.declared.TextRefusal.TheVariants.{TooLong}
use Rattle.csdn_text.specs.Derives.{Mark, tokens_of, Derives}
use Rattle.csdn_text.specs.Derives.Derives.{nothing, one, by_rule}
use Rattle.csdn_text.specs.Reading.{whole, ReadsTokens, Reads, IsRefusedTokens, IsRefusedText, HasOneAnswer}
use Rattle.csdn_text.specs.Reading.IsRefusedText.{long, within_limit}
use Rattle.csdn_text.specs.Answers.{IsTokensRefusal}
use Rattle.csdn_text.proofs.Theory.{tokens-append}
use Rattle.csdn_text.proofs.Faults.{Counts}
use Rattle.csdn_text.proofs.Whole.{tokens_taken, tokens_failed, reads_one}
use Rattle.csdn_text.proofs.Refusals.{not_refused_tokens, refused_one}
use Rattle.csdn_text.proofs.Total.{Decided, decided}
use Rattle.csdn_text.proofs.Total.Decided.{takes, fails}

-- the last token of a program is the end
ends : {ms : List Mark} {raw : RawProgram} {stop : Token} → Derives 1 whole ms (raw, (stop, tt)) → (before : List Token) × (tokens_of ms ≡ before ++ stop ∷ []) × (stop.kind ≡ k.Stop)
ends (by_rule {ms = ms} {ms' = ms'} r is inner (one kind nothing)) = (tokens_of ms, tokens-append ms ms', kind)

-- a text reads as a program to its last token
to_the_end : {text : List ℕ} {ts : List Token} {raw : RawProgram} (h : ReadsTokens ts raw) → Lexes 0 text ts → ts ≡ tokens_of h.marks ++ []
to_the_end h lexes =
    let e = ends h.program.derives in
    let split = h.spelled ∙ ap (λ xs. xs ++ h.rest) e.1 ∙ append_assoc e.0 (h.program.stop ∷ []) h.rest in
    h.spelled ∙ ap (λ xs. tokens_of h.marks ++ xs) (nothing_behind lexes e.0 h.program.stop h.rest split e.2)

-- a text that reads is not refused
pub not_refused : {text : List ℕ} {raw : RawProgram} {f : TextRefusal} → Reads text raw → IsRefusedText text f → ⊥
not_refused reads (long many) = let short = reads.short in omega (arith, short, many)
not_refused {f = f} reads (within_limit ts short lexes why) =
    let tokens = reads.reads in
    not_refused_tokens tokens.marks tokens.program tokens.within (to_the_end tokens reads.lexes) (subst (λ xs. IsRefusedTokens xs f) (lexes_one lexes reads.lexes) why)

one_answer : (text : List ℕ) (r r' : Result RawProgram TextRefusal) → MatchResult r (Reads text) (IsRefusedText text) → MatchResult r' (Reads text) (IsRefusedText text) → r ≡ r'
one_answer text (Ok raw) (Ok raw') h h' = ap Ok (reads_one h h')
one_answer text (Ok raw) (Err f) h h' = absurd (not_refused h h')
one_answer text (Err f) (Ok raw) h h' = absurd (not_refused h' h)
one_answer text (Err f) (Err f') h h' = ap Err (refused_one h h')

certain : {ts : List Token} (f : TextRefusal) → Counts f → IsTokensRefusal ts f → IsRefusedTokens ts f
certain f counts (inl memory) = absurd (subst Counts memory counts)
certain f counts (inr why) = why

tokens_answer : {ts : List Token} → Decided 1 whole ts → (r : Result RawProgram TextRefusal) × MatchResult r (ReadsTokens ts) (IsRefusedTokens ts)
tokens_answer (takes {vs = vs} taken) = (Ok vs.0, tokens_taken taken)
tokens_answer (fails {f = f} fault counts) = (Err f, certain f counts (tokens_failed fault))

some_answer : (text : List ℕ) (b : Bool) → ltb 65536 (length text) ≡ b → (r : Result RawProgram TextRefusal) × MatchResult r (Reads text) (IsRefusedText text)
some_answer text true many = (Err TooLong, long (ltb-true 65536 (length text) many))
some_answer text false few =
    let short = ltb-false 65536 (length text) few in
    let lexed = lexes_some text in
    let found = tokens_answer (decided lexed.0) in (
      found.0,
      MatchResult-weaker found.0 found.1 (λ raw reads. record { short = short; tokens = lexed.0; lexes = lexed.1; reads = reads })
          (λ f why. within_limit lexed.0 short lexed.1 why),
    )

pub has_one_answer : (text : List ℕ) → HasOneAnswer text
has_one_answer text =
    let found = some_answer text (ltb 65536 (length text)) refl in
    record { answer = found.0; is = found.1; only = λ other h. one_answer text other found.0 h found.1 }
