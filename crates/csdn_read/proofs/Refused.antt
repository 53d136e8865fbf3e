-- From refusals of texts and trees to those of programs.
use Rattle.std.proofs.Common.{◌≡◌, ℕ, ◌⊎◌, inl, inr, List, Result, Ok, Err, MatchResult, subst}
use Rattle.std.specs.Result.{IsErrAnd}
use Rattle.csdn_tree.specs.declared.syntax.RawProgram.{RawProgram}
use Rattle.csdn_text.specs.declared.TextRefusal.{TextRefusal}
use Rattle.csdn_text.specs.Reading.{Reads, IsTextRefusal}
use Rattle.csdn_types.specs.declared.refusal.SortRefusal.{SortRefusal}
use Rattle.csdn_types.specs.declared.refusal.SortRefusal.TheVariants as sorts
use Rattle.csdn_types.specs.Order.{IsLeast}
use Rattle.csdn_types.specs.Resolved.{IsRefusal, broken_rules}
use Rattle.csdn_read.specs.declared.refusal.ProgramRefusal.{ProgramRefusal}
use Rattle.csdn_read.specs.declared.refusal.ProgramRefusal.TheVariants.{Memory, At}
use Rattle.csdn_read.specs.declared.refusal.ProgramWhy.{ProgramWhy}
use Rattle.csdn_read.specs.Refusals.{told_text, told_sorts}
use Rattle.csdn_read.specs.Programs.{IsNoProgram, has_no_tree, breaks_a_rule, IsProgramRefusal}

text_refused : (bytes : List ℕ) (e : TextRefusal) (told : ProgramRefusal) → IsTextRefusal bytes e → told ≡ told_text e → IsProgramRefusal bytes told
text_refused bytes e Memory refused is = tt
text_refused bytes e (At at why) (inl memory) is =
    let told : At at why ≡ Memory = subst (λ (x : TextRefusal). At at why ≡ told_text x) memory is in absurd cc
text_refused bytes e (At at why) (inr right) is = has_no_tree e right is

pub exit_text : {A : Type 0} (Right : A → Type 0) (bytes : List ℕ) (r : Result A ProgramRefusal) (e : TextRefusal) → IsErrAnd r (λ told. told ≡ told_text e) → IsTextRefusal bytes e
    → MatchResult r Right (IsProgramRefusal bytes)
exit_text Right bytes (Ok P) e is refused = elim is [ ]
exit_text Right bytes (Err told) e is refused = text_refused bytes e told refused is

broken_rule : (bytes : List ℕ) (tree : RawProgram) (at : ℕ) (why : ProgramWhy) (e : SortRefusal) → Reads bytes tree → (e ≡ sorts.Memory) ⊎ IsLeast (broken_rules tree) e → At at why ≡ told_sorts e → IsNoProgram bytes at why
broken_rule bytes tree at why e reads (inl memory) is =
    let told : At at why ≡ Memory = subst (λ (x : SortRefusal). At at why ≡ told_sorts x) memory is in cc
broken_rule bytes tree at why e reads (inr least) is = breaks_a_rule tree e reads least is

sorts_refused : (bytes : List ℕ) (tree : RawProgram) (e : SortRefusal) (told : ProgramRefusal) → Reads bytes tree → IsRefusal tree e → told ≡ told_sorts e → IsProgramRefusal bytes told
sorts_refused bytes tree e Memory reads refusal is = tt
sorts_refused bytes tree e (At at why) reads refusal is = broken_rule bytes tree at why e reads refusal.is is

pub exit_sorts : {A : Type 0} (Right : A → Type 0) (bytes : List ℕ) (tree : RawProgram) (r : Result A ProgramRefusal) (e : SortRefusal) → IsErrAnd r (λ told. told ≡ told_sorts e) → Reads bytes tree → IsRefusal tree e
    → MatchResult r Right (IsProgramRefusal bytes)
exit_sorts Right bytes tree (Ok P) e is reads refusal = elim is [ ]
exit_sorts Right bytes tree (Err told) e is reads refusal = sorts_refused bytes tree e told reads refusal is
