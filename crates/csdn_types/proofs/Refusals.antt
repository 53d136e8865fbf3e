-- The refusal of a program.
use Rattle.std.proofs.Common.{◌≡◌, sym, subst, inl, Result, Ok, Err, MatchResult}
use Rattle.std.specs.Result.{IsErrAnd}
use Rattle.csdn_core.specs.declared.program.Parts.{Parts}
use Rattle.csdn_types.specs.declared.refusal.SortRefusal.{SortRefusal}
use Rattle.csdn_types.specs.declared.refusal.SortRefusal.TheVariants.{Memory}
use Rattle.csdn_tree.specs.declared.syntax.RawProgram.{RawProgram}
use Rattle.csdn_tree.specs.FromText.{IsFromText}
use Rattle.csdn_types.specs.Answers.{IsFirst}
use Rattle.csdn_types.specs.Programs.{ProgramDraft, items_faults}
use Rattle.csdn_types.specs.Resolved.{Types, IsRefusal, nothing_declared}
use Rattle.csdn_types.proofs.ItemOrder.{first_is_least}

refused : (raw : RawProgram) (e : SortRefusal) (d : ProgramDraft) → IsFromText raw → d ≡ nothing_declared → IsFirst (items_faults d raw.items) e → IsRefusal raw e
refused raw e d text is first = record { is = first_is_least nothing_declared raw.items 0 text.end text.places e (subst (λ x. IsFirst (items_faults x raw.items) e) is first) }

pub exit_refusal : (raw : RawProgram) (r : Result Parts SortRefusal) (e : SortRefusal) (d : ProgramDraft) → IsErrAnd r (λ x. x ≡ e) → IsFromText raw → d ≡ nothing_declared → IsFirst (items_faults d raw.items) e → MatchResult r (Types raw) (IsRefusal raw)
exit_refusal raw (Ok v) e d is text empty first = elim is [ ]
exit_refusal raw (Err x) e d is text empty first = subst (IsRefusal raw) (sym is) (refused raw e d text empty first)

pub exit_memory : (raw : RawProgram) (r : Result Parts SortRefusal) → IsErrAnd r (λ x. x ≡ Memory) → MatchResult r (Types raw) (IsRefusal raw)
exit_memory raw (Ok v) is = elim is [ ]
exit_memory raw (Err x) is = record { is = inl is }
