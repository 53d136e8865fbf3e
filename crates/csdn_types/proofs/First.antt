-- The first of several lists of faults.
use Rattle.std.proofs.Common.{◌≡◌, List, [], ◌∷◌, ◌++◌, refl, inl, inr, sym, subst, Result, Ok, Err}
use Rattle.std.specs.Result.{IsErrAnd}
use Rattle.csdn_types.specs.declared.refusal.SortRefusal.{SortRefusal}
use Rattle.csdn_types.specs.declared.refusal.SortRefusal.TheVariants.{Memory}
use Rattle.csdn_types.specs.Programs.{Passes}
use Rattle.csdn_types.specs.Answers.{IsFirst, Answers}

pub first_is : (e : SortRefusal) (faults : List SortRefusal) → IsFirst (e ∷ faults) e
first_is e faults = record { is = inr refl }

pub memory_is : (faults : List SortRefusal) → IsFirst faults Memory
memory_is faults = record { is = inl refl }

pub first_here : (xs ys : List SortRefusal) (e : SortRefusal) → IsFirst xs e → IsFirst (xs ++ ys) e
first_here [] ys e first = elim first.is [ inl memory ↦ record { is = inl memory } | inr none ↦ absurd cc ]
first_here (x ∷ xs) ys e first = record { is = first.is }

pub first_after : (xs ys : List SortRefusal) (e : SortRefusal) → xs ≡ [] → IsFirst ys e → IsFirst (xs ++ ys) e
first_after xs ys e none first = rw none first

pub free_both : (xs ys : List SortRefusal) → xs ≡ [] → ys ≡ [] → xs ++ ys ≡ []
free_both xs ys left right = rw (left, right)

pub ruleset first_steps = (first_is, memory_is, first_here, first_after, free_both)

-- the exit of a `?` passes the refusal on
pub exit : {A : Type 0} (faults : List SortRefusal) (value : A) (r : Result A SortRefusal) (e : SortRefusal) → IsErrAnd r (λ x. x ≡ e) → IsFirst faults e → Answers faults value r
exit faults value (Ok v) e is first = elim is [ ]
exit faults value (Err x) e is first = subst (IsFirst faults) (sym is) first

-- .. or want of memory
pub exit_memory : {A : Type 0} (faults : List SortRefusal) (value : A) (r : Result A SortRefusal) → IsErrAnd r (λ x. x ≡ Memory) → Answers faults value r
exit_memory faults value r is = exit faults value r Memory is (memory_is faults)

pub exit_passes : {A : Type 0} (faults : List SortRefusal) (r : Result A SortRefusal) (e : SortRefusal) → IsErrAnd r (λ x. x ≡ e) → IsFirst faults e → Passes faults r
exit_passes faults (Ok v) e is first = elim is [ ]
exit_passes faults (Err x) e is first = subst (IsFirst faults) (sym is) first
