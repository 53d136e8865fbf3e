-- Terms, one more at a time.
use Rattle.std.proofs.Common.{◌≡◌, ℕ, ◌+◌, ◌<◌, ◌≤◌, List, [], ◌∷◌, ◌++◌, length, drop, get_or, sym, ◌∙◌, append_assoc, append-nil}
use Rattle.std.proofs.Math.ListN.{drop_of_length-le}
use Rattle.csdn_types.specs.declared.refusal.SortRefusal.{SortRefusal}
use Rattle.csdn_core.specs.declared.terms.Sort.{Sort}
use Rattle.csdn_core.specs.declared.terms.Term.{Term}
use Rattle.csdn_tree.specs.declared.names.RawTerm.{RawTerm}
use Rattle.csdn_types.specs.Scope.{Scope}
use Rattle.csdn_types.specs.Faults.{term_faults, terms_faults}
use Rattle.csdn_types.specs.Typed.{term_of, terms_of}
use Rattle.csdn_types.proofs.Lists.{drop-at, drop-item}

pub next_faults : (s : Scope) (sorts : List Sort) (raw : List RawTerm) (i : ℕ) (d : Sort) (t : RawTerm) → i < length sorts → i < length raw → t ≡ get_or raw i t → terms_faults s (drop i sorts) (drop i raw) ≡ term_faults s (get_or sorts i d) t ++ terms_faults s (drop (i + 1) sorts) (drop (i + 1) raw)
unfolding terms_faults
next_faults s sorts raw i d t in_sorts in_raw is = rw (drop-at sorts i d in_sorts, drop-item raw i t in_raw is)

pub next_term : (s : Scope) (raw : List RawTerm) (i : ℕ) (t : RawTerm) (done : List Term) → i < length raw → t ≡ get_or raw i t → terms_of s raw ≡ done ++ terms_of s (drop i raw) → terms_of s raw ≡ (done ++ term_of s t ∷ []) ++ terms_of s (drop (i + 1) raw)
next_term s raw i t done in_raw is made = rw (append_assoc, made, drop-item raw i t in_raw is)

pub no_more_faults : (s : Scope) (sorts : List Sort) (raw : List RawTerm) (i : ℕ) → length raw ≤ i → length sorts ≤ i → terms_faults s (drop i sorts) (drop i raw) ≡ []
unfolding terms_faults
no_more_faults s sorts raw i past past_sorts = rw (drop_of_length-le sorts past_sorts)

pub no_more_terms : (s : Scope) (raw : List RawTerm) (i : ℕ) (done : List Term) → length raw ≤ i → terms_of s raw ≡ done ++ terms_of s (drop i raw) → done ≡ terms_of s raw
no_more_terms s raw i done past made =
    let none : drop i raw ≡ [] = drop_of_length-le raw past in
    sym (made ∙ rw (none, append-nil))

-- a term that breaks no rule is passed
pub passed : (s : Scope) (sorts : List Sort) (raw : List RawTerm) (i : ℕ) (d : Sort) (t : RawTerm) (whole : List SortRefusal) → i < length sorts → i < length raw → t ≡ get_or raw i t → whole ≡ terms_faults s (drop i sorts) (drop i raw) → term_faults s (get_or sorts i d) t ≡ [] → whole ≡ terms_faults s (drop (i + 1) sorts) (drop (i + 1) raw)
passed s sorts raw i d t whole in_sorts in_raw is rest free = rest ∙ rw (next_faults s sorts raw i d t in_sorts in_raw is, free)
