-- One line more of a listing.
use Rattle.std.proofs.Common.{◌≡◌, ◌∙◌, sym, ap, subst, refl, ℕ, suc, ◌+◌, List, [], ◌∷◌, ◌++◌, drop, length, Some, append_assoc, append-nil, add-one}
use Rattle.std.specs.Prelude.{slice_get, option_map}
use Rattle.std.proofs.Math.Seq.{drop-cons}
use Rattle.std.proofs.lemmas.List.{length-map}
use Rattle.std.proofs.lemmas.Option.{same_Some, slice_get-map, slice_get_within, get_or_from_slice_get}
use Rattle.csdn_core.specs.declared.program.Parts.{Parts}
use Rattle.csdn_conditions.specs.declared.kinds.CondKind.{CondKind}
use Rattle.csdn_conditions.specs.declared.sentence.Condition.{Condition}
use Rattle.csdn_conditions.specs.Kinds.{kinds}
use Rattle.csdn_conditions.specs.Conditions.{condition, conditions}
use Rattle.condition_listing.specs.Listings.{IsListed, AddsLine}

-- the kind of a condition of a level is the one of its number
pub kind_is : (P : Parts) (n i : ℕ) (c : Condition) (kind : CondKind) → slice_get (conditions P n) i ≡ Some c → slice_get (kinds P n) i ≡ Some kind → kind ≡ c.kind
kind_is P n i c kind there is =
    ap (λ (k : Condition). k.kind) (same_Some (condition P n kind) c (sym (ap (option_map (condition P n)) is) ∙ sym (slice_get-map (condition P n) (kinds P n) i) ∙ there))

pub drop_is : (cs : List Condition) (i : ℕ) (c : Condition) → slice_get cs i ≡ Some c → drop i cs ≡ c ∷ drop (i + 1) cs
drop_is cs i c there =
    drop-cons cs i c (slice_get_within cs i c there)
    ∙ ap (λ x. x ∷ drop (suc i) cs) (get_or_from_slice_get cs i c c there)
    ∙ ap (λ k. c ∷ drop k cs) (sym (add-one i))

-- what was printed, and then the listing of the rest, is the listing of all
abbrev pub GoesOn : Parts → ℕ → List Condition → ℕ → List ℕ → Type 0
GoesOn P size cs i out = (rest : List ℕ) → IsListed P size i (drop i cs) rest → IsListed P size 0 cs (out ++ rest)

pub begins : (P : Parts) (size : ℕ) (cs : List Condition) (out : List ℕ) → out ≡ [] → GoesOn P size cs 0 out
begins P size cs out is = λ rest listed. subst (λ t. IsListed P size 0 cs (t ++ rest)) (sym is) listed

pub goes_on : (P : Parts) (size : ℕ) (cs : List Condition) (i : ℕ) (c : Condition) (out new : List ℕ) → slice_get cs i ≡ Some c → AddsLine P size i c out new → GoesOn P size cs i out → GoesOn P size cs (i + 1) new
goes_on P size cs i c out new there (line, is_line, new_is) before = λ rest listed.
    let front : IsListed P size i (drop i cs) (line ++ rest) = subst (λ ds. IsListed P size i ds (line ++ rest)) (sym (drop_is cs i c there)) (line, rest, is_line, listed, refl) in
    subst (λ t. IsListed P size 0 cs t) (sym (append_assoc out line rest) ∙ sym (ap (λ t. t ++ rest) new_is)) (before (line ++ rest) front)

pub ends : (P : Parts) (size : ℕ) (cs : List Condition) (i : ℕ) (out : List ℕ) → drop i cs ≡ [] → GoesOn P size cs i out → IsListed P size 0 cs out
ends P size cs i out none before = subst (λ t. IsListed P size 0 cs t) (append-nil out) (before [] (subst (λ ds. IsListed P size i ds []) (sym none) refl))

-- there are as many conditions as kinds
pub as_many : (P : Parts) (n : ℕ) → length (conditions P n) ≡ length (kinds P n)
as_many P n = length-map (kinds P n) (condition P n)
