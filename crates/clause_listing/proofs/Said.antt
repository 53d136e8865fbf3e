-- What was appended is what is said of a block.
use Rattle.std.proofs.Common.{◌≡◌, ◌<◌, ◌≤◌, ◌-◌, ℕ, Bool, true, false, ◌&&◌, length, take, drop, get_or, arith, List, [], ◌∷◌, ◌++◌, map, None, Result, Ok, Err, OnOk, refl, sym, ap, ◌∙◌, subst}
use Rattle.std.specs.Prelude.{codes}
use Rattle.std.specs.List.{flat_map}
use Rattle.std.proofs.lemmas.List.{append_assoc, append-nil}
use Rattle.std.proofs.Math.Bool.{and_assoc}
use Rattle.std.proofs.lemmas.Bool.{false≢true}
use Rattle.general_facts.proofs.Lists.{rest_is}
use Rattle.clause_log.specs.Literals.{ClauseList, IsModel}
use Rattle.clause_log.specs.Refutations.{Step}
use Rattle.clause_search.specs.Outcomes.{IsRefutationOf}
use Rattle.text_lines.specs.Printed.{line_text, spaced}
use Rattle.log_text.specs.LogText.{step_words}
use Rattle.log_text.specs.declared.block.Block.{Block}
use Rattle.clause_listing.specs.Answers.{AreNamed, IsAnswer, has_model, is_refuted, IsSaid, model_words, passes}
use Rattle.clause_listing.specs.Listings.{AreListed, all_pass}

-- an answer was appended
abbrev pub Adds : ClauseList → List ℕ → List ℕ → Type 0
Adds c old new = (said : List ℕ) × IsAnswer c said × (new ≡ old ++ said)

pub model_added : {T E : Type 0} (r : Result T E) (c : ClauseList) (v : ℕ → Bool) (atoms items old new : List ℕ) → IsModel v c.clauses → AreNamed c.clauses items → atoms ≡ items
    → OnOk r (new ≡ old ++ (codes ": model" ++ spaced (model_words v atoms) ++ codes "\n")) → OnOk r (Adds c old new)
model_added (Ok x) c v atoms items old new model named same is =
    let named_too : AreNamed c.clauses atoms = subst (λ z. AreNamed c.clauses z) (sym same) named in
    (codes ": model" ++ spaced (model_words v atoms) ++ codes "\n", has_model v atoms model named_too refl, is)
model_added (Err x) c v atoms items old new model named same is = is

pub answer_said : (b : Block) (old mid new : List ℕ) → b.log ≡ None → mid ≡ old ++ b.name → Adds b.clauses mid new → (said : List ℕ) × IsSaid b.clauses b.log said × (new ≡ old ++ (b.name ++ said))
answer_said b old mid new none named added =
    (added.0, subst (λ z. IsSaid b.clauses z added.0) (sym none) added.1, added.2 ∙ ap (λ z. z ++ added.0) named ∙ append_assoc old b.name added.0)

-- one block on
pub listed_on : (all : List Block) (b : Block) (bs : List Block) (text said new : List ℕ) → ((t : List ℕ) → AreListed (b ∷ bs) t → AreListed all (text ++ t)) → IsSaid b.clauses b.log said → new ≡ text ++ (b.name ++ said)
    → (t : List ℕ) → AreListed bs t → AreListed all (new ++ t)
listed_on all b bs text said new goes is added t rest =
    let same : text ++ (b.name ++ said ++ t) ≡ new ++ t = sym (append_assoc text (b.name ++ said) t) ∙ sym (ap (λ z. z ++ t) added) in
    subst (AreListed all) same (goes (b.name ++ said ++ t) (said, t, is, rest, refl))

pub refutation_added : {T E : Type 0} (r : Result T E) (c : ClauseList) (log : List Step) (old new : List ℕ) → IsRefutationOf c log
    → OnOk r (new ≡ old ++ (codes ": refuted\n" ++ flat_map line_text (map step_words log))) → OnOk r (Adds c old new)
refutation_added (Ok x) c log old new refuted is = (codes ": refuted\n" ++ flat_map line_text (map step_words log), is_refuted log refuted refl, is)
refutation_added (Err x) c log old new refuted is = is

-- what is kept over the blocks
abbrev pub Kept : List Block → List Block → List ℕ → Bool → Type 0
Kept all rest text good = ((t : List ℕ) → AreListed rest t → AreListed all (text ++ t)) × ((good && all_pass rest) ≡ all_pass all)

pub and_true : (a b : Bool) → a ≡ true → b ≡ (a && b)
and_true true b e = refl
and_true false b e = absurd (false≢true e)

pub and_false : (a b : Bool) → a ≡ false → a ≡ (a && b)
and_false true b e = absurd (false≢true (sym e))
and_false false b e = refl

pub kept_on : (all rest : List Block) (b : Block) (text new : List ℕ) (before good now : Bool) → 1 ≤ length rest → b ≡ get_or rest 0 b → Kept all rest text before
    → ((said : List ℕ) × IsSaid b.clauses b.log said × (new ≡ text ++ (b.name ++ said))) → good ≡ passes b.clauses b.log → now ≡ (before && good) → Kept all (take (length rest - 1) (drop 1 rest)) new now
kept_on all [] b text new before good now some first kept added is next = absurd (omega (arith, some))
kept_on all (x ∷ xs) b text new before good now some first kept added is next =
    let same : take (length (x ∷ xs) - 1) (drop 1 (x ∷ xs)) ≡ xs = rest_is x xs in
    let head : Kept all (b ∷ xs) text before = subst (λ z. Kept all (z ∷ xs) text before) (sym first) kept in
    subst (λ z. Kept all z new now) (sym same) (
      listed_on all b xs text added.0 new head.0 added.1 added.2,
      ap (λ z. z && all_pass xs) next ∙ and_assoc before good (all_pass xs) ∙ ap (λ z. before && (z && all_pass xs)) is ∙ head.1,
    )

pub kept_whole : (all rest : List Block) (text : List ℕ) (good : Bool) → length rest < 1 → Kept all rest text good → AreListed all text
kept_whole all [] text good none kept = subst (AreListed all) (append-nil text) (kept.0 [] refl)
kept_whole all (x ∷ xs) text good none kept = absurd (omega (arith, none))
