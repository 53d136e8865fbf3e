-- A closed formula is true where the formula is for all values of its binds.
use Rattle.std.proofs.Common.{◌≡◌, ◌↔◌, ℕ, ◌+◌, ◌-◌, ◌<◌, ◌≤◌, Bool, true, List, [], ◌∷◌, length, drop, get_or, Contains, IsTrue, refl, sym, ap, subst, ◌∙◌, arith}
use Rattle.std.proofs.lemmas.List.{drop_more}
use Rattle.std.specs.List.{list_all}
use Rattle.general_facts.proofs.Lists.{list_all-from}
use Rattle.std.proofs.lemmas.List.Sums.{AllPass-from_list_all}
use Rattle.std.proofs.lemmas.List.Elements.{All-contains}
use Rattle.csdn_core.specs.declared.syntax.Formula.{Formula}
use Rattle.csdn_core.specs.declared.syntax.Formula.TheVariants as f
use Rattle.csdn_core.proofs.Shapes.{Forall-is}
use Rattle.csdn_core.specs.Truth.{Structure, Assignment, truth, with_var}
use Rattle.csdn_core.specs.Nodes.{nodes}
use Rattle.fol_forms.specs.declared.close.Bind.{Bind}
use Rattle.fol_forms.specs.Closed.{closed, IsTrueForAll}

-- a list of which each element passes, at an element
pub all_at : (test : ℕ → Bool) (xs : List ℕ) (m : ℕ) → Contains xs m → list_all test xs ≡ true → test m ≡ true
all_at test xs m there all = All-contains (λ k. test k ≡ true) xs m (AllPass-from_list_all test xs all) there

module _ (M : Structure) where
  closed_true : (bs : List Bind) (p : Formula) (e : Assignment) → IsTrueForAll M bs p e → IsTrue (truth M (closed bs p) e)
  unfolding truth
  closed_true [] p e true_for = true_for e refl
  closed_true (b ∷ bs) p e true_for =
      list_all-from _ (M.elements b.sort) (λ m there. closed_true bs p (with_var e b.var m) (λ d gives. true_for d (m, there, gives)))

  true_for_all : (bs : List Bind) (p : Formula) (e : Assignment) → IsTrue (truth M (closed bs p) e) → IsTrueForAll M bs p e
  unfolding truth
  true_for_all [] p e h d is = subst (λ z. IsTrue (truth M p z)) (sym is) h
  true_for_all (b ∷ bs) p e h d (m, there, gives) =
      true_for_all bs p (with_var e b.var m) (all_at (λ z. truth M (closed bs p) (with_var e b.var z)) (M.elements b.sort) m there h) d gives

  pub truth-closed : (bs : List Bind) (p : Formula) (e : Assignment) → IsTrue (truth M (closed bs p) e) ↔ IsTrueForAll M bs p e
  truth-closed bs p e = (true_for_all bs p e, closed_true bs p e)

pub nodes-closed : (bs : List Bind) (p : Formula) → nodes (closed bs p) ≡ nodes p + length bs
unfolding nodes
nodes-closed [] p = omega arith
nodes-closed (b ∷ bs) p = let rest = nodes-closed bs p in omega (arith, rest)

-- one bind more, from the end
pub closed_more : (bs : List Bind) (i : ℕ) (d : Bind) (p : Formula) → i < length bs → f.Forall (get_or bs i d).var (get_or bs i d).sort (closed (drop (i + 1) bs) p) ≡ closed (drop i bs) p
closed_more bs i d p within = Forall-is _ _ _ ∙ ap (λ z. closed z p) (sym (drop_more bs i d within))

-- the same, by how many binds are left
pub closed_before : (bs : List Bind) (left : ℕ) (d : Bind) (p : Formula) → 0 < left → left ≤ length bs → f.Forall (get_or bs (left - 1) d).var (get_or bs (left - 1) d).sort (closed (drop left bs) p) ≡ closed (drop (left - 1) bs) p
closed_before bs left d p some within =
    let next : left ≡ (left - 1) + 1 = omega arith in
    ap (λ k. f.Forall (get_or bs (left - 1) d).var (get_or bs (left - 1) d).sort (closed (drop k bs) p)) next ∙ closed_more bs (left - 1) d p (omega arith)
