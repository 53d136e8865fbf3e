-- A command's precondition, by the rules of programs.
use Rattle.std.proofs.Common.{List, Result, Ok, Err, IfOk, subst, sym, ◌∙◌, true≢false}
use Rattle.std.proofs.lemmas.Bool.{true_from_ne_false}
use Rattle.csdn_core.specs.declared.program.Parts.{Parts}
use Rattle.csdn_core.specs.declared.syntax.Formula.{Formula}
use Rattle.csdn_core.specs.declared.syntax.Command.{Command}
use Rattle.csdn_core.specs.Sorted.{Bind}
use Rattle.fol_forms.specs.declared.refusal.FormRefusal.{FormRefusal}
use Rattle.fol_forms.specs.Limits.{most_nodes}
use Rattle.csdn_wp.specs.Makes.{Makes}
use Rattle.csdn_wp.specs.Preconditions.{wp}
use Rattle.csdn_wp.specs.After.{MayPrecede, IsPrecondition, BreaksBefore, HaveElements}
use Rattle.csdn_wp.proofs.Exact.{IsExact, exact}
use Rattle.csdn_core.specs.Truth.{Assignment}
use Rattle.csdn_core.specs.Network.{Network, State, IsNetwork}
use Rattle.csdn_wp.proofs.Scopes.{precedes, precedes_in, precedes_new}
use Rattle.csdn_core.specs.SortedIn.{any_relation, scope_of}

both_halves : (P : Parts) (bs : List Bind) (c : Command) (q : Formula) → MayPrecede P bs c q → (N : Network) → IsNetwork P N → (e : Assignment) → HaveElements N bs e → (x : State) → IsExact P N c q e x
both_halves P bs c q may N network e have x =
    exact P N network any_relation (λ r named. tt) c q (scope_of bs) (precedes_in P bs c q may) (precedes_new P bs c q may) (precedes P bs c q may) e x have

pub breaks_before : (P : Parts) (bs : List Bind) (c : Command) (q : Formula) → MayPrecede P bs c q → BreaksBefore P bs c q (wp c q)
breaks_before P bs c q may N network e have x = (both_halves P bs c q may N network e have x).1

pub is_precondition : (P : Parts) (bs : List Bind) (c : Command) (q : Formula) → MayPrecede P bs c q → IsPrecondition P bs c q (wp c q)
is_precondition P bs c q may N network e have x =
    let halves = both_halves P bs c q may N network e have x in
    (halves.0, λ h. true_from_ne_false _ (λ isnt. (let end = halves.1 isnt in true≢false (sym (h end.0 end.1) ∙ end.2))))

pub made_precondition : (P : Parts) (c : Command) (q : Formula) (r : Result Formula FormRefusal) → Makes most_nodes (wp c q) r → IfOk r (λ made. (bs : List Bind) → MayPrecede P bs c q → IsPrecondition P bs c q made)
made_precondition P c q (Ok made) is = λ bs may. subst (IsPrecondition P bs c q) (sym is.0) (is_precondition P bs c q may)
made_precondition P c q (Err e) is = tt
