-- What a formula meets to stand after a command.
use Rattle.std.specs.Prelude.{◌≡◌, ◌≢◌, ◌↔◌, ℕ, ◌||◌, false, List, ◌++◌, map, AllPairs, IsTrue, IsFalse, Some, Contains}
use Rattle.csdn_core.specs.declared.program.Parts.{Parts}
use Rattle.csdn_core.specs.declared.syntax.Formula.{Formula}
use Rattle.csdn_core.specs.declared.syntax.Command.{Command}
use Rattle.csdn_core.specs.declared.syntax.Command.TheVariants.{Skip, Insert, Remove, Install, Uninstall, Forward, Flood}
use Rattle.csdn_core.specs.Tree.{sequence, conditional, choice}
use Rattle.csdn_core.specs.declared.terms.Sort.{Sort}
use Rattle.csdn_core.specs.Truth.{Assignment}
use Rattle.csdn_core.specs.Network.{Network, State, IsNetwork, elements}
use Rattle.csdn_core.specs.Execution.{is_true, Executes}
use Rattle.csdn_core.specs.Variables.{Variables, vars_of, free_in}
use Rattle.csdn_core.specs.Sorted.{Bind, bound_in}
use Rattle.csdn_core.specs.WellSorted.{OwnPacket, IsCommand, signature, command_bound_in}
use Rattle.csdn_core.specs.Members.{IsIn}
use Rattle.csdn_core.specs.SortedIn.{any_relation, IsSortedIn, scope_of}

-- the variables that stand in tuples of the command, or free in its conditions
unfoldable pub stands_in : Command → Variables
stands_in Skip w = false
stands_in (sequence a b) w = stands_in a w || stands_in b w
stands_in (conditional p a b) w = free_in p w || (stands_in a w || stands_in b w)
stands_in (choice v s p a b) w = free_in p w || (stands_in a w || stands_in b w)
stands_in (Insert r ts) w = vars_of ts w
stands_in (Remove r ts) w = vars_of ts w
stands_in (Install ts) w = vars_of ts w
stands_in (Uninstall ts) w = vars_of ts w
stands_in (Forward ts) w = vars_of ts w
stands_in (Flood ts) w = vars_of ts w

-- a command of the program in a scope, and a formula that may stand after it
pub record MayPrecede (P : Parts) (Γ : List Bind) (c : Command) (q : Formula) : Type 0 where
  pub own : OwnPacket
  pub command : IsCommand (signature P) own (scope_of Γ) c
  -- each variable has a number of its own
  pub apart : AllPairs (λ m n. m ≢ n) (map (λ b. b.var.0) Γ ++ command_bound_in c)
  pub formula : IsSortedIn (signature P) any_relation (scope_of Γ) q
  -- no variable of the command is bound in the formula
  pub stands_outside : (n : ℕ) → IsIn n (bound_in q) → IsTrue (stands_in c n) → ⊥
  pub bound_outside : (n : ℕ) → IsIn n (bound_in q) → IsIn n (command_bound_in c) → ⊥

-- each of these variables has an element of its sort
abbrev pub HaveElements : Network → List Bind → Assignment → Type 0
HaveElements N bs e = (v : ℕ) (s : Sort) → scope_of bs v ≡ Some s → Contains (elements N s) (e v)

-- the formula p is true, in each network and state and under each assignment to the variables in scope, exactly where every
-- execution of the command ends where q is true
abbrev pub IsPrecondition : Parts → List Bind → Command → Formula → Formula → Type 0
IsPrecondition P bs c q p =
    (N : Network) → IsNetwork P N → (e : Assignment) → HaveElements N bs e → (x : State) → IsTrue (is_true P N p e x) ↔ ((y : State) → Executes P N c e x y → IsTrue (is_true P N q e y))

-- .. and where it is false, some execution of the command ends where q is false
abbrev pub BreaksBefore : Parts → List Bind → Command → Formula → Formula → Type 0
BreaksBefore P bs c q p =
    (N : Network) → IsNetwork P N → (e : Assignment) → HaveElements N bs e → (x : State) → IsFalse (is_true P N p e x) → (y : State) × Executes P N c e x y × IsFalse (is_true P N q e y)
