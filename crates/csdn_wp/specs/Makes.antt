-- Answers of calls that make a form of limited size.
use Rattle.std.specs.Prelude.{◌≡◌, ℕ, ◌+◌, ◌<◌, ◌≤◌, Result, Ok, Err}
use Rattle.std.specs.declared.alloc.AllocError.{AllocError}
use Rattle.csdn_core.specs.declared.syntax.Formula.{Formula}
use Rattle.csdn_core.specs.Nodes.{nodes}
use Rattle.fol_forms.specs.declared.refusal.FormRefusal.{FormRefusal}
use Rattle.fol_forms.specs.declared.refusal.FormRefusal.TheVariants.{Large, Memory}

-- the formula, where it has at most this many nodes, and `Large` where it has more; or want of memory
abbrev pub Makes : ℕ → Formula → Result Formula FormRefusal → Type 0
Makes most p (Ok made) = (made ≡ p) × (nodes p ≤ most)
Makes most p (Err Large) = most < nodes p
Makes most p (Err Memory) = Unit {0}

-- this, or want of memory
abbrev pub Gives : {A : Type 0} → A → Result A FormRefusal → Type 0
Gives x (Ok given) = given ≡ x
Gives x (Err Large) = ⊥
Gives x (Err Memory) = Unit {0}

-- what is left of the room beside n nodes, and `Large` where there is no room for them
abbrev pub Leaves : ℕ → ℕ → Result ℕ FormRefusal → Type 0
Leaves room n (Ok left) = left + n ≡ room
Leaves room n (Err Large) = room < n
Leaves room n (Err Memory) = ⊥

-- the same, with want of memory as a refusal
abbrev pub IsWidened : {A : Type 0} → Result A AllocError → Result A FormRefusal → Type 0
IsWidened (Ok x) r = r ≡ Ok x
IsWidened (Err e) r = r ≡ Err Memory
