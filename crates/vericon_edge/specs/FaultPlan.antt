-- Which calls are to fail.
use Rattle.std.specs.Prelude.{Contains}
use Rattle.vericon_edge.specs.declared.fault_plan.FaultPlan.{FaultPlan}

-- the call that comes next is one of those that are to fail
abbrev pub IsNextDue : FaultPlan → Type 0
IsNextDue plan = Contains plan.failing.items plan.calls
