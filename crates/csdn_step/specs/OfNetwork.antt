-- What is done with a network names its elements alone.
use Rattle.std.specs.Prelude.{All, Contains}
use Rattle.csdn_core.specs.declared.event.Match.{Match}
use Rattle.csdn_core.specs.declared.event.Out.{Out}
use Rattle.csdn_core.specs.declared.event.Out.TheVariants.{Port, Flood}
use Rattle.csdn_core.specs.Network.{Network}
use Rattle.csdn_step.specs.Courses.{Course}

pub record IsMatchOf (N : Network) (m : Match) : Type 0 where
  pub switch : Contains N.switches m.s
  pub source : Contains N.hosts m.a
  pub target : Contains N.hosts m.b
  pub ingress : Contains N.ports m.i

abbrev pub IsOutOf : Network → Out → Type 0
IsOutOf N (Port o) = Contains N.ports o
IsOutOf N Flood = Unit {0}

pub record TellsElements (N : Network) (w : Course) : Type 0 where
  pub changed : All (IsMatchOf N) w.changed
  pub outs : All (IsOutOf N) w.outs
