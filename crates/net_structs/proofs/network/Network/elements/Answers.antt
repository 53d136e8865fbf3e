use Rattle.std.proofs.lemmas.Map.Keys.{IsStrictlyIncreasing-from_sorted}
use Rattle.net_structs.proofs.network.Network.elements.Goals as goal

pub returns-in-Sw-clause-rising : goal.returns-in-Sw-clause-rising
returns-in-Sw-clause-rising c = rw c.as_slice.ensures (IsStrictlyIncreasing-from_sorted _ c.self.invariant.0)

pub returns-in-Ho-clause-rising : goal.returns-in-Ho-clause-rising
returns-in-Ho-clause-rising c = rw c.as_slice-in-Ho.ensures (IsStrictlyIncreasing-from_sorted _ c.self.invariant.1)

pub returns-in-Pr-clause-rising : goal.returns-in-Pr-clause-rising
returns-in-Pr-clause-rising c = rw c.as_slice-in-Pr.ensures (IsStrictlyIncreasing-from_sorted _ c.self.invariant.2)
