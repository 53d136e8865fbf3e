-- Which links a listener in memory gives.
use Rattle.std.specs.Prelude.{◌≡◌, ◌⊎◌, false, List, [], ◌∷◌, reverse, Result, Ok, Err}
use Rattle.vericon_edge.specs.declared.fault.Failed.{Failed}
use Rattle.vericon_edge.specs.FaultPlan.{IsNextDue}
use Rattle.vericon_links.specs.declared.listener.Arrival.{Arrival}
use Rattle.vericon_links.specs.declared.listener.Arrival.TheVariants.{Came, Closed}
use Rattle.vericon_links.specs.declared.mem_link.LinkScript.{LinkScript}
use Rattle.vericon_links.specs.declared.mem_link.MemLink.{MemLink}
use Rattle.vericon_links.specs.declared.mem_listener.MemListener.{MemListener}
use Rattle.vericon_links.specs.MemLinks.{script_of}

-- the scripts of the links that are still to come, in their order
abbrev pub coming : MemListener → List LinkScript
coming listener = reverse listener.coming.items

-- the next accept fails: it is planned so, or nobody listens
abbrev pub AcceptFails : MemListener → Type 0
AcceptFails listener = IsNextDue listener.accepts ⊎ (listener.listens_now ≡ false)

-- Of an accept: the scripts before and after. The first link came, or there was none, or the call failed.
abbrev pub ComesNext : List LinkScript → List LinkScript → Result (Arrival MemLink) Failed → Type 0
ComesNext old new (Ok (Came link)) = old ≡ script_of link ∷ new
ComesNext old new (Ok Closed) = (old ≡ []) × (new ≡ [])
ComesNext old new (Err fault) = new ≡ old
