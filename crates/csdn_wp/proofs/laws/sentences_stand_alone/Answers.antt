use Rattle.std.proofs.Common.{refl}
use Rattle.csdn_core.specs.WellSorted.{signature}
use Rattle.csdn_wp.proofs.Sorting.{not_free, IsSortedIn-more}
use Rattle.csdn_wp.proofs.Sentences.{truth-packet}
use Rattle.csdn_core.specs.SortedIn.{no_scope, any_relation, no_rcv_this}
use Rattle.csdn_wp.proofs.laws.sentences_stand_alone.Goals as goal

pub returns-clause-closed : goal.returns-clause-closed
returns-clause-closed c P F sorted v = not_free (signature P) any_relation no_scope v refl F sorted

pub returns-clause-packet : goal.returns-clause-packet
returns-clause-packet c P N x packet F e sorted = truth-packet P N x packet no_scope F e sorted

pub returns-clause-any : goal.returns-clause-any
returns-clause-any c P F sorted = IsSortedIn-more (signature P) no_rcv_this any_relation (λ r named. tt) no_scope no_scope (λ v s is. is) F sorted
