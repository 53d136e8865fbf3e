use Rattle.of10_speech.proofs.Following.{follows_nothing, following_next, following_stops, following_closed}
use Rattle.of10_speech.proofs.Beginnings.{following_more, following_begins, hears_behind}
use Rattle.of10_speech.proofs.Breaks.{breaks_asked, breaks_full}
use Rattle.of10_speech.proofs.laws.any_pieces.Goals as goal

pub returns-clause-new : goal.returns-clause-new
returns-clause-new c = follows_nothing

pub returns-clause-more : goal.returns-clause-more
returns-clause-more c = following_more

pub returns-clause-behind : goal.returns-clause-behind
returns-clause-behind c = hears_behind

pub returns-clause-next : goal.returns-clause-next
returns-clause-next c = following_next

pub returns-clause-stops : goal.returns-clause-stops
returns-clause-stops c = following_stops

pub returns-clause-closed : goal.returns-clause-closed
returns-clause-closed c = following_closed

pub returns-clause-cut_off : goal.returns-clause-cut_off
returns-clause-cut_off c = following_begins

pub returns-clause-full : goal.returns-clause-full
returns-clause-full c = breaks_full

pub returns-clause-asked : goal.returns-clause-asked
returns-clause-asked c = breaks_asked
