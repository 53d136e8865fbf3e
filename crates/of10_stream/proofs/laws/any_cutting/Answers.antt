use Rattle.of10_stream.proofs.Cutting.{follows_new, follows_fed, follows_gone, cut_open, cut_refused, cuts-once, stream_frames}
use Rattle.of10_stream.proofs.laws.any_cutting.Goals as goal

pub returns-clause-new : goal.returns-clause-new
returns-clause-new c = follows_new

pub returns-clause-fed : goal.returns-clause-fed
returns-clause-fed c = follows_fed

pub returns-clause-gone : goal.returns-clause-gone
returns-clause-gone c = follows_gone

pub returns-clause-waiting : goal.returns-clause-waiting
returns-clause-waiting c = cut_open

pub returns-clause-refused : goal.returns-clause-refused
returns-clause-refused c = cut_refused

pub returns-clause-once : goal.returns-clause-once
returns-clause-once c = cuts-once

pub returns-clause-read : goal.returns-clause-read
returns-clause-read c = stream_frames
