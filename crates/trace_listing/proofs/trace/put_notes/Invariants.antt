use Rattle.std.proofs.Common.{◌≡◌, ◌+◌, ◌≤◌, ◌&&◌, [], ◌++◌, length}
use Rattle.trace_listing.specs.Traces.{standing_of, traced}
use Rattle.trace_listing.proofs.trace.put_notes.Given as goal

abbrev pub invariant-notes : goal.invariant-notes
invariant-notes l = record {
  text : l.out.items ++ (traced l.program l.network l.number (standing_of l.progress) l.rest).text ≡ l.fn.out.items ++ (traced l.program l.network 1 (standing_of l.fn.progress) l.notes).text;
  last : (traced l.program l.network l.number (standing_of l.progress) l.rest).last ≡ (traced l.program l.network 1 (standing_of l.fn.progress) l.notes).last;
  unbroken : (l.unbroken && (traced l.program l.network l.number (standing_of l.progress) l.rest).unbroken) ≡ (traced l.program l.network 1 (standing_of l.fn.progress) l.notes).unbroken;
  pairs : l.env.pairs ≡ [];
  room : l.env.room ≡ 24;
  number : l.number + length l.rest ≡ length l.notes + 1;
  count : l.progress.count + length l.rest ≤ length l.notes;
}

abbrev pub decreases-notes : goal.decreases-notes
decreases-notes l = length l.rest
