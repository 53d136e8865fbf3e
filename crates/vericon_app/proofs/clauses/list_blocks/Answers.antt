use Rattle.std.proofs.Common.{ℕ, List, sym, subst}
use Rattle.clause_listing.specs.Listings.{IsListing}
use Rattle.file_loads.proofs.Explaining.{if_ok}
use Rattle.vericon_app.specs.Clauses.{is_listing, is_refused}
use Rattle.vericon_app.proofs.clauses.list_blocks.Goals as goal

pub returns-in-Ok : goal.returns-in-Ok
returns-in-Ok c =
    is_listing c.in-Ok.listing.all_accepted (subst (λ (text : List ℕ). IsListing c.args.bytes.now text c.in-Ok.listing.all_accepted) (sym c.listed.ensures.text) c.in-Ok.ensures) c.listed.ensures.status

pub returns-in-Err-Line : goal.returns-in-Err-Line
returns-in-Err-Line c =
    if_ok c.refused_line.result _ _ (λ outcome says. is_refused c.in-Err-Line.number (rw c.in-Err-Line.field-0-is at c.in-Err-Line.ensures) says.0 says.1) c.refused_line.ensures
