use Rattle.std.proofs.Common.{◌≡◌, ℕ, suc, ◌+◌, ◌*◌, List, [], ◌∷◌, length, sym, ap, ◌∙◌, subst, arith}
use Rattle.std.specs.Prelude.{map}
use Rattle.std.specs.Vec.Iter.{into_iter_items, into_iter_len}
use Rattle.link_sessions.specs.Links.{LinkView, view_by}
use Rattle.session_workers.specs.Told.{told_given}
use Rattle.session_workers.specs.Endings.{GivenMore, numbered_from}
use Rattle.session_workers.proofs.Numbers.{later_number}
use Rattle.session_workers.proofs.Given.{given_next, given_none, none_left}
use Rattle.session_workers.proofs.giving.give_row.Goals as goal

pub links-preserved : goal.links-preserved
links-preserved g c =
    let see : g.row.N-Link.Denot → LinkView = view_by g.N.Link.Link.taken g.N.Link.Link.written g.N.Link.Link.closed g.N.Link.Link.is_shut g.N.Link.Link.read_faults g.N.Link.Link.write_faults in
    let inv = c.links.invariant in
    let w = c.args.terms.now.workers in
    let rest = into_iter_items c.next.new.self in
    let turn : into_iter_items c.links.link-iterator ≡ c.in-Some.link ∷ rest = c.in-Some.ensures.steps.0 in
    let one : length (into_iter_items c.links.link-iterator) ≡ suc (length rest) = ap (λ (l : List g.row.N-Link.Denot). length l) turn in
    record {
      as_many = let s = c.in-Some.ensures.steps.1 in let m = inv.as_many in omega arith;
      numbers = sym (later_number w c.links.number (length rest)) ∙ (ap (λ (m : ℕ). c.links.number + w * m) (sym one) ∙ inv.numbers);
      given = λ final more. inv.given final
          (subst (λ (l : List g.row.N-Link.Denot). GivenMore (told_given see (g.N.Listener.given c.links.listener)) final (numbered_from c.args.terms.now c.links.number (map see l))) (sym turn)
          (given_next see (g.N.Listener.given c.links.listener) (g.N.Listener.given c.give_back.new.self) final c.links.number c.in-Some.link (numbered_from c.args.terms.now (c.links.number + w) (map see rest)) c.give_back.ensures.given more));
      back = let b = inv.back in let n = c.give_back.ensures.back in omega arith;
      came = c.give_back.ensures.came ∙ inv.came;
      ended = c.give_back.ensures.ended ∙ inv.ended;
      faults = c.give_back.ensures.faults ∙ inv.faults;
    }

pub returns-clause-given : goal.returns-clause-given
returns-clause-given g c =
    let see : g.row.N-Link.Denot → LinkView = view_by g.N.Link.Link.taken g.N.Link.Link.written g.N.Link.Link.closed g.N.Link.Link.is_shut g.N.Link.Link.read_faults g.N.Link.Link.write_faults in
    let now = told_given see (g.N.Listener.given c.links.listener) in
    let nil : into_iter_items c.links.link-iterator ≡ [] = none_left (into_iter_items c.links.link-iterator) (into_iter_len c.links.link-iterator) c.links.invariant.as_many c.in-None.ensures.steps.0 in
    c.links.invariant.given now (subst (λ (l : List g.row.N-Link.Denot). GivenMore now now (numbered_from c.args.terms.now c.links.number (map see l))) (sym nil) (given_none now))
