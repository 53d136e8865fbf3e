use Rattle.std.proofs.Common.{◌≡◌, ℕ, List, ◌+◌, length, take, sym, ap, subst, ◌∙◌, arith, length-append}
use Rattle.std.proofs.lemmas.List.{length-take}
use Rattle.of10_wire.specs.declared.rules.Opening.TheVariants.{Refused}
use Rattle.of10_wire.specs.Headers.{opening_of}
use Rattle.of10_wire.proofs.Openings.{refused_near}
use Rattle.of10_stream.specs.Framings.{Takes}
use Rattle.of10_stream.proofs.FramerLaws.{takes_frame, takes_short, takes_on, refused_first}
use Rattle.of10_stream.proofs.framer.Framer.feed.Goals as goal

pub overflow_add-at : goal.overflow_add-at
overflow_add-at c =
    let refused : opening_of c.held.result.now ≡ Refused c.in-Refused.refusal = sym c.opening_of.ensures.opening ∙ c.in-Refused.is in
    let near = refused_near c.held.result.now c.in-Refused.refusal refused in
    let place : c.start.result ≡ c.args.self.now.start = c.start.ensures ∙ c.take_up_to-head.ensures.same.0 in
    let whole : length c.held.result.now ≡ length c.take_up_to-head.new.self.held = ap (λ (l : List ℕ). length l) c.held.ensures in
    let size : length c.take_up_to-head.new.self.held ≡ length c.args.self.now.held + c.take_up_to-head.result = omega (arith, ap (λ (l : List ℕ). length l) c.take_up_to-head.ensures.held, length-append c.args.self.now.held (take c.take_up_to-head.result c.args.piece.now), length-take c.take_up_to-head.result c.args.piece.now, c.take_up_to-head.ensures.used) in
    omega (arith, place, near.0.near, near.1, whole, size, c.take_up_to-head.ensures.used, c.requires.room)

pub returns-in-Refused-clause-refused : goal.returns-in-Refused-clause-refused
returns-in-Refused-clause-refused c =
    let refused : opening_of c.take_up_to-head.new.self.held ≡ Refused c.in-Refused.refusal = ap opening_of (sym c.held.ensures) ∙ (sym c.opening_of.ensures.opening ∙ c.in-Refused.is) in (
      c.in-Refused.refusal,
      refused_first c.args.self.now c.take_up_to-head.new.self c.args.piece.now c.take_up_to-head.result c.requires.open c.take_up_to-head.ensures.used c.take_up_to-head.ensures.held c.take_up_to-head.ensures.same.0 c.take_up_to-head.ensures.same.1 c.in-Refused.refusal refused,
      λ i. record { at = (c.start.ensures ∙ c.take_up_to-head.ensures.same.0) i + c.in-Refused.refusal.at; why = c.in-Refused.refusal.why },
    )

pub returns-in-Frame-clause-taken : goal.returns-in-Frame-clause-taken
returns-in-Frame-clause-taken c =
    takes_frame c.args.self.now c.take_up_to-head.new.self c.args.piece.now c.take_up_to-head.result c.requires.open c.take_up_to-head.ensures.used c.take_up_to-head.ensures.held c.take_up_to-head.ensures.same.0 c.take_up_to-head.ensures.same.1 c.in-Frame.field-0 (ap opening_of (sym c.held.ensures) ∙ (sym c.opening_of.ensures.opening ∙ c.in-Frame.is))

pub returns-then-len-lt8-clause-taken : goal.returns-then-len-lt8-clause-taken
returns-then-len-lt8-clause-taken c =
    takes_short c.args.self.now c.take_up_to-head.new.self c.args.piece.now c.take_up_to-head.result c.requires.open c.take_up_to-head.ensures.used c.take_up_to-head.ensures.held c.take_up_to-head.ensures.same.0 c.take_up_to-head.ensures.same.1 (omega (arith, c.if-len-lt8.true, c.len-2.ensures))

pub take_body-body-requires-clause-open : goal.take_body-body-requires-clause-open
take_body-body-requires-clause-open c = record {
  wanting = (c.in-Wants.field-0, ap opening_of (sym c.held.ensures) ∙ (sym c.opening_of.ensures.opening ∙ c.in-Wants.is));
  on = c.take_up_to-head.ensures.same.1 ∙ c.requires.open.on;
}

pub returns-in-Wants-clause-taken : goal.returns-in-Wants-clause-taken
returns-in-Wants-clause-taken c =
    takes_on c.args.self.now c.take_up_to-head.new.self c.args.piece.now c.take_up_to-head.result c.requires.open c.take_up_to-head.ensures.used c.take_up_to-head.ensures.held c.take_up_to-head.ensures.same.0 c.take_up_to-head.ensures.same.1
    c.take_body-body.new.self c.take_body-body.result (subst (λ (l : List ℕ). Takes c.take_up_to-head.new.self l c.take_body-body.new.self c.take_body-body.result) c.rest_from.ensures c.take_body-body.ensures)

pub returns-in-Refused-clause-named : goal.returns-in-Refused-clause-named
returns-in-Refused-clause-named c = (refused_near c.held.result.now c.in-Refused.refusal (sym c.opening_of.ensures.opening ∙ c.in-Refused.is)).0.named
