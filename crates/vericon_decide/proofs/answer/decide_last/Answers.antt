use Rattle.std.proofs.Common.{◌≤◌, length, subst, arith}
use Rattle.csdn_conditions.specs.Kinds.{kinds}
use Rattle.csdn_conditions.proofs.Shared.{starts_within}
use Rattle.vericon_decide.specs.Verdicts.{IsBrokenBy}
use Rattle.vericon_decide.specs.Levels.{IsLevelEnd, IsWhy}
use Rattle.vericon_decide.proofs.LevelLaws.{all_proven, first_of, shared_rises}
use Rattle.vericon_decide.proofs.AnswerLaws.{yes_by, counter_by, undecided_by, at_once}
use Rattle.vericon_decide.proofs.answer.decide_last.Goals as goal

pub prove-requires-clause-first : goal.prove-requires-clause-first
prove-requires-clause-first c =
    let rises = shared_rises c.args.program.now c.args.most in
    let within = starts_within c.args.program.now c.args.most in
    omega (arith, rises, within, c.shared_count-first.ensures, c.condition_count-end.ensures.count)

pub decide_rest-requires-clause-undecided : goal.decide_rest-requires-clause-undecided
decide_rest-requires-clause-undecided c =
    let P = c.args.program.now in
    let size = c.args.size in
    let most = c.args.most in
    let found = subst (IsLevelEnd P size most c.shared_count-first.result c.condition_count-end.result c.prove.new.proofs.items) c.in-Undecided.is c.in_ok-prove.ensures in
    undecided_by P size most c.in-Undecided.index c.in-Undecided.why c.requires.met c.requires.kept.fails
    (first_of P size most c.shared_count-first.result c.condition_count-end.result c.in-Undecided.index c.prove.new.proofs.items (λ d. IsWhy P size d c.in-Undecided.why) found)

pub returns-in-Proven : goal.returns-in-Proven
returns-in-Proven c =
    let P = c.args.program.now in
    let size = c.args.size in
    let most = c.args.most in
    let found = subst (IsLevelEnd P size most c.shared_count-first.result c.condition_count-end.result c.prove.new.proofs.items) c.in-Proven.is c.in_ok-prove.ensures in
    let past : length (kinds P most) ≤ c.condition_count-end.result = omega (arith, c.condition_count-end.ensures.count) in
    yes_by P size most most c.prove.new.proofs.items c.parts.ensures.well_sorted (at_once most) c.requires.met c.requires.kept.fails
    (all_proven P size most c.condition_count-end.result c.prove.new.proofs.items past found)

pub returns-in-Broken : goal.returns-in-Broken
returns-in-Broken c =
    let P = c.args.program.now in
    let size = c.args.size in
    let most = c.args.most in
    let found = subst (IsLevelEnd P size most c.shared_count-first.result c.condition_count-end.result c.prove.new.proofs.items) c.in-Broken.is c.in_ok-prove.ensures in
    counter_by P size most c.in-Broken.index c.in-Broken.case c.requires.met c.requires.kept.fails
    (first_of P size most c.shared_count-first.result c.condition_count-end.result c.in-Broken.index c.prove.new.proofs.items (λ d. IsBrokenBy P size d c.in-Broken.case) found)
