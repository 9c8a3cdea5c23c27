use Rattle.std.proofs.Common.{arith, refl, true, false}
use Rattle.std.proofs.lemmas.Result.{err_from_is_err_and}
use Rattle.aa_policy.specs.Preamble.{is_preamble_fault}
use Rattle.aa_rules.specs.Reading.{rest_of}
use Rattle.aa_policy.proofs.Preambles.{ahead_end, ahead_next, ahead_refused, stands_next, stands_end, stands_misnamed, stands_none}
use Rattle.aa_policy.proofs.Refusals.{refused_by, refused_with, told_on, unless_wanting}
use Rattle.aa_policy.proofs.preamble.preamble_of.Goals as goal

pub returns-in_err-at-clause-refused : goal.returns-in_err-at-clause-refused
returns-in_err-at-clause-refused c = λ h items vars rest m g.
    let q = err_from_is_err_and c.from_residual.result c.from_residual.ensures.1 in
    let words = c.args.words.now in
    stands_none (rest_of words c.args.start) (rest_of words c.items.at) c.items.vars c.items-test.ensures.yes
    (c.in_err-at.ensures.refused (refused_by c.from_residual.result _ _ q.1 q.2 h)) c.items.invariant.stands items vars rest m g

pub items-preserved : goal.items-preserved
items-preserved c =
    let words = c.args.words.now in
    let found = c.in_ok-at.ensures.found in
    record {
      ahead = λ adds spot m. ahead_next adds c.items.vars (rest_of words c.items.at) spot found.0 (rest_of words c.in_ok-at.at) c.item_of.new.vars found.1 found.2 (c.items.invariant.ahead adds spot m);
      stands = stands_next (rest_of words c.args.start) (rest_of words c.items.at) c.items.vars found.0 (rest_of words c.in_ok-at.at) c.item_of.new.vars found.1 found.2 c.items.invariant.stands;
      behind = omega (arith, c.items.invariant.behind, c.in_ok-at.ensures.within.0);
      within = c.in_ok-at.ensures.within.1;
    }

pub returns-clause-found : goal.returns-clause-found
returns-clause-found c =
    let words = c.args.words.now in
    stands_end (rest_of words c.args.start) (rest_of words c.items.at) c.items.vars c.items-test.ensures.no c.items.invariant.stands

pub returns-in_err-at-clause-misnamed : goal.returns-in_err-at-clause-misnamed
returns-in_err-at-clause-misnamed c = λ adds spot m.
    let r = c.from_residual in
    let q = err_from_is_err_and r.result r.ensures.1 in
    let e = c.in_err-at.ensures in
    refused_with r.result _ _ _ q.1 q.2
    (ahead_refused adds c.items.vars (rest_of c.args.words.now c.items.at) spot _ (c.items.invariant.ahead adds spot m) (unless_wanting is_preamble_fault _ _ refl e.cause e.refused) (e.misnames adds spot))

pub returns-clause-misnamed : goal.returns-clause-misnamed
returns-clause-misnamed c = λ adds spot m. absurd (ahead_end adds c.items.vars (rest_of c.args.words.now c.items.at) spot c.items-test.ensures.no (c.items.invariant.ahead adds spot m))

pub returns-in_err-at-clause-twice : goal.returns-in_err-at-clause-twice
returns-in_err-at-clause-twice c =
    let r = c.from_residual in
    let q = err_from_is_err_and r.result r.ensures.1 in
    let words = c.args.words.now in
    told_on r.result _ _ _ q.1 q.2 (λ k. stands_misnamed false (rest_of words c.args.start) (rest_of words c.items.at) c.items.vars _ (c.in_err-at.ensures.twice k) c.items.invariant.stands)

pub returns-in_err-at-clause-undefined : goal.returns-in_err-at-clause-undefined
returns-in_err-at-clause-undefined c =
    let r = c.from_residual in
    let q = err_from_is_err_and r.result r.ensures.1 in
    let words = c.args.words.now in
    told_on r.result _ _ _ q.1 q.2 (λ k. stands_misnamed true (rest_of words c.args.start) (rest_of words c.items.at) c.items.vars _ (c.in_err-at.ensures.undefined k) c.items.invariant.stands)
