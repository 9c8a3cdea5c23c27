use Rattle.std.proofs.Common.{◌≡◌, ◌+◌, [], map, length, None, rules}
use Rattle.std.proofs.lemmas.Result.{err_from_is_err_and}
use Rattle.aa_policy.specs.Preamble.{assignment, assigned}
use Rattle.aa_rules.specs.Reading.{rest_of}
use Rattle.aa_policy.proofs.Preambles.{assignment_is, head_placed, misnames_head, no_variables, no_values, none_of}
use Rattle.aa_policy.proofs.Refusals.{refused_by, refused_with, told_on}
use Rattle.aa_policy.proofs.assignments.assignment_of.Goals as goal

pub returns-in_default-clause-refused : goal.returns-in_default-clause-refused
returns-in_default-clause-refused c = λ h x more rest a g. c.in_default.ensures.missing x.at x.name x.adds a.after a.head

pub returns-in_err-assign-clause-refused : goal.returns-in_err-assign-clause-refused
returns-in_err-assign-clause-refused c = λ h x more rest a g.
    let q = err_from_is_err_and c.from_residual-in_err-assign.result c.from_residual-in_err-assign.ensures.1 in
    let head = c.in-Some.head in
    let values = map (λ v. v.now) c.in_ok-values.values.items in
    let same : x ≡ assignment head.at head.name.now head.adds values =
    assignment_is (rest_of c.args.words.now c.args.at) head.at head.name.now head.adds (rest_of c.args.words.now (c.args.at + 2)) values (rest_of c.args.words.now c.in_ok-values.next) x rest
    c.in-Some.ensures.found c.in_ok-values.ensures.found a in
    let none : assigned c.args.vars.now (assignment head.at head.name.now head.adds values) ≡ None = rw (← c.as_slice.ensures.value) (c.in_err-assign.ensures.refused (refused_by c.from_residual-in_err-assign.result _ _ q.1 q.2 h)) in
    no_variables c.args.vars.now x (assignment head.at head.name.now head.adds values) more same none g

pub returns-then-is_empty-clause-refused : goal.returns-then-is_empty-clause-refused
returns-then-is_empty-clause-refused c = λ h x more rest a g.
    let head = c.in-Some.head in
    let values = map (λ v. v.now) c.in_ok-values.values.items in
    let same : x ≡ assignment head.at head.name.now head.adds values =
    assignment_is (rest_of c.args.words.now c.args.at) head.at head.name.now head.adds (rest_of c.args.words.now (c.args.at + 2)) values (rest_of c.args.words.now c.in_ok-values.next) x rest
    c.in-Some.ensures.found c.in_ok-values.ensures.found a in
    let zero : length c.in_ok-values.values.items ≡ 0 = search rules in
    let none : values ≡ [] = none_of (λ v. v.now) c.in_ok-values.values.items zero in
    no_values (rest_of c.args.words.now c.args.at) x rest (assignment head.at head.name.now head.adds values) same none a

pub returns-in_default-clause-misnames : goal.returns-in_default-clause-misnames
returns-in_default-clause-misnames c = λ adds spot m. absurd (c.in_default.ensures.missing spot m.name m.sign m.rest m.head)

pub returns-in_err-assign-clause-misnames : goal.returns-in_err-assign-clause-misnames
returns-in_err-assign-clause-misnames c = λ adds spot m.
    let r = c.from_residual-in_err-assign in
    let q = err_from_is_err_and r.result r.ensures.1 in
    let head = c.in-Some.head in
    let f = misnames_head adds c.args.vars.now (rest_of c.args.words.now c.args.at) head.at head.name.now head.adds _ spot c.in-Some.ensures.found m in
    refused_with r.result _ _ _ q.1 q.2 (rw (← f.0) (c.in_err-assign.ensures.misfits adds f.1))

pub returns-then-is_empty-clause-misnames : goal.returns-then-is_empty-clause-misnames
returns-then-is_empty-clause-misnames c = λ adds spot m.
    let head = c.in-Some.head in
    absurd (c.in_ok-assign.ensures.misfits adds (misnames_head adds c.args.vars.now (rest_of c.args.words.now c.args.at) head.at head.name.now head.adds _ spot c.in-Some.ensures.found m).1)

pub returns-clause-misnames : goal.returns-clause-misnames
returns-clause-misnames c = λ adds spot m.
    let head = c.in-Some.head in
    absurd (c.in_ok-assign.ensures.misfits adds (misnames_head adds c.args.vars.now (rest_of c.args.words.now c.args.at) head.at head.name.now head.adds _ spot c.in-Some.ensures.found m).1)

pub returns-in_err-assign-clause-place : goal.returns-in_err-assign-clause-place
returns-in_err-assign-clause-place c =
    let r = c.from_residual-in_err-assign in
    let q = err_from_is_err_and r.result r.ensures.1 in
    let head = c.in-Some.head in
    told_on r.result _ _ _ q.1 q.2 (head_placed c.args.words.now c.args.at c.args.end head.at head.name.now head.adds _ _ c.in-Some.ensures.found c.in_err-assign.ensures.place)
