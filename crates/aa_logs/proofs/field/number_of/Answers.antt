use Rattle.std.proofs.Common.{◌≡◌, ◌<◌, length, rules, tests}
use Rattle.aa_logs.proofs.Found.{number_begins, number_empty, number_stop, number_go, number_end}
use Rattle.aa_logs.proofs.field.number_of.Goals as goal

pub returns-then-is_empty : goal.returns-then-is_empty
returns-then-is_empty c =
    let none : length c.args.text.now ≡ 0 = search (rules, tests) in
    number_empty c.args.text.now none

pub loop-b-init : goal.loop-b-init
loop-b-init c =
    let some : 0 < length c.args.text.now = search (rules, tests) in
    number_begins c.args.text.now some

pub returns-in_default : goal.returns-in_default
returns-in_default c = number_stop _ c.args.text.now c.loop-b.b-index _ c.loop-b-test.true c.in_default.ensures c.loop-b.invariant

pub loop-b-preserved : goal.loop-b-preserved
loop-b-preserved c = number_go _ _ c.args.text.now c.loop-b.b-index _ c.loop-b-test.true c.in-Some.ensures c.loop-b.invariant

pub returns : goal.returns
returns c = number_end _ c.args.text.now c.loop-b.b-index _ c.loop-b-test.false c.loop-b.invariant
