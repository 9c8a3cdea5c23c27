use Rattle.std.proofs.Common.{ℕ, List, get_or, subst}
use Rattle.std.proofs.lemmas.List.{take_all, get_or_default}
use Rattle.aa_redundancy.specs.Mentions.{lists, IsListed}
use Rattle.aa_redundancy.proofs.Mentioning.{still_stay, mark_more}
use Rattle.aa_redundancy.proofs.mentions.list_row.Goals as goal

pub loop-number-preserved : goal.loop-number-preserved
loop-number-preserved c =
    let ns = c.args.numbers.now in
    let i = c.loop-number.number-index in
    let n = get_or ns i 0 in
    let first = lists c.args.listed.now.items in
    let old = lists c.loop-number.listed.items in
    let new = lists c.list_mark.new.listed.items in
    let stay = c.in_ok-list_mark.ensures.stay in record {
      stay = still_stay first old new c.loop-number.invariant.stay stay;
      here = mark_more c.args.table.now ns i n c.args.row old new c.loop-number-test.true (get_or_default ns i 0 n c.loop-number-test.true) c.loop-number.invariant.here stay c.in_ok-list_mark.ensures.here;
    }

pub returns-clause-here : goal.returns-clause-here
returns-clause-here c =
    subst (λ (l : List ℕ). IsListed c.args.table.now l c.args.row (lists c.loop-number.listed.items)) (take_all c.loop-number.number-index c.args.numbers.now c.loop-number-test.false) c.loop-number.invariant.here
