use Rattle.std.proofs.Common.{◌<◌, ℕ, List, subst, arith, ap, length}
use Rattle.std.proofs.lemmas.Option.{slice_get_within}
use Rattle.aa_redundancy.specs.Mentions.{lists, IsListed}
use Rattle.aa_redundancy.proofs.Mentioning.{still_stay, rows_more}
use Rattle.aa_redundancy.proofs.mentions.list_table.Goals as goal

pub loop-row-preserved : goal.loop-row-preserved
loop-row-preserved c =
    let t = c.args.table.now in
    let k = c.args.number in
    let i = c.loop-row.row in
    let r = c.index-rows-row.result in
    let first = lists c.args.listed.now.items in
    let old = lists c.loop-row.listed.items in
    let new = lists c.list_row.new.listed.items in
    let stay = c.in_ok-list_row.ensures.stay in record {
      stay = still_stay first old new c.loop-row.invariant.stay stay;
      here = rows_more t k i r c.as_slice-rows.result.now old new c.as_slice-rows.ensures.value c.loop-row-test.true c.index-rows-row.is stay c.loop-row.invariant.here
          (subst (λ (l : List ℕ). IsListed t l (record { table = k; row = i }) new) c.as_slice.ensures c.in_ok-list_row.ensures.here);
    }

pub returns-clause-here : goal.returns-clause-here
returns-clause-here c = λ j row e.
    let lt : j < length c.args.table.now.rows.items = slice_get_within c.args.table.now.rows.items j row e in
    c.loop-row.invariant.here j row (omega (arith, lt, ap length c.as_slice-rows.ensures.value, c.loop-row-test.false)) e
