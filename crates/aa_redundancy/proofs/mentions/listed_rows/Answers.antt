use Rattle.std.proofs.Common.{◌<◌, length, ◌∙◌, arith}
use Rattle.std.proofs.lemmas.Option.{slice_get_within}
use Rattle.aa_redundancy.specs.Mentions.{lists}
use Rattle.aa_redundancy.proofs.Mentioning.{tables_more}
use Rattle.aa_redundancy.proofs.mentions.listed_rows.Goals as goal

pub loop-number-preserved : goal.loop-number-preserved
loop-number-preserved c =
    let old = lists c.loop-number.listed.items in
    let new = lists c.list_table.new.listed.items in
    let stay = c.in_ok-list_table.ensures.stay in record {
      many = stay.many ∙ c.loop-number.invariant.many;
      here = tables_more c.args.tables.now c.loop-number.number c.index-tables-number.result old new c.loop-number-test.true c.index-tables-number.is stay c.loop-number.invariant.here c.in_ok-list_table.ensures.here;
    }

pub returns-clause-all : goal.returns-clause-all
returns-clause-all c = λ k t e.
    let lt : k < length c.args.tables.now = slice_get_within c.args.tables.now k t e in
    c.loop-number.invariant.here k t (omega (arith, lt, c.loop-number-test.false)) e
