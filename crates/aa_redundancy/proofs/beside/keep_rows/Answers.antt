use Rattle.std.proofs.Common.{All, length, take, subst}
use Rattle.std.proofs.lemmas.List.{take_all}
use Rattle.std.proofs.lemmas.List.Elements.{All-weaker}
use Rattle.aa_redundancy.specs.declared.mentions.RowNumber.{RowNumber}
use Rattle.aa_redundancy.specs.Keeping.{KeptAt}
use Rattle.aa_redundancy.proofs.Keeping.{at_length, of_length}
use Rattle.aa_redundancy.proofs.Reasoning.{all_more, still_kept}
use Rattle.aa_redundancy.proofs.beside.keep_rows.Goals as goal

pub keep_at-requires : goal.keep_at-requires
keep_at-requires c = at_length (length c.args.beside.now.gone.items) c.args.number c.loop-at.beside c.loop-at.invariant.keeps

pub loop-at-preserved : goal.loop-at-preserved
loop-at-preserved c =
    let i = c.args.number in
    let ts = c.args.tables.now in
    let rows = c.args.rows.now in
    let k = c.loop-at.at-index in
    let old = c.loop-at.beside in
    let new = c.keep_at.new.beside in
    let h = c.in_ok-keep_at.ensures in
    let none : RowNumber = record { table = 0; row = 0 } in record {
      keeps = of_length (length c.args.beside.now.gone.items) i old new c.loop-at.invariant.keeps h.keeps;
      here = all_more (KeptAt new.gone.items i ts) rows k none c.loop-at-test.true
          (All-weaker (KeptAt old.gone.items i ts) (KeptAt new.gone.items i ts) (still_kept i ts old new h.stay) (take k rows) c.loop-at.invariant.here) h.here;
    }

pub returns-clause-here : goal.returns-clause-here
returns-clause-here c =
    subst (All (KeptAt c.loop-at.beside.gone.items c.args.number c.args.tables.now)) (take_all c.loop-at.at-index c.args.rows.now c.loop-at-test.false) c.loop-at.invariant.here
