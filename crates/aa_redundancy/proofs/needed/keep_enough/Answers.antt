use Rattle.std.proofs.Common.{All, length, subst, arith}
use Rattle.std.proofs.lemmas.List.{length-map}
use Rattle.std.specs.Global.{Global}
use Rattle.std.specs.declared.vec.Vec.{Vec}
use Rattle.aa_redundancy.specs.declared.mentions.RowNumber.{RowNumber}
use Rattle.aa_redundancy.specs.Mentions.{lists}
use Rattle.aa_redundancy.specs.Keeping.{KeptAt}
use Rattle.aa_redundancy.proofs.Mentioning.{rows_are}
use Rattle.aa_redundancy.proofs.Keeping.{of_length, asked_gone}
use Rattle.aa_redundancy.proofs.Reasoning.{kept_enough}
use Rattle.aa_redundancy.proofs.needed.keep_enough.Goals as goal

pub returns-clause-enough : goal.returns-clause-enough
returns-clause-enough c =
    let count = length c.args.beside.now.gone.items in
    let i = c.args.number in
    let b = c.keep_rows.new.beside in
    let ts = c.args.tables.now in
    let listed = c.args.listed.now in
    let long = length-map listed (λ (v : Vec RowNumber Global). v.items) in
    let rows = rows_are listed i c.index-listed-number.result c.as_slice-rows.result.now c.requires.within c.index-listed-number.is c.as_slice-rows.ensures.value in
    let keeps = of_length count i c.keep_some_of.new.beside b c.in_ok-keep_some_of.ensures c.in_ok-keep_rows.ensures.keeps in
    kept_enough ts (lists listed) count i b keeps (asked_gone count i b keeps (omega (arith, c.requires.within, c.requires.many))) c.requires.rows (omega (arith, long, c.requires.within))
    (subst (All (KeptAt b.gone.items i ts)) rows c.in_ok-keep_rows.ensures.here) c.requires.goes
