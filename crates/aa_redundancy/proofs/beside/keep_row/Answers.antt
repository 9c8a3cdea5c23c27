use Rattle.std.proofs.Common.{ℕ, List, length, subst}
use Rattle.std.proofs.lemmas.List.{take_all}
use Rattle.aa_redundancy.specs.Keeping.{RowKept}
use Rattle.aa_redundancy.proofs.Keeping.{at_length, of_length}
use Rattle.aa_redundancy.proofs.Reasoning.{row_more}
use Rattle.aa_redundancy.proofs.beside.keep_row.Goals as goal

pub keep_mark-requires : goal.keep_mark-requires
keep_mark-requires c = at_length (length c.args.beside.now.gone.items) c.args.number c.loop-mark.beside c.loop-mark.invariant.keeps

pub loop-mark-preserved : goal.loop-mark-preserved
loop-mark-preserved c =
    let i = c.args.number in
    let old = c.loop-mark.beside in
    let new = c.keep_mark.new.beside in
    let h = c.in_ok-keep_mark.ensures in record {
      keeps = of_length (length c.args.beside.now.gone.items) i old new c.loop-mark.invariant.keeps h.keeps;
      stay = λ n e. h.stay n (c.loop-mark.invariant.stay n e);
      here = row_more i c.loop-mark.mark-index c.args.marks.now c.args.row.now old new c.loop-mark-test.true c.loop-mark.invariant.here h.stay h.here;
    }

pub returns-clause-here : goal.returns-clause-here
returns-clause-here c =
    subst (λ (l : List ℕ). RowKept c.loop-mark.beside.gone.items c.args.number c.args.marks.now l) (take_all c.loop-mark.mark-index c.args.row.now c.loop-mark-test.false) c.loop-mark.invariant.here
