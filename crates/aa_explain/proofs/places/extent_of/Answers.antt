use Rattle.std.proofs.Common.{◌<◌, Some, length, sym, ap, ◌∙◌, arith}
use Rattle.aa_base.specs.declared.fault.Spot.{Spot}
use Rattle.aa_explain.proofs.Placing.{stands_first, ends_at}
use Rattle.aa_explain.proofs.places.extent_of.Goals as goal

pub returns-clause-begins : goal.returns-clause-begins
returns-clause-begins c =
    let here : c.args.at < length c.args.words.now = omega (arith, c.requires.some, c.requires.within) in
    stands_first c.args.words.now c.args.at _ here ∙ ap (λ (s : Spot). Some s) (sym c.spot_of.ensures)

pub returns-clause-ends : goal.returns-clause-ends
returns-clause-ends c = ends_at c.args.words.now c.args.at c.args.next _ c.requires.some c.requires.within
