use Rattle.std.proofs.Common.{sym, subst}
use Rattle.aa_auto.specs.Pairs.{IsPair}
use Rattle.aa_auto.proofs.PairLemmas.{key_in}
use Rattle.aa_auto.proofs.pairs.cell_of.Goals as goal

pub pair_after-next-requires : goal.pair_after-next-requires
pair_after-next-requires c =
    subst (IsPair c.args.one.now c.args.other.now) (sym c.requires.key)
    (key_in c.args.dead c.args.one.now c.args.other.now c.requires.sides c.args.keys.now c.requires.met c.args.row c.requires.row)
