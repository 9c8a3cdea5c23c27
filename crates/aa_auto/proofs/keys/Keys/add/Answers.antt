use Rattle.std.proofs.Common.{subst}
use Rattle.aa_auto.specs.Pairs.{AddsKey}
use Rattle.aa_auto.proofs.PairLemmas.{added}
use Rattle.aa_auto.proofs.keys.Keys.add.Goals as goal

pub returns : goal.returns
returns c =
    subst (λ old. AddsKey old c.insert_full.new.self.keys c.args.key c.in_ok-number.number) c.self.view_is
    (added c.self.inside.keys.keys c.insert_full.new.self.keys c.args.key c.in_ok-number.number c.in_ok-number.ensures.keys c.in_ok-number.ensures.within c.in_ok-number.ensures.stored c.in_ok-number.ensures.unique)
