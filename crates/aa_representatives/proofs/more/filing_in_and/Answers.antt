use Rattle.std.proofs.Common.{◌+◌, ◌∷◌, sym, subst}
use Rattle.std.proofs.lemmas.Result.{IfOk-weaker}
use Rattle.aa_auto.specs.Tables.{HasPlaces}
use Rattle.aa_auto.specs.Pairs.{IsBuilt}
use Rattle.aa_representatives.proofs.Making.{no_filing}
use Rattle.aa_representatives.proofs.more.filing_in_and.Goals as goal

pub filing_in_this_and-requires-clause-there : goal.filing_in_this_and-requires-clause-there
filing_in_this_and-requires-clause-there c = c.has_profile.ensures.0 c.if-has_profile.true

pub returns-clause-built : goal.returns-clause-built
returns-clause-built c =
    let none = no_filing c.args.compiled.now.profiles c.args.number c.has_profile.result c.has_profile.ensures c.if-has_profile.false in
    IfOk-weaker c.of_one.result _ _ (λ t b. subst (λ ps. IsBuilt (c.args.more.now ∷ ps) t) (sym none) b) c.of_one.ensures.built

pub returns-clause-too_many : goal.returns-clause-too_many
returns-clause-too_many c = λ e.
    let none = no_filing c.args.compiled.now.profiles c.args.number c.has_profile.result c.has_profile.ensures c.if-has_profile.false in
    subst (λ ps. HasPlaces (c.args.more.now ∷ ps) (c.args.limit + 1)) (sym none) (c.of_one.ensures.too_many e)
