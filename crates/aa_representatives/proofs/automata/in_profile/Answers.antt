use Rattle.std.proofs.Common.{◌+◌, sym, subst}
use Rattle.std.proofs.lemmas.Result.{IfOk-weaker}
use Rattle.aa_auto.specs.Tables.{HasPlaces}
use Rattle.aa_auto.specs.Pairs.{IsBuilt}
use Rattle.aa_representatives.proofs.Making.{none_there}
use Rattle.aa_representatives.proofs.automata.in_profile.Goals as goal

pub in_this_profile-requires-clause-there : goal.in_this_profile-requires-clause-there
in_this_profile-requires-clause-there c = c.has_profile.ensures.0 c.if-has_profile.true

pub returns-clause-built : goal.returns-clause-built
returns-clause-built c =
    let none = none_there c.args.compiled.now.profiles c.args.number c.has_profile.result c.has_profile.ensures c.if-has_profile.false in
    IfOk-weaker c.of_none.result _ _ (λ t b. subst (λ ps. IsBuilt ps t) (sym none) b) c.of_none.ensures.built

pub returns-clause-too_many : goal.returns-clause-too_many
returns-clause-too_many c = λ e.
    let none = none_there c.args.compiled.now.profiles c.args.number c.has_profile.result c.has_profile.ensures c.if-has_profile.false in
    subst (λ ps. HasPlaces ps (c.args.limit + 1)) (sym none) (c.of_none.ensures.too_many e)
