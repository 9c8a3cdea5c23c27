use Rattle.std.proofs.Common.{List, ap, sym, subst, ◌∙◌}
use Rattle.std.proofs.lemmas.Result.{err_from_is_err_and}
use Rattle.aa_words.specs.Splits.{WordData}
use Rattle.aa_policy.specs.Spelling.{Spells}
use Rattle.aa_policy.proofs.Refusals.{refused_by}
use Rattle.aa_skipped.specs.Heads.{outline}
use Rattle.aa_skipped.proofs.Outlines.{handed_in, lent_words}
use Rattle.aa_skipped.proofs.heads.outline_policy.Goals as goal

pub returns-in_err-sources-clause-refused : goal.returns-in_err-sources-clause-refused
returns-in_err-sources-clause-refused c = λ h ws policy has spells.
    let q = err_from_is_err_and c.from_residual.result c.from_residual.ensures.1 in
    handed_in _ _ has.fit (c.in_err-sources.ensures.cause (refused_by c.from_residual.result _ _ q.1 q.2 h))

pub returns-in_err-list-clause-refused : goal.returns-in_err-list-clause-refused
returns-in_err-list-clause-refused c = λ h ws policy has spells.
    let r = c.from_residual-in_err-list in
    let q = err_from_is_err_and r.result r.ensures.1 in
    c.in_err-list.ensures.refused (refused_by r.result _ _ q.1 q.2 h) ws (lent_words c.args.unit.now _ _ ws c.in_ok-sources.ensures.gathered c.as_slice.ensures.value has.split)

pub returns-clause-refused : goal.returns-clause-refused
returns-clause-refused c = λ h ws policy has spells.
    let same = c.in_ok-list.ensures.one ws (lent_words c.args.unit.now _ _ ws c.in_ok-sources.ensures.gathered c.as_slice.ensures.value has.split) in
    c.parse.ensures.refused h policy (subst (λ (l : List WordData). Spells l policy) (ap outline same ∙ sym c.in_ok-outline.ensures) spells)
