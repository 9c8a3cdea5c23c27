use Rattle.std.proofs.Common.{List, sym, subst}
use Rattle.std.proofs.lemmas.Result.{err_from_is_err_and, IfOk-weaker}
use Rattle.aa_model.specs.declared.policy.Policy.{Policy}
use Rattle.aa_words.specs.Splits.{WordData, words_data}
use Rattle.aa_policy.specs.Spelling.{Spells}
use Rattle.aa_policy.proofs.Refusals.{refused_by}
use Rattle.aa_diagnostics.proofs.OfUnit.{handed_in, lent_words, own_words}
use Rattle.aa_diagnostics.proofs.conflict.conflict_lines.Goals as goal

pub returns-in_err-sources-clause-refused : goal.returns-in_err-sources-clause-refused
returns-in_err-sources-clause-refused c = λ h ws policy has w.
    let q = err_from_is_err_and c.from_residual.result c.from_residual.ensures.1 in
    handed_in _ _ has.fit (c.in_err-sources.ensures.cause (refused_by c.from_residual.result _ _ q.1 q.2 h))

pub returns-in_err-list-clause-refused : goal.returns-in_err-list-clause-refused
returns-in_err-list-clause-refused c = λ h ws policy has w.
    let r = c.from_residual-in_err-list in
    let q = err_from_is_err_and r.result r.ensures.1 in
    c.in_err-list.ensures.refused (refused_by r.result _ _ q.1 q.2 h) ws (lent_words c.args.unit.now _ _ ws c.in_ok-sources.ensures.gathered c.as_slice.ensures.value has.split)

pub conflict_in-requires : goal.conflict_in-requires
conflict_in-requires c = own_words c.args.unit.now _ _ (words_data c.in_ok-list.list.list.items) c.in_ok-sources.ensures.gathered c.as_slice.ensures.value c.in_ok-list.ensures.split

pub returns-clause-own : goal.returns-clause-own
returns-clause-own c = IfOk-weaker c.conflict_in.result _ _ (λ lines own ws policy has w.
    let same = c.in_ok-list.ensures.one ws (lent_words c.args.unit.now _ _ ws c.in_ok-sources.ensures.gathered c.as_slice.ensures.value has.split) in
    own policy (subst (λ (l : List WordData). Spells l policy) same w)) c.conflict_in.ensures.own

pub returns-clause-refused : goal.returns-clause-refused
returns-clause-refused c = λ h ws policy has w.
    let same = c.in_ok-list.ensures.one ws (lent_words c.args.unit.now _ _ ws c.in_ok-sources.ensures.gathered c.as_slice.ensures.value has.split) in
    c.conflict_in.ensures.refused h policy (subst (λ (l : List WordData). Spells l policy) same w)
