use Rattle.std.proofs.Common.{List, subst}
use Rattle.std.proofs.lemmas.Result.{err_from_is_err_and, IfOk-weaker}
use Rattle.aa_words.specs.declared.word.Word.{Word}
use Rattle.aa_words.specs.Splits.{WordData, words_data}
use Rattle.aa_policy.specs.Bodies.{IsPolicy}
use Rattle.aa_policy.proofs.Refusals.{refused_by}
use Rattle.aa_diagnostics.proofs.OfUnit.{handed_in, lent_words, own_words}
use Rattle.aa_diagnostics.proofs.limits.profiles_of.Goals as goal

pub returns-in_err-sources-clause-refused : goal.returns-in_err-sources-clause-refused
returns-in_err-sources-clause-refused c = λ h ws vars tree has w.
    let q = err_from_is_err_and c.from_residual.result c.from_residual.ensures.1 in
    handed_in _ _ has.fit (c.in_err-sources.ensures.cause (refused_by c.from_residual.result _ _ q.1 q.2 h))

pub returns-in_err-list-clause-refused : goal.returns-in_err-list-clause-refused
returns-in_err-list-clause-refused c = λ h ws vars tree has w.
    let r = c.from_residual-in_err-list in
    let q = err_from_is_err_and r.result r.ensures.1 in
    c.in_err-list.ensures.refused (refused_by r.result _ _ q.1 q.2 h) ws (lent_words c.args.unit.now _ _ ws c.in_ok-sources.ensures.gathered c.as_slice.ensures.value has.split)

pub returns-clause-found : goal.returns-clause-found
returns-clause-found c = IfOk-weaker c.names_of.result _ _ (λ names found. record {
  words = words_data c.in_ok-list.list.list.items;
  split = own_words c.args.unit.now _ _ (words_data c.in_ok-list.list.list.items) c.in_ok-sources.ensures.gathered c.as_slice.ensures.value c.in_ok-list.ensures.split;
  vars = found.0;
  tree = found.1;
  written = subst (λ (ws : List Word). IsPolicy (words_data ws) found.0 found.1) c.as_slice-2.ensures.value found.2;
  are = found.3;
}) c.names_of.ensures.found

pub returns-clause-refused : goal.returns-clause-refused
returns-clause-refused c = λ h ws vars tree has w.
    let same = c.in_ok-list.ensures.one ws (lent_words c.args.unit.now _ _ ws c.in_ok-sources.ensures.gathered c.as_slice.ensures.value has.split) in
    c.names_of.ensures.refused h vars tree (rw (c.as_slice-2.ensures.value) (subst (λ (l : List WordData). IsPolicy l vars tree) same w))
