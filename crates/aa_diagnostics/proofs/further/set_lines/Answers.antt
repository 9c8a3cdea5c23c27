use Rattle.std.proofs.Common.{List, subst}
use Rattle.std.proofs.lemmas.Result.{err_from_is_err_and, IfOk-weaker}
use Rattle.aa_words.specs.Splits.{WordData, words_data}
use Rattle.aa_policy.specs.Preamble.{IsTwice}
use Rattle.aa_policy.proofs.Refusals.{refused_by}
use Rattle.aa_diagnostics.proofs.OfUnit.{handed_in, lent_words, own_words}
use Rattle.aa_diagnostics.proofs.further.set_lines.Goals as goal

pub returns-in_err-sources-clause-refused : goal.returns-in_err-sources-clause-refused
returns-in_err-sources-clause-refused c = λ h ws has.
    let q = err_from_is_err_and c.from_residual.result c.from_residual.ensures.1 in
    handed_in _ _ has.fit (c.in_err-sources.ensures.cause (refused_by c.from_residual.result _ _ q.1 q.2 h))

pub returns-in_err-list-clause-refused : goal.returns-in_err-list-clause-refused
returns-in_err-list-clause-refused c = λ h ws has.
    let r = c.from_residual-in_err-list in
    let q = err_from_is_err_and r.result r.ensures.1 in
    c.in_err-list.ensures.refused (refused_by r.result _ _ q.1 q.2 h) ws (lent_words c.args.unit.now _ _ ws c.in_ok-sources.ensures.gathered c.as_slice.ensures.value has.split)

pub returns-clause-shown : goal.returns-clause-shown
returns-clause-shown c = IfOk-weaker c.set_in.result _ _ (λ lines are. record {
  words = words_data c.in_ok-list.list.list.items;
  split = own_words c.args.unit.now _ _ (words_data c.in_ok-list.list.list.items) c.in_ok-sources.ensures.gathered c.as_slice.ensures.value c.in_ok-list.ensures.split;
  are = are;
}) c.set_in.ensures.shown

pub returns-clause-twice : goal.returns-clause-twice
returns-clause-twice c = IfOk-weaker c.set_in.result _ _ (λ lines twice ws has t.
    let u = c.args.unit.now in
    let same = c.in_ok-list.ensures.one ws (lent_words u _ _ ws c.in_ok-sources.ensures.gathered c.as_slice.ensures.value has.split) in
    let first = twice (subst (λ (l : List WordData). IsTwice l c.args.at) same t) in
    record {
      words = words_data c.in_ok-list.list.list.items;
      has = record {
        fit = has.fit;
        split = own_words u _ _ (words_data c.in_ok-list.list.list.items) c.in_ok-sources.ensures.gathered c.as_slice.ensures.value c.in_ok-list.ensures.split;
      };
      first = first.0;
      set = first.1;
      are = first.2;
    }) c.set_in.ensures.twice

pub returns-clause-refused : goal.returns-clause-refused
returns-clause-refused c = λ h ws has. c.set_in.ensures.memory h
