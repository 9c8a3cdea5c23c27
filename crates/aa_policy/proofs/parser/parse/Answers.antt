use Rattle.std.proofs.Common.{List, Result, Err, ap, subst, sym, ◌∙◌}
use Rattle.std.proofs.lemmas.Result.{err_from_is_err_and}
use Rattle.aa_base.specs.declared.fault.PolicyFault.{PolicyFault}
use Rattle.aa_words.specs.declared.word.Word.{Word}
use Rattle.aa_words.specs.Splits.{words_data}
use Rattle.aa_model.specs.declared.policy.Policy.{Policy}
use Rattle.aa_policy.specs.declared.tree.ProfileTree.{ProfileTree}
use Rattle.aa_policy.specs.Bodies.{IsPolicy, tree_data}
use Rattle.aa_policy.proofs.Answered.{Answers, meant, stopped}
use Rattle.aa_policy.proofs.parser.parse.Goals as goal

abbrev refusal : PolicyFault → Result Policy PolicyFault
refusal e = Err e

pub returns-in_err-tree : goal.returns-in_err-tree
returns-in_err-tree c =
    let end = c.args.words.now.end in
    let r = c.from_residual.result in
    let q = err_from_is_err_and r c.from_residual.ensures.1 in
    let e = c.in_err-tree.ensures in
    let here : Answers c.as_slice.result.now end (Err c.in_err-tree.field-0.0) = stopped c.as_slice.result.now end _ e.refused e.cause e.place e.twice e.undefined e.misnamed in
    let a : Answers c.args.words.now.list.items end r =
    subst (λ (x : Result Policy PolicyFault). Answers c.args.words.now.list.items end x) (sym (q.1 ∙ ap refusal q.2))
    (subst (λ (ws : List Word). Answers ws end (Err c.in_err-tree.field-0.0)) c.as_slice.ensures.value here) in
    record {
      spelled = a.spelled;
      refused = a.refused;
      twice = a.twice;
      undefined = a.undefined;
      at_path = a.at_path;
      duplicate = a.duplicate;
      too_large = a.too_large;
      unwritten = a.unwritten;
      unsupported = a.unsupported;
      kinds = a.kinds;
      exact = a.exact;
    }

pub policy_of-requires : goal.policy_of-requires
policy_of-requires c = record {
  written =
      subst (λ (ts : List ProfileTree). (ws : List _) × IsPolicy ws c.in_ok-tree.tree.vars (tree_data ts)) (sym c.as_slice-2.ensures.value) (words_data c.as_slice.result.now, c.in_ok-tree.ensures.found);
}

pub returns : goal.returns
returns c =
    let words = c.as_slice.result.now in
    let vars = c.in_ok-tree.tree.vars in
    let tree = tree_data c.as_slice-2.result.now in
    let end = c.args.words.now.end in
    let r = c.policy_of.result in
    let w : IsPolicy (words_data words) vars tree = subst (λ (ts : List ProfileTree). IsPolicy (words_data words) vars (tree_data ts)) (sym c.as_slice-2.ensures.value) c.in_ok-tree.ensures.found in
    let p = c.policy_of.ensures in
    let here : Answers words end r = meant words end vars tree r w c.in_ok-tree.ensures.misnamed p.meant p.passed_over p.refused in
    let a : Answers c.args.words.now.list.items end r = subst (λ (ws : List Word). Answers ws end r) c.as_slice.ensures.value here in
    record {
      spelled = a.spelled;
      refused = a.refused;
      twice = a.twice;
      undefined = a.undefined;
      at_path = a.at_path;
      duplicate = a.duplicate;
      too_large = a.too_large;
      unwritten = a.unwritten;
      unsupported = a.unsupported;
      kinds = a.kinds;
      exact = a.exact;
    }
