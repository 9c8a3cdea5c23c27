use Rattle.std.proofs.Common.{◌⊎◌, ◌≡◌, List, inr, subst, sym}
use Rattle.std.specs.List.{AllZip}
use Rattle.std.proofs.lemmas.Result.{err_from_is_err_and}
use Rattle.aa_base.specs.Kinds.{no_memory}
use Rattle.aa_model.specs.declared.policy.Profile.{Profile}
use Rattle.aa_policy.specs.Bodies.{tree_data}
use Rattle.aa_policy.specs.Keeping.{IsNamedAs}
use Rattle.aa_policy.specs.Meant.{AreMeant, IsMeaningless, OfLimit}
use Rattle.aa_policy.proofs.Refusals.{told_on}
use Rattle.aa_policy.proofs.Keeping.{kept_answer, kept_distinct}
use Rattle.aa_policy.proofs.Answered.{of_name, of_path}
use Rattle.aa_policy.proofs.parser.checked_profiles.Goals as goal

pub returns-in_err-kept-clause-refused : goal.returns-in_err-kept-clause-refused
returns-in_err-kept-clause-refused c =
    let vars = c.args.vars.now in
    let tree = tree_data c.args.tree.now in
    let q = err_from_is_err_and c.from_residual.result c.from_residual.ensures.1 in
    let e = c.in_err-kept.ensures in
    told_on c.from_residual.result _ _ (λ f. (f ≡ no_memory) ⊎ IsMeaningless vars tree f) q.1 q.2 (of_path vars tree _ e.cause e.refused)

pub returns-in_err-check_names-clause-refused : goal.returns-in_err-check_names-clause-refused
returns-in_err-check_names-clause-refused c =
    let vars = c.args.vars.now in
    let tree = tree_data c.args.tree.now in
    let r = c.from_residual-in_err-check_names in
    let q = err_from_is_err_and r.result r.ensures.1 in
    let read = c.in_ok-kept.ensures.profiles in
    let named = subst (λ (ps : List Profile). AllZip IsNamedAs read.0 ps) (sym c.as_slice.ensures.value) read.2.named in
    told_on r.result _ _ (λ f. (f ≡ no_memory) ⊎ IsMeaningless vars tree f) q.1 q.2
    (of_name vars tree read.0 _ read.1 (kept_answer read.0 c.as_slice.result.now c.in_err-check_names.field-0.0 named c.in_err-check_names.ensures.repeated))

pub returns-then-kept-clause-refused : goal.returns-then-kept-clause-refused
returns-then-kept-clause-refused c =
    let read = c.in_ok-kept.ensures.profiles in
    let named = subst (λ (ps : List Profile). AllZip IsNamedAs read.0 ps) (sym c.as_slice.ensures.value) read.2.named in
    inr (OfLimit read.0 read.1 (kept_distinct read.0 c.as_slice.result.now named c.in_ok-check_names.ensures.distinct) (read.2.noticed c.if-kept.true) c.at_start.ensures)

pub returns-clause-meant : goal.returns-clause-meant
returns-clause-meant c =
    let read = c.in_ok-kept.ensures.profiles in
    let named = subst (λ (ps : List Profile). AllZip IsNamedAs read.0 ps) (sym c.as_slice.ensures.value) read.2.named in
    subst (λ (ps : List Profile). AreMeant c.args.vars.now (tree_data c.args.tree.now) ps) (sym (read.2.whole c.if-kept.false)) (record {
      means = read.1;
      distinct = kept_distinct read.0 c.as_slice.result.now named c.in_ok-check_names.ensures.distinct;
      limits = read.2.within c.if-kept.false;
    })
