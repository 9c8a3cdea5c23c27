use Rattle.std.specs.Prelude.{◌≢◌}
use Rattle.std.proofs.lemmas.Result.{err_from_is_err_and}
use Rattle.aa_base.specs.declared.fault.PolicyKind.TheVariants.{NoMemory}
use Rattle.aa_policies.specs.Policies.{IsFirstRefused}
use Rattle.aa_policies.proofs.Rows.{more, all, refused_at, handed_on}
use Rattle.aa_policies.proofs.compiling.policies_of.Goals as goal

pub returns-in_err-push_policy-clause-cause : goal.returns-in_err-push_policy-clause-cause
returns-in_err-push_policy-clause-cause c =
    let q = err_from_is_err_and c.from_residual.result c.from_residual.ensures.1 in
    let is = rw c.as_slice-text.ensures at c.in_err-push_policy.ensures.cause in
    handed_on c.from_residual.result _ _ (λ r. r.fault.kind ≢ NoMemory → IsFirstRefused c.args.sources.now c.args.limit c.args.texts.now r) q.1 q.2
    (λ other. refused_at c.args.sources.now c.args.limit c.args.texts.now c.loop-number.number c.loop-number.policies.items c.index-texts-number.result
    c.in_err-push_policy.field-0.0 c.loop-number-test.true c.index-texts-number.is c.loop-number.invariant
    (is other))

pub loop-number-preserved : goal.loop-number-preserved
loop-number-preserved c =
    let added = rw c.as_slice-text.ensures at c.in_ok-push_policy.ensures.added in
    more c.args.sources.now c.args.limit c.args.texts.now c.loop-number.number c.loop-number.policies.items c.push_policy.new.policies.items
    c.index-texts-number.result added.0 c.loop-number-test.true c.index-texts-number.is added.1 added.2 c.loop-number.invariant

pub returns-clause-all : goal.returns-clause-all
returns-clause-all c = all c.args.sources.now c.args.limit c.args.texts.now c.loop-number.number c.loop-number.policies.items c.loop-number-test.false c.loop-number.invariant
