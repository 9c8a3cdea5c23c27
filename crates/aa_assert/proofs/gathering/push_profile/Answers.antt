use Rattle.std.proofs.Common.{ℕ, List, sym, subst, ◌∙◌}
use Rattle.std.proofs.lemmas.Result.{on_ok_weaker}
use Rattle.aa_compile.specs.Labels.{first_profiles}
use Rattle.aa_load.specs.UnitPolicy.{limit_of}
use Rattle.aa_model.specs.declared.policy.Profile.{Profile}
use Rattle.aa_model.specs.declared.label.Label.TheVariants.{Confined}
use Rattle.aa_assert.specs.Findings.{all_found, IsFoundAt, AreFoundOf}
use Rattle.aa_assert.proofs.Looking.{numbered, one_taken, passed, looked}
use Rattle.aa_assert.proofs.gathering.push_profile.Goals as goal

pub returns-then-branch-clause-found : goal.returns-then-branch-clause-found
returns-then-branch-clause-found c =
    let k = c.args.claim in
    let policies = c.args.part.decided.policies.now in
    let was = all_found c.args.findings.now in
    let next = one_taken (first_profiles policies) c.args.number c.args.profile.now (sym (numbered policies c.args.number) ∙ c.requires.there) in
    subst (λ (ps : List Profile). AreFoundOf k.is_first c.args.part (limit_of k.states) k.words.now k.asked.now k.word.now.text.items ps was) (sym next.0)
    (passed k.is_first c.args.part (limit_of k.states) k.words.now k.asked.now k.word.now.text.items _ c.args.profile.now was
    (sym c.in_ok-is_passed.ensures ∙ c.if-branch.true) c.requires.before)

pub returns-clause-found : goal.returns-clause-found
returns-clause-found c =
    let k = c.args.claim in
    let policies = c.args.part.decided.policies.now in
    let was = all_found c.args.findings.now in
    let now = all_found c.push_at.new.findings in
    let next = one_taken (first_profiles policies) c.args.number c.args.profile.now (sym (numbered policies c.args.number) ∙ c.requires.there) in
    on_ok_weaker c.push_at.result
    (λ t. subst (λ (ps : List Profile). AreFoundOf k.is_first c.args.part (limit_of k.states) k.words.now k.asked.now k.word.now.text.items ps now)
    (sym next.0)
    (looked k.is_first c.args.part (limit_of k.states) k.words.now k.asked.now k.word.now.text.items _ c.args.profile.now was now t.0
    (sym c.in_ok-is_passed.ensures ∙ c.if-branch.false)
    (subst (λ (n : ℕ). IsFoundAt c.args.part (limit_of k.states) k.asked.now k.word.now.text.items (Confined 0 n) t.0) (sym next.1) t.1)
    t.2 c.requires.before))
    c.push_at.ensures.added
