use Rattle.std.proofs.Common.{List, sym, subst, ◌∙◌}
use Rattle.aa_compile.specs.Labels.{first_profiles}
use Rattle.aa_load.specs.UnitPolicy.{limit_of}
use Rattle.aa_model.specs.declared.policy.Profile.{Profile}
use Rattle.aa_assert.specs.Findings.{all_found, AreFoundOf}
use Rattle.aa_assert.proofs.Looking.{numbered, none_taken}
use Rattle.aa_assert.proofs.gathering.push_number.Goals as goal

pub returns-in-None-clause-found : goal.returns-in-None-clause-found
returns-in-None-clause-found c =
    let k = c.args.claim in
    let policies = c.args.part.decided.policies.now in
    subst (λ (ps : List Profile). AreFoundOf k.is_first c.args.part (limit_of k.states) k.words.now k.asked.now k.word.now.text.items ps
    (all_found c.args.findings.now))
    (sym (none_taken (first_profiles policies) c.args.number (sym (numbered policies c.args.number) ∙ sym c.in-None.ensures))) c.requires
