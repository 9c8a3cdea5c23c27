use Rattle.std.proofs.Common.{refl, subst, sym}
use Rattle.aa_model.specs.declared.policy.Profile.{Profile}
use Rattle.aa_policy.specs.declared.limits.ReadProfile.{ReadProfile}
use Rattle.aa_policy.specs.Bodies.{profile_data}
use Rattle.aa_policy.specs.Keeping.{KeepsProfile, read_profile}
use Rattle.aa_policy.specs.Spelling.{MeansProfile}
use Rattle.aa_policy.proofs.Keeping.{keeps_read}
use Rattle.aa_policy.proofs.expansion.profile.Goals as goal

pub returns-clause-profile : goal.returns-clause-profile
returns-clause-profile c =
    let tree = c.args.tree.now in
    let name = c.in_ok-name.name in
    let attachments = c.in_ok-attachments.attachments in
    let rules = c.in_ok-rules.rules in
    let files = rw c.as_slice.ensures.value at c.in_ok-rules.ensures.files in
    let read : ReadProfile = read_profile tree name attachments rules in
    let p : Profile = record read.profile { files = files.0 } in
    let means : MeansProfile c.args.vars.now (profile_data tree) p = record {
      at_is = refl;
      name_is = c.in_ok-name.ensures;
      parent_is = refl;
      attaches = c.in_ok-attachments.ensures.attaches;
      complain_is = refl;
      audit_is = refl;
      files_are = files.1;
      caps_are = rw c.as_slice.ensures.value at c.in_ok-rules.ensures.caps;
      nets_are = rw c.as_slice.ensures.value at c.in_ok-rules.ensures.nets;
      changes_are = rw c.as_slice.ensures.value at c.in_ok-rules.ensures.changes;
    } in
    let keeps : KeepsProfile p read = keeps_read p files.0 rules.read.files rules.read.files.rules.items files.2 refl in
    (p, means, subst (λ (r : ReadProfile). KeepsProfile p r) (sym c.read_profile.ensures) keeps)
