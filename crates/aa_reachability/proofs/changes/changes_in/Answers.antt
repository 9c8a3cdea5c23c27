use Rattle.std.proofs.Common.{◌≡◌, List, Some, None, sym, subst}
use Rattle.aa_model.specs.declared.policy.Profile.{Profile}
use Rattle.aa_compile.specs.Labels.{profile_in}
use Rattle.aa_reachability.specs.Changes.{AreChangesBy}
use Rattle.aa_reachability.proofs.Changing.{none_lead}
use Rattle.aa_reachability.proofs.Granting.{changes_lead, changes_granted}
use Rattle.aa_reachability.proofs.changes.changes_in.Goals as goal

pub returns-in_ok-changes-in-Some-clause-lead : goal.returns-in_ok-changes-in-Some-clause-lead
returns-in_ok-changes-in-Some-clause-lead c =
    let cs = c.in_ok-changes-in-Some.changes in
    let p = c.in-Some.profile.now in
    changes_lead c.args.policies.now c.args.policy c.args.number p (sym c.in-Some.ensures) cs.requests.items cs.are_granted
    (subst (λ (ps : List Profile). AreChangesBy ps p cs.requests.items cs.are_granted) c.profiles_in.ensures c.in_ok-changes-in-Some.ensures)

pub returns-in_ok-changes-in-Some-clause-granted : goal.returns-in_ok-changes-in-Some-clause-granted
returns-in_ok-changes-in-Some-clause-granted c =
    let cs = c.in_ok-changes-in-Some.changes in
    let p = c.in-Some.profile.now in
    changes_granted c.args.policies.now c.args.policy c.args.number p (sym c.in-Some.ensures) cs.requests.items cs.are_granted
    (subst (λ (ps : List Profile). AreChangesBy ps p cs.requests.items cs.are_granted) c.profiles_in.ensures c.in_ok-changes-in-Some.ensures)

pub returns-in-None-clause-lead : goal.returns-in-None-clause-lead
returns-in-None-clause-lead c = none_lead c.args.policies.now c.args.policy c.args.number c.new.result.items (sym c.in-None.ensures) c.new.ensures.items
