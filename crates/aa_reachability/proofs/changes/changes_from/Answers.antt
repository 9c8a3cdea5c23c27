use Rattle.std.proofs.Common.{◌≡◌, ℕ, List, sym, subst, true, false, ◌∙◌}
use Rattle.aa_model.specs.declared.policy.Profile.{Profile}
use Rattle.aa_model.specs.declared.label.Label.{Label}
use Rattle.aa_representatives.specs.Askable.{IsChange}
use Rattle.aa_reachability.specs.Moves.{LeadAllOf}
use Rattle.aa_reachability.specs.Single.{HasNames}
use Rattle.aa_reachability.proofs.Changing.{free_lead}
use Rattle.aa_reachability.proofs.changes.changes_from.Goals as goal

pub returns-in_ok-changes-in-Unconfined-clause-lead : goal.returns-in_ok-changes-in-Unconfined-clause-lead
returns-in_ok-changes-in-Unconfined-clause-lead c =
    let rs = c.in_ok-changes-in-Unconfined.changes.requests.items in
    let made = c.in_ok-changes-in-Unconfined.ensures in
    subst (λ (l : Label). LeadAllOf c.args.policies.now l IsChange rs) (sym c.in-Unconfined.is)
    (free_lead c.args.policies.now c.in-Unconfined.policy rs made.each (subst (λ (ps : List Profile). HasNames ps rs) c.profiles_in.ensures made.has))

pub returns-in_ok-changes-in-Unconfined-clause-granted : goal.returns-in_ok-changes-in-Unconfined-clause-granted
returns-in_ok-changes-in-Unconfined-clause-granted c = λ yes.
    absurd (let e : true ≡ false = sym yes ∙ c.in_ok-changes-in-Unconfined.ensures.unknown in cc)
