use Rattle.std.proofs.Common.{ℕ, List, sym, ap, ◌∙◌, subst}
use Rattle.aa_model.specs.declared.request.Request.{Request}
use Rattle.aa_compile.specs.Labels.{policy_number, label_named}
use Rattle.aa_mediate.specs.Reply.{found_or}
use Rattle.aa_reachability.specs.Granted.{IsGranted}
use Rattle.aa_reachability.specs.Moves.{label_in}
use Rattle.aa_reachability.proofs.Keeping.{label_granted}
use Rattle.aa_reachability.proofs.going.label_at.Goals as goal

pub returns-in-Change : goal.returns-in-Change
returns-in-Change c =
    let g = c.args.going in
    let ps = g.policies.now in
    let l = c.args.label in
    let granted = subst (λ (r : Request). IsGranted ps l r) c.in-Change.is (c.requires c.if-is_granted.true) in
    c.label_found.ensures
    ∙ ap (λ (s : List ℕ). found_or l (label_named ps (policy_number l) s)) c.name.ensures.name
    ∙ sym (label_granted g l c.in-Change.change granted)
    ∙ ap (λ (r : Request). label_in g l r) (sym c.in-Change.is)
