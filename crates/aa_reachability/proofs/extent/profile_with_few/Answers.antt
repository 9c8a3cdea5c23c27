use Rattle.std.proofs.Common.{rules, ◌≡◌, ℕ, Some, sym, ap, ◌∙◌, subst}
use Rattle.aa_model.specs.declared.label.Label.{Label}
use Rattle.aa_model.specs.declared.label.Label.TheVariants.{Confined}
use Rattle.aa_compile.specs.Labels.{profile_in}
use Rattle.aa_reachability.specs.Extents.{IsFewAt}
use Rattle.aa_reachability.proofs.Counting.{few_at}
use Rattle.aa_reachability.proofs.extent.profile_with_few.Goals as goal

pub returns : goal.returns
returns c =
    let ps = c.args.policies.now in
    let e = c.args.extent in
    let n = c.in-Confined.number in
    let p = c.in_ok-profile.profile.now in
    let same : c.in-Confined.policy ≡ e.policy = search rules in
    let at : profile_in ps e.policy n ≡ Some p = subst (λ (k : ℕ). profile_in ps k n ≡ Some p) same (sym c.in_ok-profile.ensures) in
    let few = c.has_few.ensures c.if-not-has_few.false in
    let is : Confined e.policy n ≡ c.args.label = ap (λ (k : ℕ). Confined k n) (sym same) ∙ sym c.in-Confined.is in
    subst (λ (l : Label). IsFewAt ps l p) is (few_at ps e n p c.requires at few.0 few.1)
