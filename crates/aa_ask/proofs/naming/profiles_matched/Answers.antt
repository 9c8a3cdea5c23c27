use Rattle.std.proofs.Common.{◌≡◌, ◌++◌, ℕ, List, sym, ap, ◌∙◌, subst, add-one}
use Rattle.aa_model.specs.declared.label.Label.{Label}
use Rattle.aa_ask.specs.Naming.{first_named, label_if}
use Rattle.aa_ask.proofs.naming.profiles_matched.Goals as goal

pub loop-number-preserved : goal.loop-number-preserved
loop-number-preserved c =
    let ps = c.args.policies.now in
    let items = c.args.pattern.now.items.items in
    subst (λ (k : ℕ). c.push_if.new.labels.items ≡ first_named ps items k) (sym (add-one c.loop-number.number))
    (c.in_ok-push_if.ensures ∙ ap (λ (ls : List Label). ls ++ label_if ps items c.loop-number.number) c.loop-number.invariant)
