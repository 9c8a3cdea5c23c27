use Rattle.std.proofs.Common.{rules, ◌≡◌, ℕ, List, Some, sym, ap, ◌∙◌}
use Rattle.aa_model.specs.declared.request.Request.{Request}
use Rattle.aa_pattern.specs.declared.pattern.Pattern.{Pattern}
use Rattle.aa_representatives.specs.Names.{literal_of, items_of}
use Rattle.aa_reachability.specs.Single.{IsChangeTo, IsChangeOf}
use Rattle.aa_reachability.proofs.Single.{adds_weaker, of_rule, has_rule}
use Rattle.aa_reachability.proofs.changes.add_change_of.Goals as goal

pub returns-in_ok-add_change-in-Some-2-clause-adds : goal.returns-in_ok-add_change-in-Some-2-clause-adds
returns-in_ok-add_change-in-Some-2-clause-adds c =
    let rule = c.args.rule.now in
    let name = c.as_slice.result.now in
    let lit : items_of c.in-Some.pattern ≡ literal_of c.in-Some-2.name.items = search rules in
    let own : items_of c.in-Some.pattern ≡ literal_of name = lit ∙ ap literal_of (sym c.as_slice.ensures.value) in
    adds_weaker (IsChangeTo name) (IsChangeOf rule) c.args.requests.now.items c.add_change.new.requests.items
    (of_rule rule c.in-Some.pattern name c.in-Some.is own c.if-rule.false) c.in_ok-add_change-in-Some-2.ensures.adds

pub returns-in_ok-add_change-in-Some-2-clause-has : goal.returns-in_ok-add_change-in-Some-2-clause-has
returns-in_ok-add_change-in-Some-2-clause-has c = λ yes.
    let rule = c.args.rule.now in
    let name = c.as_slice.result.now in
    let lit : items_of c.in-Some.pattern ≡ literal_of c.in-Some-2.name.items = search rules in
    let own : items_of c.in-Some.pattern ≡ literal_of name = lit ∙ ap literal_of (sym c.as_slice.ensures.value) in
    has_rule rule c.in-Some.pattern name c.in-Some.is own c.add_change.new.requests.items c.in_ok-add_change-in-Some-2.ensures.has
