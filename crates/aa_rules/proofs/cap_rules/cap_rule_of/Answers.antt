use Rattle.std.proofs.Common.{◌≡◌, ℕ, ap, sym, ◌∙◌, rules}
use Rattle.aa_model.specs.declared.rule.CapRule.{CapRule}
use Rattle.aa_rules.specs.declared.tree.Qualifiers.{Qualifiers}
use Rattle.aa_rules.proofs.CapRules.{caps_all, caps_some}
use Rattle.aa_rules.proofs.cap_rules.cap_rule_of.Goals as goal

abbrev rule : Qualifiers → ℕ → CapRule
rule q caps = record { audit = q.audit; deny = q.deny; caps = record { 0 = caps } }

pub returns-then-named-eq0-clause-found : goal.returns-then-named-eq0-clause-found
returns-then-named-eq0-clause-found c =
    let found = c.in_ok-named.ensures.found in
    let none : c.in_ok-named.named.0 ≡ 0 = search rules in
    record { numbers = found.0; names_stand = found.1; rule_is = ap (rule c.args.qualifiers) (sym (caps_all found.0 (sym found.2 ∙ none))) }

pub returns-else-named-eq0-clause-found : goal.returns-else-named-eq0-clause-found
returns-else-named-eq0-clause-found c =
    let found = c.in_ok-named.ensures.found in
    let some : c.in_ok-named.named.0 ≡ 0 → ⊥ = search rules in
    record { numbers = found.0; names_stand = found.1; rule_is = ap (rule c.args.qualifiers) (found.2 ∙ sym (caps_some found.0 (λ e. some (found.2 ∙ e)))) }
