use Rattle.std.proofs.Common.{arith, ap, sym, ◌∙◌}
use Rattle.aa_files.specs.Texts.{texts}
use Rattle.aa_reach.proofs.Names.{names_read, names_held, says_none}
use Rattle.aa_reach.proofs.naming.names_by.Goals as goal

pub returns-then-not-is_empty-clause-named : goal.returns-then-not-is_empty-clause-named
returns-then-not-is_empty-clause-named c =
    names_read c.args.policies.now c.args.skipped.now c.args.text.now c.in_ok-labels.labels.items (texts c.new-opens.result.items) c.in_ok-labels.ensures
    (grind (arith, c.is_empty.ensures, c.if-not-is_empty.true)) (ap texts c.new-opens.ensures.items)

pub returns-then-not-may_hold-clause-refused : goal.returns-then-not-may_hold-clause-refused
returns-then-not-may_hold-clause-refused c =
    says_none c.args.policies.now c.args.skipped.now c.args.text.now c.in_ok-labels.labels.items c.in_ok-no_profile.field-0 c.in_ok-labels.ensures
    (grind (arith, c.is_empty.ensures, c.if-not-is_empty.false)) (sym c.in_ok-may_hold.ensures ∙ c.if-not-may_hold.true) c.in_ok-no_profile.ensures

pub returns-clause-named : goal.returns-clause-named
returns-clause-named c =
    names_held c.args.policies.now c.args.skipped.now c.args.text.now c.in_ok-labels.labels.items c.in_ok-names.names.labels.items
    (texts c.in_ok-names.names.opens.items) c.in_ok-labels.ensures (grind (arith, c.is_empty.ensures, c.if-not-is_empty.false))
    (sym c.in_ok-may_hold.ensures ∙ c.if-not-may_hold.false) c.in_ok-names.ensures.labels c.in_ok-names.ensures.opens
