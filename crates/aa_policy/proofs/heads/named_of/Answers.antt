use Rattle.std.proofs.Common.{◌∙◌, rules}
use Rattle.aa_rules.specs.Grammar.{LacksAll, is_name_kind}
use Rattle.aa_rules.specs.Reading.{rest_of}
use Rattle.aa_rules.proofs.Namings.{naming_found, naming_none}
use Rattle.aa_policy.proofs.heads.named_of.Goals as goal

pub returns-in_default-clause-kind : goal.returns-in_default-clause-kind
returns-in_default-clause-kind c =
    let none : LacksAll is_name_kind (rest_of c.args.words.now c.args.at) = search rules in
    c.fault.ensures.kind ∙ naming_none is_name_kind _ none

pub returns-then-not-is_plain_name-clause-kind : goal.returns-then-not-is_plain_name-clause-kind
returns-then-not-is_plain_name-clause-kind c = c.fault-then-not-is_plain_name.ensures.kind ∙ c.name_fault.ensures.kind ∙ naming_found is_name_kind _ _ _ c.in-Some.ensures.found
