use Rattle.std.proofs.Common.{◌∙◌, rules}
use Rattle.aa_rules.specs.Grammar.{LacksAll, is_path_kind}
use Rattle.aa_rules.specs.Reading.{rest_of}
use Rattle.aa_rules.proofs.Namings.{naming_found, naming_none}
use Rattle.aa_policy.proofs.heads.path_named_of.Goals as goal

pub returns-in_default-clause-kind : goal.returns-in_default-clause-kind
returns-in_default-clause-kind c =
    let none : LacksAll is_path_kind (rest_of c.args.words.now c.args.at) = search rules in
    c.fault.ensures.kind ∙ naming_none is_path_kind _ none

pub returns-then-not-is_right_name-clause-kind : goal.returns-then-not-is_right_name-clause-kind
returns-then-not-is_right_name-clause-kind c = c.fault-then-not-is_right_name.ensures.kind ∙ c.name_fault.ensures.kind ∙ naming_found is_path_kind _ _ _ c.in-Some.ensures.found
