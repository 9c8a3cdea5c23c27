use Rattle.std.proofs.Common.{codes, rules}
use Rattle.aa_rules.specs.Phrases.{Optional}
use Rattle.aa_rules.specs.Reading.{rest_of}
use Rattle.aa_rules.specs.RuleFaults.{NoEntry, NoTarget}
use Rattle.aa_rules.proofs.FileRules.{no_entry, no_name}
use Rattle.aa_rules.proofs.file_rules.file_of.Goals as goal

pub returns-in_default-clause-refused : goal.returns-in_default-clause-refused
returns-in_default-clause-refused c =
    let read : Optional (codes "owner") (rest_of c.args.words.now c.args.at) c.optional-owner.result.0 (rest_of c.args.words.now c.optional-owner.result.1) = search rules in
    no_entry _ _ _ _ read c.in_default.ensures.missing

pub returns-in_default-target_of-clause-refused : goal.returns-in_default-target_of-clause-refused
returns-in_default-target_of-clause-refused c =
    let read : Optional (codes "owner") (rest_of c.args.words.now c.args.at) c.optional-owner.result.0 (rest_of c.args.words.now c.optional-owner.result.1) = search rules in
    no_name _ _ _ _ _ _ read c.in-Some.ensures.found c.in_default-target_of.ensures.missing

pub returns-in_default-clause-fails : goal.returns-in_default-clause-fails
returns-in_default-clause-fails c =
    let read : Optional (codes "owner") (rest_of c.args.words.now c.args.at) c.optional-owner.result.0 (rest_of c.args.words.now c.optional-owner.result.1) = search rules in
    let f = c.no_entry_fault.ensures.fails in
    record {
      rest = f.rest;
      fails = NoEntry c.optional-owner.result.0 _ read c.in_default.ensures.missing (rw (c.behind_owner-place.ensures.qualified, c.behind_owner-place.ensures.owner) at f.fails);
      at_is = f.at_is;
    }

pub returns-in_default-target_of-clause-fails : goal.returns-in_default-target_of-clause-fails
returns-in_default-target_of-clause-fails c =
    let read : Optional (codes "owner") (rest_of c.args.words.now c.args.at) c.optional-owner.result.0 (rest_of c.args.words.now c.optional-owner.result.1) = search rules in
    let f = c.no_target_fault.ensures.fails in
    record { rest = f.rest; fails = NoTarget _ _ _ _ read c.in-Some.ensures.found c.in_default-target_of.ensures.missing f.fails; at_is = f.at_is }
