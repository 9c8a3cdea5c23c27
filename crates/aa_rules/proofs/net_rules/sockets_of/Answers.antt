use Rattle.std.proofs.Common.{◌+◌, rules}
use Rattle.aa_words.specs.declared.word.WordKind.TheVariants.{Name}
use Rattle.aa_rules.specs.Phrases.{Lacks}
use Rattle.aa_rules.specs.Reading.{rest_of}
use Rattle.aa_rules.proofs.NetRules.{found_one, found_two, no_one, fails_first, fails_second, fails_third}
use Rattle.aa_rules.proofs.net_rules.sockets_of.Goals as goal

pub returns-in_default-word_of_kind-clause-found : goal.returns-in_default-word_of_kind-clause-found
returns-in_default-word_of_kind-clause-found c =
    let none : Lacks Name (rest_of c.args.words.now (c.args.at + 1)) = search rules in
    found_one _ _ _ _ c.in-Some.ensures.found none c.in-Some-one_name.ensures

pub returns-clause-found : goal.returns-clause-found
returns-clause-found c =
    let none : Lacks Name (rest_of c.args.words.now (c.args.at + 1 + 1)) = search rules in
    found_two _ _ _ _ _ _ c.in-Some.ensures.found c.in-Some-word_of_kind.ensures.found none c.in-Some-two_names.ensures

pub returns-in_default-one_name-clause-refused : goal.returns-in_default-one_name-clause-refused
returns-in_default-one_name-clause-refused c = λ x rest a. no_one _ _ _ x rest c.in-Some.ensures.found c.in_default-one_name.ensures a

pub returns-in_default-one_name-clause-fails : goal.returns-in_default-one_name-clause-fails
returns-in_default-one_name-clause-fails c = record {
  rest = rest_of c.args.words.now c.args.at;
  fails = fails_first _ _ _ _ c.in-Some.ensures.found c.in_default-one_name.ensures (search rules);
  at_is = search rules;
}

pub returns-in_default-two_names-clause-fails : goal.returns-in_default-two_names-clause-fails
returns-in_default-two_names-clause-fails c = record {
  rest = rest_of c.args.words.now (c.args.at + 1);
  fails = fails_second _ _ _ _ _ _ _ c.in-Some.ensures.found c.in-Some-word_of_kind.ensures.found c.in-Some-one_name.ensures c.in_default-two_names.ensures (search rules);
  at_is = search rules;
}

pub returns-in-Some-word_of_kind-2-clause-fails : goal.returns-in-Some-word_of_kind-2-clause-fails
returns-in-Some-word_of_kind-2-clause-fails c = record {
  rest = rest_of c.args.words.now (c.args.at + 1 + 1);
  fails = fails_third _ _ _ _ _ _ _ _ _ c.in-Some.ensures.found c.in-Some-word_of_kind.ensures.found c.in-Some-word_of_kind-2.ensures.found c.in-Some-two_names.ensures (search rules);
  at_is = search rules;
}
