use Rattle.aa_rules.specs.Reading.{rest_of}
use Rattle.aa_policy.proofs.Preambles.{as_item, no_item}
use Rattle.aa_policy.proofs.preamble.item_of.Goals as goal

pub returns-clause-found : goal.returns-clause-found
returns-clause-found c = as_item c.assignment_of.result c.args.words.now (rest_of c.args.words.now c.args.at) c.args.vars.now c.assignment_of.new.vars c.assignment_of.ensures.found

pub returns-clause-refused : goal.returns-clause-refused
returns-clause-refused c = λ h. no_item (rest_of c.args.words.now c.args.at) c.args.vars.now (rw (← c.as_bytes.ensures.value) c.if-keyword_stands.ensures.no) (c.assignment_of.ensures.refused h)
