use Rattle.aa_rules.specs.Reading.{rest_of}
use Rattle.aa_policy.proofs.Preambles.{begins, ends_without}
use Rattle.aa_policy.proofs.preamble.begins_item.Goals as goal

pub returns-then-begins_assignment-clause-yes : goal.returns-then-begins_assignment-clause-yes
returns-then-begins_assignment-clause-yes c = begins c.begins_assignment.result (rest_of c.args.words.now c.args.at) c.begins_assignment.ensures.yes

pub returns-else-begins_assignment-clause-no : goal.returns-else-begins_assignment-clause-no
returns-else-begins_assignment-clause-no c = ends_without c.keyword_stands.result (rest_of c.args.words.now c.args.at) c.if-begins_assignment.ensures.no (rw (← c.as_bytes.ensures.value) c.keyword_stands.ensures.no)
