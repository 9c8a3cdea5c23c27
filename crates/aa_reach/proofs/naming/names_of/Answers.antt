use Rattle.aa_reach.proofs.Names.{named_more, says_one, handed_on}
use Rattle.aa_reach.proofs.naming.names_of.Goals as goal

pub loop-word-preserved : goal.loop-word-preserved
loop-word-preserved c =
    named_more c.args.policies.now c.args.skipped.now c.args.words.now c.loop-word.word-index c.word-item.result c.as_slice.result.now
    c.loop-word.labels.items c.append.new.self.items c.in_ok-names.names.labels.items
    c.loop-word.opens.items c.append-in-loop-word.new.self.items c.in_ok-names.names.opens.items
    c.loop-word-test.true c.word-item.is c.as_slice.ensures.value c.in_ok-append.ensures.items c.in_ok-append-2.ensures.items
    c.in_ok-names.ensures.named c.loop-word.invariant

pub returns-in_err-names-clause-refused : goal.returns-in_err-names-clause-refused
returns-in_err-names-clause-refused c =
    let says = c.in_err-names.ensures.refused in
    handed_on c.from_residual.result _ _ c.from_residual.ensures.1
    (λ y p. rw p (says_one c.args.policies.now c.args.skipped.now c.args.words.now c.loop-word.word-index c.word-item.result c.as_slice.result.now
    c.in_err-names.field-0.0 c.loop-word-test.true c.word-item.is c.as_slice.ensures.value says))
