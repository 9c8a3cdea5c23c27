use Rattle.std.proofs.Common.{refl, sym, take, drop, suc, ◌∙◌}
use Rattle.aa_assert.proofs.Unanswered.{parted}
use Rattle.aa_assert.proofs.scope.check_words.Goals as goal

pub returns-then-not-branch-clause-refused : goal.returns-then-not-branch-clause-refused
returns-then-not-branch-clause-refused c = (
  refl,
  record {
    earlier = take c.loop-word.word-index c.args.words.now;
    word = c.word-item.result;
    later = drop (suc c.loop-word.word-index) c.args.words.now;
    among = parted c.args.words.now c.loop-word.word-index c.word-item.result c.loop-word-test.true c.word-item.is;
    known = c.loop-word.invariant;
    unknown = sym c.in_ok-is_somebody.ensures ∙ c.if-not-branch.true;
    at_is = refl;
  },
)
