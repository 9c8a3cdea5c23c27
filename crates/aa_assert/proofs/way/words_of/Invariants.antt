use Rattle.std.proofs.Common.{◌≡◌, ◌++◌, map, length}
use Rattle.aa_assert.specs.Passages.{words_by}
use Rattle.aa_assert.proofs.way.words_of.Given as goal

abbrev pub invariant-loop-rest : goal.invariant-loop-rest
invariant-loop-rest l = map (λ word. word.items) l.words.items ++ words_by l.policies l.label l.rest ≡ words_by l.policies l.fn.from l.requests

abbrev pub decreases-loop-rest : goal.decreases-loop-rest
decreases-loop-rest l = length l.rest
