use Rattle.std.proofs.Common.{◌≡◌, length}
use Rattle.aa_assert.specs.Findings.{files_on_way}
use Rattle.aa_assert.proofs.finding.files_on_way.Given as goal

abbrev pub invariant-loop-rest : goal.invariant-loop-rest
invariant-loop-rest l =
    files_on_way l.part.decided.policies.now l.part.skipped.now l.label l.rest ≡ files_on_way l.part.decided.policies.now l.part.skipped.now l.fn.from l.requests

abbrev pub decreases-loop-rest : goal.decreases-loop-rest
decreases-loop-rest l = length l.rest
