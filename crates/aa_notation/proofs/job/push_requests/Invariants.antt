use Rattle.std.proofs.Common.{◌≡◌, ◌++◌, length, false}
use Rattle.aa_notation.specs.Jobs.{requests_text}
use Rattle.aa_notation.proofs.job.push_requests.Given as goal

abbrev pub invariant-loop-rest : goal.invariant-loop-rest
invariant-loop-rest l = l.out.items ++ requests_text l.is_later l.rest ≡ l.initial.out.items ++ requests_text false l.requests

abbrev pub decreases-loop-rest : goal.decreases-loop-rest
decreases-loop-rest l = length l.rest
