use Rattle.std.proofs.Common.{◌≡◌, ◌++◌, length, false}
use Rattle.aa_notation.specs.Jobs.{includes_text}
use Rattle.aa_notation.proofs.job.push_includes.Given as goal

abbrev pub invariant-loop-rest : goal.invariant-loop-rest
invariant-loop-rest l = l.out.items ++ includes_text l.is_later l.rest ≡ l.initial.out.items ++ includes_text false l.includes

abbrev pub decreases-loop-rest : goal.decreases-loop-rest
decreases-loop-rest l = length l.rest
