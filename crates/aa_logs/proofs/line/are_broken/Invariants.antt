use Rattle.std.proofs.Common.{◌≡◌, length}
use Rattle.aa_logs.specs.Words.{words_data}
use Rattle.aa_logs.specs.Records.{is_broken}
use Rattle.aa_logs.proofs.Broken.{breaks_from}
use Rattle.aa_logs.proofs.line.are_broken.Given as goal

abbrev pub invariant-loop-rest : goal.invariant-loop-rest
invariant-loop-rest l = breaks_from l.is_stamped l.rest ≡ is_broken (words_data l.words)

abbrev pub decreases-loop-rest : goal.decreases-loop-rest
decreases-loop-rest l = length l.rest
