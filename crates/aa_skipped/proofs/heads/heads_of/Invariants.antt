use Rattle.std.proofs.Common.{◌≡◌, map}
use Rattle.aa_skipped.specs.Heads.{head_of}
use Rattle.aa_skipped.proofs.heads.heads_of.Given as goal

abbrev pub invariant-loop-profile : goal.invariant-loop-profile
invariant-loop-profile l = l.heads.items ≡ map head_of l.yielded
