use Rattle.std.proofs.Common.{ℕ, ◌<◌, None}
use Rattle.aa_files.specs.Numbers.{text_in}
use Rattle.aa_job.specs.Shared.{IsFirstByte}
use Rattle.aa_job.proofs.shared.first_include.Given as goal

abbrev pub invariant-loop-file : goal.invariant-loop-file
invariant-loop-file l = (k : ℕ) → k < l.file → IsFirstByte (text_in l.unit k) l.name None
