use Rattle.std.proofs.Common.{◌≡◌, map, take, option_map}
use Rattle.std.specs.Prelude.{filter}
use Rattle.aa_undecided.specs.Answers.{placed, placed_all, may_be_called}
use Rattle.aa_undecided.proofs.opening.files_called.Given as goal

abbrev pub invariant-loop-file : goal.invariant-loop-file
invariant-loop-file l = placed_all l.files.items ≡ map placed (filter (may_be_called l.compiled.profiles l.name (option_map (λ n. n.items) l.digits)) (take l.file-index l.skipped))
