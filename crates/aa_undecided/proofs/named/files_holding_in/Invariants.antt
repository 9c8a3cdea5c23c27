use Rattle.std.proofs.Common.{◌≡◌, map, take}
use Rattle.std.specs.Prelude.{filter}
use Rattle.aa_undecided.specs.Answers.{placed, placed_all}
use Rattle.aa_undecided.specs.Named.{may_hold}
use Rattle.aa_undecided.proofs.named.files_holding_in.Given as goal

abbrev pub invariant-loop-file : goal.invariant-loop-file
invariant-loop-file l = placed_all l.files.items ≡ map placed (filter (may_hold l.compiled.profiles l.name) (take l.file-index l.skipped))
