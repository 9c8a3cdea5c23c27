use Rattle.std.proofs.Common.{drop}
use Rattle.aa_files.specs.Numbers.{named_texts}
use Rattle.aa_load.proofs.Gathering.{Gathered}
use Rattle.aa_load.proofs.unit_policy.gather.Given as goal

abbrev pub invariant-loop-index : goal.invariant-loop-index
invariant-loop-index l = Gathered (named_texts l.order l.all) (named_texts (drop l.index-index l.order) l.all) l.sources
