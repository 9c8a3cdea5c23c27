use Rattle.std.proofs.Common.{◌≡◌, map, take}
use Rattle.aa_files.specs.Texts.{texts}
use Rattle.aa_reach.specs.Doubts.{doubted, doubted_name}
use Rattle.aa_reach.proofs.doubts.doubts_on.Given as goal

abbrev pub invariant-loop-word : goal.invariant-loop-word
invariant-loop-word l = map doubted l.doubts.items ≡ map (doubted_name l.skipped) (texts (take l.word-index l.words))
