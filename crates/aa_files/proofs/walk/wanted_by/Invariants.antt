use Rattle.std.proofs.Common.{◌≡◌, map, take}
use Rattle.aa_files.specs.Texts.{slices}
use Rattle.aa_words.specs.FoundData.{includes_data}
use Rattle.aa_files.specs.WalkData.{wanted_data, wants}
use Rattle.aa_files.proofs.walk.wanted_by.Given as goal

abbrev pub invariant-loop-include : goal.invariant-loop-include
invariant-loop-include l = map wanted_data l.wanted.items ≡ map (wants (slices l.folders)) (includes_data (take l.include-index l.include-items))
