use Rattle.std.proofs.Common.{◌≡◌, flat_map, take}
use Rattle.aa_files.specs.Texts.{texts, slices}
use Rattle.aa_words.specs.FoundData.{includes_data}
use Rattle.aa_diagnostics.specs.Further.{tried_at}
use Rattle.aa_diagnostics.proofs.further.tried.Given as goal

abbrev pub invariant-loop-include : goal.invariant-loop-include
invariant-loop-include l = texts l.lines.items ≡ flat_map (tried_at (slices l.folders) l.byte) (includes_data (take l.include-index l.include-items))
