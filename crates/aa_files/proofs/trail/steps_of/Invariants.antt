use Rattle.std.proofs.Common.{◌≡◌, flat_map, take, option_to_list}
use Rattle.aa_words.specs.FoundData.{includes_data}
use Rattle.aa_files.specs.Trails.{step_of}
use Rattle.aa_files.proofs.trail.steps_of.Given as goal

abbrev pub invariant-loop-include : goal.invariant-loop-include
invariant-loop-include l = l.steps.items ≡ flat_map (λ i. option_to_list (step_of l.unit l.node i)) (includes_data (take l.include-index l.include-items))
