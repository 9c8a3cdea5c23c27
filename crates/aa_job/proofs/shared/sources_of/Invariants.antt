use Rattle.std.proofs.Common.{◌≡◌, map, flat_map, option_to_list}
use Rattle.aa_job.specs.Shared.{found_source}
use Rattle.aa_job.proofs.shared.sources_of.Given as goal

abbrev pub invariant-loop-meaning : goal.invariant-loop-meaning
invariant-loop-meaning l = map (λ s. s.now) l.sources.items ≡ flat_map (λ m. option_to_list (found_source m.now.source)) l.yielded
