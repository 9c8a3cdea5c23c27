use Rattle.std.proofs.Common.{◌≡◌, map, flat_map, take}
use Rattle.aa_files.specs.Links.{link_data, link_at}
use Rattle.aa_files.proofs.trail.links_to.Given as goal

abbrev pub invariant-loop-step : goal.invariant-loop-step
invariant-loop-step l = map link_data l.links.items ≡ flat_map (link_at l.unit) (take l.step-index l.step-items)
