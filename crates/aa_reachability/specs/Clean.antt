-- Arrivals by requests at clean paths alone.
-- Source: own.
use Rattle.std.specs.Prelude.{Bool, true, not, Option, Some, None}
use Rattle.aa_unclean_paths.specs.Requests.{is_at_unclean_path}
use Rattle.aa_reachability.specs.declared.trail.Step.{Step}
use Rattle.aa_reachability.specs.declared.trail.Arrival.{Arrival}

-- the last request, if there is one, isn't at an unclean path
abbrev pub is_clean_step : Option Step → Bool
is_clean_step None = true
is_clean_step (Some step) = not (is_at_unclean_path step.request)

-- so is that of an arrival
abbrev pub has_clean_step : Arrival → Bool
has_clean_step a = is_clean_step a.step
