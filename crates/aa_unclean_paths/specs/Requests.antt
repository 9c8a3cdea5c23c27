-- Requests at unclean paths.
-- Source: own.
use Rattle.std.specs.Prelude.{◌⊎◌, Bool, false, not, ◌||◌}
use Rattle.aa_model.specs.declared.request.Request.{Request}
use Rattle.aa_model.specs.declared.request.Request.TheVariants.{File, Link, Exec}
use Rattle.aa_unclean_paths.specs.Components.{IsUnclean}
use Rattle.aa_unclean_paths.specs.Deciding.{is_unclean}

-- a path of the request is unclean: no kernel asks so
abbrev pub IsAtUncleanPath : Request → Type 0
IsAtUncleanPath (File r) = IsUnclean r.path
IsAtUncleanPath (Link r) = IsUnclean r.link ⊎ IsUnclean r.target
IsAtUncleanPath (Exec r) = IsUnclean r.path
IsAtUncleanPath _ = ⊥

-- the same by the test
abbrev pub is_at_unclean_path : Request → Bool
is_at_unclean_path (File r) = is_unclean r.path
is_at_unclean_path (Link r) = is_unclean r.link || is_unclean r.target
is_at_unclean_path (Exec r) = is_unclean r.path
is_at_unclean_path _ = false

-- a request counts: it is at a clean path, or unclean ones count as others
abbrev pub does_request_count : Bool → Request → Bool
does_request_count unclean r = unclean || not (is_at_unclean_path r)
