-- Profiles of which nothing is told.
-- Source: own.
use Rattle.std.specs.Prelude.{ℕ, List, ◌++◌, flat_map, codes}
use Rattle.aa_text.specs.Jsons.{json_bytes}
use Rattle.aa_command.specs.declared.untold.Untold.{Untold}

-- its full name, and what is said of it
pub record Untelling : Type 0 where
  pub profile : List ℕ
  pub text : List ℕ

-- the same of what the code keeps
abbrev pub untelling : Untold → Untelling
untelling u = record { profile = u.profile.items; text = u.text.items }

-- as an error, in a line
unfoldable pub untold_line : Untelling → List ℕ
untold_line u = codes "error: " ++ u.text ++ codes "\n"

-- a line for each
abbrev pub untold_lines : List Untelling → List ℕ
untold_lines all = flat_map untold_line all

-- its name in JSON
abbrev pub json_untold : Untelling → List ℕ
json_untold u = json_bytes u.profile
