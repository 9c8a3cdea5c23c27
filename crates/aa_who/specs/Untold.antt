-- Of whom it can't be told what they are granted.
-- Source: own.
use Rattle.std.specs.Prelude.{ℕ, List, flat_map, codes, Option, Some, None, option_map}
use Rattle.aa_model.specs.declared.policy.Policy.{Policy}
use Rattle.aa_model.specs.declared.label.Label.{Label}
use Rattle.aa_text.specs.Jsons.{json_bytes}
use Rattle.aa_ask.specs.Told.{asker_of}
use Rattle.aa_who.specs.declared.telling.Untold as code

-- a task of which it can't be told: the full name of its profile, if it is confined, and the line on why
pub record Untold : Type 0 where
  pub asker : Option (List ℕ)
  pub line : List ℕ

-- so, without where it lies in memory
abbrev pub untold : code.Untold → Untold
untold u = record { asker = option_map (λ name. name.items) u.asker; line = u.line.items }

-- at that label
abbrev pub untold_at : List Policy → Label → List ℕ → Untold
untold_at policies l line = record { asker = asker_of policies l; line = line }

-- its name in JSON, or null where it isn't confined
abbrev pub json_asker : Option (List ℕ) → List ℕ
json_asker (Some name) = json_bytes name
json_asker None = codes "null"

-- so of one of which it can't be told
abbrev pub json_untold : Untold → List ℕ
json_untold u = json_asker u.asker

-- the lines on all of them
abbrev pub untold_lines : List Untold → List ℕ
untold_lines us = flat_map (λ (u : Untold). u.line) us
