-- The full names of profiles, and where they stand.
-- Source: apparmor.d(5), "Profile Head".
use Rattle.std.specs.Prelude.{ℕ, List, ◌∷◌, map}
use Rattle.aa_base.specs.declared.fault.Spot.{Spot}
use Rattle.aa_policy.specs.Bodies.{ChildData, FamilyData, ProfileData, child_name}
use Rattle.aa_diagnostics.specs.declared.names.ProfileName.{ProfileName}

-- a profile's full name, and where it stands
pub record NamedAt : Type 0 where
  pub at : Spot
  pub name : List ℕ

-- that of a profile as it is written
abbrev pub named_of : ProfileData → NamedAt
named_of p = record { at = p.at; name = p.name }

-- that of a child of the profile of this name
abbrev pub child_named : List ℕ → ChildData → NamedAt
child_named parent c = record { at = c.head.title.at; name = child_name parent c.head.title.name }

-- those of a top-level profile and of its children
abbrev pub family_names : FamilyData → List NamedAt
family_names f = record { at = f.head.title.at; name = f.head.title.name } ∷ map (child_named f.head.title.name) f.children

-- the same of what the code keeps
abbrev pub named_data : ProfileName → NamedAt
named_data p = record { at = p.at; name = p.name.items }
