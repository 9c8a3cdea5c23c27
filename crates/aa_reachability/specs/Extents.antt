-- How many patterns decide at labels, at most.
-- Source: own.
use Rattle.std.specs.Prelude.{◌≡◌, ◌≤◌, ◌<◌, ℕ, List, Option, Some, length}
use Rattle.std.specs.List.{slice_get}
use Rattle.aa_pattern.specs.Limits.{most_patterns}
use Rattle.aa_model.specs.Lawful.{attachment_patterns}
use Rattle.aa_model.specs.declared.policy.Policy.{Policy}
use Rattle.aa_model.specs.declared.policy.Profile.{Profile}
use Rattle.aa_model.specs.declared.label.Label.{Label}
use Rattle.aa_model.specs.declared.label.Label.TheVariants.{Unconfined, Confined}
use Rattle.aa_compile.specs.Labels.{profile_in}
use Rattle.aa_representatives.specs.Alike.{deciding}
use Rattle.aa_reachability.specs.declared.extent.Extent.{Extent}

-- no more are the attachments of the policy's profiles below one, nor of its top-level profiles, unless they are too many
pub record IsExtent (ps : List Policy) (e : Extent) : Type 0 where
  pub bounded : e.attachments ≤ 65536
  pub most : (p : Policy) (parent : Option ℕ) → slice_get ps e.policy ≡ Some p → e.attachments < 65536 → attachment_patterns parent p.profiles ≤ e.attachments

-- the profile of a label
abbrev pub IsProfileAt : List Policy → Label → Profile → Type 0
IsProfileAt ps (Unconfined k) p = ⊥
IsProfileAt ps (Confined k n) p = profile_in ps k n ≡ Some p

-- the same, and the patterns that decide there can be matched together
pub record IsFewAt (ps : List Policy) (l : Label) (p : Profile) : Type 0 where
  pub at : IsProfileAt ps l p
  pub few : length (deciding ps l) ≤ most_patterns
