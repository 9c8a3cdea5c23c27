-- Parts that aren't merged, and the report of all, as they are printed.
-- Source: own.
use Rattle.std.specs.Prelude.{ℕ, ◌≡◌, List, codes, Bool, Option, Some, None}
use Rattle.aa_files.specs.Texts.{texts, slices}
use Rattle.aa_command.specs.LogFiles.{LogFiles}
use Rattle.aa_command.specs.Printed.{Printed, faults_alone}
use Rattle.aa_command.specs.Refusals.{SaysUnread}
use Rattle.aa_log.specs.declared.command.LogOptions.{LogOptions}
use Rattle.aa_log.specs.Command.{said_printed, IsLogText}
use Rattle.aa_merge.specs.declared.adding.Merging.{Merging}
use Rattle.aa_merge.specs.declared.command.Unmerged.{Unmerged}
use Rattle.aa_merge.specs.declared.command.Unmerged.TheVariants.{Unread, Refused}
use Rattle.aa_merge.specs.declared.command.UnmergedPart.{UnmergedPart}
use Rattle.aa_merge.specs.Command.{IsFirstUnmerged, IsRefusedPart, SaysRefused}
use Rattle.aa_merge.specs.Parts.{Report}
use Rattle.aa_merge.specs.Reading.{report_of}
use Rattle.aa_merge.specs.Steps.{Refuses}

-- why bytes are no part
abbrev pub IsNoPart : List ℕ → Unmerged → Type 0
IsNoPart bytes (Unread why) = ⊥
IsNoPart bytes (Refused fault) = Refuses fault (report_of bytes)

-- why the part at a path isn't merged with those reports: it can't be read, or is refused
abbrev pub IsUnmerged : Option LogFiles → List Report → List ℕ → Unmerged → Type 0
IsUnmerged files before path (Unread why) = Unit {0}
IsUnmerged files before path (Refused fault) = IsRefusedPart files before path fault

-- it is the first of these paths
pub record IsUnmergedPart (files : Option LogFiles) (paths : List (List ℕ)) (u : UnmergedPart) : Type 0 where
  pub first : IsFirstUnmerged files paths u.path.now
  pub is : IsUnmerged files first.reports u.path.now u.why

-- that is printed
abbrev pub SaysUnmerged : List ℕ → Unmerged → Printed → Type 0
SaysUnmerged path (Unread why) out = SaysUnread path why out
SaysUnmerged path (Refused fault) out = SaysRefused path fault out

-- the report of all is printed as `log` prints it
pub record IsMergedPrinted (m : Merging) (is_json : Bool) (out : Printed) : Type 0 where
  pub options : LogOptions
  pub paths : slices options.logs.now ≡ texts m.paths.items
  pub json : options.is_json ≡ is_json
  pub text : List ℕ
  pub is_text : IsLogText options m.said text
  pub printed : out ≡ said_printed options m.said text 0

-- or that there is no part
abbrev pub IsTogetherPrinted : Option Merging → Bool → Printed → Type 0
IsTogetherPrinted None is_json out = out ≡ faults_alone (codes "error: merge takes at least one part\n") 2
IsTogetherPrinted (Some m) is_json out = IsMergedPrinted m is_json out
