-- What `redundant` prints.
-- Source: own.
use Rattle.std.specs.Prelude.{◌≡◌, ℕ, ◌==◌, List, [], ◌++◌, length, Bool, Some, slice_get, Option, None, option_map, Err, Contains, MatchBool, if◌then◌else◌}
use Rattle.std.specs.List.{All}
use Rattle.aa_base.specs.declared.unread.Unread.{Unread}
use Rattle.aa_files.specs.Texts.{texts}
use Rattle.aa_files.specs.FilesData.{IsMain, IsMainText}
use Rattle.aa_report.specs.Lines.{lines_in}
use Rattle.aa_model.specs.declared.policy.Policy.{Policy}
use Rattle.aa_model.specs.declared.policy.Profile.{Profile}
use Rattle.aa_model.specs.declared.label.Label.{Label}
use Rattle.aa_model.specs.declared.request.Request.{Request}
use Rattle.aa_representatives.specs.Askable.{IsAskable}
use Rattle.aa_compile.specs.Labels.{first_profiles}
use Rattle.aa_load.specs.UnitPolicy.{limit_of}
use Rattle.aa_command.specs.declared.decided.Decided.{Decided}
use Rattle.aa_command.specs.Setting.{Setting}
use Rattle.aa_command.specs.Printed.{Printed}
use Rattle.aa_command.specs.Refusals.{SaysUnread}
use Rattle.aa_command.specs.Policies.{IsPrintedFor}
use Rattle.aa_check.specs.declared.form.Form.{Form}
use Rattle.aa_skipped.specs.declared.skipped.Skipped.{Skipped}
use Rattle.aa_skipped.specs.Policies.{IsPrintedOf}
use Rattle.aa_redundancy.specs.declared.places.PlaceNumbers.{PlaceNumbers}
use Rattle.aa_redundancy.specs.declared.reasons.Reason.{Reason}
use Rattle.aa_redundancy.specs.declared.redundant.Redundant.{Redundant}
use Rattle.aa_redundancy.specs.declared.fault.UntoldProfile.{UntoldProfile}
use Rattle.aa_redundancy.specs.Places.{OfProfile, ProfileAlike, ProfileWithin}
use Rattle.aa_redundancy.specs.Kept.{IsUntold, KeptAlike, KeptWithin, HoldsBut, SameBut}
use Rattle.aa_redundancy.specs.Going.{AreGoing}
use Rattle.aa_redundancy.specs.Reasons.{AreReasons}
use Rattle.aa_redundancy.specs.Sameness.{answers_to}
use Rattle.aa_redundancy.specs.Spared.{CanGo, AreWithout}
use Rattle.aa_redundancy.specs.Unmatched.{MatchNothing}
use Rattle.aa_redundant.specs.declared.command.RedundantOptions.{RedundantOptions}
use Rattle.aa_redundant.specs.Places.{all_places, all_numbers}
use Rattle.aa_redundant.specs.Leading.{AreOpen}
use Rattle.aa_redundant.specs.Told.{Telling, Explained, rules_of, all_explained, all_undecided}
use Rattle.aa_redundant.specs.Accepted.{held, unknown, gone_among}
use Rattle.aa_command.specs.Untold.{Untelling, untold_lines}
use Rattle.aa_redundant.specs.Untold.{all_untold}
use Rattle.aa_redundant.specs.Forms.{answers_in}
use Rattle.aa_command.specs.Counts.{passed_in}

-- nothing changes for any profile when the rules of some places go; of profiles that can't be told none goes
abbrev pub Spares : Decided → List UntoldProfile → (ℕ → Bool) → Type 0
Spares d us gone = SameBut us (first_profiles d.policies.now) (all_numbers d) (length (first_profiles d.policies.now)) gone

-- something of the rules of each profile without those of some places, and without those of others, and something else of profiles that can't be told
abbrev pub OfProfiles : OfProfile → OfProfile → Decided → List UntoldProfile → (ℕ → Bool) → (ℕ → Bool) → Type 0
OfProfiles Told Kept d us gone others = HoldsBut Told Kept us (first_profiles d.policies.now) (all_numbers d) (length (first_profiles d.policies.now)) gone others

-- without the rules of a place that can go, or of all places that can go together, the policy answers every list of requests as it does
abbrev pub AnswersStay : Decided → Redundant → Type 0
AnswersStay d r = (p q : Policy) → p.profiles ≡ first_profiles d.policies.now → (gone : ℕ → Bool) → CanGo (length (all_places d)) r.going gone → AreWithout gone (all_numbers d) p.profiles q.profiles
    → (l : Label) (rs : List Request) → All IsAskable rs → answers_to p l rs ≡ answers_to q l rs

-- the rules of a place that is redundant beside no other match nothing that can be asked for, in any profile
abbrev pub NothingMatches : Decided → Redundant → Type 0
NothingMatches d r = All (λ (x : Reason). x.beside.items ≡ [] → (k : ℕ) (p : Profile) (m : PlaceNumbers)
    → slice_get (first_profiles d.policies.now) k ≡ Some p → slice_get (all_numbers d) k ≡ Some m → MatchNothing p m x.place) r.reasons.items

-- the rules that can go, by themselves and together without those that are held, and why; without them every answer stays, and those beside none match
-- nothing; of profiles that need too many states, or have too many patterns, none goes
pub record AreRedundant (d : Decided) (limit : ℕ) (held : List Bool) (r : Redundant) : Type 0 where
  pub going : AreGoing (Spares d r.untold.items) (length (all_places d)) held r.going
  pub reasons : AreReasons (OfProfiles ProfileAlike KeptAlike d r.untold.items) (OfProfiles ProfileWithin KeptWithin d r.untold.items) r.going.alone.items r.reasons.items
  pub answers : AnswersStay d r
  pub silent : NothingMatches d r
  pub untold : (u : UntoldProfile) → Contains r.untold.items u → IsUntold (first_profiles d.policies.now) limit u

-- 4 where a rule can go, and else 5 where files are skipped, which aren't looked at
abbrev pub status_by : List Explained → List Skipped → ℕ
status_by redundant skipped = if length redundant == 0 then (if length skipped == 0 then 0 else 5) else 4

-- 1 where there are profiles that can't be told, before those
abbrev pub status_of : List Untelling → List Explained → List Skipped → ℕ
status_of untold redundant skipped = if length untold == 0 then status_by redundant skipped else 1

-- so they are printed: those that aren't accepted, those that may lead to profiles of skipped files, those that can go together, and of which
-- accepted lines the rule isn't redundant; so are profiles that can't be told, and how many rules decide nothing
abbrev pub rules_printed : Form → ℕ → List (List ℕ) → List Skipped → List Explained → List Untelling → List Telling → List Telling → Printed
rules_printed form passed lines skipped found untold undecided going = record {
  answers = answers_in form passed (length skipped) (unknown lines found) untold undecided going;
  faults = untold_lines untold ++ gone_among lines found undecided;
  refusal = [];
  status = status_of untold (unknown lines found) skipped;
}

-- the rules of the places that can go, but for those that are open
abbrev pub redundant_printed : Form → List (List ℕ) → List Skipped → List Bool → Decided → Redundant → Printed
redundant_printed form lines skipped unsure d r =
    rules_printed form (passed_in d.policies.now) lines skipped (all_explained unsure d.units.now (all_places d) r.reasons.items)
    (all_untold (first_profiles d.policies.now) r.untold.items) (all_undecided unsure d.units.now (all_places d) r.reasons.items)
    (rules_of d.units.now r.going.together.items (all_places d))

-- what is printed of the policy that files are beside those that are skipped, but for these lines: the rules of the places that can go and why, and
-- of which profiles that can't be told
pub record IsRedundantOf (states : ℕ) (o : RedundantOptions) (lines : List (List ℕ)) (skipped : List Skipped) (d : Decided) (out : Printed) : Type 0 where
  pub unsure : List Bool
  pub are_open : AreOpen d skipped unsure
  pub redundant : Redundant
  pub are : AreRedundant d (limit_of states) (held d.units.now lines unsure (all_places d)) redundant
  pub is : out ≡ redundant_printed o.form lines skipped unsure d redundant

-- what is printed of the files that are named, but for the lines of a text: of those that aren't refused, where these are to be skipped, and else
-- of all
abbrev pub IsRedundantBut : Setting → RedundantOptions → List (List ℕ) → Printed → Type 0
IsRedundantBut s o lines out =
    MatchBool o.skips (IsPrintedOf s (texts o.files.now) (IsRedundantOf s.states o lines) out) (IsPrintedFor s (texts o.files.now) (IsRedundantOf s.states o lines []) out)

-- so by the file with rules that are accepted, or that it can't be read
pub data IsRedundantBy (s : Setting) (o : RedundantOptions) (path : List ℕ) (out : Printed) : Type 0 where
  CantRead : (why : Unread) → IsMain s.files s.input path (Err why) → SaysUnread path why out → IsRedundantBy s o path out
  Accepted : (text : List ℕ) → IsMainText s.files s.input path text → IsRedundantBut s o (lines_in text) out → IsRedundantBy s o path out

-- where there is such a file
abbrev pub IsRedundantIf : Setting → RedundantOptions → Option (List ℕ) → Printed → Type 0
IsRedundantIf s o None out = IsRedundantBut s o [] out
IsRedundantIf s o (Some path) out = IsRedundantBy s o path out

-- what `redundant` prints
abbrev pub IsRedundantOutput : Setting → RedundantOptions → Printed → Type 0
IsRedundantOutput s o out = IsRedundantIf s o (option_map (λ path. path.now) o.known) out
