-- What isn't told: where files are skipped, and which of them could tell; and where patterns are too many.
-- Source: own.
use Rattle.std.specs.Prelude.{ℕ, List, [], ◌∷◌, ◌++◌, ◌+◌, ◌&&◌, not, min, map, flat_map, count_by, codes, Bool, true, false, Option, Some, if◌then◌else◌, filter}
use Rattle.std.specs.Option.{option_map_or}
use Rattle.std.specs.List.{list_any, slice_get}
use Rattle.std.specs.Str.{bytes_eq}
use Rattle.aa_model.specs.declared.policy.Policy.{Policy}
use Rattle.aa_model.specs.declared.policy.Profile.{Profile}
use Rattle.aa_model.specs.declared.label.Label.{Label}
use Rattle.aa_model.specs.declared.label.Label.TheVariants.{Unconfined, Confined}
use Rattle.aa_compile.specs.FileRules.{is_nil}
use Rattle.aa_files.specs.Texts.{texts}
use Rattle.aa_skipping.specs.declared.unread.Head.{Head}
use Rattle.aa_skipped.specs.declared.skipped.Skipped.{Skipped}
use Rattle.aa_compile.specs.Labels.{label_name, first_profiles}
use Rattle.aa_ask.specs.Told.{is_confined}
use Rattle.aa_undecided.specs.Answers.{PlacedFile, placed, placed_all, files_deciding}
use Rattle.aa_undecided.specs.Named.{may_hold, files_holding_in}
use Rattle.aa_differences.specs.declared.at_labels.Difference.{Difference}
use Rattle.aa_differences.specs.declared.comparison.Excess.{Excess}
use Rattle.aa_differences.specs.declared.comparison.UntoldLabels.{UntoldLabels}
use Rattle.aa_passed_over.specs.declared.apart.Side.{Side}
use Rattle.aa_passed_over.specs.declared.apart.Side.TheVariants.{Old, New}
use Rattle.aa_passed_over.specs.Apart.{number_named}
use Rattle.aa_diff.specs.declared.options.Wanted.{Wanted}
use Rattle.aa_diff.specs.declared.part.Part.{Part}
use Rattle.aa_diff.specs.declared.untold.Subject.{Subject}
use Rattle.aa_diff.specs.declared.untold.Subject.TheVariants as subject
use Rattle.aa_diff.specs.declared.untold.Doubt.{Doubt}
use Rattle.aa_diff.specs.declared.untold.TooLarge.{TooLarge}
use Rattle.aa_diff.specs.declared.untold.Doubts.{Doubts}
use Rattle.aa_diff.specs.Named.{is_named}
use Rattle.aa_differences.specs.Openings.{is_open_label}

-- of whom something isn't told: tasks without a profile, those of the profile with a full name, or those of any that isn't read
pub data About : Type 0 where
  Free : About
  Named : List ℕ → About
  Others : About

-- so, without where it lies in memory
abbrev pub about : Subject → About
about subject.Unconfined = Free
about (subject.Profile name) = Named name.items
about subject.Others = Others

-- who that is, and the skipped files of each side that could tell
pub record Untold : Type 0 where
  pub who : About
  pub old : List PlacedFile
  pub new : List PlacedFile

-- so, without where it lies in memory
abbrev pub untold : Doubt → Untold
untold x = record { who = about x.subject; old = placed_all x.old.items; new = placed_all x.new.items }

-- ---- what is shown

-- it is shown: of anybody, or of those who are wanted
abbrev pub is_shown : Wanted → About → Bool
is_shown w Free = is_named (texts w.profiles.now) (codes "unconfined")
is_shown w (Named name) = is_named (texts w.profiles.now) name
is_shown w Others = true

-- something isn't told, where some files could tell
abbrev pub is_some_file : List PlacedFile → List PlacedFile → Bool
is_some_file old new = not (is_nil old && is_nil new)

-- that, if it is so and shown
abbrev pub untold_if : Wanted → About → List PlacedFile → List PlacedFile → List Untold
untold_if w who old new = if is_shown w who && is_some_file old new then record { who = who; old = old; new = new } ∷ [] else []

-- ---- labels at which something is undecided

-- a skipped file could change what is answered at a label
abbrev pub opens : List Profile → Label → Skipped → Bool
opens profiles l k = is_open_label profiles k.unread l

-- the files of which that is so
abbrev pub files_opening_in : List Skipped → Label → Policy → List PlacedFile
files_opening_in skipped l policy = map placed (filter (opens policy.profiles l) skipped)

-- the same by the one policy
unfoldable pub files_opening : Part → Label → List PlacedFile
files_opening d l = option_map_or (files_opening_in d.skipped.now l) (slice_get d.decided.policies.now 0) []

-- somebody at labels that are called the same, where a skipped file of either side could change what is answered there
abbrev pub undecided_at : Wanted → Part → Part → About → Label → Label → List Untold
undecided_at w d e who l m = untold_if w who (files_opening d l) (files_opening e m)

-- so at the labels of profiles with these numbers, if there are both
abbrev pub undecided_by : Wanted → Part → Part → List ℕ → Option ℕ → Option ℕ → List Untold
undecided_by w d e name (Some n) (Some m) = undecided_at w d e (Named name) (Confined 0 n) (Confined 0 m)
undecided_by w d e name _ _ = []

-- so of the profiles that are called as this one
abbrev pub undecided_of : Wanted → Part → Part → Profile → List Untold
undecided_of w d e p = undecided_by w d e p.name (number_named d.decided.policies.now p.name) (number_named e.decided.policies.now p.name)

-- so of tasks without a profile, and of all profiles that both sides read
abbrev pub all_undecided : Wanted → Part → Part → List Untold
all_undecided w d e = undecided_at w d e Free (Unconfined 0) (Unconfined 0) ++ flat_map (undecided_of w d e) (first_profiles d.decided.policies.now)

-- ---- profiles that aren't compared

-- something isn't told of somebody, and files of one side could tell
abbrev pub untold_of : Wanted → About → Side → List PlacedFile → List Untold
untold_of w who Old files = untold_if w who files []
untold_of w who New files = untold_if w who [] files

-- the profile that a head of a skipped file tells
abbrev pub untold_head : Wanted → Side → Skipped → Head → List Untold
untold_head w side k h = untold_of w (Named h.name) side (placed k ∷ [])

-- any, where its heads may not be all
abbrev pub untold_others : Wanted → Side → Skipped → List Untold
untold_others w side k = if k.unread.others then untold_of w Others side (placed k ∷ []) else []

-- those of the file
abbrev pub untold_file : Wanted → Side → Skipped → List Untold
untold_file w side k = flat_map (untold_head w side k) k.unread.heads ++ untold_others w side k

-- a head has the name
abbrev pub has_name : List ℕ → Head → Bool
has_name name h = bytes_eq h.name name

-- a head of a skipped file has it
abbrev pub is_head : List ℕ → Skipped → Bool
is_head name k = list_any (has_name name) k.unread.heads

-- the skipped files that may hold the profile of that name, which none that is read has, by the one policy
unfoldable pub files_holding : Part → List ℕ → List PlacedFile
files_holding d name = option_map_or (files_holding_in d.skipped.now name) (slice_get d.decided.policies.now 0) []

-- a profile that the other side reads and files of this one may hold, and that no head tells
abbrev pub untold_missing : Wanted → Side → Part → Profile → List Untold
untold_missing w side d p = if list_any (is_head p.name) d.skipped.now then [] else untold_of w (Named p.name) side (files_holding d p.name)

-- all
abbrev pub all_not_compared : Wanted → Part → Part → List Untold
all_not_compared w d e =
    flat_map (untold_file w Old) d.skipped.now ++ flat_map (untold_file w New) e.skipped.now
    ++ flat_map (untold_missing w New e) (first_profiles d.decided.policies.now) ++ flat_map (untold_missing w Old d) (first_profiles e.decided.policies.now)

-- a profile of the old side isn't compared: files of the new one may hold it
abbrev pub is_left_out : Part → Profile → Bool
is_left_out e p = option_map_or (λ (policy : Policy). list_any (may_hold policy.profiles p.name) e.skipped.now) (slice_get e.decided.policies.now 0) false

-- ---- labels at which differences can't be told

-- who has a label
abbrev pub about_label : List Policy → Label → About
about_label ps (Unconfined k) = Free
about_label ps (Confined k n) = Named (label_name ps (Confined k n))

-- somebody at whose labels the patterns are too many together, or need more than so many states
pub record Large : Type 0 where
  pub who : About
  pub why : Excess
  pub limit : ℕ

-- so, without where it lies in memory
abbrev pub large : TooLarge → Large
large x = record { who = about x.subject; why = x.why; limit = x.limit }

-- so of labels at which differences can't be told
abbrev pub large_at : List Policy → ℕ → UntoldLabels → Large
large_at ps limit u = record { who = about_label ps u.from; why = u.why; limit = limit }

-- that, if it is shown
abbrev pub large_of : Wanted → List Policy → ℕ → UntoldLabels → List Large
large_of w ps limit u = if is_shown w (about_label ps u.from) then large_at ps limit u ∷ [] else []

-- those that are shown
abbrev pub all_large : Wanted → List Policy → ℕ → List UntoldLabels → List Large
all_large w ps limit us = flat_map (large_of w ps limit) us

-- they are those of a profile
abbrev pub is_profiles : UntoldLabels → Bool
is_profiles u = is_confined u.from

-- how many profiles of the old side aren't compared: files of the new one may hold them, or their patterns are too many
abbrev pub all_left_out : Part → Part → List UntoldLabels → ℕ
all_left_out d e us = min (count_by (is_left_out e) (first_profiles d.decided.policies.now) + count_by is_profiles us) 18446744073709551615

-- ---- together

-- at which labels something is undecided, which profiles aren't compared, whose patterns are too many, how many profiles of the old side
-- aren't compared for either reason, and the skipped files
pub record AllUntold : Type 0 where
  pub undecided : List Untold
  pub not_compared : List Untold
  pub too_large : List Large
  pub left_out : ℕ
  pub old : List PlacedFile
  pub new : List PlacedFile

-- so, without where it lies in memory
abbrev pub doubts_data : Doubts → AllUntold
doubts_data x = record {
  undecided = map untold x.undecided.items;
  not_compared = map untold x.not_compared.items;
  too_large = map large x.too_large.items;
  left_out = x.left_out;
  old = placed_all x.old.items;
  new = placed_all x.new.items;
}

-- all that is shown, where at these labels differences can't be told by so many states
abbrev pub all_untold : Wanted → ℕ → Part → Part → List UntoldLabels → AllUntold
all_untold w limit d e us = record {
  undecided = all_undecided w d e;
  not_compared = all_not_compared w d e;
  too_large = all_large w d.decided.policies.now limit us;
  left_out = all_left_out d e us;
  old = map placed d.skipped.now;
  new = map placed e.skipped.now;
}

-- ---- differences

-- skipped files of neither side could decide a difference
abbrev pub is_decided : Part → Part → Difference → Bool
is_decided d e x =
    is_nil (files_deciding d.decided.policies.now d.skipped.now x.from x.request) && is_nil (files_deciding e.decided.policies.now e.skipped.now x.to x.request)

-- the difference, if that is so
abbrev pub decided_if : Part → Part → Difference → List Difference
decided_if d e x = if is_decided d e x then x ∷ [] else []

-- those differences of which it is
abbrev pub decided_of : Part → Part → List Difference → List Difference
decided_of d e xs = flat_map (decided_if d e) xs
