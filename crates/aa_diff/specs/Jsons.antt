-- The report of the differences of two policies, as one JSON object.
-- Source: own.
use Rattle.std.specs.Prelude.{ℕ, List, [], ◌++◌, ◌&&◌, map, length, codes, decimal, count_by, Bool, not, Some, None, if◌then◌else◌, Vec}
use Rattle.std.specs.List.{filter, list_any}
use Rattle.std.specs.declared.alloc.Global.{Global}
use Rattle.aa_model.specs.declared.policy.Policy.{Policy}
use Rattle.aa_model.specs.declared.label.Label.{Label}
use Rattle.aa_model.specs.declared.label.Label.TheVariants.{Confined}
use Rattle.aa_compile.specs.Labels.{label_name}
use Rattle.aa_text.specs.Jsons.{json_bytes, json_place, key_text, bool_text, member_text, list_text}
use Rattle.aa_diff.specs.declared.options.DiffOptions.{DiffOptions}
use Rattle.aa_diff.specs.declared.signs.Sign.{Sign}
use Rattle.aa_diff.specs.declared.signs.Sign.TheVariants.{Gain, Loss, Other}
use Rattle.aa_diff.specs.declared.finding.Finding.{Finding}
use Rattle.aa_ask.specs.Told.{is_confined}
use Rattle.aa_diff.specs.declared.rules.Rule.{Rule}
use Rattle.aa_diff.specs.Findings.{is_profile, is_uncounted, does_count, is_counted}
use Rattle.aa_passed_over.specs.Apart.{ApartRule}
use Rattle.aa_diff.specs.Lines.{Told, lines_with}
use Rattle.aa_diff.specs.Printed.{asked_text, sign_text, side_text, name_asked}
use Rattle.aa_diff.specs.Untold.{AllUntold}
use Rattle.aa_diff.specs.UntoldShown.{json_all_untold}
use Rattle.aa_diff.specs.Report.{headed, is_profile_with, profiles_counted}

-- a rule: where it stands, and how it reads
unfoldable pub json_rule : Rule → List ℕ
json_rule r = codes "{" ++ json_place r.path (Some r.place) ++ member_text (codes "rule") (json_bytes r.text) ++ codes "}"

-- the rules that account for a line, as members
abbrev pub json_accounting : Finding → List ℕ
json_accounting f =
    member_text (codes "old_rules") (list_text (map json_rule f.old_rules)) ++ member_text (codes "new_rules") (list_text (map json_rule f.new_rules))

-- the profile of a line, or null where the task isn't confined
abbrev pub json_profile : List Policy → Label → List ℕ
json_profile ps l = if is_confined l then json_bytes (label_name ps l) else codes "null"

-- the sign of a line, as a member
abbrev pub json_sign : Sign → List ℕ
json_sign sign = member_text (codes "sign") (codes "\"" ++ sign_text sign ++ codes "\"")

-- the profile of a line, its sign, and its first request by all its permissions
unfoldable pub json_start : List Policy → Finding → List ℕ
json_start ps f =
    codes "{" ++ key_text (codes "profile") ++ json_profile ps f.from ++ json_sign f.sign ++ member_text (codes "request") (json_bytes (asked_text f))

-- how it was answered and is, and how many there are besides
unfoldable pub json_told : Finding → List ℕ
json_told f = member_text (codes "change") (json_bytes f.change) ++ member_text (codes "more") (decimal f.more)

-- a line with its rules
abbrev pub json_line : List Policy → Finding → List ℕ
json_line ps f = json_start ps f ++ json_told f ++ json_accounting f ++ codes "}"

-- a finding has a line, and counts
abbrev pub is_line : Finding → Bool
is_line f = not (is_profile f) && does_count f

-- the lines
abbrev pub json_lines : List Policy → List Finding → List ℕ
json_lines ps fs = list_text (map (json_line ps) (filter is_line fs))

-- those about unclean paths alone
abbrev pub json_unclean_lines : List Policy → List Finding → List ℕ
json_unclean_lines ps fs = list_text (map (json_line ps) (filter is_uncounted fs))

-- a member with these, if there are some
abbrev pub json_unclean : List Policy → List Finding → List ℕ
json_unclean ps fs = if list_any is_uncounted fs then member_text (codes "unclean") (json_unclean_lines ps fs) else []

-- the name of a profile that is gone or new
abbrev pub json_name : Finding → List ℕ
json_name f = json_bytes (name_asked f.request)

-- the profiles that are gone, or those that are new
abbrev pub json_names : Sign → List Finding → List ℕ
json_names sign fs = list_text (map json_name (filter (is_profile_with sign) fs))

-- how many profiles are compared, differ, are gone and are new
unfoldable pub json_profile_counts : List Policy → ℕ → List Told → List Finding → List ℕ
json_profile_counts ps out ls fs =
    key_text (codes "compared") ++ decimal (profiles_counted ps out fs) ++ member_text (codes "differ") (decimal (headed 0 None ls))
    ++ member_text (codes "gone") (decimal (count_by (is_profile_with Loss) fs)) ++ member_text (codes "new") (decimal (count_by (is_profile_with Gain) fs))

-- how many lines that count have each sign, and how many rules are passed over
unfoldable pub json_line_counts : List Finding → ℕ → List ℕ
json_line_counts fs rules =
    member_text (codes "gain") (decimal (count_by (is_counted Gain) fs)) ++ member_text (codes "lose") (decimal (count_by (is_counted Loss) fs))
    ++ member_text (codes "other") (decimal (count_by (is_counted Other) fs)) ++ member_text (codes "passed_over") (decimal rules)

-- how many there are
abbrev pub json_counts : List Policy → ℕ → List Told → List Finding → ℕ → List ℕ
json_counts ps out ls fs rules = codes "{" ++ json_profile_counts ps out ls fs ++ json_line_counts fs rules ++ codes "}"

-- the profile of a rule that is passed over, and which policy alone has it
unfoldable pub json_rule_side : List Policy → ApartRule → List ℕ
json_rule_side ps r = key_text (codes "profile") ++ json_bytes (label_name ps (Confined 0 r.profile)) ++ member_text (codes "only_in") (json_bytes (side_text r.side))

-- where it stands, and how it reads
unfoldable pub json_rule_text : ApartRule → List ℕ
json_rule_text r = json_place r.rule.path (Some r.rule.place) ++ member_text (codes "rule") (json_bytes r.rule.text)

-- a rule that is passed over
abbrev pub json_passed_over : List Policy → ApartRule → List ℕ
json_passed_over ps r = codes "{" ++ json_rule_side ps r ++ codes "," ++ json_rule_text r ++ codes "}"

-- the rules that are passed over
abbrev pub json_all_passed_over : List Policy → List ApartRule → List ℕ
json_all_passed_over ps rs = list_text (map (json_passed_over ps) rs)

-- the profiles that are gone and those that are new, as members
unfoldable pub json_profiles : List Finding → List ℕ
json_profiles fs = member_text (codes "gone_profiles") (json_names Loss fs) ++ member_text (codes "new_profiles") (json_names Gain fs)

-- the paths of a side
abbrev pub json_paths : List (Vec ℕ Global) → List ℕ
json_paths paths = list_text (map (λ path. json_bytes path.items) paths)

-- what is compared, and whether gains alone are listed
unfoldable pub json_head : DiffOptions → List ℕ
json_head o =
    codes "{" ++ key_text (codes "old") ++ json_paths o.old.now ++ member_text (codes "new") (json_paths o.new.now)
    ++ member_text (codes "gains_alone") (bool_text o.wanted.gains)

-- the lines, those about unclean paths alone, the rules that are passed over, the profiles that are gone and that are new, how many there are, and what isn't told
abbrev pub json_found : List Policy → List Finding → List ApartRule → AllUntold → List ℕ
json_found ps fs rs a =
    member_text (codes "lines") (json_lines ps fs) ++ json_unclean ps fs ++ member_text (codes "passed_over") (json_all_passed_over ps rs) ++ json_profiles fs
    ++ member_text (codes "counts") (json_counts ps a.left_out (lines_with ps fs rs) fs (length rs)) ++ json_all_untold a

-- the one object, and a line end
abbrev pub json_report : DiffOptions → List Policy → List Finding → List ApartRule → AllUntold → List ℕ
json_report o ps fs rs a = json_head o ++ json_found ps fs rs a ++ codes "}\n"
