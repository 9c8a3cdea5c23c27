-- The report of the differences of two policies.
-- Source: own.
use Rattle.std.specs.Prelude.{ℕ, List, [], ◌∷◌, ◌++◌, ◌+◌, ◌-◌, ◌==◌, ◌&&◌, ◌||◌, not, min, Bool, codes, decimal, count_by, flat_map, length, Option, Some, None, if◌then◌else◌}
use Rattle.aa_model.specs.declared.policy.Policy.{Policy}
use Rattle.aa_model.specs.declared.label.Label.{Label}
use Rattle.aa_model.specs.declared.label.Label.TheVariants.{Confined}
use Rattle.aa_compile.specs.Labels.{label_name, first_profiles}
use Rattle.aa_files.specs.Texts.{texts}
use Rattle.aa_command.specs.declared.decided.Decided.{Decided}
use Rattle.aa_passed_over.specs.Apart.{ApartRule}
use Rattle.aa_differences.specs.declared.at_labels.Difference.{Difference}
use Rattle.aa_diff.specs.declared.signs.Sign.{Sign}
use Rattle.aa_diff.specs.declared.signs.Sign.TheVariants.{Gain, Loss, Other}
use Rattle.aa_diff.specs.declared.finding.Finding.{Finding}
use Rattle.aa_diff.specs.declared.options.Wanted.{Wanted}
use Rattle.aa_diff.specs.Signs.{sign_number}
use Rattle.aa_diff.specs.Findings.{is_profile, is_counted}
use Rattle.aa_diff.specs.Gathered.{gathered}
use Rattle.aa_diff.specs.Joined.{joined_all}
use Rattle.aa_diff.specs.Named.{is_named}
use Rattle.aa_diff.specs.Untold.{AllUntold}
use Rattle.aa_diff.specs.UntoldShown.{untold_text, skipped_text}
use Rattle.aa_diff.specs.Lines.{Told, label_of, is_of_profile, does_line_count, lines_with}
use Rattle.aa_diff.specs.Printed.{name_asked, profile_if, free_text, is_behind, confined_text}

-- the name of the profile that a finding is about, or unconfined
abbrev pub called : List Policy → Finding → List ℕ
called ps f = if is_profile f then name_asked f.request else label_name ps f.from

-- a finding is shown: any or a gain, of any profile or of one of these
abbrev pub is_wanted : List Policy → Wanted → Finding → Bool
is_wanted ps w f = (not w.gains || sign_number f.sign == 0) && is_named (texts w.profiles.now) (called ps f)

-- the finding, if it is shown
abbrev pub wanted_of : List Policy → Wanted → Finding → List Finding
wanted_of ps w f = if is_wanted ps w f then f ∷ [] else []

-- those that are shown
abbrev pub shown_of : List Policy → Wanted → List Finding → List Finding
shown_of ps w fs = flat_map (wanted_of ps w) fs

-- a rule that is passed over is shown: of any profile, or of one of these
abbrev pub is_rule_wanted : List Policy → Wanted → ApartRule → Bool
is_rule_wanted ps w r = is_named (texts w.profiles.now) (label_name ps (Confined 0 r.profile))

-- the rule, if it is shown
abbrev pub rule_wanted_of : List Policy → Wanted → ApartRule → List ApartRule
rule_wanted_of ps w r = if is_rule_wanted ps w r then r ∷ [] else []

-- those that are shown; under gains alone they are shown too, since nobody knows what they open
abbrev pub rules_shown : List Policy → Wanted → List ApartRule → List ApartRule
rules_shown ps w rs = flat_map (rule_wanted_of ps w) rs

-- the findings that differences are, joined as far as they can be
unfoldable pub lines_of : Decided → Decided → List Difference → List Finding
lines_of d e xs = joined_all [] (joined_all [] (gathered d e [] xs []))

-- one more, where it can be counted
abbrev pub one_more : ℕ → ℕ
one_more n = min (n + 1) 18446744073709551615

-- a profile more is counted where the line before is of another
abbrev pub headed_next : ℕ → Option Label → Label → ℕ
headed_next n before l = if is_behind before l then n else one_more n

-- a line is about a profile, and counts
abbrev pub is_of_different : Told → Bool
is_of_different l = is_of_profile l && does_line_count l

-- how many profiles have lines that count behind a heading, and n before
abbrev pub headed : ℕ → Option Label → List Told → ℕ
headed n before [] = n
headed n before (l ∷ ls) = if is_of_different l then headed (headed_next n before (label_of l)) (Some (label_of l)) ls else headed n before ls

-- a profile that is gone, or one that is new
abbrev pub is_profile_with : Sign → Finding → Bool
is_profile_with sign f = is_profile f && sign_number f.sign == sign_number sign

-- how many profiles are in one policy or the other, without so many of the first that aren't compared
abbrev pub profiles_counted : List Policy → ℕ → List Finding → ℕ
profiles_counted ps out fs = min (length (first_profiles ps) - out + count_by (is_profile_with Gain) fs) 18446744073709551615

-- a number, and what it counts
unfoldable pub count_text : ℕ → List ℕ → List ℕ
count_text n what = decimal n ++ what

-- what a number counts: one, or more
abbrev pub of_number : ℕ → List ℕ → List ℕ → List ℕ
of_number n one more = if n == 1 then one else more

-- how many profiles differ, are gone and are new
abbrev pub profile_counts : List Policy → ℕ → List Told → List Finding → List ℕ
profile_counts ps out ls fs =
    count_text (profiles_counted ps out fs) (of_number (profiles_counted ps out fs) (codes " profile compared: ") (codes " profiles compared: "))
    ++ count_text (headed 0 None ls) (of_number (headed 0 None ls) (codes " differs, ") (codes " differ, "))
    ++ count_text (count_by (is_profile_with Loss) fs) (codes " gone, ") ++ count_text (count_by (is_profile_with Gain) fs) (codes " new; ")

-- how many rules that are passed over one policy alone has, if there are any
abbrev pub rules_count : ℕ → List ℕ
rules_count n = if n == 0 then codes "\n" else codes ", " ++ count_text n (codes " passed over\n")

-- how many lines that count have a sign, and what they do
abbrev pub signed_count : Sign → List Finding → List ℕ → List ℕ → List ℕ
signed_count sign fs one more = count_text (count_by (is_counted sign) fs) (of_number (count_by (is_counted sign) fs) one more)

-- how many lines that count have each sign
abbrev pub line_counts : List Finding → List ℕ
line_counts fs =
    codes "lines: " ++ signed_count Gain fs (codes " gains, ") (codes " gain, ") ++ signed_count Loss fs (codes " loses, ") (codes " lose, ")
    ++ count_text (count_by (is_counted Other) fs) (codes " other")

-- the lines of each profile, profiles that are gone or new, and the findings of unconfined tasks
abbrev pub lines_text : List Policy → List Told → List Finding → List ℕ
lines_text ps ls fs = confined_text ps None ls ++ flat_map profile_if fs ++ free_text fs

-- how many there are
abbrev pub counts_text : List Policy → ℕ → List Told → List Finding → ℕ → List ℕ
counts_text ps out ls fs rules = profile_counts ps out ls fs ++ line_counts fs ++ rules_count rules

-- the lines, what isn't told, how many there are, and how many files are skipped
abbrev pub report_of : List Policy → List Told → List Finding → ℕ → AllUntold → List ℕ
report_of ps ls fs rules a = lines_text ps ls fs ++ untold_text a ++ counts_text ps a.left_out ls fs rules ++ skipped_text a

-- the report of what is shown
abbrev pub report_text : List Policy → List Finding → List ApartRule → AllUntold → List ℕ
report_text ps fs rs a = report_of ps (lines_with ps fs rs) fs (length rs) a
