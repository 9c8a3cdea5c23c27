-- The report of the differences of two policies, as a page.
-- Source: own.
use Rattle.std.specs.Prelude.{ℕ, List, [], ◌∷◌, ◌++◌, ◌+◌, ◌==◌, codes, flat_map, length, Bool, true, Option, Some, None, if◌then◌else◌}
use Rattle.std.specs.List.{list_any}
use Rattle.aa_base.specs.Values.{value}
use Rattle.aa_model.specs.declared.policy.Policy.{Policy}
use Rattle.aa_model.specs.declared.label.Label.{Label}
use Rattle.aa_compile.specs.Labels.{label_name}
use Rattle.aa_page.specs.declared.mark.Mark as page
use Rattle.aa_page.specs.declared.mark.Mark.TheVariants as marked
use Rattle.aa_page.specs.Escaped.{shown, code_text}
use Rattle.aa_page.specs.Pages.{page_start, page_end, section_start, section_end, list_start, list_end, paragraph}
use Rattle.aa_page.specs.Lines.{line_start, line_end, rule_line}
use Rattle.aa_files.specs.Texts.{texts}
use Rattle.aa_notation.specs.Kinds.{word_text}
use Rattle.aa_passed_over.specs.declared.apart.Side.{Side}
use Rattle.aa_passed_over.specs.declared.apart.Side.TheVariants.{Old, New}
use Rattle.aa_passed_over.specs.Apart.{ApartRule}
use Rattle.aa_diff.specs.declared.options.DiffOptions.{DiffOptions}
use Rattle.aa_diff.specs.declared.signs.Sign.{Sign}
use Rattle.aa_diff.specs.declared.signs.Sign.TheVariants.{Gain, Loss, Other}
use Rattle.aa_diff.specs.declared.finding.Finding.{Finding}
use Rattle.aa_diff.specs.declared.rules.Rule.{Rule}
use Rattle.aa_diff.specs.Findings.{is_profile}
use Rattle.aa_diff.specs.Untold.{Untold, Large, AllUntold}
use Rattle.aa_diff.specs.UntoldShown.{untold_words, large_words, skipped_text}
use Rattle.aa_diff.specs.Lines.{Told, Found, PassedOver, label_of, is_of_profile, lines_with}
use Rattle.aa_diff.specs.Printed.{asked_text, only_text, more_text, gone_text, name_asked, is_free, is_behind, side_text}
use Rattle.aa_diff.specs.Report.{profile_counts, line_counts, rules_count}

-- what the line of a finding is marked with
abbrev pub mark_of : Sign → page.Mark
mark_of Gain = marked.Gain
mark_of Loss = marked.Loss
mark_of Other = marked.Other

-- what the line of a rule is marked with, by the policy that has it
abbrev pub side_mark : Side → page.Mark
side_mark Old = marked.Old
side_mark New = marked.New

-- a rule with its place
abbrev pub html_rule : page.Mark → Rule → List ℕ
html_rule m r = rule_line m r.path r.place r.text

-- the rules that account for a line, in a list
unfoldable pub html_accounting : Finding → List ℕ
html_accounting f = list_start ++ flat_map (html_rule marked.Old) f.old_rules ++ flat_map (html_rule marked.New) f.new_rules ++ list_end

-- the mark of a line, that it is about unclean paths alone, and its first request
unfoldable pub html_asked : Finding → List ℕ
html_asked f = line_start (mark_of f.sign) ++ only_text f.unclean ++ code_text (asked_text f)

-- how it was answered and is, and how many there are besides
unfoldable pub html_change : Finding → List ℕ
html_change f = codes " " ++ shown f.change ++ more_text f.more

-- the line of a finding, with its rules
unfoldable pub html_line : Finding → List ℕ
html_line f = html_asked f ++ html_change f ++ html_accounting f ++ line_end

-- which policy alone has a rule that is passed over
unfoldable pub html_only : Side → List ℕ
html_only side = codes "only in " ++ side_text side

-- the rule itself, in a list
unfoldable pub html_rule_alone : ApartRule → List ℕ
html_rule_alone r = list_start ++ rule_line (side_mark r.side) r.rule.path r.rule.place r.rule.text ++ list_end

-- the line of a rule that is passed over
unfoldable pub html_passed_over : ApartRule → List ℕ
html_passed_over r = line_start marked.PassedOver ++ html_only r.side ++ html_rule_alone r ++ line_end

-- a line about a profile
abbrev pub html_told : Told → List ℕ
html_told (Found f) = html_line f
html_told (PassedOver r) = html_passed_over r

-- what a profile is called, as the title of its section
abbrev pub profile_title : List Policy → Label → List ℕ
profile_title ps l = codes "profile " ++ value (label_name ps l)

-- the begin of a section with a list
unfoldable pub section_open : List ℕ → List ℕ
section_open title = section_start true title ++ list_start

-- the end of a section with a list
unfoldable pub section_close : List ℕ
section_close = list_end ++ section_end

-- the end of the section of the line before, if there is one
abbrev pub html_closing : Option Label → List ℕ
html_closing None = []
html_closing (Some l) = section_close

-- the begin of a profile's section behind that of another, where the line before is of another
abbrev pub html_heading : List Policy → Option Label → Label → List ℕ
html_heading ps before l = if is_behind before l then [] else html_closing before ++ section_open (profile_title ps l)

-- the lines about profiles, those of each profile in a section
abbrev pub html_confined : List Policy → Option Label → List Told → List ℕ
html_confined ps before [] = html_closing before
html_confined ps before (l ∷ ls) =
    if is_of_profile l then html_heading ps before (label_of l) ++ html_told l ++ html_confined ps (Some (label_of l)) ls else html_confined ps before ls

-- a profile that is gone or new: its mark and its name
unfoldable pub html_gone : Finding → List ℕ
html_gone f = line_start (mark_of f.sign) ++ codes "profile " ++ code_text (value (name_asked f.request)) ++ gone_text f.sign

-- its line
unfoldable pub html_profile : Finding → List ℕ
html_profile f = html_gone f ++ code_text (word_text f.request) ++ line_end

-- the same, if it is one
abbrev pub html_profile_if : Finding → List ℕ
html_profile_if f = if is_profile f then html_profile f else []

-- the profiles that are gone and those that are new, in a section
unfoldable pub profiles_section : List Finding → List ℕ
profiles_section fs = section_open (codes "gone, new") ++ flat_map html_profile_if fs ++ section_close

-- the same, if there are any
abbrev pub html_profiles : List Finding → List ℕ
html_profiles fs = if list_any is_profile fs then profiles_section fs else []

-- a finding about what else unconfined tasks are answered, if it is one
abbrev pub html_free_if : Finding → List ℕ
html_free_if f = if is_free f then html_line f else []

-- these findings in a section, if there are any
abbrev pub html_free : List Finding → List ℕ
html_free fs = if list_any is_free fs then section_open (codes "unconfined") ++ flat_map html_free_if fs ++ section_close else []

-- a path behind a space
abbrev pub html_path : List ℕ → List ℕ
html_path path = codes " " ++ code_text path

-- the files of a side
unfoldable pub html_paths : List ℕ → List (List ℕ) → List ℕ
html_paths side paths = codes "<p>" ++ side ++ flat_map html_path paths ++ codes "</p>\n"

-- whether gains alone are shown
abbrev pub html_gains : Bool → List ℕ
html_gains gains = if gains then codes "<p>gains alone</p>\n" else []

-- what is compared
unfoldable pub html_head : DiffOptions → List ℕ
html_head o = page_start (codes "aapolicy diff") ++ html_paths (codes "OLD") (texts o.old.now) ++ html_paths (codes "NEW") (texts o.new.now) ++ html_gains o.wanted.gains

-- how many there are
unfoldable pub html_counts : List Policy → ℕ → List Told → List Finding → ℕ → List ℕ
html_counts ps out ls fs rules = codes "<p>" ++ profile_counts ps out ls fs ++ line_counts fs ++ rules_count rules ++ codes "</p>\n"

-- that something isn't told, as a paragraph
unfoldable pub html_untold : List ℕ → Untold → List ℕ
html_untold words u = paragraph (untold_words words u)

-- who isn't compared, and why, as a paragraph
unfoldable pub html_large : Large → List ℕ
html_large x = paragraph (large_words x)

-- at which labels something is undecided, and which profiles aren't compared
abbrev pub html_all_untold : AllUntold → List ℕ
html_all_untold a =
    flat_map (html_untold (codes " undecided: ")) a.undecided ++ flat_map (html_untold (codes " not compared: ")) a.not_compared ++ flat_map html_large a.too_large

-- how many files are skipped, as a paragraph
unfoldable pub skipped_paragraph : AllUntold → List ℕ
skipped_paragraph a = codes "<p>" ++ skipped_text a ++ codes "</p>\n"

-- the same, if there are any
abbrev pub html_skipped : AllUntold → List ℕ
html_skipped a = if length a.old + length a.new == 0 then [] else skipped_paragraph a

-- how many there are, how many files are skipped, and what isn't told for that
abbrev pub html_known : List Policy → List Told → List Finding → ℕ → AllUntold → List ℕ
html_known ps ls fs rules a = html_counts ps a.left_out ls fs rules ++ html_skipped a ++ html_all_untold a

-- the sections: of each profile, of profiles that are gone or new, and of unconfined tasks
abbrev pub html_sections : List Policy → List Told → List Finding → List ℕ
html_sections ps ls fs = html_confined ps None ls ++ html_profiles fs ++ html_free fs

-- the page: of the same findings, rules and doubts as the text
abbrev pub html_report : DiffOptions → List Policy → List Finding → List ApartRule → AllUntold → List ℕ
html_report o ps fs rs a =
    html_head o ++ html_known ps (lines_with ps fs rs) fs (length rs) a ++ html_sections ps (lines_with ps fs rs) fs ++ page_end
