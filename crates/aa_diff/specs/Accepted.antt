-- Findings that are accepted.
-- Source: own.
use Rattle.std.specs.Prelude.{ℕ, List, [], ◌∷◌, ◌++◌, map, flat_map, codes, if◌then◌else◌}
use Rattle.aa_base.specs.Values.{value}
use Rattle.aa_model.specs.declared.policy.Policy.{Policy}
use Rattle.aa_model.specs.declared.label.Label.{Label}
use Rattle.aa_model.specs.declared.label.Label.TheVariants.{Confined}
use Rattle.aa_compile.specs.Labels.{label_name}
use Rattle.aa_report.specs.Accepted.{is_among, all_gone}
use Rattle.aa_report.specs.Entries.{in_block}
use Rattle.aa_passed_over.specs.Apart.{ApartRule}
use Rattle.aa_diff.specs.declared.options.Wanted.{Wanted}
use Rattle.aa_diff.specs.declared.finding.Finding.{Finding}
use Rattle.aa_ask.specs.Told.{is_confined}
use Rattle.aa_diff.specs.Findings.{is_profile}
use Rattle.aa_diff.specs.Printed.{finding_part, profile_part, rule_part}
use Rattle.aa_diff.specs.Report.{shown_of, rules_shown}

-- the heading of what is about a label
abbrev pub heading_of : List Policy → Label → List ℕ
heading_of ps l = if is_confined l then codes "profile " ++ value (label_name ps l) else codes "unconfined"

-- how a finding is accepted: as what stands on its line behind its heading, or by itself where a profile is gone or new
abbrev pub finding_entry : List Policy → Finding → List ℕ
finding_entry ps f = if is_profile f then profile_part f else in_block (heading_of ps f.from) (finding_part f)

-- how a rule is that is passed over
abbrev pub rule_entry : List Policy → ApartRule → List ℕ
rule_entry ps r = in_block (heading_of ps (Confined 0 r.profile)) (rule_part r)

-- how all are
abbrev pub found_entries : List Policy → List Finding → List ApartRule → List (List ℕ)
found_entries ps fs rs = map (finding_entry ps) fs ++ map (rule_entry ps) rs

-- the finding, unless it is accepted
abbrev pub finding_left : List Policy → List (List ℕ) → Finding → List Finding
finding_left ps accepted f = if is_among accepted (finding_entry ps f) then [] else f ∷ []

-- the rule, unless it is
abbrev pub rule_left : List Policy → List (List ℕ) → ApartRule → List ApartRule
rule_left ps accepted r = if is_among accepted (rule_entry ps r) then [] else r ∷ []

-- those findings that are shown and not accepted
abbrev pub findings_left : List Policy → Wanted → List (List ℕ) → List Finding → List Finding
findings_left ps w accepted fs = flat_map (finding_left ps accepted) (shown_of ps w fs)

-- those rules
abbrev pub rules_left : List Policy → Wanted → List (List ℕ) → List ApartRule → List ApartRule
rules_left ps w accepted rs = flat_map (rule_left ps accepted) (rules_shown ps w rs)

-- of which accepted findings there is none, whether it would be shown or not
abbrev pub gone_of : List Policy → List (List ℕ) → List Finding → List ApartRule → List ℕ
gone_of ps accepted fs rs = all_gone (found_entries ps fs rs) accepted
