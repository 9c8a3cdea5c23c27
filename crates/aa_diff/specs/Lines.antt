-- The lines of profiles that both policies have: findings, and behind those of a profile its rules that are passed over and that one policy alone has.
-- Source: own.
use Rattle.std.specs.Prelude.{ℕ, ◌↔◌, List, ◌++◌, map, Bool, true, Contains, if◌then◌else◌}
use Rattle.std.specs.declared.cmp.Ordering.{Ordering}
use Rattle.std.specs.Ordering.{ordering_then, nat_cmp, is_lt}
use Rattle.aa_model.specs.declared.policy.Policy.{Policy}
use Rattle.aa_model.specs.declared.label.Label.{Label}
use Rattle.aa_model.specs.declared.label.Label.TheVariants.{Confined}
use Rattle.aa_passed_over.specs.Apart.{ApartRule, apart}
use Rattle.aa_diff.specs.declared.finding.Finding.{Finding}
use Rattle.aa_diff.specs.declared.lines.Line as line
use Rattle.aa_diff.specs.declared.lines.Line.TheVariants as of
use Rattle.aa_ask.specs.Told.{is_confined}
use Rattle.aa_diff.specs.Findings.{does_count}
use Rattle.aa_diff.specs.Order.{name_cmp, in_order}
use Rattle.aa_diff.specs.Sorted.{sorted_by}

-- a line: a finding, or a rule that is passed over
pub data Told : Type 0 where
  Found : Finding → Told
  PassedOver : ApartRule → Told

-- the same without where it lies in memory
abbrev pub told : line.Line → Told
told (of.Found f) = Found f.now
told (of.PassedOver a) = PassedOver (apart a.now)

-- the label that a line is about
abbrev pub label_of : Told → Label
label_of (Found f) = f.from
label_of (PassedOver r) = Confined 0 r.profile

-- of one label findings that count go first, then rules that are passed over, then the other findings
abbrev pub part_of : Told → ℕ
part_of (Found f) = if does_count f then 0 else 2
part_of (PassedOver r) = 1

-- lines go by the names of their labels, and of one label by that
abbrev pub line_cmp : List Policy → Told → Told → Ordering
line_cmp ps k l = ordering_then (name_cmp ps (label_of k) (label_of l)) (nat_cmp (part_of k) (part_of l))

-- one line goes before another
abbrev pub stands_above : List Policy → Told → Told → Bool
stands_above ps k l = is_lt (line_cmp ps k l)

-- findings and rules in that order; those that compare equal keep theirs
abbrev pub lines_with : List Policy → List Finding → List ApartRule → List Told
lines_with ps fs rs = sorted_by (stands_above ps) (map Found fs ++ map PassedOver rs)

-- it is about a profile
abbrev pub is_of_profile : Told → Bool
is_of_profile l = is_confined (label_of l)

-- it is a finding that counts, or a rule
abbrev pub does_line_count : Told → Bool
does_line_count (Found f) = does_count f
does_line_count (PassedOver r) = true

-- what is printed are just the findings and the rules that there are, in whatever order
pub record KeepLines : Type 0 where
  pub findings : (ps : List Policy) (fs : List Finding) (f : Finding) → Contains (in_order ps fs) f ↔ Contains fs f
  pub found : (ps : List Policy) (fs : List Finding) (rs : List ApartRule) (f : Finding) → Contains (lines_with ps fs rs) (Found f) ↔ Contains fs f
  pub passed_over : (ps : List Policy) (fs : List Finding) (rs : List ApartRule) (r : ApartRule)
      → Contains (lines_with ps fs rs) (PassedOver r) ↔ Contains rs r
