-- The order of lines.
-- Source: own.
use Rattle.std.specs.Prelude.{ℕ, List, ◌==◌, Bool, if◌then◌else◌}
use Rattle.std.specs.declared.cmp.Ordering.{Ordering}
use Rattle.std.specs.Ordering.{ordering_then, nat_cmp, is_lt}
use Rattle.std.specs.Cmp.Lexicographic.{slice_cmp}
use Rattle.aa_model.specs.declared.policy.Policy.{Policy}
use Rattle.aa_model.specs.declared.label.Label.{Label}
use Rattle.aa_compile.specs.Labels.{label_name}
use Rattle.aa_diff.specs.declared.finding.Finding.{Finding}
use Rattle.aa_diff.specs.Signs.{sign_number}
use Rattle.aa_diff.specs.Findings.{is_profile, is_uncounted}
use Rattle.aa_diff.specs.Places.{place_cmp}
use Rattle.aa_diff.specs.Sorted.{sorted_by}
use Rattle.aa_diff.specs.Witness.{witness_cmp}

-- labels go by their names in byte order
abbrev pub name_cmp : List Policy → Label → Label → Ordering
name_cmp ps l m = slice_cmp nat_cmp (label_name ps l) (label_name ps m)

-- findings that don't count go behind the others
abbrev pub part_number : Finding → ℕ
part_number f = if is_uncounted f then 1 else 0

-- profiles: those that are gone, then those that are new, then the rest
abbrev pub profile_rank : Finding → ℕ
profile_rank f = if sign_number f.sign == 1 then 0 else (if sign_number f.sign == 0 then 1 else 2)

-- lines: gains, then losses, then what was reported and is no more, then the rest
abbrev pub line_rank : Finding → ℕ
line_rank f = if sign_number f.sign == 2 then (if f.unreported then 2 else 3) else sign_number f.sign

-- what a finding is among those of its label
abbrev pub rank : Finding → ℕ
rank f = if is_profile f then profile_rank f else line_rank f

-- findings go by the names of their labels; of one label those that count go first, of these by their ranks, of one rank by the places of their
-- rules, and of one place by their first requests
abbrev pub finding_cmp : List Policy → Finding → Finding → Ordering
finding_cmp ps f g =
    ordering_then (name_cmp ps f.from g.from)
    (ordering_then (nat_cmp (part_number f) (part_number g))
    (ordering_then (nat_cmp (rank f) (rank g)) (ordering_then (place_cmp f g) (witness_cmp f g))))

-- one finding goes before another
abbrev pub goes_before : List Policy → Finding → Finding → Bool
goes_before ps f g = is_lt (finding_cmp ps f g)

-- findings in that order
abbrev pub in_order : List Policy → List Finding → List Finding
in_order ps fs = sorted_by (goes_before ps) fs
