-- Redundant rules that are accepted.
-- Source: own.
use Rattle.std.specs.Prelude.{ℕ, ◌==◌, ◌||◌, ◌&&◌, not, List, [], ◌∷◌, ◌++◌, length, map, filter, flat_map, codes, nat_eq, nat_lt, Bool, false, slice_get, if◌then◌else◌}
use Rattle.std.specs.Option.{option_map_or}
use Rattle.std.specs.List.{starts_with}
use Rattle.std.specs.Str.{bytes_eq}
use Rattle.aa_files.specs.declared.unit.Unit as unit
use Rattle.aa_report.specs.Lines.{after_digits}
use Rattle.aa_report.specs.Accepted.{is_among, all_gone}
use Rattle.aa_report.specs.Entries.{holds}
use Rattle.aa_redundancy.specs.Without.{marked}
use Rattle.aa_redundancy.specs.Plain.{each_from}
use Rattle.aa_redundant.specs.declared.places.RulePlace.{RulePlace}
use Rattle.aa_redundant.specs.Told.{Telling, Explained, rule_at}
use Rattle.aa_redundant.specs.Shown.{line_of}

-- a rule is accepted as redundant: one of the lines is its
abbrev pub is_accepted : List (List ℕ) → Telling → Bool
is_accepted lines t = is_among lines (line_of t)

-- so is that of a place
abbrev pub is_held : List unit.Unit → List (List ℕ) → RulePlace → Bool
is_held us lines p = option_map_or (λ (u : unit.Unit). is_accepted lines (rule_at p.at u)) (slice_get us p.unit) false

-- so is that of the place of that number, or it is open
abbrev pub stays : List unit.Unit → List (List ℕ) → List Bool → ℕ → RulePlace → Bool
stays us lines unsure n p = is_held us lines p || marked unsure n

-- those of places
abbrev pub held : List unit.Unit → List (List ℕ) → List Bool → List RulePlace → List Bool
held us lines unsure ps = each_from (stays us lines unsure) 0 ps

-- a redundant rule, unless it is accepted
abbrev pub unknown_if : List (List ℕ) → Explained → List Explained
unknown_if lines e = if is_accepted lines e.rule then [] else e ∷ []

-- those that aren't
abbrev pub unknown : List (List ℕ) → List Explained → List Explained
unknown lines found = flat_map (unknown_if lines) found

-- a line that says how many rules were redundant, or how many files were skipped
abbrev pub is_count : List ℕ → Bool
is_count line =
    nat_lt (length (after_digits line)) (length line)
    && (starts_with nat_eq (after_digits line) (codes " redundant rules, of which ") || bytes_eq (after_digits line) (codes " files skipped"))

-- a line that says of a rule that it may go, or that it is undecided
abbrev pub is_of_another : List ℕ → Bool
is_of_another line = holds (codes ": may go: ") line || holds (codes ": undecided: ") line

-- a line that is no redundant rule's: it is empty, a comment, indented as what stands below one, such a count, or what is said of others
abbrev pub is_aside : List ℕ → Bool
is_aside line = length line == 0 || starts_with nat_eq line (codes "#") || starts_with nat_eq line (codes "    ") || is_count line || is_of_another line

-- the others
abbrev pub is_entry : List ℕ → Bool
is_entry line = not (is_aside line)

-- the line of a redundant rule
abbrev pub found_line : Explained → List ℕ
found_line e = line_of e.rule

-- of which of these lines the rule isn't redundant, nor undecided, or isn't there
abbrev pub gone_among : List (List ℕ) → List Explained → List Telling → List ℕ
gone_among lines found undecided = all_gone (map found_line found ++ map line_of undecided) (filter is_entry lines)
