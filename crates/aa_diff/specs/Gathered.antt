-- Differences, gathered into findings.
-- Source: own.
use Rattle.std.specs.Prelude.{ℕ, zero, suc, List, [], ◌∷◌, ◌++◌, ◌+◌, ◌-◌, ◌==◌, ◌&&◌, ◌||◌, not, min, Bool, false, length, drop, bit_and, if◌then◌else◌, Option, Some, None, position}
use Rattle.std.specs.Bool.{beq}
use Rattle.std.specs.List.{list_any}
use Rattle.std.specs.Ordering.{is_lt}
use Rattle.std.specs.Str.{bytes_eq}
use Rattle.aa_model.specs.declared.policy.Policy.{Policy}
use Rattle.aa_model.specs.declared.request.Request.{Request}
use Rattle.aa_model.specs.declared.request.Request.TheVariants.{File}
use Rattle.aa_model.specs.Requests.{RequestedFile}
use Rattle.aa_unclean_paths.specs.Requests.{is_at_unclean_path}
use Rattle.aa_command.specs.declared.decided.Decided.{Decided}
use Rattle.aa_differences.specs.declared.at_labels.Difference.{Difference}
use Rattle.aa_diff.specs.declared.signs.Sign.{Sign}
use Rattle.aa_diff.specs.declared.finding.Finding.{Finding}
use Rattle.aa_diff.specs.Signs.{sign_number, sign_of}
use Rattle.aa_diff.specs.Changes.{is_same}
use Rattle.aa_diff.specs.Findings.{is_alike, finding_of}
use Rattle.aa_diff.specs.Witness.{shortness_cmp}

-- one permission of those that can be asked for
abbrev pub is_single : ℕ → Bool
is_single bits = bits == 1 || bits == 2 || bits == 4 || bits == 16 || bits == 32

-- a file is asked for by several permissions
abbrev pub is_mixed : Request → Bool
is_mixed (File r) = not (is_single r.mask.0)
is_mixed _ = false

-- both ask for one file of the same user, the former by one permission of the latter's
abbrev pub is_part_of : RequestedFile → RequestedFile → Bool
is_part_of q r = is_single q.mask.0 && bit_and q.mask.0 r.mask.0 == q.mask.0 && beq q.owned r.owned && bytes_eq q.path r.path

-- so of requests for files
abbrev pub is_part : Request → Request → Bool
is_part (File q) (File r) = is_part_of q r
is_part _ _ = false

-- a difference of the one sign tells of one with the other as well
abbrev pub is_as_well : Sign → Sign → Bool
is_as_well one other = sign_number one == sign_number other || sign_number other == 2

-- a difference by one permission tells of one by several
abbrev pub covers : List Policy → List Policy → Difference → Difference → Bool
covers ps qs x y = is_same x.from y.from && is_part x.request y.request && is_as_well (sign_of ps qs x) (sign_of ps qs y)

-- the 62 that stand just before: as many as there are requests for one file
abbrev pub recent : List Difference → List Difference
recent before = drop (length before - min (length before) 62) before

-- a difference by several permissions has no line where one by one of them stands just before
abbrev pub hides : List Policy → List Policy → List Difference → Difference → Bool
hides ps qs before y = is_mixed y.request && list_any (λ x. covers ps qs x y) (recent before)

-- of two findings the latter's request alone is at an unclean path
abbrev pub is_cleaner : Finding → Finding → Bool
is_cleaner g f = is_at_unclean_path f.request && not (is_at_unclean_path g.request)

-- of two findings of one line both requests are at unclean paths or neither, and the former's is shorter, or as long and first in byte order
abbrev pub is_shorter : Finding → Finding → Bool
is_shorter g f = beq (is_at_unclean_path f.request) (is_at_unclean_path g.request) && is_lt (shortness_cmp g.request f.request)

-- the former stands for both then, and where the latter's request alone is at an unclean path
abbrev pub is_preferred : Finding → Finding → Bool
is_preferred g f = is_cleaner g f || is_shorter g f

-- of two findings of one line the one that stands for both
abbrev pub standing : Finding → Finding → Finding
standing g f = if is_preferred g f then g else f

-- a finding of which there are so many besides
abbrev pub with_more : ℕ → Finding → Finding
with_more n f = record f { more = n }

-- one more is counted at a finding of its line
abbrev pub counted_up : Finding → Finding → Finding
counted_up g f = with_more (min (f.more + 1) 18446744073709551615) (standing g f)

-- the finding with that number is changed
abbrev pub changed_at : (Finding → Finding) → List Finding → ℕ → List Finding
changed_at change [] n = []
changed_at change (f ∷ fs) zero = change f ∷ fs
changed_at change (f ∷ fs) (suc n) = f ∷ changed_at change fs n

-- at the first of one line
abbrev pub added_at : Option ℕ → List Finding → Finding → List Finding
added_at (Some n) fs f = changed_at (counted_up f) fs n
added_at None fs f = fs ++ f ∷ []

-- a finding is counted at the first of one line, or stands behind the others
abbrev pub added : List Finding → Finding → List Finding
added fs f = added_at (position (λ g. is_alike g f) fs) fs f

-- a difference more behind those before, and what was found in these
abbrev pub gathered_next : Decided → Decided → List Difference → Difference → List Finding → List Finding
gathered_next d e before x fs = if hides d.policies.now e.policies.now before x then fs else added fs (finding_of d e x)

-- the findings of differences behind others, added to those found in these
abbrev pub gathered : Decided → Decided → List Difference → List Difference → List Finding → List Finding
gathered d e before [] fs = fs
gathered d e before (x ∷ xs) fs = gathered d e (before ++ x ∷ []) xs (gathered_next d e before x fs)
