-- Findings that differ in a permission or in whose object it is alone, joined.
-- Source: own.
use Rattle.std.specs.Prelude.{ℕ, List, [], ◌∷◌, ◌++◌, ◌==◌, ◌&&◌, not, Bool, false, bit_or, if◌then◌else◌, Option, Some, None, position}
use Rattle.std.specs.Bool.{beq}
use Rattle.std.specs.Str.{bytes_eq}
use Rattle.aa_model.specs.declared.request.Request.{Request}
use Rattle.aa_model.specs.declared.request.Request.TheVariants.{File, Link, Exec}
use Rattle.aa_compile.specs.Said.{perms_of}
use Rattle.aa_diff.specs.declared.finding.Who.{Who}
use Rattle.aa_diff.specs.declared.finding.Who.TheVariants.{Anybody}
use Rattle.aa_diff.specs.declared.finding.Finding.{Finding}
use Rattle.aa_diff.specs.Findings.{who_number, is_of_class}
use Rattle.aa_diff.specs.Gathered.{changed_at}

-- both are requests of one kind for one object
abbrev pub is_one_object : Request → Request → Bool
is_one_object (File q) (File r) = bytes_eq q.path r.path
is_one_object (Exec q) (Exec r) = bytes_eq q.path r.path
is_one_object (Link q) (Link r) = bytes_eq q.link r.link && bytes_eq q.target r.target
is_one_object _ _ = false

-- both hold of the same permissions
abbrev pub is_same_letters : Finding → Finding → Bool
is_same_letters f g = f.letters.0 == g.letters.0

-- both hold of the same user's objects
abbrev pub is_same_who : Finding → Finding → Bool
is_same_who f g = who_number f.who == who_number g.who

-- two findings become one: of one class and of as many requests for one first object, they differ in the permissions or in the user alone
abbrev pub joins : Finding → Finding → Bool
joins f g = is_of_class f g && f.more == g.more && is_one_object f.request g.request && not (beq (is_same_letters f g) (is_same_who f g))

-- whose objects both hold of
abbrev pub joined_who : Finding → Finding → Who
joined_who f g = if is_same_who f g then f.who else Anybody

-- the former with the latter
abbrev pub both_of : Finding → Finding → Finding
both_of g f = record f { who = joined_who f g; letters = perms_of (bit_or f.letters.0 g.letters.0) }

-- joined with the finding of that number
abbrev pub joined_at : Option ℕ → List Finding → Finding → List Finding
joined_at (Some n) fs g = changed_at (both_of g) fs n
joined_at None fs g = fs ++ g ∷ []

-- a finding is joined with the first that it can be joined with, or stands behind the others
abbrev pub joined : List Finding → Finding → List Finding
joined fs g = joined_at (position (λ f. joins f g) fs) fs g

-- one after another
abbrev pub joined_all : List Finding → List Finding → List Finding
joined_all fs [] = fs
joined_all fs (g ∷ gs) = joined_all (joined fs g) gs
