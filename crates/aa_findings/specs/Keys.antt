-- Rules as lists of numbers: two say the same of the same files where these are one.
-- Source: own.
use Rattle.std.specs.Prelude.{◌≡◌, ℕ, ◌+◌, List, [], ◌∷◌, ◌++◌, length, Bool, true, false, Option, Some, None, position}
use Rattle.std.specs.HashMap.{HashMap, get_by}
use Rattle.std.specs.Str.{bytes_eq}
use Rattle.std.specs.declared.vec.Vec.{Vec}
use Rattle.aa_model.specs.declared.rule.Exec.{Exec}
use Rattle.aa_model.specs.declared.rule.FileRule.{FileRule}
use Rattle.aa_findings.specs.declared.rows.Row.{Row}
use Rattle.aa_findings.specs.Sameness.{kind_number, fallback_number}
use Rattle.aa_findings.specs.Files.{applies_at}
use Rattle.aa_findings.specs.Places.{places}

-- a bit by its number
abbrev pub bit : Bool → ℕ
bit false = 0
bit true = 1

-- a name behind how long it is
abbrev pub name_key : Option (List ℕ) → List ℕ
name_key None = 0 ∷ []
name_key (Some name) = (length name + 1) ∷ name

-- how a program is executed
abbrev pub exec_key : Option Exec → List ℕ
exec_key None = 0 ∷ []
exec_key (Some e) = 1 ∷ kind_number e.kind ∷ fallback_number e.fallback ∷ bit e.scrub ∷ name_key e.target

-- what a rule says, and of what
abbrev pub key_with : FileRule → List ℕ → List ℕ
key_with r applied = bit r.audit ∷ bit r.deny ∷ r.perms.0 ∷ (exec_key r.exec ++ applied)

-- of the rows at which it applies
abbrev pub key_of : List Row → FileRule → List ℕ
key_of rows r = key_with r (places (applies_at r) rows)

-- the map has the first of the rules with each key
abbrev pub AreFirsts : {Y S : Type 0} → HashMap (Vec ℕ Y) ℕ S → List Row → List FileRule → Type 0
AreFirsts firsts rows rules = (key : List ℕ) → get_by (λ k. bytes_eq key k.items) firsts ≡ position (λ r. bytes_eq key (key_of rows r)) rules
