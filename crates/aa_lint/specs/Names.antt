-- The names of findings, and why each is one.
-- Source: own.
use Rattle.std.specs.Prelude.{ℕ, List, [], ◌∷◌, map, codes, Bool, not}
use Rattle.std.specs.List.{list_any}
use Rattle.std.specs.Str.{bytes_eq}
use Rattle.aa_findings.specs.declared.finding.Finding.{Finding}
use Rattle.aa_findings.specs.declared.finding.Kind.{Kind}
use Rattle.aa_findings.specs.declared.finding.Kind.TheVariants.{UnconfinedExec, WrittenExec, AllFiles, AnyProfile, Duplicate, IdleDeny, Tie}

-- how a finding is called
abbrev pub name_of : Kind → List ℕ
name_of UnconfinedExec = codes "unconfined-exec"
name_of WrittenExec = codes "write-exec"
name_of AllFiles = codes "all-files"
name_of AnyProfile = codes "any-profile"
name_of Duplicate = codes "duplicate"
name_of IdleDeny = codes "idle-deny"
name_of Tie = codes "tie"

-- why it is one; a path, a place or another profile goes on behind some
abbrev pub why_of : Kind → List ℕ
why_of UnconfinedExec = codes "what it lets execute may end unconfined, as "
why_of WrittenExec = codes "what it lets write may be executed, as "
why_of AllFiles = codes "it holds for all files"
why_of AnyProfile = codes "it lets change to every profile, and to none"
why_of Duplicate = codes "it says again what is said at "
why_of IdleDeny = codes "no rule allows what it denies"
why_of Tie = codes "attached as strongly is "

-- all of them
abbrev pub kinds : List Kind
kinds = UnconfinedExec ∷ WrittenExec ∷ AllFiles ∷ AnyProfile ∷ Duplicate ∷ IdleDeny ∷ Tie ∷ []

-- their names
abbrev pub all_names : List (List ℕ)
all_names = map name_of kinds

-- a finding is called so
abbrev pub is_called : List ℕ → Kind → Bool
is_called name kind = bytes_eq (name_of kind) name

-- some is
abbrev pub is_name : List ℕ → Bool
is_name name = list_any (is_called name) kinds

-- one of these names is that of the finding
abbrev pub is_left_out : List (List ℕ) → Kind → Bool
is_left_out names kind = list_any (λ name. is_called name kind) names

-- it isn't left out
abbrev pub is_wanted : List (List ℕ) → Finding → Bool
is_wanted names f = not (is_left_out names f.kind)
