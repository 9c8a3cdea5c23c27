-- Kinds of claims.
-- Source: own.
use Rattle.std.specs.Prelude.{ℕ, List, ◌∷◌, codes, Option, Some, None, if◌then◌else◌}
use Rattle.aa_claims.specs.declared.words.ClaimWord.{ClaimWord}
use Rattle.aa_claims.specs.Forms.{is_word, is_reach, keyword_of}
use Rattle.aa_assert.specs.declared.kind.Kind.{Kind}
use Rattle.aa_assert.specs.declared.kind.Kind.TheVariants.{Never, NeverTo, Always, Enforced, NeverReach}
use Rattle.aa_assert.specs.Asked.{is_enforced}

-- a claim that begins with never, with the keyword `to` or without
abbrev pub never_kind : Option ClaimWord → Kind
never_kind (Some to) = NeverTo
never_kind None = Never

-- the kind of a claim of these words, of which these are the first two
abbrev pub kind_by : List ClaimWord → ClaimWord → ClaimWord → Kind
kind_by ws head asked =
    if is_enforced head asked then Enforced
    else (if is_reach head asked then NeverReach else (if is_word (codes "never") head then never_kind (keyword_of (codes "to") ws) else Always))

-- of a claim of these words
abbrev pub kind_of : List ClaimWord → Kind
kind_of (head ∷ asked ∷ rest) = kind_by (head ∷ asked ∷ rest) head asked
kind_of _ = Always

-- what it is called
abbrev pub kind_name : Kind → List ℕ
kind_name Never = codes "never"
kind_name NeverTo = codes "never-to"
kind_name Always = codes "always"
kind_name Enforced = codes "enforced"
kind_name NeverReach = codes "never-reach"
