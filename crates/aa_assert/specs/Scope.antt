-- Which tasks a claim is about.
-- Source: own.
use Rattle.std.specs.Prelude.{◌≡◌, ℕ, ◌&&◌, ◌||◌, not, List, ◌∷◌, ◌++◌, codes, Bool, true, false, Option, Some, None}
use Rattle.std.specs.Option.{option_map_or}
use Rattle.std.specs.List.{list_all, list_any}
use Rattle.aa_model.specs.declared.policy.Profile.{Profile}
use Rattle.aa_compile.specs.Labels.{first_profiles}
use Rattle.aa_claims.specs.declared.words.ClaimWord.{ClaimWord}
use Rattle.aa_claims.specs.Forms.{is_word, names_behind, names_within, names_led}
use Rattle.aa_skipping.specs.declared.unread.Head.{Head}
use Rattle.aa_skipping.specs.declared.unread.Unread.{Unread}
use Rattle.aa_skipped.specs.declared.skipped.Skipped.{Skipped}
use Rattle.aa_assert.specs.declared.part.Part.{Part}
use Rattle.aa_assert.specs.Names.{names, may_name, covers}

-- one of the words stands for the name; or else, where no words stand there
abbrev pub is_among : Bool → Option (List ClaimWord) → List ℕ → Bool
is_among without None name = without
is_among without (Some ws) name = list_any (λ (w : ClaimWord). names w name) ws

-- a claim of these words is about the profile of that full name: `in` or `from` names it, or neither stands there, and `except` doesn't name it
abbrev pub is_about : List ClaimWord → List ℕ → Bool
is_about ws name = is_among true (names_within ws) name && not (is_among false (names_behind (codes "except") ws) name)

-- a clause names tasks without a profile, as unconfined
abbrev pub names_free : Option (List ClaimWord) → Bool
names_free clause = option_map_or (λ (names : List ClaimWord). list_any (λ (w : ClaimWord). is_word (codes "unconfined") w) names) clause false

-- a claim of these words is about tasks without a profile: `in` or `from` names them, and `except` doesn't
abbrev pub is_about_free : List ClaimWord → Bool
is_about_free ws = names_free (names_within ws) && not (names_free (names_behind (codes "except") ws))

-- a profile with that head, or a child of it, may have a name for which the word stands
abbrev pub may_be : ClaimWord → Head → Bool
may_be w h = names w h.name || may_name w (h.name ++ codes "//")

-- so of a skipped file
abbrev pub may_have : ClaimWord → Skipped → Bool
may_have w k = k.unread.others || list_any (may_be w) k.unread.heads

-- one of the words may stand for a name that begins so; or else, where no words stand there
abbrev pub may_be_among : Bool → Option (List ClaimWord) → List ℕ → Bool
may_be_among without None front = without
may_be_among without (Some ws) front = list_any (λ (w : ClaimWord). may_name w front) ws

-- one of the words stands for each name that begins so
abbrev pub are_all_among : Option (List ClaimWord) → List ℕ → Bool
are_all_among None front = false
are_all_among (Some ws) front = list_any (λ (w : ClaimWord). covers w.text.items front) ws

-- a claim of these words may be about a profile whose full name begins so
abbrev pub may_be_about_behind : List ClaimWord → List ℕ → Bool
may_be_about_behind ws front = may_be_among true (names_within ws) front && not (are_all_among (names_behind (codes "except") ws) front)

-- so of a profile with that head, or of a child of it
abbrev pub may_be_about : List ClaimWord → Head → Bool
may_be_about ws h = is_about ws h.name || may_be_about_behind ws (h.name ++ codes "//")

-- so of one of those that weren't read
abbrev pub concerns : List ClaimWord → Unread → Bool
concerns ws u = u.others || list_any (may_be_about ws) u.heads

-- so of one of a skipped file
abbrev pub may_concern : List ClaimWord → Skipped → Bool
may_concern ws k = concerns ws k.unread

-- the word names tasks without a profile, or some profile, or a skipped file may have one
abbrev pub is_somebody : Part → ClaimWord → Bool
is_somebody d w = is_word (codes "unconfined") w || (list_any (λ (p : Profile). names w p.name) (first_profiles d.decided.policies.now) || list_any (may_have w) d.skipped.now)

-- the claim is about some profile, or may be about one of a skipped file
abbrev pub is_about_profile : Part → List ClaimWord → Bool
is_about_profile d ws = list_any (λ (p : Profile). is_about ws p.name) (first_profiles d.decided.policies.now) || list_any (may_concern ws) d.skipped.now

-- or about tasks without one
abbrev pub is_about_some : Part → List ClaimWord → Bool
is_about_some d ws = is_about_free ws || is_about_profile d ws

-- each name of a clause names somebody, if the clause stands there
abbrev pub AreSomebody : Part → Option (List ClaimWord) → Type 0
AreSomebody d None = Unit {0}
AreSomebody d (Some ws) = list_all (is_somebody d) ws ≡ true

-- of these names the first that names nobody stands there
pub record IsFirstNobody (d : Part) (ws : List ClaimWord) (at : ℕ) : Type 0 where
  pub earlier : List ClaimWord
  pub word : ClaimWord
  pub later : List ClaimWord
  pub among : ws ≡ earlier ++ word ∷ later
  pub known : list_all (is_somebody d) earlier ≡ true
  pub unknown : is_somebody d word ≡ false
  pub at_is : at ≡ word.at

-- so of the names of a clause, if it stands there
abbrev pub NamesNobody : Part → Option (List ClaimWord) → ℕ → Type 0
NamesNobody d None at = ⊥
NamesNobody d (Some ws) at = IsFirstNobody d ws at

-- each name of the claim names somebody, and it is about somebody
pub record IsInScope (d : Part) (ws : List ClaimWord) : Type 0 where
  pub within : AreSomebody d (names_within ws)
  pub excepted : AreSomebody d (names_behind (codes "except") ws)
  pub led : AreSomebody d (names_led ws)
  pub some : is_about_some d ws ≡ true
