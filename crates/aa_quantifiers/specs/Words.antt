-- The requests of a word.
-- Source: own.
use Rattle.std.specs.Prelude.{◌≡◌, ◌⊎◌, ℕ, List, [], ◌∷◌, ◌++◌, Bool, true, not, length, Contains, if◌then◌else◌}
use Rattle.aa_pattern.specs.declared.pattern.Pattern.{Pattern}
use Rattle.aa_pattern.specs.Matching.{is_match}
use Rattle.aa_base.specs.declared.perms.Perms.{Perms}
use Rattle.aa_model.specs.Requests.{is_mask, RequestedFile, RequestedExec}
use Rattle.aa_model.specs.declared.policy.Policy.{Policy}
use Rattle.aa_model.specs.declared.label.Label.{Label}
use Rattle.aa_model.specs.declared.request.Request.{Request}
use Rattle.aa_model.specs.declared.request.Request.TheVariants.{File, Exec}
use Rattle.aa_compile.specs.Patterns.{is_literal}
use Rattle.aa_auto.specs.Tables.{HasPlaces}
use Rattle.aa_regions.specs.Regions.{IsAsked}
use Rattle.aa_unclean_paths.specs.Told.{IsUncleanPattern}
use Rattle.aa_representatives.specs.Alike.{filing, deciding}
use Rattle.aa_quantifiers.specs.declared.word.Whose.{Whose}
use Rattle.aa_quantifiers.specs.declared.word.Whose.TheVariants.{Both, Owner, Others}
use Rattle.aa_quantifiers.specs.declared.word.FilesWord.{FilesWord}
use Rattle.aa_quantifiers.specs.declared.word.ExecsWord.{ExecsWord}
use Rattle.aa_quantifiers.specs.declared.word.Word.{Word}
use Rattle.aa_quantifiers.specs.declared.word.Word.TheVariants.{Files, Execs, One}

-- the objects of the task's user are asked for, or those of others
abbrev pub asks_for : Whose → Bool → Bool
asks_for Both owned = true
asks_for Owner owned = owned
asks_for Others owned = not owned

-- to use a file: the pattern matches its path, the mask is one of the word's, the owner is asked for, and path and mask can be
pub record IsFileOf (w : FilesWord) (r : RequestedFile) : Type 0 where
  pub asked : IsAsked r.path
  pub matched : is_match w.pattern.items.items r.path ≡ true
  pub among : Contains w.masks r.mask
  pub mask : is_mask r.mask.0 ≡ true
  pub whose : asks_for w.whose r.owned ≡ true

-- to execute a file: the pattern matches its path, the owner is asked for, and the path can be
pub record IsExecOf (w : ExecsWord) (r : RequestedExec) : Type 0 where
  pub asked : IsAsked r.path
  pub matched : is_match w.pattern.items.items r.path ≡ true
  pub whose : asks_for w.whose r.owned ≡ true

-- the request is one of the word's
abbrev pub IsOf : Word → Request → Type 0
IsOf (Files w) (File r) = IsFileOf w r
IsOf (Execs w) (Exec r) = IsExecOf w r
IsOf (One q) r = q ≡ r
IsOf _ _ = ⊥

-- how long the path of a request is, if it has one that a word may leave open
abbrev pub path_length : Request → ℕ
path_length (File r) = length r.path
path_length (Exec r) = length r.path
path_length _ = 0

-- the patterns that have to be told apart together with a word's own: none where that matches one path alone
abbrev pub beside : List Pattern → Pattern → List Pattern
beside ps p = if is_literal p then [] else ps ++ p ∷ []

-- these and the patterns by which the word's requests are answered at a label, and behind them its own, as far as they have to be told apart
abbrev pub and_patterns_at : List Pattern → List Policy → Label → Word → List Pattern
and_patterns_at more policies label (Files w) = beside (more ++ filing policies label) w.pattern
and_patterns_at more policies label (Execs w) = beside (more ++ deciding policies label) w.pattern
and_patterns_at more policies label (One r) = []

-- those without more
abbrev pub patterns_at : List Policy → Label → Word → List Pattern
patterns_at policies label w = and_patterns_at [] policies label w

-- n texts that these tell apart, each two of them, or these with the pattern that tells unclean paths
abbrev pub HavePlaces : List Policy → Label → Word → ℕ → Type 0
HavePlaces policies label w n =
    HasPlaces (patterns_at policies label w) n ⊎ ((p : Pattern) × IsUncleanPattern p × HasPlaces (and_patterns_at (p ∷ []) policies label w) n)
