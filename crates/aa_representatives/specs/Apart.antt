-- Requests that stand for all others at two labels, where those with a path that one more pattern matches stand for such alone.
-- Source: own.
use Rattle.std.specs.Prelude.{◌≡◌, ◌⊎◌, ◌+◌, ◌<◌, ◌++◌, ℕ, List, [], ◌∷◌, Bool, true, Contains, length}
use Rattle.aa_pattern.specs.declared.pattern.Pattern.{Pattern}
use Rattle.aa_pattern.specs.Limits.{most_patterns}
use Rattle.aa_pattern.specs.Matching.{is_match}
use Rattle.aa_auto.specs.Tables.{HasPlaces}
use Rattle.aa_model.specs.declared.policy.Policy.{Policy}
use Rattle.aa_model.specs.declared.label.Label.{Label}
use Rattle.aa_model.specs.declared.request.Request.{Request}
use Rattle.aa_model.specs.declared.request.Request.TheVariants.{File, Link, Exec}
use Rattle.aa_mediate.specs.Reply.{reply}
use Rattle.aa_regions.specs.Regions.{IsAsked}
use Rattle.aa_representatives.specs.declared.said.SaidClass.{SaidClass}
use Rattle.aa_representatives.specs.Askable.{IsAskable, SameKind}
use Rattle.aa_representatives.specs.Classes.{SayAlikeAt}
use Rattle.aa_representatives.specs.Both.{deciding_both, many_names_of_both, HaveNamePlacesOfBoth, IsSaidClass, IsSaidAtBoth}

-- the pattern matches a path of the request
abbrev pub HasMatched : Pattern → Request → Type 0
HasMatched p (File r) = is_match p.items.items r.path ≡ true
HasMatched p (Link r) = (is_match p.items.items r.link ≡ true) ⊎ (is_match p.items.items r.target ≡ true)
HasMatched p (Exec r) = is_match p.items.items r.path ≡ true
HasMatched p _ = ⊥

-- the requests are answered at both labels as one of these of their kind is, of which the pattern matches a path only where it matches one of theirs
abbrev pub StandApart : List Policy → Label → List Policy → Label → Pattern → (Request → Type 0) → List Request → Type 0
StandApart ps l qs m p Kind rs =
    (r : Request) → Kind r → (q : Request) × Contains rs q × SameKind r q × (reply ps l r ≡ reply ps l q) × (reply qs m r ≡ reply qs m q) × (HasMatched p q → HasMatched p r)

-- these are requests that can be asked, and each that can be has one of these that stands for it so
pub record RepresentApart (ps : List Policy) (l : Label) (qs : List Policy) (m : Label) (p : Pattern) (rs : List Request) : Type 0 where
  pub each : (r : Request) → Contains rs r → IsAskable r
  pub all : StandApart ps l qs m p IsAskable rs

-- a class with its own path, which the pattern matches or doesn't
pub record IsClassApart (ps : List Policy) (l : Label) (qs : List Policy) (m : Label) (p : Pattern) (is : Bool) (c : SaidClass) : Type 0 where
  pub class : IsSaidClass ps l qs m c
  pub matched : is_match p.items.items c.path ≡ is

-- the path has a class, of whose path the pattern matches only where it matches this one
pub record HasClassApart (ps : List Policy) (l : Label) (qs : List Policy) (m : Label) (p : Pattern) (classes : List SaidClass) (path : List ℕ) : Type 0 where
  pub class : SaidClass
  pub there : Contains classes class
  pub said : IsSaidAtBoth ps l qs m path class
  pub matched : is_match p.items.items class.path ≡ true → is_match p.items.items path ≡ true

-- paths that can be asked for, such that of each such path the same is said at both labels as of one of them, which the pattern matches
-- only where it matches that path
pub record AreLinkPathsApart (ps : List Policy) (l : Label) (qs : List Policy) (m : Label) (p : Pattern) (paths : List (List ℕ)) : Type 0 where
  pub each : (s : List ℕ) → Contains paths s → IsAsked s
  pub all : (s : List ℕ) → IsAsked s → (u : List ℕ) × Contains paths u × SayAlikeAt ps l s u × SayAlikeAt qs m s u × (is_match p.items.items u ≡ true → is_match p.items.items s ≡ true)

-- the patterns on paths with one more or those on names are more than can be matched together
abbrev pub HaveManyPatternsAnd : List Policy → Label → List Policy → Label → Type 0
HaveManyPatternsAnd ps l qs m = (most_patterns < length (deciding_both ps l qs m) + 1) ⊎ (most_patterns < many_names_of_both ps l qs m)

-- the patterns on paths with this one or those on names tell n texts apart, each two of them
abbrev pub HavePlacesAnd : List Policy → Label → List Policy → Label → Pattern → ℕ → Type 0
HavePlacesAnd ps l qs m p n = HasPlaces (deciding_both ps l qs m ++ p ∷ []) n ⊎ HaveNamePlacesOfBoth ps l qs m n
