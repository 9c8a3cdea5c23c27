-- Finitely many requests that stand for all others at two labels at once, each label in a list of policies of its own.
-- Source: own.
use Rattle.std.specs.Prelude.{◌≡◌, ℕ, List, ◌++◌, ◌⊎◌, ◌+◌, ◌<◌, true, false, Option, Some, None, Contains, length, slice_index_or}
use Rattle.std.specs.List.{slice_get}
use Rattle.aa_pattern.specs.Limits.{most_patterns}
use Rattle.aa_pattern.specs.declared.pattern.Pattern.{Pattern}
use Rattle.aa_auto.specs.Tables.{HasPlaces}
use Rattle.aa_model.specs.declared.rule.FileRule.{FileRule}
use Rattle.aa_model.specs.declared.policy.Policy.{Policy}
use Rattle.aa_model.specs.declared.policy.Profile.{Profile}
use Rattle.aa_model.specs.declared.label.Label.{Label}
use Rattle.aa_model.specs.declared.label.Label.TheVariants.{Unconfined, Confined}
use Rattle.aa_model.specs.declared.request.Request.{Request}
use Rattle.aa_compile.specs.Labels.{policy_number}
use Rattle.aa_compile.specs.Rows.{IsVerdictOf}
use Rattle.aa_compile.specs.Ways.{way_by}
use Rattle.aa_mediate.specs.Reply.{reply}
use Rattle.aa_regions.specs.Regions.{IsAsked}
use Rattle.aa_regions.specs.declared.regions.Region.{Region}
use Rattle.aa_representatives.specs.declared.said.Said.{Said}
use Rattle.aa_representatives.specs.declared.said.SaidClass.{SaidClass}
use Rattle.aa_representatives.specs.Alike.{deciding, filing, changing}
use Rattle.aa_representatives.specs.Askable.{IsAskable, SameKind}
use Rattle.aa_representatives.specs.Classes.{SayAlikeAt}
use Rattle.aa_representatives.specs.Names.{profiles_at, told_apart, ArePatternsOf}

-- the patterns by which paths are answered at one of the labels
abbrev pub deciding_both : List Policy → Label → List Policy → Label → List Pattern
deciding_both ps l qs m = deciding ps l ++ deciding qs m

-- the patterns by which requests to use files are answered at one of the labels
abbrev pub filing_both : List Policy → Label → List Policy → Label → List Pattern
filing_both ps l qs m = filing ps l ++ filing qs m

-- the requests that can be asked are answered at both labels as one of these of their kind is
abbrev pub StandAtBoth : List Policy → Label → List Policy → Label → (Request → Type 0) → List Request → Type 0
StandAtBoth ps l qs m Kind rs = (r : Request) → Kind r → (q : Request) × Contains rs q × SameKind r q × (reply ps l r ≡ reply ps l q) × (reply qs m r ≡ reply qs m q)

-- these are requests that can be asked, and each that can be is answered at both labels as one of these of its kind is
pub record RepresentBoth (ps : List Policy) (l : Label) (qs : List Policy) (m : Label) (rs : List Request) : Type 0 where
  pub each : (r : Request) → Contains rs r → IsAskable r
  pub all : StandAtBoth ps l qs m IsAskable rs

-- the same at one label
pub record Represent (policies : List Policy) (label : Label) (rs : List Request) : Type 0 where
  pub each : (r : Request) → Contains rs r → IsAskable r
  pub all : (r : Request) → IsAskable r → (q : Request) × Contains rs q × SameKind r q × (reply policies label r ≡ reply policies label q)

-- what the rules say of the path, of the owner and of others
pub record IsSaid (rules : List FileRule) (path : List ℕ) (said : Said) : Type 0 where
  pub owned : IsVerdictOf (way_by rules) rules path true said.owned
  pub other : IsVerdictOf (way_by rules) rules path false said.other

-- what those of a profile say; none is said where the profile isn't there
abbrev pub IsSaidIn : Option Profile → List ℕ → Option Said → Type 0
IsSaidIn (Some p) path (Some said) = IsSaid p.files path said
IsSaidIn (Some p) path None = ⊥
IsSaidIn None path said = Unit {0}

-- what those at a label say, of the policy that it names
abbrev pub IsSaidBy : Label → Option Policy → List ℕ → Option Said → Type 0
IsSaidBy (Confined k n) (Some policy) path said = IsSaidIn (slice_get policy.profiles n) path said
IsSaidBy (Unconfined k) (Some policy) path said = Unit {0}
IsSaidBy label None path said = Unit {0}

-- what those at a label say
abbrev pub IsSaidAt : List Policy → Label → List ℕ → Option Said → Type 0
IsSaidAt policies label path said = IsSaidBy label (slice_get policies (policy_number label)) path said

-- what the rules at both labels say of a path
pub record IsSaidAtBoth (ps : List Policy) (l : Label) (qs : List Policy) (m : Label) (path : List ℕ) (c : SaidClass) : Type 0 where
  pub one : IsSaidAt ps l path c.one
  pub other : IsSaidAt qs m path c.other

-- a class with its own path
pub record IsSaidClass (ps : List Policy) (l : Label) (qs : List Policy) (m : Label) (c : SaidClass) : Type 0 where
  pub asked : IsAsked c.path
  pub said : IsSaidAtBoth ps l qs m c.path c

-- the classes of the paths of the first n regions
pub record AreSaidClasses (ps : List Policy) (l : Label) (qs : List Policy) (m : Label) (regions : List Region) (n : ℕ) (classes : List SaidClass) : Type 0 where
  pub each : (c : SaidClass) → Contains classes c → IsSaidClass ps l qs m c
  pub all : (k : ℕ) (r : Region) → k < n → slice_index_or regions k r ≡ r → (c : SaidClass) × Contains classes c × IsSaidAtBoth ps l qs m r.witness c

-- paths that can be asked for, such that of each such path the same is said at both labels as of one of them
pub record AreLinkPathsOfBoth (ps : List Policy) (l : Label) (qs : List Policy) (m : Label) (paths : List (List ℕ)) : Type 0 where
  pub each : (s : List ℕ) → Contains paths s → IsAsked s
  pub all : (s : List ℕ) → IsAsked s → (u : List ℕ) × Contains paths u × SayAlikeAt ps l s u × SayAlikeAt qs m s u

-- the patterns by which the names of changes are answered at one of the labels, and behind them one for each name that is told apart
pub record AreNamePatternsOfBoth (ps : List Policy) (l : Label) (qs : List Policy) (m : Label) (patterns : List Pattern) : Type 0 where
  pub names : List Pattern
  pub others : List Pattern
  pub are : patterns ≡ ((changing ps l ++ changing qs m) ++ names) ++ others
  pub literal : ArePatternsOf (told_apart (profiles_at ps l)) names
  pub literal_others : ArePatternsOf (told_apart (profiles_at qs m)) others

-- of so many patterns
abbrev pub many_names_of_both : List Policy → Label → List Policy → Label → ℕ
many_names_of_both ps l qs m = length (changing ps l ++ changing qs m) + length (told_apart (profiles_at ps l)) + length (told_apart (profiles_at qs m))

-- the patterns on paths or those on names are more than can be matched together
abbrev pub HaveManyPatterns : List Policy → Label → List Policy → Label → Type 0
HaveManyPatterns ps l qs m = (most_patterns < length (deciding_both ps l qs m)) ⊎ (most_patterns < many_names_of_both ps l qs m)

-- n names of which these patterns tell each two apart
abbrev pub HaveNamePlacesOfBoth : List Policy → Label → List Policy → Label → ℕ → Type 0
HaveNamePlacesOfBoth ps l qs m n = (patterns : List Pattern) × AreNamePatternsOfBoth ps l qs m patterns × HasPlaces patterns n

-- the patterns on paths or those on names tell n texts apart, each two of them
abbrev pub HavePlaces : List Policy → Label → List Policy → Label → ℕ → Type 0
HavePlaces ps l qs m n = HasPlaces (deciding_both ps l qs m) n ⊎ HaveNamePlacesOfBoth ps l qs m n
