-- Requests that move a task to another label.
-- Source: own.
use Rattle.std.specs.Prelude.{◌≡◌, ◌⊎◌, ◌+◌, ◌<◌, ◌&&◌, ◌∷◌, ◌++◌, [], ℕ, List, Bool, true, false, Contains, length, if◌then◌else◌}
use Rattle.std.specs.Option.{option_map_or}
use Rattle.aa_pattern.specs.declared.pattern.Pattern.{Pattern}
use Rattle.aa_pattern.specs.Limits.{most_patterns}
use Rattle.aa_pattern.specs.Globs.{Matches}
use Rattle.aa_auto.specs.Tables.{HasPlaces}
use Rattle.aa_model.specs.declared.policy.Policy.{Policy}
use Rattle.aa_model.specs.declared.label.Label.{Label}
use Rattle.aa_model.specs.declared.request.Request.{Request}
use Rattle.aa_model.specs.declared.answer.Answer.{Answer}
use Rattle.aa_model.specs.declared.answer.Note.{Note}
use Rattle.aa_model.specs.declared.answer.NoteWord.{NoteWord}
use Rattle.aa_model.specs.declared.answer.NoteWord.TheVariants.{Allowed}
use Rattle.aa_mediate.specs.Reply.{reply}
use Rattle.aa_regions.specs.Regions.{IsAsked}
use Rattle.aa_unclean_paths.specs.Told.{TellsUnclean}
use Rattle.aa_unclean_paths.specs.Requests.{is_at_unclean_path}
use Rattle.aa_representatives.specs.Alike.{deciding}
use Rattle.aa_representatives.specs.Names.{many_name_patterns, HaveNamePlaces}
use Rattle.aa_representatives.specs.Askable.{IsExec, IsAskable}
use Rattle.aa_reachability.specs.declared.going.Going.{Going}
use Rattle.aa_reachability.specs.Order.{IsNoLater}
use Rattle.aa_reachability.specs.declared.reached.Why.{Why}
use Rattle.aa_reachability.specs.declared.reached.Why.TheVariants.{TooManyPatterns, TooManyStates}

-- the label of a task after a request
abbrev pub label_next : List Policy → Label → Request → Label
label_next ps l r = (reply ps l r).label

-- complain mode granted it
abbrev pub says_allowed : NoteWord → Bool
says_allowed Allowed = true
says_allowed _ = false

-- granted by complain mode alone: the rules refuse it, and the note says that it was allowed
abbrev pub is_by_complain : Answer → Bool
is_by_complain a = option_map_or (λ (n : Note). says_allowed n.word) a.note false

-- a request is granted so
abbrev pub complains_by : List Policy → Label → Request → Bool
complains_by ps l r = is_by_complain (reply ps l r)

-- the label of a task with that label after an answer, where it doesn't move by what complain mode alone grants
abbrev pub label_kept : Label → Answer → Label
label_kept l a = if is_by_complain a then l else a.label

-- the label of a task after a request that complain mode alone doesn't grant
abbrev pub label_enforced : List Policy → Label → Request → Label
label_enforced ps l r = label_kept l (reply ps l r)

-- the label after a request, where complain mode doesn't count or does
abbrev pub label_going : Bool → List Policy → Label → Request → Label
label_going enforced ps l r = if enforced then label_enforced ps l r else label_next ps l r

-- so of a task that goes on from label to label
unfoldable pub label_in : Going → Label → Request → Label
label_in g l r = label_going g.as_enforced g.policies.now l r

-- requests of a kind; each of the kind that moves a task is answered as one of them that comes no later
pub record LeadAllOf (ps : List Policy) (l : Label) (Kind : Request → Type 0) (rs : List Request) : Type 0 where
  pub each : (r : Request) → Contains rs r → Kind r
  pub all : (r : Request) → Kind r → (label_next ps l r ≡ l) ⊎ ((q : Request) × Contains rs q × (reply ps l r ≡ reply ps l q) × IsNoLater q r)

-- the request is left out: clean paths alone count, and it is at an unclean one
abbrev pub is_left_out : Bool → Request → Bool
is_left_out clean r = clean && is_at_unclean_path r

-- the one is left out only where the other is
abbrev pub IsLeftOutAs : Bool → Request → Request → Type 0
IsLeftOutAs clean q r = is_left_out clean r ≡ false → is_left_out clean q ≡ false

-- executions; each that moves a task is answered as one of them that comes no later, and is left out only where it is
pub record LeadExecs (clean : Bool) (ps : List Policy) (l : Label) (rs : List Request) : Type 0 where
  pub each : (r : Request) → Contains rs r → IsExec r
  pub all : (r : Request) → IsExec r
      → (label_next ps l r ≡ l) ⊎ ((q : Request) × Contains rs q × (reply ps l r ≡ reply ps l q) × IsNoLater q r × IsLeftOutAs clean q r)

-- requests that can be asked; each request that moves a task is answered as one of them that comes no later, and is left out only where it is
pub record LeadAll (clean : Bool) (ps : List Policy) (l : Label) (rs : List Request) : Type 0 where
  pub each : (r : Request) → Contains rs r → IsAskable r
  pub all : (r : Request) → IsAskable r
      → (label_next ps l r ≡ l) ⊎ ((q : Request) × Contains rs q × (reply ps l r ≡ reply ps l q) × IsNoLater q r × IsLeftOutAs clean q r)

-- requests that can be asked; to where one leads, but for the label itself, one of them leads that comes no later, and is left out only where it is
pub record LeadAllBy (clean : Bool) (g : Going) (l : Label) (rs : List Request) : Type 0 where
  pub each : (r : Request) → Contains rs r → IsAskable r
  pub all : (r : Request) → IsAskable r
      → (label_in g l r ≡ l) ⊎ ((q : Request) × Contains rs q × (label_in g l r ≡ label_in g l q) × IsNoLater q r × IsLeftOutAs clean q r)

-- the patterns on paths or those on names that decide at the label are more than can be matched together
abbrev pub HaveManyPatternsAt : List Policy → Label → Type 0
HaveManyPatternsAt ps l = (most_patterns < length (deciding ps l)) ⊎ (most_patterns < many_name_patterns ps l)

-- the patterns on paths or those on names tell n texts apart, each two of them
abbrev pub HavePlacesAt : List Policy → Label → ℕ → Type 0
HavePlacesAt ps l n = HasPlaces (deciding ps l) n ⊎ HaveNamePlaces ps l n

-- the pattern matches each path that can be asked for
abbrev pub MatchesAll : Pattern → Type 0
MatchesAll p = (s : List ℕ) → IsAsked s → Matches p.items.items s

-- the patterns on paths that decide at the label are more than can be matched together; where clean paths alone count, with two more
abbrev pub HaveManyPathsFor : Bool → List Policy → Label → Type 0
HaveManyPathsFor false ps l = most_patterns < length (deciding ps l)
HaveManyPathsFor true ps l = most_patterns < length (deciding ps l) + 2

-- they tell n paths apart, each two of them; where clean paths alone count, maybe with one that tells unclean paths and one that matches all
abbrev pub HavePathPlacesFor : Bool → List Policy → Label → ℕ → Type 0
HavePathPlacesFor false ps l n = HasPlaces (deciding ps l) n
HavePathPlacesFor true ps l n =
    HasPlaces (deciding ps l) n ⊎ ((p q : Pattern) × TellsUnclean p × MatchesAll q × HasPlaces (p ∷ deciding ps l ++ q ∷ []) n)

-- so of these or those on names
abbrev pub HaveManyPatternsFor : Bool → List Policy → Label → Type 0
HaveManyPatternsFor clean ps l = HaveManyPathsFor clean ps l ⊎ (most_patterns < many_name_patterns ps l)

-- those on paths or those on names tell n texts apart, where clean paths alone count or all
abbrev pub HavePlacesFor : Bool → List Policy → Label → ℕ → Type 0
HavePlacesFor clean ps l n = HavePathPlacesFor clean ps l n ⊎ HaveNamePlaces ps l n

-- why it isn't told where requests lead from the label, where clean paths alone count or all
abbrev pub IsWhyFor : Bool → List Policy → ℕ → Label → Why → Type 0
IsWhyFor clean ps limit l TooManyPatterns = HaveManyPatternsFor clean ps l
IsWhyFor clean ps limit l TooManyStates = HavePlacesFor clean ps l (limit + 1)

-- where all count
abbrev pub IsWhy : List Policy → ℕ → Label → Why → Type 0
IsWhy ps limit l why = IsWhyFor false ps limit l why
