-- Requests that two lists of policies answer differently.
-- Source: own.
use Rattle.std.specs.Prelude.{◌≡◌, ◌+◌, ◌⊎◌, ℕ, List, Contains}
use Rattle.aa_pattern.specs.declared.pattern.Pattern.{Pattern}
use Rattle.aa_model.specs.declared.policy.Policy.{Policy}
use Rattle.aa_model.specs.declared.label.Label.{Label}
use Rattle.aa_model.specs.declared.request.Request.{Request}
use Rattle.aa_mediate.specs.Reply.{reply}
use Rattle.aa_unclean_paths.specs.Told.{IsUncleanPattern}
use Rattle.aa_unclean_paths.specs.Requests.{IsAtUncleanPath}
use Rattle.aa_representatives.specs.Askable.{IsAskable, SameKind}
use Rattle.aa_representatives.specs.Both.{HavePlaces}
use Rattle.aa_representatives.specs.Apart.{HaveManyPatternsAnd, HavePlacesAnd}
use Rattle.aa_differences.specs.declared.at_labels.Difference.{Difference}
use Rattle.aa_differences.specs.declared.comparison.Excess.{Excess}
use Rattle.aa_differences.specs.declared.comparison.Excess.TheVariants.{Patterns, States}
use Rattle.aa_differences.specs.declared.comparison.UntoldLabels.{UntoldLabels}
use Rattle.aa_differences.specs.declared.comparison.Comparison.{Comparison}
use Rattle.aa_differences.specs.Same.{SameLabel, SameAnswer, AnsweredAlike}

-- a request that can be asked, with its answers at two labels that are called the same: a task can tell them apart
pub record IsDifference (ps qs : List Policy) (d : Difference) : Type 0 where
  pub labels : SameLabel ps qs d.from d.to
  pub asked : IsAskable d.request
  pub old : d.old ≡ reply ps d.from d.request
  pub new : d.new ≡ reply qs d.to d.request
  pub differ : SameAnswer ps qs d.old d.new → ⊥

-- one of the differences is of the request's kind and at these labels, and has its answers; it is at an unclean path only where the request is
pub record IsEntryOf (ps qs : List Policy) (l m : Label) (r : Request) (d : Difference) : Type 0 where
  pub from : d.from ≡ l
  pub to : d.to ≡ m
  pub kind : SameKind r d.request
  pub clean : IsAtUncleanPath d.request → IsAtUncleanPath r
  pub old : d.old ≡ reply ps l r
  pub new : d.new ≡ reply qs m r

-- the request is answered the same at the two labels, or has an entry
abbrev pub IsListedAt : List Policy → List Policy → Label → Label → Request → List Difference → Type 0
IsListedAt ps qs l m r ds = AnsweredAlike ps qs l m r ⊎ ((d : Difference) × Contains ds d × IsEntryOf ps qs l m r d)

-- so each that can be asked
abbrev pub ListAllAt : List Policy → List Policy → Label → Label → List Difference → Type 0
ListAllAt ps qs l m ds = (r : Request) → IsAskable r → IsListedAt ps qs l m r ds

-- differences are added: those that were there stay, what was none isn't added, and the request is answered the same or has an entry
pub record AddsAt (ps qs : List Policy) (l m : Label) (r : Request) (was now : List Difference) : Type 0 where
  pub kept : (d : Difference) → Contains was d → Contains now d
  pub each : ((d : Difference) → Contains was d → IsDifference ps qs d) → (d : Difference) → Contains now d → IsDifference ps qs d
  pub listed : IsListedAt ps qs l m r now

-- so at all labels that are called the same
abbrev pub ListAll : List Policy → List Policy → List Difference → Type 0
ListAll ps qs ds = (l m : Label) → SameLabel ps qs l m → ListAllAt ps qs l m ds

-- the patterns on paths or those on names at two labels tell n texts apart, each two of them, or they do with that which tells unclean paths
abbrev pub HavePlacesClean : List Policy → Label → List Policy → Label → ℕ → Type 0
HavePlacesClean ps l qs m n = HavePlaces ps l qs m n ⊎ ((p : Pattern) × IsUncleanPattern p × HavePlacesAnd ps l qs m p n)

-- the patterns at two labels are more than can be matched together, or need more states than the limit
abbrev pub Exceed : List Policy → Label → List Policy → Label → ℕ → Excess → Type 0
Exceed ps l qs m limit Patterns = HaveManyPatternsAnd ps l qs m
Exceed ps l qs m limit States = HavePlacesClean ps l qs m (limit + 1)

-- labels that are called the same, whose patterns have too much of what is said
pub record IsUntold (ps qs : List Policy) (limit : ℕ) (u : UntoldLabels) : Type 0 where
  pub labels : SameLabel ps qs u.from u.to
  pub exceed : Exceed ps u.from qs u.to limit u.why

-- two labels are none of these
abbrev pub AreTold : List UntoldLabels → Label → Label → Type 0
AreTold us l m = (u : UntoldLabels) → Contains us u → u.from ≡ l → u.to ≡ m → ⊥

-- at all labels that are called the same but these, each request that can be asked is answered the same or has an entry
abbrev pub ListAllBut : List Policy → List Policy → List UntoldLabels → List Difference → Type 0
ListAllBut ps qs us ds = (l m : Label) → SameLabel ps qs l m → AreTold us l m → ListAllAt ps qs l m ds

-- differences are added, or labels at which they can't be told: those that were there stay, what was none isn't added, and all at the two labels are
-- listed, unless these are such
pub record AddsAllAt (ps qs : List Policy) (limit : ℕ) (l m : Label) (was now : Comparison) : Type 0 where
  pub kept : (d : Difference) → Contains was.differences.items d → Contains now.differences.items d
  pub each : ((d : Difference) → Contains was.differences.items d → IsDifference ps qs d) → (d : Difference) → Contains now.differences.items d → IsDifference ps qs d
  pub still : (u : UntoldLabels) → Contains was.untold.items u → Contains now.untold.items u
  pub untold : ((u : UntoldLabels) → Contains was.untold.items u → IsUntold ps qs limit u) → (u : UntoldLabels) → Contains now.untold.items u → IsUntold ps qs limit u
  pub listed : AreTold now.untold.items l m → ListAllAt ps qs l m now.differences.items
