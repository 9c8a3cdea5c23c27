-- The patterns that the paths of a policy stand for and its names are read as, and the first of them that is refused.
-- Source: apparmor.d(5), "Variables".
use Rattle.std.specs.Prelude.{ℕ, ◌≡◌, ◌⊎◌, List, [], ◌∷◌, map, Result, Ok, Err}
use Rattle.aa_base.specs.declared.fault.Spot.{Spot}
use Rattle.aa_base.specs.declared.fault.PolicyFault.{PolicyFault}
use Rattle.aa_base.specs.declared.fault.PolicyKind.{PolicyKind}
use Rattle.aa_pattern.specs.declared.pattern.Pattern.{Pattern}
use Rattle.aa_glob.specs.declared.sign.Token.{Token}
use Rattle.aa_glob.specs.Variables.{Variable}
use Rattle.aa_glob.specs.Reading.{spelled, tokens}
use Rattle.aa_glob.specs.Expansions.{Expands}

-- the tokens that spell each pattern, in order
abbrev pub tokens_of : List Pattern → List (List Token)
tokens_of patterns = map (λ p. spelled p.items.items) patterns

-- the path's expansions are read as these patterns
abbrev pub StandsFor : List Variable → List ℕ → List Pattern → Type 0
StandsFor vars path patterns = Expands vars path (Ok (tokens_of patterns))

-- how a text is read: a path by its expansions, the name of a rule on changes of profile as it stands
pub data Way : Type 0 where
  AsPath : Way
  AsName : Way

-- a path or a name as it is written, and where
pub record PathData : Type 0 where
  pub at : Spot
  pub text : List ℕ
  pub way : Way

-- one pattern alone, or why there is none
abbrev pub alone : Result (List Token) PolicyKind → Result (List (List Token)) PolicyKind
alone (Ok pattern) = Ok (pattern ∷ [])
alone (Err fault) = Err fault

-- what a text is read as
abbrev pub IsReadAs : Way → List Variable → List ℕ → Result (List (List Token)) PolicyKind → Type 0
IsReadAs AsPath vars text result = Expands vars text result
IsReadAs AsName vars text result = alone (tokens text) ≡ result

-- its expansions are all read, or it is
abbrev pub IsExpanding : List Variable → PathData → Type 0
IsExpanding vars path = (patterns : List (List Token)) × IsReadAs path.way vars path.text (Ok patterns)

-- it is refused for what it is read as, at its word
pub record IsRefused (vars : List Variable) (path : PathData) (fault : PolicyFault) : Type 0 where
  pub kind : IsReadAs path.way vars path.text (Err fault.kind)
  pub at_is : fault.at ≡ path.at

-- the first of them that is refused, and those before it are read
abbrev pub IsFirstRefused : List Variable → List PathData → PolicyFault → Type 0
IsFirstRefused vars [] fault = ⊥
IsFirstRefused vars (path ∷ paths) fault = IsRefused vars path fault ⊎ (IsExpanding vars path × IsFirstRefused vars paths fault)
