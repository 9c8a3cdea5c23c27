-- The components of a path, and paths that have one which names nothing.
-- Source: POSIX, "Pathname Resolution": components between slashes, dot and dot-dot, slashes at the end.
use Rattle.std.specs.Prelude.{◌≡◌, ◌≢◌, ℕ, ◌⊎◌, List, [], ◌∷◌, ◌++◌, All, codes}

-- a path ends here, or a slash stands here
abbrev pub IsEndOrSlash : List ℕ → Type 0
IsEndOrSlash [] = Unit {0}
IsEndOrSlash (b ∷ bs) = b ≡ 47

-- the component stands in the path between a slash and the next or the end; the rest stands behind it
pub record HasComponent (path component rest : List ℕ) : Type 0 where
  pub before : List ℕ
  pub whole : path ≡ before ++ 47 ∷ (component ++ rest)
  pub name : All (λ b. b ≢ 47) component
  pub ends : IsEndOrSlash rest

-- a component that the kernel resolves away: `.`, `..`, or an empty one that isn't the last
abbrev pub NamesNothing : List ℕ → List ℕ → Type 0
NamesNothing component rest = (component ≡ codes ".") ⊎ (component ≡ codes "..") ⊎ ((component ≡ []) × (rest ≢ []))

-- one of the path's components is such
pub record IsUnclean (path : List ℕ) : Type 0 where
  pub component : List ℕ
  pub rest : List ℕ
  pub has : HasComponent path component rest
  pub none : NamesNothing component rest
