-- Whether a path is unclean, from its front to its end.
-- Source: own.
use Rattle.std.specs.Prelude.{ℕ, ◌==◌, List, [], ◌∷◌, Bool, true, false, ◌&&◌, ◌||◌}

-- the text ends here, or a slash stands here
abbrev pub ends_here : List ℕ → Bool
ends_here [] = true
ends_here (b ∷ bs) = b == 47

-- what stands behind a dot ends its component, or is one more dot that does
abbrev pub ends_behind_dot : List ℕ → Bool
ends_behind_dot [] = true
ends_behind_dot (b ∷ bs) = b == 47 || (b == 46 && ends_here bs)

-- what stands behind a slash begins with a component that names nothing
abbrev pub begins_with_nothing : List ℕ → Bool
begins_with_nothing [] = false
begins_with_nothing (b ∷ bs) = b == 47 || (b == 46 && ends_behind_dot bs)

-- such a component stands behind one of the slashes
unfoldable pub is_unclean : List ℕ → Bool
is_unclean [] = false
is_unclean (b ∷ bs) = (b == 47 && begins_with_nothing bs) || is_unclean bs
