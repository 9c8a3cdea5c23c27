-- Which of two requests comes first.
-- Source: own.
use Rattle.std.specs.Prelude.{◌≡◌, ◌⊎◌, ◌<◌, ◌≤◌, ℕ, List, [], ◌∷◌, Contains, length}
use Rattle.aa_model.specs.declared.request.Request.{Request}
use Rattle.aa_model.specs.declared.request.Request.TheVariants.{Exec, Change}

-- executions come before changes of profile, and these before all else
abbrev pub kind_number : Request → ℕ
kind_number (Exec r) = 0
kind_number (Change name) = 1
kind_number _ = 2

-- how long the path is that is executed, or the name that a change asks for
abbrev pub text_length : Request → ℕ
text_length (Exec r) = length r.path
text_length (Change name) = length name
text_length _ = 0

-- the request is of a kind that comes before that of the other, or of the same, and its path or name isn't longer
abbrev pub IsNoLater : Request → Request → Type 0
IsNoLater q r = (kind_number q < kind_number r) ⊎ ((kind_number q ≡ kind_number r) × (text_length q ≤ text_length r))

-- none of the requests comes before an earlier one
abbrev pub IsInOrder : List Request → Type 0
IsInOrder [] = Unit {0}
IsInOrder (r ∷ rs) = ((q : Request) → Contains rs q → IsNoLater r q) × IsInOrder rs
