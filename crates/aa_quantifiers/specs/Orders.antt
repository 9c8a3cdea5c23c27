-- Which of two requests comes first.
-- Source: own.
use Rattle.std.specs.Prelude.{◌≤◌, Option, Some, None}
use Rattle.aa_model.specs.declared.request.Request.{Request}
use Rattle.aa_unclean_paths.specs.Requests.{IsAtUncleanPath}
use Rattle.aa_quantifiers.specs.declared.order.Order.{Order}
use Rattle.aa_quantifiers.specs.declared.order.Order.TheVariants.{Short, Clean}
use Rattle.aa_quantifiers.specs.Words.{path_length}

-- requests at clean paths come before those at unclean ones, and of such as are alike in that those with shorter paths; the one comes no
-- later than the other
pub record ComesFirst (one other : Request) : Type 0 where
  pub clean : IsAtUncleanPath one → IsAtUncleanPath other
  pub short : (IsAtUncleanPath other → IsAtUncleanPath one) → path_length one ≤ path_length other

-- it comes no later in this order
abbrev pub Before : Order → Request → Request → Type 0
Before Short one other = path_length one ≤ path_length other
Before Clean one other = ComesFirst one other

-- no later than the best one, if there is one
abbrev pub Precedes : Order → Request → Option Request → Type 0
Precedes order r (Some best) = Before order r best
Precedes order r None = Unit {0}

-- there is a best one, which comes no later
abbrev pub Follows : Order → Request → Option Request → Type 0
Follows order r (Some best) = Before order best r
Follows order r None = ⊥
