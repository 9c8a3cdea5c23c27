-- Variables that an assignment begins with.
-- Source: apparmor.d(5), "Variables".
use Rattle.std.specs.Prelude.{ℕ, ◌≡◌, true, List, ◌∷◌, take, drop}
use Rattle.aa_words.specs.Runs.{assigns}
use Rattle.aa_policy.specs.Preamble.{Names}

-- behind @ a variable's text goes on for so many bytes, and = or += follows
pub record IsAssigned (bytes : List ℕ) (long : ℕ) : Type 0 where
  pub name : List ℕ
  pub names : Names (64 ∷ take long bytes) name
  pub sign : assigns (drop long bytes) ≡ true
