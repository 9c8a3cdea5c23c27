-- Rules that aren't about files, by their numbers.
-- Source: own.
use Rattle.std.specs.Prelude.{◌≡◌, ℕ, suc, ◌<◌, List, [], ◌∷◌, Bool, if◌then◌else◌, Contains}
use Rattle.aa_model.specs.declared.rule.CapRule.{CapRule}
use Rattle.aa_model.specs.declared.rule.NetRule.{NetRule}
use Rattle.aa_model.specs.declared.rule.ChangeRule.{ChangeRule}
use Rattle.aa_compile.specs.Holding.{cap_holds, net_holds, change_holds}
use Rattle.aa_redundancy.specs.declared.marks.RuleMark.{RuleMark}
use Rattle.aa_redundancy.specs.Marks.{plain_mark}

-- something of each element, by numbers from k on
abbrev pub each_from : {X Y : Type 0} → (ℕ → X → Y) → ℕ → List X → List Y
each_from f k [] = []
each_from f k (x ∷ xs) = f k x ∷ each_from f (suc k) xs

-- the numbers, from k on, of the elements that pass
abbrev pub positions_from : {X : Type 0} → (X → Bool) → ℕ → List X → List ℕ
positions_from test k [] = []
positions_from test k (x ∷ xs) = if test x then k ∷ positions_from test (suc k) xs else positions_from test (suc k) xs

-- a mark for each rule, by numbers from k on
abbrev pub cap_marks : ℕ → List CapRule → List RuleMark
cap_marks k rules = each_from (λ (n : ℕ) (r : CapRule). plain_mark n r.audit r.deny) k rules

-- the marks of rules on sockets, with their numbers from k on
abbrev pub net_marks : ℕ → List NetRule → List RuleMark
net_marks k rules = each_from (λ (n : ℕ) (r : NetRule). plain_mark n r.audit r.deny) k rules

-- the marks of rules on changes of the profile, with their numbers from k on
abbrev pub change_marks : ℕ → List ChangeRule → List RuleMark
change_marks k rules = each_from (λ (n : ℕ) (r : ChangeRule). plain_mark n r.audit r.deny) k rules

-- the numbers of the rules that name a capability
abbrev pub cap_row : List CapRule → ℕ → List ℕ
cap_row rules c = positions_from (cap_holds c) 0 rules

-- that name a family and a type
abbrev pub net_row : List NetRule → ℕ → ℕ → List ℕ
net_row rules f s = positions_from (net_holds f s) 0 rules

-- that hold for a name
abbrev pub change_row : List ChangeRule → List ℕ → List ℕ
change_row rules name = positions_from (change_holds name) 0 rules

-- the rows are those of the first n things
pub record HasRows (row_of : ℕ → List ℕ) (n : ℕ) (rows : List (List ℕ)) : Type 0 where
  pub each : (row : List ℕ) → Contains rows row → (k : ℕ) × (k < n) × (row ≡ row_of k)
  pub all : (k : ℕ) → k < n → Contains rows (row_of k)
