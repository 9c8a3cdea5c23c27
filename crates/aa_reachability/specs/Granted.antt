-- Changes that rules grant.
-- Source: own.
use Rattle.std.specs.Prelude.{◌≡◌, List, Bool, true, false, not, Contains}
use Rattle.aa_model.specs.declared.rule.ChangeRule.{ChangeRule}
use Rattle.aa_model.specs.declared.policy.Policy.{Policy}
use Rattle.aa_model.specs.declared.label.Label.{Label}
use Rattle.aa_model.specs.declared.request.Request.{Request}
use Rattle.aa_model.specs.declared.request.Request.TheVariants.{Change}
use Rattle.aa_compile.specs.Labels.{policy_number, label_named}
use Rattle.aa_mediate.specs.Reply.{found_or}
use Rattle.aa_reachability.specs.Moves.{complains_by, label_next}

-- a change leads to the label of its name, if there is one, and not by complain mode alone; of another request nothing is said
abbrev pub IsGranted : List Policy → Label → Request → Type 0
IsGranted ps l (Change s) = (label_next ps l (Change s) ≡ found_or l (label_named ps (policy_number l) s)) × (complains_by ps l (Change s) ≡ false)
IsGranted ps l _ = Unit {0}

-- so of each of some requests, where that is said of them
abbrev pub AreGranted : List Policy → Label → Bool → List Request → Type 0
AreGranted ps l said rs = said ≡ true → (r : Request) → Contains rs r → IsGranted ps l r

-- a rule that doesn't deny
abbrev pub allows_change : ChangeRule → Bool
allows_change r = not r.deny
