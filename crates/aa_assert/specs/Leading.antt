-- The labels that a clause of a claim names.
-- Source: own.
use Rattle.std.specs.Prelude.{◌≡◌, List, map, Bool, true, false, Option}
use Rattle.aa_model.specs.declared.policy.Policy.{Policy}
use Rattle.aa_model.specs.declared.policy.Profile.{Profile}
use Rattle.aa_model.specs.declared.label.Label.{Label}
use Rattle.aa_model.specs.declared.request.Request.{Request}
use Rattle.aa_model.specs.declared.request.Request.TheVariants.{Change}
use Rattle.aa_mediate.specs.Reply.{reply}
use Rattle.aa_compile.specs.Labels.{first_profiles}
use Rattle.aa_quantifiers.specs.declared.aim.Labels.{Labels}
use Rattle.aa_quantifiers.specs.declared.word.Word.{Word}
use Rattle.aa_quantifiers.specs.declared.word.Word.TheVariants.{Files, Execs, One}
use Rattle.aa_quantifiers.specs.Aims.{has_label}
use Rattle.aa_quantifiers.specs.Quantities.{grants}
use Rattle.aa_claims.specs.declared.words.ClaimWord.{ClaimWord}
use Rattle.aa_claims.specs.Forms.{names_led}
use Rattle.aa_assert.specs.Scope.{is_among, names_free}

-- a clause names the profile
abbrev pub is_named_in : Option (List ClaimWord) → Profile → Bool
is_named_in clause p = is_among false clause p.name

-- these are the labels that a claim of these words names as such to which nothing leads
pub record AreLabels (ps : List Policy) (ws : List ClaimWord) (ls : Labels) : Type 0 where
  pub free : ls.free ≡ names_free (names_led ws)
  pub profiles : ls.profiles.items ≡ map (is_named_in (names_led ws)) (first_profiles ps)

-- a request to change
abbrev pub is_change : Request → Bool
is_change (Change name) = true
is_change _ = false

-- the word asks for executions, or for a change of profile
abbrev pub may_lead : Word → Bool
may_lead (Files w) = false
may_lead (Execs w) = true
may_lead (One r) = is_change r

-- the rules allow the request at the label, and then the task has one of these labels
abbrev pub IsLedTo : List Policy → Label → Labels → Request → Type 0
IsLedTo ps l ls r = (grants (reply ps l r) ≡ true) × (has_label ls (reply ps l r).label ≡ true)
