-- The profiles that are granted what a word asks.
-- Source: own.
use Rattle.std.specs.Prelude.{◌≡◌, ℕ, zero, suc, List, [], ◌∷◌, ◌++◌, map, Bool, not, Option, Some, None, option_map, if◌then◌else◌}
use Rattle.aa_model.specs.declared.policy.Profile.{Profile}
use Rattle.aa_model.specs.declared.label.Label.TheVariants.{Confined}
use Rattle.aa_model.specs.declared.request.Request.{Request}
use Rattle.aa_unclean_paths.specs.Requests.{does_request_count}
use Rattle.aa_compile.specs.Labels.{profile_in}
use Rattle.aa_notation.specs.Kinds.{word_text}
use Rattle.aa_command.specs.declared.decided.Decided.{Decided}
use Rattle.aa_ask.specs.Told.{Told, told, verdict_on}
use Rattle.aa_quantifiers.specs.declared.word.Word.{Word}
use Rattle.aa_quantifiers.specs.declared.quantity.Quantity.{Quantity}
use Rattle.aa_quantifiers.specs.declared.quantity.Quantity.TheVariants.{Every, Partly, Never}
use Rattle.aa_who.specs.declared.granting.Grant.{Grant}
use Rattle.aa_who.specs.declared.granting.Grants.{Grants}
use Rattle.aa_who.specs.declared.counting.Counted.{Counted}
use Rattle.aa_who.specs.declared.counting.Counted.TheVariants as of
use Rattle.aa_who.specs.Untold.{Untold, untold, untold_at}
use Rattle.aa_who.specs.Counts.{IsCounted}

-- a profile that is granted some of a word's requests: the verdict on one that is, and the words of one that isn't and of one at an unclean
-- path that isn't where all others are, if there are such
pub record Granted : Type 0 where
  pub name : List ℕ
  pub complains : Bool
  pub verdict : Told
  pub refused : Option (List ℕ)
  pub apart : Option (List ℕ)

-- those that are granted some, those that are at unclean paths alone, and those of which it can't be told
pub record AllGranted : Type 0 where
  pub list : List Granted
  pub apart : List Granted
  pub untold : List Untold

-- a grant, without where it lies in memory
abbrev pub granted : Grant → Granted
granted g = record {
  name = g.name.items;
  complains = g.complains;
  verdict = told g.verdict;
  refused = option_map (λ word. word.items) g.refused;
  apart = option_map (λ word. word.items) g.apart;
}

-- all of them
abbrev pub all_granted : Grants → AllGranted
all_granted gs = record { list = map granted gs.list.items; apart = map granted gs.apart.items; untold = map untold gs.untold.items }

-- the word of a request, if that is asked for
abbrev pub word_if : Bool → Request → Option (List ℕ)
word_if is r = if is then Some (word_text r) else None

-- profile n, which is p, is granted a request
abbrev pub granted_by : Decided → ℕ → Profile → Request → Option (List ℕ) → Option (List ℕ) → Granted
granted_by d n p one refused apart =
    record { name = p.name; complains = p.complain; verdict = verdict_on d (Confined 0 n) one; refused = refused; apart = apart }

-- it is among those that are granted some, or among those that are so at unclean paths alone
abbrev pub with_granted : Bool → AllGranted → Granted → AllGranted
with_granted counts gs g =
    record { list = if counts then gs.list ++ g ∷ [] else gs.list; apart = if counts then gs.apart else gs.apart ++ g ∷ []; untold = gs.untold }

-- by how many of the requests it is granted; the one that shows it is at an unclean path where none at a clean one shows it
abbrev pub with_quantity : Bool → Decided → ℕ → Profile → AllGranted → Quantity → AllGranted
with_quantity unclean d n p gs (Every one) = with_granted (does_request_count unclean one) gs (granted_by d n p one None None)
with_quantity unclean d n p gs (Partly one other) =
    with_granted (does_request_count unclean one) gs
    (granted_by d n p one (word_if (does_request_count unclean other) other) (word_if (not (does_request_count unclean other)) other))
with_quantity unclean d n p gs (Never other) = gs

-- and what is told of it is added
abbrev pub with_count : Bool → Decided → ℕ → Profile → AllGranted → Counted → AllGranted
with_count unclean d n p gs (of.Told q) = with_quantity unclean d n p gs q
with_count unclean d n p gs (of.Untold line) =
    record { list = gs.list; apart = gs.apart; untold = gs.untold ++ untold_at d.policies.now (Confined 0 n) line.items ∷ [] }

-- by how many of the word's requests its rules allow, what is told of profile n is added, if it is there
abbrev pub AddsOf : Decided → ℕ → Bool → Word → List ℕ → ℕ → Option Profile → AllGranted → AllGranted → Type 0
AddsOf d limit unclean w text n None was now = now ≡ was
AddsOf d limit unclean w text n (Some p) was now =
    (c : Counted) × IsCounted d.policies.now limit (Confined 0 n) w text c × (now ≡ with_count unclean d n p was c)

-- so of the profile of that number
abbrev pub AddsGrants : Decided → ℕ → Bool → Word → List ℕ → ℕ → AllGranted → AllGranted → Type 0
AddsGrants d limit unclean w text n was now = AddsOf d limit unclean w text n (profile_in d.policies.now 0 n) was now

-- what is told of the first n profiles, in order
abbrev pub AreGrants : Decided → ℕ → Bool → Word → List ℕ → ℕ → AllGranted → Type 0
AreGrants d limit unclean w text zero gs = gs ≡ record { list = []; apart = []; untold = [] }
AreGrants d limit unclean w text (suc n) gs =
    (before : AllGranted) × AreGrants d limit unclean w text n before × AddsGrants d limit unclean w text n before gs
