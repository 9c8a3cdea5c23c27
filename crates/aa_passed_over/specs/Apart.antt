-- The rules that are passed over, and the flags without effect, that one of two policies alone has. One that stands twice permits no more than one, so each text counts once.
-- Source: own.
use Rattle.std.specs.Prelude.{ℕ, ◌≡◌, List, [], ◌∷◌, ◌++◌, map, flat_map, Bool, if◌then◌else◌, Option, Some, is_some, Vec}
use Rattle.std.specs.Global.{Global}
use Rattle.std.specs.Option.{option_and_then}
use Rattle.std.specs.List.{list_any, slice_get}
use Rattle.std.specs.Map.{lookup}
use Rattle.std.specs.Ordering.{is_eq, nat_cmp}
use Rattle.std.specs.Cmp.Lexicographic.{slice_cmp}
use Rattle.std.specs.Str.{bytes_eq}
use Rattle.aa_model.specs.declared.policy.Policy.{Policy}
use Rattle.aa_model.specs.declared.policy.Profile.{Profile}
use Rattle.aa_compile.specs.Labels.{first_profiles}
use Rattle.aa_compile.specs.Transitions.{named}
use Rattle.aa_command.specs.declared.decided.Decided.{Decided}
use Rattle.aa_passed_over.specs.declared.apart.Side.{Side}
use Rattle.aa_passed_over.specs.declared.apart.Side.TheVariants.{Old, New}
use Rattle.aa_passed_over.specs.declared.apart.Apart.{Apart}
use Rattle.aa_passed_over.specs.Listed.{Listed, listed, listed_in}

-- ---- the rules of one profile

-- how a rule reads
abbrev pub text_of : Listed → List ℕ
text_of r = r.text

-- one of the texts is this
abbrev pub is_among : List (List ℕ) → List ℕ → Bool
is_among texts text = list_any (bytes_eq text) texts

-- the rules that read as none of these texts and as none of the rules before them
abbrev pub new_among : List (List ℕ) → List Listed → List Listed
new_among texts [] = []
new_among texts (r ∷ rs) = if is_among texts r.text then new_among texts rs else r ∷ new_among (r.text ∷ texts) rs

-- those of some rules that none of the others reads as
abbrev pub alone : List Listed → List Listed → List Listed
alone rs others = new_among (map text_of others) rs

-- ---- the rules of two policies

-- a rule that one policy alone has, under the number of its profile in the old one
pub record ApartRule : Type 0 where
  pub profile : ℕ
  pub side : Side
  pub rule : Listed

-- the same without where it lies in memory
abbrev pub apart : Apart → ApartRule
apart a = record { profile = a.profile; side = a.side; rule = listed a.rule }

-- a rule on one side of a profile
abbrev pub aside : ℕ → Side → Listed → ApartRule
aside n side r = record { profile = n; side = side; rule = r }

-- the number of the profile of that name in the first policy
abbrev pub number_named : List Policy → List ℕ → Option ℕ
number_named policies name = option_and_then (λ (p : Policy). named p.profiles name) (slice_get policies 0)

-- the rules of two profiles that one of them alone has, those of the old one first
abbrev pub apart_in : ℕ → List Listed → List Listed → List ApartRule
apart_in n old new = map (aside n Old) (alone old new) ++ map (aside n New) (alone new old)

-- those of the profiles of these numbers, if there are both
abbrev pub apart_by : Decided → Decided → Option ℕ → Option ℕ → List ApartRule
apart_by d e (Some n) (Some m) = apart_in n (listed_in d n) (listed_in e m)
apart_by d e _ _ = []

-- those of the profiles that are called as this one
abbrev pub apart_of : Decided → Decided → Profile → List ApartRule
apart_of d e p = apart_by d e (number_named d.policies.now p.name) (number_named e.policies.now p.name)

-- the flags without effect and the rules that are passed over that one policy alone has, of all profiles that both have
abbrev pub all_apart : Decided → Decided → List ApartRule
all_apart d e = flat_map (apart_of d e) (first_profiles d.policies.now)

-- ---- texts that were seen

-- texts that are kept
abbrev pub Seen : Type 0
Seen = List (Vec ℕ Global × Unit {0})

-- a text is kept
abbrev pub is_seen : Seen → List ℕ → Bool
is_seen seen text = is_some (lookup (λ k. is_eq (slice_cmp nat_cmp text k.items)) seen)

-- just these texts are kept
abbrev pub AreSeen : Seen → List (List ℕ) → Type 0
AreSeen seen texts = (text : List ℕ) → is_seen seen text ≡ is_among texts text

-- what is found of the rules of one side goes on with those of the rest that read as no text that is kept, up to the whole
pub record GoesOn (n : ℕ) (side : Side) (seen : Seen) (found : List ApartRule) (rest : List Listed) (whole : List ApartRule) : Type 0 where
  pub texts : List (List ℕ)
  pub kept : AreSeen seen texts
  pub goes_on : found ++ map (aside n side) (new_among texts rest) ≡ whole
