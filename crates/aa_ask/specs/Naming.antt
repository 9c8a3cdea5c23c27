-- The profiles that a text names.
-- Source: own.
use Rattle.std.specs.Prelude.{ℕ, zero, suc, ◌==◌, List, [], ◌∷◌, ◌++◌, map, if◌then◌else◌, option_and_then}
use Rattle.std.specs.Option.{option_map_or}
use Rattle.aa_pattern.specs.declared.item.Item.{Item}
use Rattle.aa_pattern.specs.Matching.{is_match}
use Rattle.aa_model.specs.declared.policy.Policy.{Policy}
use Rattle.aa_model.specs.declared.label.Label.{Label}
use Rattle.aa_model.specs.declared.label.Label.TheVariants.{Confined}
use Rattle.aa_compile.specs.Labels.{label_name, label_named}
use Rattle.aa_ask.specs.Asked.{name_in_digits}
use Rattle.aa_command.specs.Counts.{count_of}
use Rattle.aa_ask.specs.Wildcards.{name_item}

-- the label of profile n, where its full name is matched
abbrev pub label_if : List Policy → List Item → ℕ → List Label
label_if policies items n = if is_match items (label_name policies (Confined 0 n)) then Confined 0 n ∷ [] else []

-- those of the first n profiles
abbrev pub first_named : List Policy → List Item → ℕ → List Label
first_named policies items zero = []
first_named policies items (suc n) = first_named policies items n ++ label_if policies items n

-- the label of the profile whose full name stands in hexadecimal digits, as `ask` takes it
abbrev pub in_digits : List Policy → List ℕ → List Label
in_digits policies digits = option_map_or (λ (l : Label). l ∷ []) (option_and_then (label_named policies 0) (name_in_digits digits)) []

-- the first labels, or where there are none the others
abbrev pub or_others : List Label → List Label → List Label
or_others [] others = others
or_others (l ∷ ls) others = l ∷ ls

-- the profiles for whose full names the text stands as it is written; where there are none, that whose name stands in digits
abbrev pub profiles_named : List Policy → List ℕ → List Label
profiles_named policies text = or_others (first_named policies (map name_item text) (count_of policies)) (in_digits policies text)
