-- The members of an object as the code goes over them.
use Rattle.std.proofs.Common.{◌≡◌, ℕ, List, [], ◌∷◌, Bool, true, false, ◌||◌, if◌then◌else◌, map, Bor, Global, String, string_bytes, Option, Some, None, refl, ap, ◌∙◌}
use Rattle.std.specs.List.{list_any}
use Rattle.std.specs.Str.{bytes_eq}
use Rattle.serde_json.specs.View.{members_view}
use Rattle.serde_json.specs.declared.value.Value.{Value}
use Rattle.aa_files.specs.Texts.{slices}
use Rattle.aa_question.specs.Values.{is_among, unknown_in}

pub among_is : (name : List ℕ) (names : List (Bor (List ℕ))) → list_any (λ n. bytes_eq name n.now) names ≡ is_among (slices names) name
among_is name [] = refl
among_is name (n ∷ ns) = ap (λ (b : Bool). bytes_eq name n.now || b) (among_is name ns)

-- the first key that has none of the names
abbrev pub first_key : List (List ℕ) → List (String Global) → Option (List ℕ)
first_key names [] = None
first_key names (k ∷ ks) = if is_among names (string_bytes k) then first_key names ks else Some (string_bytes k)

pub keys_are : (names : List (List ℕ)) (es : List (String Global × Value)) → first_key names (map (λ e. e.0) es) ≡ unknown_in names (members_view es)
keys_are names [] = refl
keys_are names (e ∷ es) = ap (λ (o : Option (List ℕ)). if is_among names (string_bytes e.0) then o else Some (string_bytes e.0)) (keys_are names es)

pub known_key : (names : List (List ℕ)) (ks rest : List (String Global)) (k : String Global) → ks ≡ k ∷ rest → is_among names (string_bytes k) ≡ true → first_key names ks ≡ first_key names rest
known_key names ks rest k is known = ap (first_key names) is ∙ ap (λ (b : Bool). if b then first_key names rest else Some (string_bytes k)) known

pub other_key : (names : List (List ℕ)) (ks rest : List (String Global)) (k : String Global) → ks ≡ k ∷ rest → is_among names (string_bytes k) ≡ false → first_key names ks ≡ Some (string_bytes k)
other_key names ks rest k is other = ap (first_key names) is ∙ ap (λ (b : Bool). if b then first_key names rest else Some (string_bytes k)) other

pub no_key : (names : List (List ℕ)) (ks : List (String Global)) → ks ≡ [] → first_key names ks ≡ None
no_key names ks is = ap (first_key names) is
