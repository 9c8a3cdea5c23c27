-- Where a unit first includes a name.
use Rattle.std.proofs.Common.{◌≡◌, ℕ, Bool, true, false, cond, List, [], ◌∷◌, map, Option, Some, find, refl, subst, ◌∙◌}
use Rattle.std.specs.Prelude.{option_map, Vec}
use Rattle.std.specs.declared.alloc.Global.{Global}
use Rattle.std.specs.Str.{bytes_eq}
use Rattle.aa_words.specs.Includes.{included_name}
use Rattle.aa_words.specs.declared.found.IncludeAt.{IncludeAt}
use Rattle.aa_words.specs.Found.{IncludeData, HasIncludes}
use Rattle.aa_words.specs.FoundData.{includes_data, include_data}
use Rattle.aa_files.specs.declared.unit.Unit as unit
use Rattle.aa_files.specs.Numbers.{text_in}
use Rattle.aa_job.specs.Shared.{IsFirstByte}

abbrev has_name : List ℕ → IncludeAt → Bool
has_name name i = bytes_eq (included_name i.text.now) name

abbrev byte_in : List ℕ → List IncludeAt → Option ℕ
byte_in name is = option_map (λ (i : IncludeAt). i.byte) (find (has_name name) is)

found_data : (name : List ℕ) (is : List IncludeAt) → byte_in name is ≡ option_map (λ (i : IncludeData). i.byte) (find (λ (i : IncludeData). bytes_eq (included_name i.text) name) (includes_data is))
found_data name [] = refl
found_data name (i ∷ is) = by (has_name name i) (found_data name is)
  where
    by : (b : Bool) → byte_in name is ≡ option_map (λ (j : IncludeData). j.byte) (find (λ (j : IncludeData). bytes_eq (included_name j.text) name) (includes_data is))
        → option_map (λ (j : IncludeAt). j.byte) (cond b (Some i) (find (has_name name) is)) ≡ option_map (λ (j : IncludeData). j.byte)
        (cond b (Some (include_data i)) (find (λ (j : IncludeData). bytes_eq (included_name j.text) name) (includes_data is)))
    by true e = refl
    by false e = e

pub first_byte_is : (text name : List ℕ) (is : List IncludeAt) (at : Option ℕ) → HasIncludes text (includes_data is) → at ≡ byte_in name is → IsFirstByte text name at
first_byte_is text name is at are e = record { includes = includes_data is; are = are; is = e ∙ found_data name is }

pub stands_in : (u : unit.Unit) (file : ℕ) (text name : List ℕ) (o p : Option ℕ) → text ≡ text_in u file → o ≡ p → IsFirstByte text name o → IsFirstByte (text_in u file) name p
stands_in u file text name o p e f h = subst (λ (t : List ℕ). IsFirstByte t name p) e (subst (λ (x : Option ℕ). IsFirstByte text name x) f h)

-- where there are no texts there is nothing
pub no_lines : (lines : List (Vec ℕ Global)) → map (λ (v : Vec ℕ Global). v.items) lines ≡ [] → lines ≡ []
no_lines [] none = refl
no_lines (line ∷ lines) none = cc
