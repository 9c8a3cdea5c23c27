-- Files that are sorted one after another.
use Rattle.std.proofs.Common.{◌≡◌, ℕ, ◌+◌, ◌<◌, ◌≤◌, List, [], ◌∷◌, ◌++◌, length, take, flat_map, get_or, Vec, ap, refl, sym, subst, ◌∙◌}
use Rattle.std.specs.List.{AllZip}
use Rattle.std.specs.declared.alloc.Global.{Global}
use Rattle.std.proofs.lemmas.List.{take_all, take_more, map-append, append-nil}
use Rattle.std.proofs.lemmas.Grind.{flat_map-append}
use Rattle.std.proofs.lemmas.Slice.Zip.{all_zipped_more}
use Rattle.aa_files.specs.Texts.{texts}
use Rattle.aa_files.specs.declared.unit.Unit as unit
use Rattle.aa_command.specs.Setting.{Setting}
use Rattle.aa_skipped.specs.declared.skipped.Skipped.{Skipped}
use Rattle.aa_skipped.specs.declared.skipped.Found.{Found}
use Rattle.aa_skipped.specs.Sorting.{IsFound, units_in, skipped_in, AreSorted}

-- the path of that number stands behind those before it
one_more : (paths : List (Vec ℕ Global)) (i : ℕ) (path : Vec ℕ Global) → i < length paths → path ≡ get_or paths i path → texts (take (i + 1) paths) ≡ texts (take i paths) ++ path.items ∷ []
one_more paths i path lt item =
    ap texts (take_more paths i path lt ∙ ap (λ (x : Vec ℕ Global). take i paths ++ x ∷ []) (sym item)) ∙ map-append (λ (v : Vec ℕ Global). v.items) (take i paths) (path ∷ [])

pub none_sorted : (s : Setting) → AreSorted s [] [] []
none_sorted s = record { founds = []; found = tt; units_are = refl; skipped_are = refl }

-- one more of what is put together
more_of : {A : Type 0} (f : Found → List A) (founds : List Found) (one : Found) (before after : List A) → before ≡ flat_map f founds → after ≡ before ++ f one → after ≡ flat_map f (founds ++ one ∷ [])
more_of f founds one before after is put =
    put ∙ (ap (λ l. l ++ f one) is ∙ (ap (λ l. flat_map f founds ++ l) (sym (append-nil (f one))) ∙ sym (flat_map-append f founds (one ∷ []))))

-- the file at the next path is sorted
pub sorted_next : (s : Setting) (paths : List (Vec ℕ Global)) (i : ℕ) (path : Vec ℕ Global) (name : List ℕ) (us more : List unit.Unit) (ks others : List Skipped) (f : Found) → i < length paths
    → path ≡ get_or paths i path → name ≡ path.items → more ≡ us ++ units_in f → others ≡ ks ++ skipped_in f → IsFound s name f
    → AreSorted s (texts (take i paths)) us ks → AreSorted s (texts (take (i + 1) paths)) more others
sorted_next s paths i path name us more ks others f lt item is_name put_unit put_skipped is are = record {
  founds = are.founds ++ f ∷ [];
  found = subst (λ (ps : List (List ℕ)). AllZip (IsFound s) ps (are.founds ++ f ∷ [])) (sym (one_more paths i path lt item))
      (all_zipped_more (IsFound s) (texts (take i paths)) are.founds path.items f are.found (subst (λ (n : List ℕ). IsFound s n f) is_name is));
  units_are = more_of units_in are.founds f us more are.units_are put_unit;
  skipped_are = more_of skipped_in are.founds f ks others are.skipped_are put_skipped;
}

pub sorted_all : (s : Setting) (paths : List (Vec ℕ Global)) (i : ℕ) (us : List unit.Unit) (ks : List Skipped) → length paths ≤ i → AreSorted s (texts (take i paths)) us ks → AreSorted s (texts paths) us ks
sorted_all s paths i us ks le are = subst (λ (ps : List (Vec ℕ Global)). AreSorted s (texts ps) us ks) (take_all i paths le) are
