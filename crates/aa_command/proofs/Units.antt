-- Units that are read one after another.
use Rattle.std.proofs.Common.{◌≡◌, ℕ, ◌+◌, ◌<◌, ◌≤◌, List, [], ◌∷◌, ◌++◌, length, take, drop, get_or, Vec, ap, sym, subst, ◌∙◌}
use Rattle.std.specs.declared.alloc.Global.{Global}
use Rattle.std.proofs.lemmas.List.{take_more, take_all, drop_more, take-append-drop, map-append}
use Rattle.std.proofs.lemmas.Slice.Zip.{all_zipped_more}
use Rattle.aa_files.specs.Texts.{texts}
use Rattle.aa_files.specs.declared.unit.Unit as unit
use Rattle.aa_files.specs.declared.unit.UnitFault.{UnitFault}
use Rattle.aa_files.specs.UnitFaults.{IsLoadFault}
use Rattle.aa_command.specs.Setting.{Setting, IsLoaded}
use Rattle.aa_command.specs.Loads.{AreLoaded, IsFirstUnread}

-- the path of that number stands behind those before it
one_more : (paths : List (Vec ℕ Global)) (i : ℕ) (path : Vec ℕ Global) → i < length paths → path ≡ get_or paths i path → texts (take (i + 1) paths) ≡ texts (take i paths) ++ path.items ∷ []
one_more paths i path lt item =
    ap texts (take_more paths i path lt ∙ ap (λ (x : Vec ℕ Global). take i paths ++ x ∷ []) (sym item)) ∙ map-append (λ (v : Vec ℕ Global). v.items) (take i paths) (path ∷ [])

pub loaded_next : (s : Setting) (paths : List (Vec ℕ Global)) (i : ℕ) (path : Vec ℕ Global) (name : List ℕ) (us more : List unit.Unit) (u : unit.Unit) → i < length paths → path ≡ get_or paths i path
    → name ≡ path.items → more ≡ us ++ u ∷ [] → IsLoaded s name u → AreLoaded s (texts (take i paths)) us → AreLoaded s (texts (take (i + 1) paths)) more
loaded_next s paths i path name us more u lt item is_name is_more is are =
    rw (one_more paths i path lt item, is_more) (all_zipped_more (IsLoaded s) (texts (take i paths)) us path.items u are (subst (λ (n : List ℕ). IsLoaded s n u) is_name is))

pub loaded_all : (s : Setting) (paths : List (Vec ℕ Global)) (i : ℕ) (us : List unit.Unit) → length paths ≤ i → AreLoaded s (texts (take i paths)) us → AreLoaded s (texts paths) us
loaded_all s paths i us le are = subst (λ (ps : List (Vec ℕ Global)). AreLoaded s (texts ps) us) (take_all i paths le) are

cut_at : (paths : List (Vec ℕ Global)) (i : ℕ) (path : Vec ℕ Global) → i < length paths → path ≡ get_or paths i path → texts paths ≡ texts (take i paths) ++ path.items ∷ texts (drop (i + 1) paths)
cut_at paths i path lt item =
    ap texts (sym (take-append-drop i paths) ∙ ap (λ (y : List (Vec ℕ Global)). take i paths ++ y) (drop_more paths i path lt ∙ ap (λ (y : Vec ℕ Global). y ∷ drop (i + 1) paths) (sym item)))
    ∙ map-append (λ (v : Vec ℕ Global). v.items) (take i paths) (path ∷ drop (i + 1) paths)

pub unread_there : (s : Setting) (paths : List (Vec ℕ Global)) (i : ℕ) (path : Vec ℕ Global) (name : List ℕ) (us : List unit.Unit) (e : UnitFault) → i < length paths → path ≡ get_or paths i path → name ≡ path.items
    → IsLoadFault s.files s.input s.folders name e → AreLoaded s (texts (take i paths)) us → IsFirstUnread s (texts paths) e
unread_there s paths i path name us e lt item is_name why are = record {
  before = texts (take i paths);
  path = path.items;
  behind = texts (drop (i + 1) paths);
  are = cut_at paths i path lt item;
  units = us;
  loaded = are;
  unread = subst (λ (n : List ℕ). IsLoadFault s.files s.input s.folders n e) is_name why;
}
