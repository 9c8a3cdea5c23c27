-- The files of a command line, one after the other.
use Rattle.std.proofs.Common.{◌≡◌, ℕ, zero, suc, ◌<◌, Bool, true, cond, List, [], ◌∷◌, ◌++◌, length, take, get_or, flat_map, Contains}
use Rattle.std.proofs.Common.{Vec, Option, Some, None, IfSome, inr, refl, sym, ap, ◌∙◌, arith, append_assoc, append-nil}
use Rattle.std.specs.List.{slice_get}
use Rattle.aa_files.specs.Searches.{path_in}
use Rattle.aa_files.specs.declared.unit.UnitFault.{UnitFault}
use Rattle.aa_files.specs.declared.unit.UnitFault.TheVariants.{NoMemory, At, Ambiguous}
use Rattle.std.specs.declared.alloc.Global.{Global}
use Rattle.std.proofs.lemmas.List.{length-map, get_or-map, take-map}
use Rattle.aa_files.specs.Texts.{texts}
use Rattle.aa_files.specs.Files.{Files, Taken, Lying, listed}
use Rattle.aa_files.specs.Files.Lying.{Folder}
use Rattle.aa_files.specs.Roots.{is_wanted, wanted_path, folder_of, paths_among, root_paths}
use Rattle.aa_files.specs.RootFaults.{IsFaultOf, looked_paths, IsNameAmong, IsLookedFor, IsBeyondWith, IsArgumentFault, IsRootLook, IsBeyond, IsRootFault}
use Rattle.aa_files.specs.RootFaults.IsSaidOf.{Failed, TooMany}

-- what is added where that is so, where it is told whether it is
pub added_if : (taken : Option Taken) (p : Taken → Bool) (b : Bool) (xs zs ys : List (List ℕ)) → zs ≡ xs ++ cond b ys [] → IfSome taken (λ t. b ≡ p t) → IfSome taken (λ t. zs ≡ xs ++ cond (p t) ys [])
added_if None p b xs zs ys h e = tt
added_if (Some t) p b xs zs ys h e = h ∙ ap (λ (a : Bool). xs ++ cond a ys []) e

-- a fault that is handed on, of whatever stands where
pub faults_weaker : (looked beyond looked' beyond' : List ℕ → Type 0) → ((p : List ℕ) → looked p → looked' p)
    → ((p : List ℕ) → beyond p → beyond' p) → (e : UnitFault) → IsFaultOf looked beyond e → IsFaultOf looked' beyond' e
faults_weaker looked beyond looked' beyond' f g NoMemory h = tt
faults_weaker looked beyond looked' beyond' f g (At path why) (Failed l) = Failed (f path.items l)
faults_weaker looked beyond looked' beyond' f g (At path why) (TooMany is b) = TooMany is (g path.items b)
faults_weaker looked beyond looked' beyond' f g (Ambiguous report) h = absurd h

get_first : (xs ys : List (List ℕ)) (y : List ℕ) (n : ℕ) → length xs ≡ n → slice_get (xs ++ y ∷ ys) n ≡ Some y
get_first [] ys y zero e = refl
get_first [] ys y (suc n) e = absurd (omega (arith, e))
get_first (x ∷ xs) ys y zero e = absurd (omega (arith, e))
get_first (x ∷ xs) ys y (suc n) e = let f : length xs ≡ n = omega (arith, e) in get_first xs ys y n f

get_front : (xs ys : List (List ℕ)) (y : List ℕ) (n : ℕ) → slice_get xs n ≡ Some y → slice_get (xs ++ ys) n ≡ Some y
get_front [] ys y n e = cc
get_front (x ∷ xs) ys y zero e = e
get_front (x ∷ xs) ys y (suc n) e = get_front xs ys y n e

-- what is found behind what some stand for is found behind what all stand for
pub found_among : (w : List ℕ → List (List ℕ)) (before names : List (List ℕ)) (i n : ℕ) (name q : List ℕ) → i < length names → get_or names i name ≡ name
    → slice_get ((before ++ flat_map w (take i names)) ++ w name) n ≡ Some q → slice_get (before ++ flat_map w names) n ≡ Some q
found_among w before [] i n name q h e at = absurd (omega (arith, h))
found_among w before (x ∷ xs) zero n name q h e at =
    let front : slice_get (before ++ w x) n ≡ Some q = ap (λ (l : List (List ℕ)). slice_get l n) (ap (λ (a : List ℕ). before ++ w a) e ∙ ap (λ (l : List (List ℕ)). l ++ w name) (sym (append-nil before))) ∙ at in
    ap (λ (l : List (List ℕ)). slice_get l n) (sym (append_assoc before (w x) (flat_map w xs))) ∙ get_front (before ++ w x) (flat_map w xs) q n front
found_among w before (x ∷ xs) (suc i) n name q h e at =
    let within : i < length xs = omega (arith, h) in
    let moved : slice_get (((before ++ w x) ++ flat_map w (take i xs)) ++ w name) n ≡ Some q = ap (λ (l : List (List ℕ)). slice_get (l ++ w name) n) (append_assoc before (w x) (flat_map w (take i xs))) ∙ at in
    ap (λ (l : List (List ℕ)). slice_get l n) (sym (append_assoc before (w x) (flat_map w xs))) ∙ found_among w (before ++ w x) xs i n name q within e moved

-- a file that is one too many is the first beyond those before
pub first_beyond : (taken : Option Taken) (base folder name path : List ℕ) (before : List (List ℕ)) → length before ≡ 4096 → path ≡ path_in folder name → IfSome taken (λ t. is_wanted t base name ≡ true)
    → IfSome taken (λ t. slice_get (before ++ wanted_path t base folder name) 4096 ≡ Some path)
first_beyond None base folder name path before count is wanted = tt
first_beyond (Some t) base folder name path before count is wanted =
    ap (λ (b : Bool). slice_get (before ++ cond b (path_in folder name ∷ []) []) 4096) wanted ∙ get_first before [] (path_in folder name) 4096 count ∙ ap (λ (p : List ℕ). Some p) (sym is)

pub told_true : (taken : Option Taken) (p : Taken → Bool) (b : Bool) → IfSome taken (λ t. b ≡ p t) → b ≡ true → IfSome taken (λ t. p t ≡ true)
told_true None p b h e = tt
told_true (Some t) p b h e = sym h ∙ e

at_text : (vs : List (Vec ℕ Global)) (i : ℕ) (v : Vec ℕ Global) → i < length vs → get_or vs i v ≡ v → (i < length (texts vs)) × (get_or (texts vs) i v.items ≡ v.items)
at_text vs i v h e =
    let within : i < length (texts vs) = omega (arith, length-map vs (λ (w : Vec ℕ Global). w.items)) in
    (within, get_or-map (λ (w : Vec ℕ Global). w.items) vs i v v.items h ∙ ap (λ (w : Vec ℕ Global). w.items) e)

-- a fault of one of a folder's files is one of the folder
module _ (files : Option Files) (taken : Option Taken) (base folder : List ℕ) (before now : List (List ℕ)) (vs : List (Vec ℕ Global)) (i : ℕ) (v : Vec ℕ Global) (h : i < length vs) (at : get_or vs i v ≡ v) where
  name_in_folder : (o : Option Files) → IfSome o (λ f. f folder ≡ Some (Folder (texts vs))) → IfSome o (λ f. IsNameAmong v.items (listed (f folder)))
  name_in_folder None e = tt
  name_in_folder (Some f) e = let w = at_text vs i v h at in (texts vs, ap (λ (l : Option Lying). listed l) e, (i, w.0, w.1))

  beyond_in_folder : (o : Option Files) (t : Option Taken) (q : List ℕ) → IfSome o (λ f. f folder ≡ Some (Folder (texts vs))) → IfSome t (λ t. now ≡ before ++ flat_map (wanted_path t base folder) (texts (take i vs)))
      → IfSome t (λ t. slice_get (now ++ wanted_path t base folder v.items) 4096 ≡ Some q) → IsBeyondWith o t (λ f. listed (f folder)) base folder before q
  beyond_in_folder None t q e is found = tt
  beyond_in_folder (Some f) None q e is found = tt
  beyond_in_folder (Some f) (Some t) q e is found =
      let w = at_text vs i v h at in
      let were : now ≡ before ++ flat_map (wanted_path t base folder) (take i (texts vs)) = is ∙ ap (λ (l : List (List ℕ)). before ++ flat_map (wanted_path t base folder) l) (sym (take-map (λ (u : Vec ℕ Global). u.items) i vs)) in
      let there : slice_get ((before ++ flat_map (wanted_path t base folder) (take i (texts vs))) ++ wanted_path t base folder v.items) 4096 ≡ Some q = ap
      (λ (l : List (List ℕ)). slice_get (l ++ wanted_path t base folder v.items) 4096) (sym were) ∙ found in
      ap (λ (l : Option (List (List ℕ))). slice_get (before ++ paths_among t base folder l) 4096) (ap (λ (l : Option Lying). listed l) e) ∙ found_among (wanted_path t base folder) before (texts vs) i 4096 v.items q w.0 w.1 there

  pub folder_fault : IfSome files (λ f. f folder ≡ Some (Folder (texts vs))) → IfSome taken (λ t. now ≡ before ++ flat_map (wanted_path t base folder) (texts (take i vs)))
      → (e : UnitFault) → IsFaultOf (Contains (looked_paths base v.items)) (λ q. IfSome taken (λ t. slice_get (now ++ wanted_path t base folder v.items) 4096 ≡ Some q)) e
      → IsFaultOf (IsLookedFor files (λ f. listed (f folder)) base folder) (IsBeyondWith files taken (λ f. listed (f folder)) base folder before) e
  folder_fault lies is =
      faults_weaker (Contains (looked_paths base v.items)) (λ q. IfSome taken (λ t. slice_get (now ++ wanted_path t base folder v.items) 4096 ≡ Some q))
      (IsLookedFor files (λ f. listed (f folder)) base folder) (IsBeyondWith files taken (λ f. listed (f folder)) base folder before)
      (λ q g. inr (v.items, name_in_folder files lies, g)) (λ q g. beyond_in_folder files taken q lies is g)

-- a fault of one of the arguments is one of all
module _ (files : Option Files) (taken : Option Taken) (base : List ℕ) (now : List (List ℕ)) (vs : List (Vec ℕ Global)) (i : ℕ) (v : Vec ℕ Global) (h : i < length vs) (at : get_or vs i v ≡ v) where
  beyond_all : (o : Option Files) (t : Option Taken) (q : List ℕ) → IfSome o (λ f. IfSome t (λ t. now ≡ root_paths f t base (texts (take i vs))))
      → IsBeyondWith o t (λ f. folder_of f v.items) base v.items now q → IsBeyond o t base (texts vs) q
  beyond_all None t q is found = tt
  beyond_all (Some f) None q is found = tt
  beyond_all (Some f) (Some t) q is found =
      let w = at_text vs i v h at in
      let were : now ≡ root_paths f t base (take i (texts vs)) = is ∙ ap (λ (l : List (List ℕ)). root_paths f t base l) (sym (take-map (λ (u : Vec ℕ Global). u.items) i vs)) in
      let there : slice_get (root_paths f t base (take i (texts vs)) ++ paths_among t base v.items (folder_of f v.items)) 4096 ≡ Some q = ap
      (λ (l : List (List ℕ)). slice_get (l ++ paths_among t base v.items (folder_of f v.items)) 4096) (sym were) ∙ found in
      found_among (λ argument. paths_among t base argument (folder_of f argument)) [] (texts vs) i 4096 v.items q w.0 w.1 there

  pub root_fault : IfSome files (λ f. IfSome taken (λ t. now ≡ root_paths f t base (texts (take i vs)))) → (e : UnitFault)
      → IsArgumentFault files taken (λ a f. folder_of f a) base v.items now e → IsRootFault files taken base (texts vs) e
  root_fault is =
      let w = at_text vs i v h at in
      faults_weaker (IsLookedFor files (λ f. folder_of f v.items) base v.items) (IsBeyondWith files taken (λ f. folder_of f v.items) base v.items now) (IsRootLook files base (texts vs)) (IsBeyond files taken base (texts vs))
      (λ q g. (v.items, (i, w.0, w.1), g)) (λ q g. beyond_all files taken q is g)
