-- Elements of lists, and what holds in any case.
use Rattle.std.proofs.Common.{◌≡◌, ℕ, zero, suc, ◌<◌, Bool, true, false, ◌||◌, true≢false, Vec, List, [], ◌∷◌, ◌++◌, length, get_or, map, flat_map, refl, Contains, sym, ap, ◌∙◌, arith}
use Rattle.std.specs.List.{list_any}
use Rattle.std.specs.Str.{bytes_eq}
use Rattle.std.specs.declared.alloc.Global.{Global}
use Rattle.std.proofs.lemmas.List.{get_or-map, length-map}
use Rattle.std.proofs.lemmas.Slice.Eq.{bytes_eq-Decides}
use Rattle.aa_files.specs.Texts.{texts}

pub contains_map : {X Y : Type 0} (f : X → Y) (xs : List X) (i : ℕ) (x : X) → i < length xs → x ≡ get_or xs i x → Contains (map f xs) (f x)
contains_map f xs i x h e =
    let within : i < length (map f xs) = omega (arith, length-map xs f) in
    (i, within, get_or-map f xs i x (f x) h ∙ ap f (sym e))

pub contains_path : (vs : List (Vec ℕ Global)) (p : List ℕ) → list_any (λ v. bytes_eq v.items p) vs ≡ true → Contains (texts vs) p
contains_path [] p e = absurd (true≢false (sym e))
contains_path (v ∷ vs) p e = by (bytes_eq v.items p) refl e (λ f. contains_path vs p f)
  where
    by : (b : Bool) → bytes_eq v.items p ≡ b → (b || list_any (λ w. bytes_eq w.items p) vs) ≡ true → (list_any (λ w. bytes_eq w.items p) vs ≡ true → Contains (texts vs) p) → Contains (texts (v ∷ vs)) p
    by true d f later = let lt : 0 < length (texts (v ∷ vs)) = omega arith in (0, lt, (bytes_eq-Decides v.items p).0 d)
    by false d f later =
        let g = later f in
        let lt : suc g.0 < length (texts (v ∷ vs)) = omega (arith, g.1) in
        (suc g.0, lt, g.2)

pub no_path : (vs : List (Vec ℕ Global)) (p : List ℕ) → list_any (λ v. bytes_eq v.items p) vs ≡ false → Contains (texts vs) p → ⊥
no_path [] p e (i, lt, at) = absurd (omega (arith, lt))
no_path (v ∷ vs) p e (i, lt, at) = by (bytes_eq v.items p) refl e i lt at (λ f h. no_path vs p f h)
  where
    by : (b : Bool) → bytes_eq v.items p ≡ b → (b || list_any (λ w. bytes_eq w.items p) vs) ≡ false → (i : ℕ) → i < length (texts (v ∷ vs)) → get_or (texts (v ∷ vs)) i p ≡ p
        → (list_any (λ w. bytes_eq w.items p) vs ≡ false → Contains (texts vs) p → ⊥) → ⊥
    by true d f i lt at later = true≢false f
    by false d f zero lt at later = true≢false (sym ((bytes_eq-Decides v.items p).1 at) ∙ d)
    by false d f (suc i) lt at later = let within : i < length (texts vs) = omega arith in later f (i, within, at)

pub flat_map_map : {X Y Z : Type 0} (f : Y → List Z) (g : X → Y) (xs : List X) → flat_map f (map g xs) ≡ flat_map (λ x. f (g x)) xs
flat_map_map f g [] = refl
flat_map_map f g (x ∷ xs) = ap (λ zs. f (g x) ++ zs) (flat_map_map f g xs)
