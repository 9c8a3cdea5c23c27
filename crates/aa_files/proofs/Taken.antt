-- The first path at which something lies.
use Rattle.std.proofs.Common.{◌≡◌, ℕ, zero, suc, ◌<◌, Bool, cond, List, [], ◌∷◌, ◌++◌, length, take, get_or, Option, Some, None, is_some, option_map, Result, Ok, Err, IsSome, refl, sym, ap, subst, ◌∙◌, arith}
use Rattle.aa_files.specs.declared.tree.Found.{Found}
use Rattle.aa_base.specs.declared.unread.Unread.{Unread}
use Rattle.aa_base.specs.declared.unread.Unread.TheVariants.{NotFound}
use Rattle.aa_files.specs.Files.{Files, Lying, read_at, first_taken}
use Rattle.aa_files.specs.FilesData.{read, IsRead}
use Rattle.aa_files.specs.Walks.{LiesAt, NothingAt}

none_more : (f : Files) (ps : List (List ℕ)) (p : List ℕ) → f p ≡ None → first_taken f ps ≡ None → first_taken f (ps ++ p ∷ []) ≡ None
none_more f [] p e h = ap (λ (o : Option Lying). cond (is_some o) (Some p) None) e
none_more f (q ∷ ps) p e h = by (f q) h (λ g. none_more f ps p e g)
  where
    by : (o : Option Lying) → cond (is_some o) (Some q) (first_taken f ps) ≡ None → (first_taken f ps ≡ None → first_taken f (ps ++ p ∷ []) ≡ None) → cond (is_some o) (Some q) (first_taken f (ps ++ p ∷ [])) ≡ None
    by None g later = later g
    by (Some w) g later = cc

first_behind : (f : Files) (ps : List (List ℕ)) (i : ℕ) (p : List ℕ) → i < length ps → p ≡ get_or ps i p → IsSome (f p) → first_taken f (take i ps) ≡ None → first_taken f ps ≡ Some p
first_behind f [] i p lt at some none = absurd (omega arith)
first_behind f (q ∷ ps) zero p lt at some none =
    let here : IsSome (f q) = subst (λ (t : List ℕ). IsSome (f t)) at some in
    ap (λ (b : Bool). cond b (Some q) (first_taken f ps)) here ∙ ap (λ (t : List ℕ). Some t) (sym at)
first_behind f (q ∷ ps) (suc i) p lt at some none = let within : i < length ps = omega arith in by (f q) none (λ g. first_behind f ps i p within at some g)
  where
    by : (o : Option Lying) → cond (is_some o) (Some q) (first_taken f (take i ps)) ≡ None → (first_taken f (take i ps) ≡ None → first_taken f ps ≡ Some p) → cond (is_some o) (Some q) (first_taken f ps) ≡ Some p
    by None g later = later g
    by (Some w) g later = cc

pub nothing_more : (files : Option Files) (ps : List (List ℕ)) (p : List ℕ) (r : Result Found Unread) → r ≡ Err NotFound → IsRead files p r → NothingAt files ps → NothingAt files (ps ++ p ∷ [])
nothing_more None ps p r e h n = tt
nothing_more (Some f) ps p r e h n =
    let said : IsRead (Some f) p (Err NotFound) = subst (λ (w : Result Found Unread). IsRead (Some f) p w) e h in
    none_more f ps p (said refl) n

is_there : (o : Option Lying) (path : List ℕ) (w : List ℕ × Bool) → option_map (read_at path) o ≡ Some w → IsSome o
is_there None path w e = cc
is_there (Some l) path w e = refl

pub lies_first : (files : Option Files) (ps : List (List ℕ)) (i : ℕ) (p : List ℕ) (r : Result Found Unread) (w : Found) → r ≡ Ok w
    → IsRead files p r → i < length ps → p ≡ get_or ps i p → NothingAt files (take i ps) → LiesAt files ps p (read w)
lies_first None ps i p r w e h lt at n = record { searched = (i, lt, sym at); first = tt; is = tt }
lies_first (Some f) ps i p r w e h lt at n =
    let said : IsRead (Some f) p (Ok w) = subst (λ (v : Result Found Unread). IsRead (Some f) p v) e h in
    record { searched = (i, lt, sym at); first = first_behind f ps i p lt at (is_there (f p) p (read w) said) n; is = said }

pub nothing_among : (files : Option Files) → NothingAt files []
nothing_among None = tt
nothing_among (Some f) = refl
