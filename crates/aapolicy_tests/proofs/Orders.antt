-- The byte order of names lies in their texts alone.
use Rattle.std.proofs.Common.{◌≡◌, ℕ, ◌+◌, ◌<◌, Vec, List, length, get_or, sym, ap, ◌∙◌, arith}
use Rattle.std.specs.Ordering.{nat_cmp, is_lt}
use Rattle.std.specs.Cmp.Lexicographic.{slice_cmp}
use Rattle.std.specs.declared.alloc.Global.{Global}
use Rattle.std.proofs.lemmas.List.{get_or-map, length-map}
use Rattle.aa_files.specs.Orders.{AreInByteOrder}
use Rattle.aa_files.specs.Texts.{texts}

same_length : (xs ys : List (Vec ℕ Global)) → texts ys ≡ texts xs → length ys ≡ length xs
same_length xs ys e = sym (length-map ys (λ v. v.items)) ∙ ap (λ (ts : List (List ℕ)). length ts) e ∙ length-map xs (λ v. v.items)

same_text : (xs ys : List (Vec ℕ Global)) → texts ys ≡ texts xs → (k : ℕ) (d : Vec ℕ Global) → k < length ys → k < length xs → (get_or ys k d).items ≡ (get_or xs k d).items
same_text xs ys e k d h h' =
    sym (get_or-map (λ (v : Vec ℕ Global). v.items) ys k d d.items h) ∙ ap (λ (ts : List (List ℕ)). get_or ts k d.items) e ∙ get_or-map (λ (v : Vec ℕ Global). v.items) xs k d d.items h'

pub order_kept : (xs ys : List (Vec ℕ Global)) → texts ys ≡ texts xs → AreInByteOrder xs → AreInByteOrder ys
order_kept xs ys e up k d low h =
    let l : length ys ≡ length xs = same_length xs ys e in
    let a : k + 1 < length ys = h in
    let b : k < length ys = omega arith in
    let a' : k + 1 < length xs = omega arith in
    let b' : k < length xs = omega arith in
    let second : (get_or ys (k + 1) d).items ≡ (get_or xs (k + 1) d).items = same_text xs ys e (k + 1) d a a' in
    let first : (get_or ys k d).items ≡ (get_or xs k d).items = same_text xs ys e k d b b' in
    ap (λ (t : List ℕ). is_lt (slice_cmp nat_cmp t (get_or ys k d).items)) second ∙ ap (λ (t : List ℕ). is_lt (slice_cmp nat_cmp (get_or xs (k + 1) d).items t)) first ∙ up k d low a'
