-- Numbers that are sorted by keys.
use Rattle.std.proofs.Common.{◌≡◌, ◌∙◌, ℕ, zero, suc, ◌+◌, ◌<◌, List, [], ◌∷◌, ◌++◌, length, take, get_or, Bool, sym, ap, subst, arith}
use Rattle.std.specs.Prelude.{option_to_list, slice_get}
use Rattle.std.specs.List.{range_with_len}
use Rattle.std.proofs.lemmas.List.{flat_map_more, take_more}
use Rattle.std.specs.declared.cmp.Ordering.{Ordering}
use Rattle.std.specs.Cmp.{IsStrictWeakOrder}
use Rattle.std.specs.Cmp.Lexicographic.{slice_cmp}
use Rattle.std.specs.Fn.{Called, ComparesAs}
use Rattle.std.specs.List.Sorted.{IsPermutation, IsSortedBy, IsStableBy}
use Rattle.std.specs.Ordering.{is_lt, nat_cmp}
use Rattle.std.proofs.lemmas.Cmp.{nat_list_cmp_total}
use Rattle.std.proofs.lemmas.Fn.{always_returns_same}
use Rattle.std.proofs.lemmas.List.Sorted.{ranks_by}
use denote.Param.Members.{Mut}
use denote.Ref.{Bor}
use Rattle.aa_log.specs.Orders.{up_to, key_at, items_at, IsOrder}

-- what a stable sort by keys makes of the numbers in order
pub sorted_by : {F : Type 0} {g : Mut F (Bor ℕ × (Bor ℕ × Unit {0})) Ordering} {f : F} (keys : List (List ℕ)) (old new : List ℕ) → old ≡ up_to (length keys) → IsPermutation old new
    → ((lt : ℕ → ℕ → Bool) → IsStrictWeakOrder lt → ComparesAs g lt f → IsSortedBy lt new)
    → ((lt : ℕ → ℕ → Bool) → IsStrictWeakOrder lt → ComparesAs g lt f → IsStableBy lt old new)
    → ((a : Bor ℕ × (Bor ℕ × Unit {0})) (r : Ordering) (f' : F) → Called g f a r f' → (r ≡ slice_cmp nat_cmp (key_at keys a.0.now) (key_at keys a.1.0.now)) × (f' ≡ f))
    → IsOrder keys new
sorted_by {g = g} {f = f} keys old new whole same up stable called =
    let lt : ℕ → ℕ → Bool = λ a b. is_lt (slice_cmp nat_cmp (key_at keys a) (key_at keys b)) in
    let weak : IsStrictWeakOrder lt = ranks_by nat_list_cmp_total (key_at keys) in
    let compares : ComparesAs g lt f = always_returns_same g (λ a r. is_lt r ≡ lt a.0.now a.1.0.now) f (λ a r f' k. (ap is_lt (called a r f' k).0, (called a r f' k).1)) in
    record {
      same = subst (λ (l : List ℕ). IsPermutation l new) whole same;
      sorted = up lt weak compares;
      stable = subst (λ (l : List ℕ). IsStableBy lt l new) whole (stable lt weak compares);
    }

-- the numbers in order, once there is one more
pub range_more : (a n : ℕ) → range_with_len a (n + 1) ≡ range_with_len a n ++ (a + n) ∷ []
range_more a zero = ap (λ (m : ℕ). m ∷ []) (let same : a ≡ a + 0 = omega arith in same)
range_more a (suc n) =
    let e : suc n + 1 ≡ suc (n + 1) = omega arith in
    let f : (a + 1) + n ≡ a + suc n = omega arith in
    ap (range_with_len a) e ∙ ap (λ (l : List ℕ). a ∷ l) (range_more (a + 1) n) ∙ ap (λ (m : ℕ). (a ∷ range_with_len (a + 1) n) ++ m ∷ []) f

pub up_to_more : (n : ℕ) → range_with_len 0 (n + 1) ≡ range_with_len 0 n ++ n ∷ []
up_to_more n = range_more 0 n ∙ ap (λ (m : ℕ). range_with_len 0 n ++ m ∷ []) (let same : 0 + n ≡ n = omega arith in same)

-- the items of numbers, once there is one more
pub items_more : {X : Type 0} (xs found one : List X) (numbers : List ℕ) (i : ℕ) → i < length numbers → found ≡ items_at xs (take i numbers)
    → one ≡ option_to_list (slice_get xs (get_or numbers i 0)) → found ++ one ≡ items_at xs (take (i + 1) numbers)
items_more xs found one numbers i lt so_far is =
    ap (λ l. l ++ one) so_far ∙ ap (λ l. items_at xs (take i numbers) ++ l) is
    ∙ flat_map_more (λ (n : ℕ). option_to_list (slice_get xs n)) [] (take i numbers) (get_or numbers i 0)
    ∙ ap (items_at xs) (sym (take_more numbers i 0 lt))
