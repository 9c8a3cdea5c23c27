-- How many attachment patterns joined profiles have.
use Rattle.std.proofs.Common.{◌≡◌, ℕ, suc, ◌+◌, ◌-◌, ◌<◌, ◌≤◌, Bool, cond, List, [], ◌∷◌, ◌++◌, map, length, Option, Some, None, option_map, refl, sym, ap, ◌∙◌, arith, ⊎_elim}
use Rattle.std.specs.Prelude.{if◌then◌else◌}
use Rattle.std.specs.List.{sum_by, slice_get}
use Rattle.std.specs.Option.{option_eq}
use Rattle.std.specs.Bool.{nat_eq}
use Rattle.std.proofs.lemmas.Bool.{cases_lt, ne_eqb, eq-eqb}
use Rattle.std.proofs.lemmas.Option.{slice_get_within}
use Rattle.std.proofs.lemmas.List.Sums.{sum_by-cons, sum_by-append}
use Rattle.aa_model.specs.declared.policy.Profile.{Profile}
use Rattle.aa_model.specs.Lawful.{attachments_with, attachment_patterns, ParentsComeFirst}
use Rattle.aa_load.specs.Joined.{moved}

-- ---- sums

sum_map : {X : Type 0} (f h : X → ℕ) (g : X → X) → ((x : X) → f (g x) ≡ h x) → (xs : List X) → sum_by f (map g xs) ≡ sum_by h xs
sum_map f h g same [] = refl
sum_map f h g same (x ∷ xs) =
    let here = same x in
    let rest = sum_map f h g same xs in
    let one = sum_by-cons f (g x) (map g xs) in
    let other = sum_by-cons h x xs in
    omega (arith, here, rest, one, other)

sum_zero : {X : Type 0} (f : X → ℕ) (xs : List X) → ((k : ℕ) (x : X) → slice_get xs k ≡ Some x → f x ≡ 0) → sum_by f xs ≡ 0
sum_zero f [] h = refl
sum_zero f (x ∷ xs) h =
    let here = h 0 x refl in
    let rest = sum_zero f xs (λ k y e. h (suc k) y e) in
    let one = sum_by-cons f x xs in
    omega (arith, here, rest, one)

sum_none : {X : Type 0} (f : X → ℕ) (g : X → X) → ((x : X) → f (g x) ≡ 0) → (xs : List X) → sum_by f (map g xs) ≡ 0
sum_none f g none [] = refl
sum_none f g none (x ∷ xs) =
    let here = none x in
    let rest = sum_none f g none xs in
    let one = sum_by-cons f (g x) (map g xs) in
    omega (arith, here, rest, one)

-- ---- one profile

-- a profile with another parent has none of a parent's
other_parent : (o : Option ℕ) (n m : ℕ) → (o ≡ Some n → ⊥) → (if option_eq nat_eq o (Some n) then m else 0) ≡ 0
other_parent None n m h = refl
other_parent (Some k) n m h = ap (λ (b : Bool). cond b m 0) (ne_eqb k n (λ e. h (ap (λ (i : ℕ). Some i) e)))

same_top : (before : ℕ) (o : Option ℕ) (m : ℕ) → (if option_eq nat_eq (option_map (λ n. n + before) o) None then m else 0) ≡ (if option_eq nat_eq o None then m else 0)
same_top before None m = refl
same_top before (Some k) m = refl

same_number : (before k n : ℕ) → nat_eq (k + before) (n + before) ≡ nat_eq k n
same_number before k n = ⊎_elim
    (λ (lt : k < n). ne_eqb (k + before) (n + before) (λ e. absurd (omega arith)) ∙ sym (ne_eqb k n (λ e. absurd (omega arith))))
    (λ (le : n ≤ k). ⊎_elim
    (λ (lt : n < k). ne_eqb (k + before) (n + before) (λ e. absurd (omega arith)) ∙ sym (ne_eqb k n (λ e. absurd (omega arith))))
    (λ (ge : k ≤ n). eq-eqb (k + before) (n + before) (omega arith) ∙ sym (eq-eqb k n (omega arith)))
    (cases_lt n k))
    (cases_lt k n)

same_child : (before n : ℕ) (o : Option ℕ) (m : ℕ)
    → (if option_eq nat_eq (option_map (λ i. i + before) o) (Some (n + before)) then m else 0) ≡ (if option_eq nat_eq o (Some n) then m else 0)
same_child before n None m = refl
same_child before n (Some k) m = ap (λ (b : Bool). cond b m 0) (same_number before k n)

no_child : (before n : ℕ) → n < before → (o : Option ℕ) → option_map (λ i. i + before) o ≡ Some n → ⊥
no_child before n lt None e = absurd cc
no_child before n lt (Some k) e = let h : k + before ≡ n = cc in absurd (omega arith)

-- ---- joined profiles

pub tops_joined : (xs ys : List Profile) → attachment_patterns None (xs ++ map (moved (length xs)) ys) ≡ attachment_patterns None xs + attachment_patterns None ys
tops_joined xs ys =
    let moved_sum = sum_map (attachments_with None) (attachments_with None) (moved (length xs)) (λ p. same_top (length xs) p.parent (length p.attachments)) ys in
    sum_by-append (attachments_with None) xs (map (moved (length xs)) ys) ∙ ap (λ (n : ℕ). attachment_patterns None xs + n) moved_sum

-- a profile's number is one of those before its parent's children's
parents_within : (xs : List Profile) → ParentsComeFirst xs → (n : ℕ) → length xs ≤ n → attachment_patterns (Some n) xs ≡ 0
parents_within xs first n le =
    sum_zero (attachments_with (Some n)) xs (λ k p e. other_parent p.parent n (length p.attachments) (λ is.
    let lt : n < k = (first k n p e is).0 in let within = slice_get_within xs k p e in absurd (omega (arith, lt, within))))

pub few_joined : (xs ys : List Profile) → ParentsComeFirst xs → ((o : Option ℕ) → attachment_patterns o xs ≤ 65535) → ((o : Option ℕ) → attachment_patterns o ys ≤ 65535)
    → attachment_patterns None (xs ++ map (moved (length xs)) ys) ≤ 65535 → (o : Option ℕ) → attachment_patterns o (xs ++ map (moved (length xs)) ys) ≤ 65535
few_joined xs ys first a b tops None = tops
few_joined xs ys first a b tops (Some n) = ⊎_elim
    (λ (lt : n < length xs).
    let none = sum_none (attachments_with (Some n)) (moved (length xs)) (λ p. other_parent (moved (length xs) p).parent n (length p.attachments) (no_child (length xs) n lt p.parent)) ys in
    let most = a (Some n) in
    omega (arith, whole, none, most))
    (λ (le : length xs ≤ n).
    let j = n - length xs in
    let is : j + length xs ≡ n = omega arith in
    let theirs : attachment_patterns (Some n) (map (moved (length xs)) ys) ≡ attachment_patterns (Some j) ys =
    ap (λ (m : ℕ). attachment_patterns (Some m) (map (moved (length xs)) ys)) (sym is)
    ∙ sum_map (attachments_with (Some (j + length xs))) (attachments_with (Some j)) (moved (length xs)) (λ p. same_child (length xs) j p.parent (length p.attachments)) ys in
    let none = parents_within xs first n le in
    let most = b (Some j) in
    omega (arith, whole, theirs, none, most))
    (cases_lt n (length xs))
  where
    whole : attachment_patterns (Some n) (xs ++ map (moved (length xs)) ys) ≡ attachment_patterns (Some n) xs + attachment_patterns (Some n) (map (moved (length xs)) ys)
    whole = sum_by-append (attachments_with (Some n)) xs (map (moved (length xs)) ys)
