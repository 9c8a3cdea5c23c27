-- Rules say the same of the same files where their keys are one.
use Rattle.std.proofs.Common.{◌≡◌, ℕ, zero, suc, ◌+◌, ◌<◌, List, [], ◌∷◌, ◌++◌, length, take, get_or, Bool, true, false, cond, eqb, Option, Some, None, refl, sym, ap, ◌∙◌, arith}
use Rattle.std.specs.Prelude.{◌&&◌, ◌||◌, ◌==◌, not, position}
use Rattle.std.specs.List.{list_any, slice_get}
use Rattle.std.specs.Option.{option_or}
use Rattle.std.specs.Str.{bytes_eq}
use Rattle.std.proofs.lemmas.Bool.{ne_eqb, eq-eqb}
use Rattle.std.proofs.lemmas.Option.{slice_get_within}
use Rattle.std.proofs.Math.Path.{fun_ext}
use Rattle.aa_base.proofs.FirstNumbers.{position_more}
use Rattle.aa_findings.proofs.Placing.{eqs_alike}
use Rattle.aa_model.specs.declared.rule.Exec.{Exec}
use Rattle.aa_model.specs.declared.rule.FileRule.{FileRule}
use Rattle.aa_findings.specs.declared.rows.Row.{Row}
use Rattle.aa_findings.specs.Sameness.{same, kind_number, fallback_number, same_name, same_exec, says_alike}
use Rattle.aa_findings.specs.Files.{applies_at, repeats}
use Rattle.aa_findings.specs.Places.{places_from, places}
use Rattle.aa_findings.specs.Keys.{bit, name_key, exec_key, key_with, key_of}

and_assoc : (a b c : Bool) → ((a && b) && c) ≡ (a && (b && c))
and_assoc true b c = refl
and_assoc false b c = refl

bits_same : (a b : Bool) → (bit a == bit b) ≡ same a b
bits_same true true = refl
bits_same true false = refl
bits_same false true = refl
bits_same false false = refl

sucs : (a b : ℕ) → (suc a + 1 == suc b + 1) ≡ (a + 1 == b + 1)
sucs a b = eqs_alike (suc a + 1) (suc b + 1) (a + 1) (b + 1) (λ e. omega (arith, e)) (λ e. omega (arith, e))

-- names of one length in front of lists
parts_same : (a b ps qs : List ℕ) → ((length a + 1 == length b + 1) && bytes_eq (a ++ ps) (b ++ qs)) ≡ (bytes_eq a b && bytes_eq ps qs)
parts_same [] [] ps qs = refl
parts_same [] (y ∷ ys) ps qs = ap (λ b. b && bytes_eq ps (y ∷ (ys ++ qs))) (ne_eqb (0 + 1) (length (y ∷ ys) + 1) (λ e. absurd (omega (arith, e))))
parts_same (x ∷ xs) [] ps qs = ap (λ b. b && bytes_eq (x ∷ (xs ++ ps)) qs) (ne_eqb (length (x ∷ xs) + 1) (0 + 1) (λ e. absurd (omega (arith, e))))
parts_same (x ∷ xs) (y ∷ ys) ps qs =
    ap (λ b. b && (eqb x y && bytes_eq (xs ++ ps) (ys ++ qs))) (sucs (length xs) (length ys)) ∙ at (eqb x y) (parts_same xs ys ps qs)
  where
    at : (b : Bool) → ((length xs + 1 == length ys + 1) && bytes_eq (xs ++ ps) (ys ++ qs)) ≡ (bytes_eq xs ys && bytes_eq ps qs)
        → ((length xs + 1 == length ys + 1) && (b && bytes_eq (xs ++ ps) (ys ++ qs))) ≡ ((b && bytes_eq xs ys) && bytes_eq ps qs)
    at true e = e
    at false e = none (length xs + 1 == length ys + 1)
      where
        none : (b : Bool) → (b && false) ≡ false
        none true = refl
        none false = refl

names_same : (a b : Option (List ℕ)) (ps qs : List ℕ) → bytes_eq (name_key a ++ ps) (name_key b ++ qs) ≡ (same_name a b && bytes_eq ps qs)
names_same None None ps qs = refl
names_same None (Some b) ps qs = ap (λ c. c && bytes_eq ps (b ++ qs)) (ne_eqb 0 (length b + 1) (λ e. absurd (omega (arith, e))))
names_same (Some a) None ps qs = ap (λ c. c && bytes_eq (a ++ ps) qs) (ne_eqb (length a + 1) 0 (λ e. absurd (omega (arith, e))))
names_same (Some a) (Some b) ps qs = parts_same a b ps qs

execs_same : (a b : Option Exec) (ps qs : List ℕ) → bytes_eq (exec_key a ++ ps) (exec_key b ++ qs) ≡ (same_exec a b && bytes_eq ps qs)
execs_same None None ps qs = refl
execs_same None (Some b) ps qs = refl
execs_same (Some a) None ps qs = refl
execs_same (Some a) (Some b) ps qs =
    let k : Bool = kind_number a.kind == kind_number b.kind in
    let f : Bool = fallback_number a.fallback == fallback_number b.fallback in
    ap (λ x. k && (f && ((bit a.scrub == bit b.scrub) && x))) (names_same a.target b.target ps qs)
    ∙ ap (λ s. k && (f && (s && (same_name a.target b.target && bytes_eq ps qs)))) (bits_same a.scrub b.scrub)
    ∙ ap (λ x. k && (f && x)) (sym (and_assoc (same a.scrub b.scrub) (same_name a.target b.target) (bytes_eq ps qs)))
    ∙ ap (λ x. k && x) (sym (and_assoc f (same a.scrub b.scrub && same_name a.target b.target) (bytes_eq ps qs)))
    ∙ sym (and_assoc k (f && (same a.scrub b.scrub && same_name a.target b.target)) (bytes_eq ps qs))

keys_same : (q r : FileRule) (ps qs : List ℕ) → bytes_eq (key_with q ps) (key_with r qs) ≡ (says_alike q r && bytes_eq ps qs)
keys_same q r ps qs =
    let p : Bool = q.perms.0 == r.perms.0 in
    let x : Bool = same_exec q.exec r.exec in
    ap (λ e. (bit q.audit == bit r.audit) && ((bit q.deny == bit r.deny) && (p && e))) (execs_same q.exec r.exec ps qs)
    ∙ ap (λ s. s && ((bit q.deny == bit r.deny) && (p && (x && bytes_eq ps qs)))) (bits_same q.audit r.audit)
    ∙ ap (λ s. same q.audit r.audit && (s && (p && (x && bytes_eq ps qs)))) (bits_same q.deny r.deny)
    ∙ ap (λ e. same q.audit r.audit && (same q.deny r.deny && e)) (sym (and_assoc p x (bytes_eq ps qs)))
    ∙ ap (λ e. same q.audit r.audit && e) (sym (and_assoc (same q.deny r.deny) (p && x) (bytes_eq ps qs)))
    ∙ sym (and_assoc (same q.audit r.audit) (same q.deny r.deny && (p && x)) (bytes_eq ps qs))

-- a place that comes before all others is none of them
behind : {X : Type 0} (g : X → Bool) (k m : ℕ) (as' : List ℕ) (xs : List X) → k < m → (bytes_eq (k ∷ as') (places_from g m xs) ≡ false) × (bytes_eq (places_from g m xs) (k ∷ as') ≡ false)
behind g k m as' [] lt = (refl, refl)
behind g k m as' (x ∷ xs) lt = at (g x) (behind g k (suc m) as' xs (omega arith))
  where
    at : (b : Bool) → (bytes_eq (k ∷ as') (places_from g (suc m) xs) ≡ false) × (bytes_eq (places_from g (suc m) xs) (k ∷ as') ≡ false)
        → (bytes_eq (k ∷ as') (cond b (m ∷ places_from g (suc m) xs) (places_from g (suc m) xs)) ≡ false)
        × (bytes_eq (cond b (m ∷ places_from g (suc m) xs) (places_from g (suc m) xs)) (k ∷ as') ≡ false)
    at true e = (
      ap (λ c. c && bytes_eq as' (places_from g (suc m) xs)) (ne_eqb k m (λ s. absurd (omega (arith, s, lt)))),
      ap (λ c. c && bytes_eq (places_from g (suc m) xs) as') (ne_eqb m k (λ s. absurd (omega (arith, s, lt)))),
    )
    at false e = e

-- the places are the same where no element tells the tests apart
places_same : {X : Type 0} (f g : X → Bool) (k : ℕ) (xs : List X) → bytes_eq (places_from f k xs) (places_from g k xs) ≡ not (list_any (λ x. not (same (f x) (g x))) xs)
places_same f g k [] = refl
places_same f g k (x ∷ xs) = at (f x) (g x) (places_same f g (suc k) xs)
  where
    fs : List ℕ
    fs = places_from f (suc k) xs

    gs : List ℕ
    gs = places_from g (suc k) xs

    none : Bool
    none = list_any (λ x. not (same (f x) (g x))) xs

    at : (a b : Bool) → bytes_eq fs gs ≡ not none → bytes_eq (cond a (k ∷ fs) fs) (cond b (k ∷ gs) gs) ≡ not (not (same a b) || none)
    at true true e = ap (λ c. c && bytes_eq fs gs) (eq-eqb k k refl) ∙ e
    at true false e = (behind g k (suc k) fs xs (omega arith)).0
    at false true e = (behind f k (suc k) gs xs (omega arith)).1
    at false false e = e

pub keys_tell : (rows : List Row) (q r : FileRule) → bytes_eq (key_of rows q) (key_of rows r) ≡ repeats rows q r
keys_tell rows q r = keys_same q r (places (applies_at q) rows) (places (applies_at r) rows) ∙ ap (λ b. says_alike q r && b) (places_same (applies_at q) (applies_at r) 0 rows)

-- the first rule with a rule's key is the first that says the same
pub first_same : (rows : List Row) (r : FileRule) (rules : List FileRule) → position (λ q. bytes_eq (key_of rows r) (key_of rows q)) rules ≡ position (repeats rows r) rules
first_same rows r rules = ap (λ t. position t rules) (fun_ext (λ q. keys_tell rows r q))

-- one rule more
pub firsts_more : (rows : List Row) (rules : List FileRule) (n : ℕ) (r : FileRule) (key : List ℕ) → slice_get rules n ≡ Some r
    → option_or (position (λ q. bytes_eq key (key_of rows q)) (take n rules)) (cond (bytes_eq key (key_of rows r)) (Some n) None) ≡ position (λ q. bytes_eq key (key_of rows q)) (take (n + 1) rules)
firsts_more rows rules n r key e = sym (position_more (λ q. bytes_eq key (key_of rows q)) rules n r (slice_get_within rules n r e) (got rules n r e))
  where
    got : {X : Type 0} (xs : List X) (i : ℕ) (x : X) → slice_get xs i ≡ Some x → x ≡ get_or xs i x
    got [] i x e = absurd (cc e)
    got (y ∷ ys) zero x e = cc e
    got (y ∷ ys) (suc i) x e = got ys i x e
