-- A part stands behind the place at which it occurs first.
use Rattle.std.proofs.Common.{◌≡◌, ℕ, zero, suc, ◌+◌, ◌<◌, Bool, true, false, List, [], ◌∷◌, ◌++◌, length, take, drop, cond, refl, sym, ◌∙◌, ap, arith, Some, None}
use Rattle.std.specs.Prelude.{nat_eq, slice_index}
use Rattle.std.specs.List.{starts_with}
use Rattle.std.proofs.lemmas.Bool.Decides.{Decides-eqb}
use Rattle.std.proofs.lemmas.List.{take_at, length-append}
use Rattle.std.proofs.lemmas.Slice.Eq.{starts_is}
use Rattle.memchr.specs.Find.{OccursAt}
use Rattle.memchr.proofs.lemmas.MatchLemmas.{OccursAt-split, OccursAt-from_part}
use Rattle.aa_messages.specs.Parts.{behind_part}

-- a part occurs first of all exactly where a text begins so
begins : (part text : List ℕ) → OccursAt text part 0 → starts_with nat_eq text part ≡ true
begins part text occurs = (starts_is Decides-eqb text part (starts_with nat_eq text part) refl).1 _ (OccursAt-split text part 0 occurs)

begins_not : (part text : List ℕ) (t : Bool) → t ≡ starts_with nat_eq text part → ¬ OccursAt text part 0 → t ≡ false
begins_not part text false is nowhere = refl
begins_not part text true is nowhere =
    let split : text ≡ part ++ drop (length part) text = (starts_is Decides-eqb text part true is).0 refl in
    absurd (nowhere (OccursAt-from_part text part 0 (omega (arith, ap length split, length-append part (drop (length part) text))) (ap (take (length part)) split ∙ take_at part _ (length part) refl)))

-- a part occurs behind the first byte where it occurs in the rest
beyond : (b : ℕ) (bs : List ℕ) (k j : ℕ) → slice_index (b ∷ bs) (suc k + j) ≡ slice_index bs (k + j)
beyond b bs k j = let e : suc k + j ≡ suc (k + j) = omega arith in ap (slice_index (b ∷ bs)) e

onward : (part : List ℕ) (b : ℕ) (bs : List ℕ) (k : ℕ) → OccursAt bs part k → OccursAt (b ∷ bs) part (suc k)
onward part b bs k occurs = record { fits = omega (arith, occurs.fits); reads = λ j lt. beyond b bs k j ∙ occurs.reads j lt }

backward : (part : List ℕ) (b : ℕ) (bs : List ℕ) (k : ℕ) → OccursAt (b ∷ bs) part (suc k) → OccursAt bs part k
backward part b bs k occurs = record { fits = omega (arith, occurs.fits); reads = λ j lt. sym (beyond b bs k j) ∙ occurs.reads j lt }

pub nowhere : (part text : List ℕ) → ((k : ℕ) → ¬ OccursAt text part k) → behind_part part text ≡ None
unfolding behind_part
nowhere part [] fails = refl
nowhere part (b ∷ bs) fails =
    ap (λ (t : Bool). cond t (Some (drop (length part) (b ∷ bs))) (behind_part part bs)) (begins_not part (b ∷ bs) _ refl (fails 0))
    ∙ nowhere part bs (λ k occurs. fails (suc k) (onward part b bs k occurs))

pub behind : (part text : List ℕ) (k : ℕ) → 0 < length part → OccursAt text part k → ((m : ℕ) → m < k → ¬ OccursAt text part m)
    → behind_part part text ≡ Some (drop (k + length part) text)
unfolding behind_part
behind part [] k some occurs first = absurd (omega (arith, occurs.fits))
behind part (b ∷ bs) zero some occurs first =
    let e : length part ≡ 0 + length part = omega arith in
    ap (λ (t : Bool). cond t (Some (drop (length part) (b ∷ bs))) (behind_part part bs)) (begins part (b ∷ bs) occurs)
    ∙ ap (λ (n : ℕ). Some (drop n (b ∷ bs))) e
behind part (b ∷ bs) (suc k) some occurs first =
    let e : suc (k + length part) ≡ suc k + length part = omega arith in
    ap (λ (t : Bool). cond t (Some (drop (length part) (b ∷ bs))) (behind_part part bs)) (begins_not part (b ∷ bs) _ refl (first 0 (omega arith)))
    ∙ (behind part bs k some (backward part b bs k occurs) (λ m lt here. first (suc m) (omega (arith, lt)) (onward part b bs m here))
    ∙ ap (λ (n : ℕ). Some (drop n (b ∷ bs))) e)
