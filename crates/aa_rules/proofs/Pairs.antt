-- Bytes that stand side by side in a text.
use Rattle.std.proofs.Common.{◌≡◌, ℕ, ◌+◌, ◌-◌, ◌<◌, ◌≤◌, List, length, take, drop, get_or, Bool, true, false, sym, ap, ◌∙◌}
use Rattle.std.specs.Prelude.{◌==◌, ◌&&◌, ◌||◌}
use Rattle.std.specs.Bool.{nat_eq}
use Rattle.std.specs.List.{starts_with}
use Rattle.std.proofs.lemmas.List.{at_drop_more, at_drop_all, drop_more, take_rest}
use Rattle.aa_rules.specs.Names.{begins_with, holds_pair, holds}

pub pair_step : (a b : ℕ) (s : List ℕ) (i : ℕ) → i < length s
    → holds_pair a b (drop i s) ≡ ((get_or s i 0 == a && begins_with b (take (length s - (i + 1)) (drop (i + 1) s))) || holds_pair a b (drop (i + 1) s))
unfolding holds_pair
pair_step a b s i h = rw take_rest (at_drop_more (holds_pair a b) s i 0 h)

pub pair_found : (whole here there b : Bool) → here ≡ (b || there) → b ≡ true → whole ≡ here → true ≡ whole
pair_found whole here there true e t w = sym (w ∙ e)
pair_found whole here there false e t w = absurd cc

pub pair_passed : (whole here there b : Bool) → here ≡ (b || there) → b ≡ false → whole ≡ here → whole ≡ there
pair_passed whole here there true e t w = absurd cc
pair_passed whole here there false e t w = w ∙ e

pub pair_none : (a b : ℕ) (s : List ℕ) (i : ℕ) → length s ≤ i → holds_pair a b s ≡ holds_pair a b (drop i s) → false ≡ holds_pair a b s
unfolding holds_pair
pair_none a b s i h w = sym (w ∙ at_drop_all (holds_pair a b) s i h)

pub part_step : (part s : List ℕ) (i : ℕ) → i < length s → holds part (drop i s) ≡ (starts_with nat_eq (take (length s - i) (drop i s)) part || holds part (drop (i + 1) s))
unfolding holds
part_step part s i h = rw take_rest (at_drop_more (holds part) s i 0 h ∙ ap (λ (x : List ℕ). starts_with nat_eq x part || holds part (drop (i + 1) s)) (sym (drop_more s i 0 h)))

pub part_none : (part s : List ℕ) (i : ℕ) → length s ≤ i → holds part s ≡ holds part (drop i s) → false ≡ holds part s
unfolding holds
part_none part s i h w = sym (w ∙ at_drop_all (holds part) s i h)
