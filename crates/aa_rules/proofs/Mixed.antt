-- Exec parts of mixed case that stand in a mode.
use Rattle.std.proofs.Common.{◌≡◌, ℕ, ◌+◌, ◌-◌, ◌<◌, ◌≤◌, List, length, take, drop, get_or, Bool, false, sym, ap, ◌∙◌}
use Rattle.std.specs.Prelude.{◌&&◌, ◌||◌}
use Rattle.std.proofs.lemmas.List.{at_drop_more, at_drop_all, drop_more, take_rest}
use Rattle.aa_rules.specs.Modes.{begins_mixed, frees_part, is_mixed, holds_mixed}

pub mixed_step : (may_begin : Bool) (s : List ℕ) (i : ℕ) → i < length s
    → holds_mixed may_begin (drop i s) ≡ ((may_begin && begins_mixed (take (length s - i) (drop i s))) || holds_mixed (frees_part (get_or s i 0)) (drop (i + 1) s))
unfolding holds_mixed
mixed_step may_begin s i h =
    rw take_rest (at_drop_more (holds_mixed may_begin) s i 0 h ∙ ap (λ (x : List ℕ). (may_begin && begins_mixed x) || holds_mixed (frees_part (get_or s i 0)) (drop (i + 1) s)) (sym (drop_more s i 0 h)))

pub mixed_none : (may_begin : Bool) (s : List ℕ) (i : ℕ) → length s ≤ i → is_mixed s ≡ holds_mixed may_begin (drop i s) → false ≡ is_mixed s
unfolding holds_mixed
mixed_none may_begin s i h w = sym (w ∙ at_drop_all (holds_mixed may_begin) s i h)
