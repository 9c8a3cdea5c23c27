-- A letter or a digit behind a backslash, byte by byte.
use Rattle.std.proofs.Common.{◌≡◌, ℕ, ◌+◌, ◌-◌, ◌<◌, ◌≤◌, List, length, take, drop, get_or, Bool, true, false, sym, ◌∙◌}
use Rattle.std.specs.Prelude.{◌==◌, ◌&&◌, ◌||◌}
use Rattle.std.proofs.lemmas.List.{at_drop_more, at_drop_all, take_rest}
use Rattle.aa_diagnostics.specs.Words.{begins_letter, keeps_letter}

pub kept_step : (s : List ℕ) (i : ℕ) → i < length s
    → keeps_letter (drop i s) ≡ ((get_or s i 0 == 92 && begins_letter (take (length s - (i + 1)) (drop (i + 1) s))) || keeps_letter (drop (i + 1) s))
unfolding keeps_letter
kept_step s i h = rw take_rest (at_drop_more keeps_letter s i 0 h)

pub kept_none : (s : List ℕ) (i : ℕ) → length s ≤ i → keeps_letter s ≡ keeps_letter (drop i s) → false ≡ keeps_letter s
unfolding keeps_letter
kept_none s i h w = sym (w ∙ at_drop_all keeps_letter s i h)
