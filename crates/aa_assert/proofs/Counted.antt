-- What counts of a claim at a label.
use Rattle.std.proofs.Common.{◌≡◌, ◌⊎◌, inl, inr, ⊎_elim, List, [], ◌∷◌, Bool, true, false, true≢false, refl, sym, ap, ◌∙◌}
use Rattle.std.specs.Prelude.{not, ◌||◌}
use Rattle.aa_model.specs.declared.request.Request.{Request}
use Rattle.aa_model.specs.declared.request.Request.TheVariants.{File, Link, Exec, Cap, Net, Change, Reload}
use Rattle.aa_unclean_paths.specs.Deciding.{is_unclean}
use Rattle.aa_unclean_paths.specs.Requests.{IsAtUncleanPath, is_at_unclean_path, does_request_count}
use Rattle.aa_unclean_paths.proofs.Decided.{unclean_then, then_unclean}
use Rattle.aa_assert.specs.Passages.{do_count, are_clean}

or_cases : (a b : Bool) → (a || b) ≡ true → (a ≡ true) ⊎ (b ≡ true)
or_cases true b e = inl refl
or_cases false b e = inr e

or_first : (a b : Bool) → a ≡ true → (a || b) ≡ true
or_first true b e = refl
or_first false b e = absurd (true≢false (sym e))

or_second : (a b : Bool) → b ≡ true → (a || b) ≡ true
or_second true b e = refl
or_second false b e = e

unclean_request : (r : Request) → is_at_unclean_path r ≡ true → IsAtUncleanPath r
unclean_request (File f) e = unclean_then f.path e
unclean_request (Link x) e =
    ⊎_elim (λ f. inl (unclean_then x.link f)) (λ f. inr (unclean_then x.target f)) (or_cases (is_unclean x.link) (is_unclean x.target) e)
unclean_request (Exec x) e = unclean_then x.path e
unclean_request (Cap c) e = absurd (true≢false (sym e))
unclean_request (Net f s) e = absurd (true≢false (sym e))
unclean_request (Change name) e = absurd (true≢false (sym e))
unclean_request (Reload k) e = absurd (true≢false (sym e))

request_unclean : (r : Request) → IsAtUncleanPath r → is_at_unclean_path r ≡ true
request_unclean (File f) u = then_unclean f.path u
request_unclean (Link x) (inl u) = or_first (is_unclean x.link) (is_unclean x.target) (then_unclean x.link u)
request_unclean (Link x) (inr u) = or_second (is_unclean x.link) (is_unclean x.target) (then_unclean x.target u)
request_unclean (Exec x) u = then_unclean x.path u
request_unclean (Cap c) u = absurd u
request_unclean (Net f s) u = absurd u
request_unclean (Change name) u = absurd u
request_unclean (Reload k) u = absurd u

-- all requests count where unclean paths do
pub all_count : (rs : List Request) → do_count true rs ≡ true
all_count [] = refl
all_count (r ∷ rs) = all_count rs

-- where a list doesn't count that is clean if another is, the other doesn't either
pub none_counted : (unclean : Bool) (way rs : List Request) → (are_clean rs ≡ true → are_clean way ≡ true) → do_count unclean way ≡ false
    → do_count unclean rs ≡ true → ⊥
none_counted true way rs clean e count = true≢false (sym (all_count way) ∙ e)
none_counted false way rs clean e count = true≢false (sym (clean count) ∙ e)

-- where one doesn't count, one that is at an unclean path if that is doesn't either
pub uncounted_too : (unclean : Bool) (r q : Request) → does_request_count unclean r ≡ false → (IsAtUncleanPath r → IsAtUncleanPath q)
    → does_request_count unclean q ≡ true → ⊥
uncounted_too true r q e more c = true≢false e
uncounted_too false r q e more c = at (is_at_unclean_path r) refl e
  where
    at : (b : Bool) → is_at_unclean_path r ≡ b → not b ≡ false → ⊥
    at true f g = true≢false (sym c ∙ ap not (request_unclean q (more (unclean_request r f))))
    at false f g = true≢false g
