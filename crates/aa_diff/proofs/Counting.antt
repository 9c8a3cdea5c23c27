-- Requests that count, as lines that tell of them do.
use Rattle.std.proofs.Common.{◌≡◌, inl, inr, ⊎_elim, Bool, true, false, true≢false, refl, sym, ap, ◌∙◌}
use Rattle.std.specs.Prelude.{not, ◌||◌}
use Rattle.std.specs.Str.{bytes_eq}
use Rattle.std.proofs.lemmas.Bool.{and_parts, or_cases}
use Rattle.aa_model.specs.declared.request.Request.{Request}
use Rattle.aa_model.specs.declared.request.Request.TheVariants.{File, Link, Exec, Cap, Net, Change, Reload}
use Rattle.aa_unclean_paths.specs.Deciding.{is_unclean}
use Rattle.aa_unclean_paths.specs.Requests.{IsAtUncleanPath, is_at_unclean_path, does_request_count}
use Rattle.aa_unclean_paths.proofs.Decided.{unclean_then, then_unclean}
use Rattle.aa_diff.specs.Gathered.{is_part}
use Rattle.aa_diff.proofs.Telling.{text_same}

or_first : (a b : Bool) → a ≡ true → (a || b) ≡ true
or_first true b e = refl
or_first false b e = absurd (true≢false (sym e))

or_second : (a b : Bool) → b ≡ true → (a || b) ≡ true
or_second true b e = refl
or_second false b e = e

unclean_request : (r : Request) → is_at_unclean_path r ≡ true → IsAtUncleanPath r
unclean_request (File f) e = unclean_then f.path e
unclean_request (Link x) e =
    ⊎_elim
    (λ (f : is_unclean x.link ≡ true). inl (unclean_then x.link f))
    (λ (f : is_unclean x.target ≡ true). inr (unclean_then x.target f)) (or_cases (is_unclean x.link) (is_unclean x.target) e)
unclean_request (Exec x) e = unclean_then x.path e
unclean_request (Cap c) e = absurd (true≢false (sym e))
unclean_request (Net f s) e = absurd (true≢false (sym e))
unclean_request (Change name) e = absurd (true≢false (sym e))
unclean_request (Reload k) e = absurd (true≢false (sym e))

request_unclean : (r : Request) → IsAtUncleanPath r → is_at_unclean_path r ≡ true
request_unclean (File f) u = then_unclean f.path u
request_unclean (Link x) (inl u) = or_first (is_unclean x.link) (is_unclean x.target) (then_unclean x.link u)
request_unclean (Link x) (inr u) = or_second (is_unclean x.link) (is_unclean x.target) (then_unclean x.target u)
request_unclean (Exec x) u = then_unclean x.path u
request_unclean (Cap c) u = absurd u
request_unclean (Net f s) u = absurd u
request_unclean (Change name) u = absurd u
request_unclean (Reload k) u = absurd u

-- what asks for one file is at one path
pub part_unclean : (q r : Request) → is_part q r ≡ true → is_at_unclean_path q ≡ true → is_at_unclean_path r ≡ true
part_unclean (File q) (File r) is e = sym (ap is_unclean (text_same q.path r.path (and_parts _ (bytes_eq q.path r.path) is).1)) ∙ e
part_unclean (File q) (Link r) is e = absurd (true≢false (sym is))
part_unclean (File q) (Exec r) is e = absurd (true≢false (sym is))
part_unclean (File q) (Cap n) is e = absurd (true≢false (sym is))
part_unclean (File q) (Net f k) is e = absurd (true≢false (sym is))
part_unclean (File q) (Change n) is e = absurd (true≢false (sym is))
part_unclean (File q) (Reload m) is e = absurd (true≢false (sym is))
part_unclean (Link q) r is e = absurd (true≢false (sym is))
part_unclean (Exec q) r is e = absurd (true≢false (sym is))
part_unclean (Cap n) r is e = absurd (true≢false (sym e))
part_unclean (Net f k) r is e = absurd (true≢false (sym e))
part_unclean (Change n) r is e = absurd (true≢false (sym e))
part_unclean (Reload m) r is e = absurd (true≢false (sym e))

-- where a request counts, one does that is at an unclean path only if an entry's is, which is so only if the request is
pub counts_too : (unclean : Bool) (asked entry r : Request) → (is_at_unclean_path asked ≡ true → is_at_unclean_path entry ≡ true)
    → (IsAtUncleanPath entry → IsAtUncleanPath r) → does_request_count unclean r ≡ true → does_request_count unclean asked ≡ true
counts_too true asked entry r told listed counts = refl
counts_too false asked entry r told listed counts = at (is_at_unclean_path asked) refl
  where
    at : (b : Bool) → is_at_unclean_path asked ≡ b → not (is_at_unclean_path asked) ≡ true
    at true is = absurd (true≢false (sym counts ∙ ap not (request_unclean r (listed (unclean_request entry (told is))))))
    at false is = ap not is
