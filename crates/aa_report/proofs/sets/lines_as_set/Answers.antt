use Rattle.std.proofs.Common.{◌≡◌, ◌<◌, ◌+◌, ℕ, List, [], ◌∷◌, Bool, true, false, Option, Some, None, cond, take, length, get_or, refl, sym, ap, ◌∙◌}
use Rattle.std.specs.Borrow.{Bor}
use Rattle.std.specs.Prelude.{◌||◌, is_some}
use Rattle.std.specs.List.{list_any}
use Rattle.std.specs.Option.{option_or}
use Rattle.std.specs.Str.{bytes_eq}
use Rattle.std.proofs.lemmas.List.{take_more, map-append}
use Rattle.std.proofs.lemmas.List.Folds.{list_any-append}
use Rattle.aa_files.specs.Texts.{slices}
use Rattle.aa_report.specs.Accepted.{is_among}
use Rattle.aa_report.proofs.sets.lines_as_set.Goals as goal

or_some : (o : Option ℕ) (b : Bool) → is_some (option_or o (cond b (Some 0) None)) ≡ (is_some o || (b || false))
or_some None true = refl
or_some None false = refl
or_some (Some n) b = refl

-- one line more
set_more : (lines : List (Bor (List ℕ))) (i : ℕ) (d : Bor (List ℕ)) (line : List ℕ) (was now : Option ℕ) → i < length lines
    → now ≡ option_or was (cond (bytes_eq line (get_or lines i d).now) (Some 0) None) → is_some was ≡ is_among (slices (take i lines)) line
    → is_some now ≡ is_among (slices (take (i + 1) lines)) line
set_more lines i d line was now lt e so_far =
    let x = get_or lines i d in
    ap is_some e
    ∙ or_some was (bytes_eq line x.now)
    ∙ ap (λ b. b || (bytes_eq line x.now || false)) so_far
    ∙ sym (ap (λ ls. is_among (slices ls) line) (take_more lines i d lt)
    ∙ ap (list_any (bytes_eq line)) (map-append (λ (r : Bor (List ℕ)). r.now) (take i lines) (x ∷ []))
    ∙ list_any-append (bytes_eq line) (slices (take i lines)) (x.now ∷ []))

pub loop-line-preserved : goal.loop-line-preserved
loop-line-preserved c = λ line. set_more c.args.lines.now c.loop-line.line-index _ line _ _ c.loop-line-test.true (c.in_ok-add_line.ensures line) (c.loop-line.invariant line)
