use Rattle.std.proofs.Common.{◌≡◌, ◌==◌, ℕ, List, Option, None, map, rules, tests, ap, ◌∙◌}
use Rattle.std.specs.Iterator.{Yields}
use Rattle.std.specs.List.{slice_split}
use Rattle.std.proofs.lemmas.Iterator.{YieldsList}
use Rattle.std.proofs.lemmas.Iterator.Splits.{YieldsList-from_slice_split}
use Rattle.std.proofs.lemmas.Iterator.Consumers.{YieldsList-at, YieldsList-end}
use Rattle.aa_text.specs.Excerpts.{without_return}
use Rattle.aa_report.proofs.lines.lines_in.Goals as goal

ended : {S A B : Type 0} {steps : S → Option A → S → Type 0} {v : A → B} {s : S} {all : List B} (xs : List A) (t : S) (y : Yields steps s xs t)
    → (r : Option A) (u : S) → r ≡ None → steps t r u → (e : YieldsList steps v s all) → map v xs ≡ all
ended xs t y r u none last e = (YieldsList-end e xs t y r u none last).0

pub returns : goal.returns
returns c =
    let all : map (λ line. line.now) c.loop-line.yielded ≡ slice_split
    (λ b. b == 10) c.args.text.now = ended c.loop-line.yielded _ c.loop-line.yielded_by _ _ c.in-None.is c.next.ensures.steps
    (YieldsList-at c.into_iter-line-iterator.ensures.into_iter_gives
    (YieldsList-from_slice_split _ _ c.args.text.now c.split-line-items.ensures.rest c.split-line-items.ensures.done c.split-line-items.ensures.closure
    (λ x r q k. search (rules, tests)))) in
    c.loop-line.invariant ∙ ap (λ (lines : List (List ℕ)). map without_return lines) all
