use Rattle.std.proofs.Common.{◌≡◌, ℕ, ◌+◌, ◌++◌, ◌∷◌, [], Vec, Global, Option, Some, None, option_map, map, drop, sym, ap, ◌∙◌}
use Rattle.std.proofs.lemmas.List.{map_push, drop_all}
use Rattle.serde_json.specs.View.{view}
use Rattle.aa_question.specs.Memory.{Row, row_of}
use Rattle.aa_question.specs.Values.{all_of, row_in}
use Rattle.aa_question.proofs.Lists.{next_is, step_on, step_ends, step_done}
use Rattle.aa_question.proofs.values.all_rows.Goals as goal

abbrev row : Option (Vec ℕ Global × Vec ℕ Global) → Option Row
row o = option_map row_of o

pub returns-in-None : goal.returns-in-None
returns-in-None c =
    let xs = c.args.values.now in
    let i = c.loop-value.value-index in
    let x = c.value-item.result in
    let failed : row_in (view x) ≡ None = sym c.in_ok-row.ensures ∙ ap row c.in-None.is in
    sym (step_ends row_in view (map row_of c.loop-value.all.items) (drop i xs) (drop (i + 1) xs) x (all_of row_in (map view xs)) (next_is xs i x c.loop-value-test.true c.value-item.is) failed c.loop-value.invariant)

pub loop-value-preserved : goal.loop-value-preserved
loop-value-preserved c =
    let xs = c.args.values.now in
    let i = c.loop-value.value-index in
    let x = c.value-item.result in
    let made : row_in (view x) ≡ Some (row_of c.in-Some.row) = sym c.in_ok-row.ensures ∙ ap row c.in-Some.is in
    let pushed : map row_of c.push.new.self.items ≡ map row_of c.loop-value.all.items ++ (row_of c.in-Some.row) ∷ [] =
    rw c.in_ok-push-in-Some.ensures.items (map_push row_of c.loop-value.all.items c.in-Some.row) in
    rw pushed (step_on row_in view (map row_of c.loop-value.all.items) (drop i xs) (drop (i + 1) xs) x (row_of c.in-Some.row) (all_of row_in (map view xs)) (next_is xs i x c.loop-value-test.true c.value-item.is) made c.loop-value.invariant)

pub returns : goal.returns
returns c =
    let xs = c.args.values.now in
    sym (step_done row_in view (map row_of c.loop-value.all.items) (drop c.loop-value.value-index xs) (all_of row_in (map view xs)) (drop_all c.loop-value.value-index xs c.loop-value-test.false) c.loop-value.invariant)
