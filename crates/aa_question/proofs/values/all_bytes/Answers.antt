use Rattle.std.proofs.Common.{◌≡◌, ℕ, ◌+◌, ◌++◌, ◌∷◌, [], List, Vec, Global, Option, Some, None, option_map, map, drop, sym, ap, ◌∙◌}
use Rattle.std.proofs.lemmas.List.{map_push, drop_all}
use Rattle.serde_json.specs.View.{view}
use Rattle.aa_files.specs.Texts.{texts}
use Rattle.aa_question.specs.Values.{all_of, bytes_in}
use Rattle.aa_question.proofs.Lists.{next_is, step_on, step_ends, step_done}
use Rattle.aa_question.proofs.values.all_bytes.Goals as goal

abbrev bytes : Option (Vec ℕ Global) → Option (List ℕ)
bytes o = option_map (λ b. b.items) o

pub returns-in-None : goal.returns-in-None
returns-in-None c =
    let xs = c.args.values.now in
    let i = c.loop-value.value-index in
    let x = c.value-item.result in
    let failed : bytes_in (view x) ≡ None = sym c.in_ok-bytes.ensures ∙ ap bytes c.in-None.is in
    sym (step_ends bytes_in view (texts c.loop-value.all.items) (drop i xs) (drop (i + 1) xs) x (all_of bytes_in (map view xs)) (next_is xs i x c.loop-value-test.true c.value-item.is) failed c.loop-value.invariant)

pub loop-value-preserved : goal.loop-value-preserved
loop-value-preserved c =
    let xs = c.args.values.now in
    let i = c.loop-value.value-index in
    let x = c.value-item.result in
    let made : bytes_in (view x) ≡ Some c.in-Some.bytes.items = sym c.in_ok-bytes.ensures ∙ ap bytes c.in-Some.is in
    let pushed : texts c.push.new.self.items ≡ texts c.loop-value.all.items ++ c.in-Some.bytes.items ∷ [] =
    rw c.in_ok-push-in-Some.ensures.items (map_push (λ v. v.items) c.loop-value.all.items c.in-Some.bytes) in
    rw pushed (step_on bytes_in view (texts c.loop-value.all.items) (drop i xs) (drop (i + 1) xs) x c.in-Some.bytes.items (all_of bytes_in (map view xs)) (next_is xs i x c.loop-value-test.true c.value-item.is) made c.loop-value.invariant)

pub returns : goal.returns
returns c =
    let xs = c.args.values.now in
    sym (step_done bytes_in view (texts c.loop-value.all.items) (drop c.loop-value.value-index xs) (all_of bytes_in (map view xs)) (drop_all c.loop-value.value-index xs c.loop-value-test.false) c.loop-value.invariant)
