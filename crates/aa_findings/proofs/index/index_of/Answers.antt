use Rattle.std.proofs.Common.{ℕ, List, [], ◌∷◌, ◌++◌, cond, take, sym, ap, ◌∙◌, arith}
use Rattle.std.specs.Global.{Global}
use Rattle.std.specs.declared.vec.Vec.{Vec}
use Rattle.std.proofs.lemmas.List.{length-map, length-take-le, take_more, map-append}
use Rattle.aa_findings.specs.Places.{places, has, is_last, lists}
use Rattle.aa_findings.proofs.Placing.{not_last}
use Rattle.aa_findings.proofs.Indexing.{places_more}
use Rattle.aa_findings.proofs.index.index_of.Goals as goal

pub loop-place-preserved : goal.loop-place-preserved
loop-place-preserved c =
    let items = λ (v : Vec ℕ Global). v.items in
    let rows = c.args.rows.now in
    let i = c.loop-place.place in
    let row = c.index-rows-place.result in
    let lt = c.loop-place-test.true in
    let before = lists (take i rows) in
    let long = length-map (take i rows) items ∙ length-take-le i rows (omega arith) in
    let inv = c.loop-place.invariant in
    let pushed = c.in_ok-push_each.ensures in
    let more = ap lists (take_more rows i row lt ∙ ap (λ x. take i rows ++ x ∷ []) (sym c.index-rows-place.is)) ∙ map-append items (take i rows) (row ∷ []) in
    record {
      many = pushed.many ∙ inv.many;
      each = λ n less.
          let was = inv.each n less in
          pushed.each n (omega (arith, less, inv.many)) (ap (is_last i) was ∙ not_last (has n) before i (omega (arith, long)))
          ∙ ap (λ l. l ++ cond (has n c.as_slice.result.now) (i ∷ []) []) was
          ∙ ap (λ (numbers : List ℕ). places (has n) before ++ cond (has n numbers) (i ∷ []) []) c.as_slice.ensures.value
          ∙ sym (ap (places (has n)) more ∙ places_more n i before row.items long);
    }
