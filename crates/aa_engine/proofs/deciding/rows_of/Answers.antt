use Rattle.std.proofs.Common.{◌≡◌, [], ◌++◌, map, length, sym, ap, ◌∙◌, arith, append_assoc, append-nil}
use Rattle.std.proofs.lemmas.List.{map-append}
use Rattle.aa_pool.proofs.Cuts.{nil}
use Rattle.aa_engine.proofs.deciding.rows_of.Goals as goal

pub push_reserved-requires : goal.push_reserved-requires
push_reserved-requires g c = omega (arith, ap length ((c.in-Some.ensures {u = tt}).steps.0), c.loop-outcome.invariant.room)

pub loop-outcome-preserved : goal.loop-outcome-preserved
loop-outcome-preserved g c =
    let i = c.loop-outcome.invariant in
    let s = (c.in-Some.ensures {u = tt}).steps.0 in
    let p = c.push_reserved.ensures in
    let n = ap length s in
    record {
      answers = rw (p.items, map-append, append_assoc) (ap (λ l. map (λ r. r.items) c.loop-outcome.rows.items ++ map (λ o. o.answers.items) l) (sym s) ∙ i.answers);
      room = omega (arith, n, p.len, p.capacity, i.room);
    }

pub returns : goal.returns
returns g c =
    let e : c.loop-outcome.outcome-iterator.rest.items ≡ [] = nil _ (omega (arith, c.loop-outcome.outcome-iterator.rest.ok, (c.in-None.ensures {u = tt}).steps.0)) in
    sym (append-nil _) ∙ ap (λ l. map (λ r. r.items) c.loop-outcome.rows.items ++ map (λ o. o.answers.items) l) (sym e) ∙ c.loop-outcome.invariant.answers
