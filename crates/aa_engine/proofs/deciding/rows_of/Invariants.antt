use Rattle.std.proofs.Common.{◌≡◌, ◌≤◌, ◌+◌, ◌++◌, map, length, vec_len, vec_capacity}
use Rattle.aa_engine.proofs.deciding.rows_of.Given as goal

abbrev pub invariant-loop-outcome : goal.invariant-loop-outcome
invariant-loop-outcome g l = record {
  answers : map (λ r. r.items) l.rows.items ++ map (λ o. o.answers.items) l.outcome-iterator.rest.items ≡ map (λ o. o.answers.items) l.fn.outcomes.items;
  room : vec_len l.rows + length l.outcome-iterator.rest.items ≤ vec_capacity l.rows;
}
