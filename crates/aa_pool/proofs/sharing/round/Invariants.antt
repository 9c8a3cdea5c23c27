use Rattle.std.proofs.Common.{◌≡◌, ◌<◌, ℕ, true, slice_index_or}
use Rattle.aa_pool.specs.Fed.{AreSame}
use Rattle.aa_pool.proofs.sharing.round.Given as goal

abbrev pub invariant-loop-i : goal.invariant-loop-i
invariant-loop-i g l = record {
  same : AreSame l.fn.feeds l.feeds;
  finished : l.finished ≡ true → (k : ℕ) (d : _) → k < l.i → (slice_index_or l.feeds k d).finished ≡ true;
}
