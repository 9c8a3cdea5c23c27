use Rattle.std.proofs.Common.{◌≡◌, ◌≤◌, ◌*◌, take, sum_by}
use Rattle.std.specs.Prelude.{unwrap_or}
use Rattle.aa_check.proofs.checking.all_held.Given as goal

abbrev pub invariant-loop-file : goal.invariant-loop-file
invariant-loop-file l = record {
  sum : l.count ≡ sum_by (λ f. unwrap_or f.held 0) (take l.file-index l.files);
  few : l.count ≤ 4096 * l.file-index;
}
