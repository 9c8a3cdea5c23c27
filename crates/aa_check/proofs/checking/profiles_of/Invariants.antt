use Rattle.std.proofs.Common.{◌≡◌, ◌≤◌, ◌*◌, length, take, sum_by}
use Rattle.aa_check.proofs.checking.profiles_of.Given as goal

abbrev pub invariant-loop-file : goal.invariant-loop-file
invariant-loop-file l = record {
  sum : l.count ≡ sum_by (λ f. length f.profiles.items) (take l.file-index l.files);
  few : l.count ≤ 4096 * l.file-index;
}
