use Rattle.std.proofs.Common.{◌≡◌, ℕ, ◌+◌, ◌<◌, Some, slice_get}
use Rattle.aa_model.specs.declared.policy.Profile.{Profile}
use Rattle.aa_diagnostics.specs.Conflicts.{HasNone}
use Rattle.aa_diagnostics.proofs.conflict.push_first_clash.Given as goal

abbrev pub invariant-loop-number : goal.invariant-loop-number
invariant-loop-number l = record {
  same : l.further ≡ l.fn.further;
  none : (n : ℕ) (p : Profile) → n < l.number → slice_get l.profiles n ≡ Some p → p.at ≡ l.at → HasNone p (l.limit + 1);
}
