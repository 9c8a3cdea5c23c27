-- What is printed by the files that aren't skipped.
use Rattle.std.proofs.Common.{◌≡◌, ℕ, List, ap, subst, ◌∙◌}
use Rattle.aa_files.specs.declared.unit.Unit as unit
use Rattle.aa_command.specs.declared.decided.Decided.{Decided}
use Rattle.aa_command.specs.Setting.{Setting}
use Rattle.aa_command.specs.Printed.{Printed}
use Rattle.aa_command.specs.Policies.{IsPrintedBy}
use Rattle.aa_skipped.specs.declared.skipped.Skipped.{Skipped}
use Rattle.aa_skipped.specs.Sorting.{AreSorted}
use Rattle.aa_skipped.specs.Repeated.{AreParted}
use Rattle.aa_skipped.specs.Telling.{behind_skipped}
use Rattle.aa_skipped.specs.Policies.{IsPrintedSkipping}

-- by slices of their units and of the files that are skipped
pub printed_skipping : (s : Setting) (paths : List (List ℕ)) (gives : List Skipped → Decided → Printed → Type 0) (good : List unit.Unit) (refused : List Skipped) (units lent : List unit.Unit)
    (skipped k told : List Skipped) (own out : Printed) → AreSorted s paths good refused → AreParted good refused units skipped → lent ≡ units → k ≡ skipped → told ≡ skipped
    → IsPrintedBy s.folders s.states lent (gives k) own → out ≡ behind_skipped told own → IsPrintedSkipping s paths gives out
printed_skipping s paths gives good refused units lent skipped k told own out sorted parted is_lent is_k is_told by behind = record {
  good = good;
  refused = refused;
  sorted = sorted;
  units = units;
  skipped = skipped;
  parted = parted;
  own = own;
  by = subst (λ (ks : List Skipped). IsPrintedBy s.folders s.states units (gives ks) own) is_k (subst (λ (us : List unit.Unit). IsPrintedBy s.folders s.states us (gives k) own) is_lent by);
  behind = behind ∙ ap (λ (ks : List Skipped). behind_skipped ks own) is_told;
}
