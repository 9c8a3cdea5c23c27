use Rattle.std.proofs.Common.{◌≡◌, ℕ, ◌<◌, ◌⊎◌, Contains, get_or}
use Rattle.aa_pattern.specs.Matching.{is_match}
use Rattle.aa_regions.specs.declared.regions.Region.{Region}
use Rattle.aa_representatives.specs.declared.said.SaidClass.{SaidClass}
use Rattle.aa_representatives.specs.Both.{IsSaidAtBoth}
use Rattle.aa_representatives.specs.Apart.{IsClassApart}
use Rattle.aa_representatives.proofs.apart.add_classes.Given as goal

abbrev pub invariant-loop-region : goal.invariant-loop-region
invariant-loop-region l = record {
  kept : (c : SaidClass) → Contains l.fn.classes.items c → Contains l.classes.items c;
  each : (c : SaidClass) → Contains l.classes.items c → Contains l.fn.classes.items c ⊎ IsClassApart l.one l.from l.other l.to l.pattern l.wanted c;
  has : (k : ℕ) (r : Region) → k < l.region-index → get_or l.regions k r ≡ r → is_match l.pattern.items.items r.witness ≡ l.wanted
      → (c : SaidClass) × Contains l.classes.items c × IsSaidAtBoth l.one l.from l.other l.to r.witness c;
}
