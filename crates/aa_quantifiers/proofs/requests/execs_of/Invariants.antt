use Rattle.std.proofs.Common.{◌≡◌, ℕ, ◌<◌, true, Contains, get_or}
use Rattle.aa_pattern.specs.Matching.{is_match}
use Rattle.aa_model.specs.declared.request.Request.{Request}
use Rattle.aa_regions.specs.declared.regions.Region.{Region}
use Rattle.aa_quantifiers.specs.declared.word.Word.TheVariants.{Execs}
use Rattle.aa_quantifiers.specs.Words.{IsOf}
use Rattle.aa_quantifiers.specs.Candidates.{HasExecsOf}
use Rattle.aa_quantifiers.proofs.requests.execs_of.Given as goal

abbrev pub invariant-loop-region : goal.invariant-loop-region
invariant-loop-region l = record {
  each : (r : Request) → Contains l.requests.items r → IsOf (Execs l.word) r;
  has : (k : ℕ) (r : Region) → k < l.region-index → get_or l.regions k r ≡ r → is_match l.word.pattern.items.items r.witness ≡ true → HasExecsOf l.word.whose r.witness l.requests.items;
}
