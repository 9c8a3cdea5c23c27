use Rattle.std.proofs.Common.{◌≡◌, ℕ, List, true, Contains, subst, arith}
use Rattle.aa_pattern.specs.Matching.{is_match}
use Rattle.aa_model.specs.declared.request.Request.{Request}
use Rattle.aa_representatives.proofs.Adding.{none_in, adds_keep, regions_more}
use Rattle.aa_quantifiers.specs.declared.word.Word.TheVariants.{Files}
use Rattle.aa_quantifiers.specs.Words.{IsOf}
use Rattle.aa_quantifiers.specs.Candidates.{HasFilesOf}
use Rattle.aa_quantifiers.proofs.Adding.{adds_all}
use Rattle.aa_quantifiers.proofs.requests.files_of.Goals as goal

pub loop-region-init : goal.loop-region-init
loop-region-init c = record {
  each = λ r d. absurd (none_in r (subst (λ (x : List Request). Contains x r) c.new-requests.ensures.items d));
  has = λ k r lt e. absurd (omega (arith, lt));
}

pub loop-region-preserved : goal.loop-region-preserved
loop-region-preserved c =
    let w = c.args.word.now in
    let was = c.loop-region.requests.items in
    let now = c.add_files_if_matched.new.requests.items in
    let made = c.in_ok-add_files_if_matched.ensures in
    record {
      each = adds_all (IsOf (Files w)) was now made.adds c.loop-region.invariant.each;
      has = regions_more c.args.regions.now c.loop-region.region-index c.region-item.result
          (λ (s : List ℕ). is_match w.pattern.items.items s ≡ true → HasFilesOf w.whose s w.masks was) (λ (s : List ℕ). is_match w.pattern.items.items s ≡ true → HasFilesOf w.whose s w.masks now)
          c.loop-region-test.true c.region-item.is
          (λ s has matched mask in' owned good asks. adds_keep (IsOf (Files w)) was now made.adds _ (has matched mask in' owned good asks))
          (subst (λ (s : List ℕ). is_match w.pattern.items.items s ≡ true → HasFilesOf w.whose s w.masks now) c.as_slice.ensures made.has) c.loop-region.invariant.has;
    }

pub returns-clause-each : goal.returns-clause-each
returns-clause-each c = c.loop-region.invariant.each

pub returns-clause-has : goal.returns-clause-has
returns-clause-has c = λ r in'. c.loop-region.invariant.has in'.0 r (omega (arith, in'.1, c.loop-region-test.false)) in'.2
