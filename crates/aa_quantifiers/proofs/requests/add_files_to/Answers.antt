use Rattle.std.proofs.Common.{get_or, arith}
use Rattle.std.proofs.lemmas.List.{get_or_default}
use Rattle.aa_base.specs.declared.perms.Perms.{Perms}
use Rattle.aa_compile.specs.Said.{perms_of}
use Rattle.aa_representatives.proofs.Adding.{adds_both, adds_keep}
use Rattle.aa_quantifiers.specs.declared.word.Word.TheVariants.{Files}
use Rattle.aa_quantifiers.specs.Words.{IsOf}
use Rattle.aa_quantifiers.specs.Candidates.{HasFilesBy}
use Rattle.aa_quantifiers.proofs.requests.add_files_to.Goals as goal
use Rattle.aa_representatives.proofs.Linking.{elements_more}

pub loop-mask-preserved : goal.loop-mask-preserved
loop-mask-preserved c =
    let w = c.args.word.now in
    let path = c.args.path.now in
    let masks = c.args.masks.now in
    let i = c.loop-mask.mask-index in
    let x = get_or masks i (perms_of 0) in
    let was = c.loop-mask.requests.items in
    let now = c.add_files_by.new.requests.items in
    let made = c.in_ok-add_files_by.ensures in
    record {
      adds = adds_both (IsOf (Files w)) c.args.requests.now.items was now c.loop-mask.invariant.adds made.adds;
      has = elements_more masks i x (λ (m : Perms). HasFilesBy w.whose path m was) (λ (m : Perms). HasFilesBy w.whose path m now)
          c.loop-mask-test.true (get_or_default masks i (perms_of 0) x c.loop-mask-test.true)
          (λ m has owned good asks. adds_keep (IsOf (Files w)) was now made.adds _ (has owned good asks))
          made.has c.loop-mask.invariant.has;
    }

pub add_files_by-requires-clause-among : goal.add_files_by-requires-clause-among
add_files_by-requires-clause-among c =
    let masks = c.args.masks.now in
    let i = c.loop-mask.mask-index in
    let x = get_or masks i (perms_of 0) in
    c.requires.among x (i, c.loop-mask-test.true, get_or_default masks i x (perms_of 0) c.loop-mask-test.true)

pub returns-clause-has : goal.returns-clause-has
returns-clause-has c = λ m in'. c.loop-mask.invariant.has in'.0 m (omega (arith, in'.1, c.loop-mask-test.false)) in'.2
