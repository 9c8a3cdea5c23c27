use Rattle.std.proofs.Common.{refl, ap, ◌∙◌}
use Rattle.aa_files.specs.Texts.{texts, slices}
use Rattle.aa_question.proofs.Answered.{diff_of}
use Rattle.aa_question.proofs.answering.diff_asked.Goals as goal

pub returns : goal.returns
returns c =
    diff_of _ c.as_slice.result.now c.as_slice-3.result.now (slices c.as_slice-2.result.now) (slices c.as_slice-4.result.now) _ c.diff_files.result
    c.as_slice.ensures.value (ap slices c.as_slice-2.ensures.value ∙ c.in_ok-before.ensures) c.as_slice-3.ensures.value (ap slices c.as_slice-4.ensures.value ∙ c.in_ok-after.ensures)
    (record {
      old = ap texts c.as_slice-7.ensures.value;
      new = ap texts c.as_slice-8.ensures.value;
      gains = refl;
      profiles = ap texts c.as_slice-5.ensures.value;
      names = ap texts c.as_slice-6.ensures.value;
      json = refl;
      whole = refl;
      accepted = refl;
      known = refl;
      clean = refl;
    })
    c.diff_files.ensures
