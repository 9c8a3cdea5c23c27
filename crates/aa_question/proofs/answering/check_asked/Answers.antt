use Rattle.std.proofs.Common.{refl, ap, ◌∙◌}
use Rattle.aa_files.specs.Texts.{texts, slices}
use Rattle.aa_question.proofs.Answered.{check_of}
use Rattle.aa_question.proofs.answering.check_asked.Goals as goal

pub returns : goal.returns
returns c =
    check_of _ c.as_slice.result.now (slices c.as_slice-2.result.now) _ c.check_files.result c.as_slice.ensures.value (ap slices c.as_slice-2.ensures.value ∙ c.in_ok-folders.ensures)
    (record { files = ap texts c.as_slice-3.ensures.value; form = refl; quiet = refl })
    c.check_files.ensures
