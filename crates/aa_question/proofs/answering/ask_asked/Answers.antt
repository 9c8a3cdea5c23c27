use Rattle.std.proofs.Common.{refl, ap, ◌∙◌}
use Rattle.aa_files.specs.Texts.{texts, slices}
use Rattle.aa_question.proofs.Answered.{ask_of}
use Rattle.aa_question.proofs.answering.ask_asked.Goals as goal

pub returns : goal.returns
returns c =
    ask_of _ c.as_slice.result.now (slices c.as_slice-2.result.now) _ c.ask_files.result c.as_slice.ensures.value (ap slices c.as_slice-2.ensures.value ∙ c.in_ok-folders.ensures)
    (record { files = ap texts c.as_slice-3.ensures.value; from = refl; manner = c.manner_of.ensures; json = refl; quiet = refl })
    c.ask_files.ensures
