use Rattle.aa_jobs.proofs.Plain.{plain_file}
use Rattle.aa_jobs.proofs.keyed.path_and_letters.Goals as goal

pub returns-in-File-Text-Mask-Text : goal.returns-in-File-Text-Mask-Text
returns-in-File-Text-Mask-Text c =
    let a = c.in-File-Text-Mask-Text in
    plain_file c.args.one c.args.other c.args.path c.args.letters a.path a.letters a.is-0 a.is-1 a.is-2 a.is-3
