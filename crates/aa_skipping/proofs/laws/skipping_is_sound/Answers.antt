use Rattle.aa_skipping.proofs.Answering.{answers_stand}
use Rattle.aa_skipping.proofs.Finding.{names_stand}
use Rattle.aa_skipping.proofs.Running.{runs_stand}
use Rattle.aa_skipping.proofs.Searching.{searches_stand}
use Rattle.aa_skipping.proofs.laws.skipping_is_sound.Goals as goal

pub returns : goal.returns
returns c = record { answers = answers_stand; runs = runs_stand; searches = searches_stand; names = names_stand }
