use Rattle.aa_representatives.specs.Askable.{IsFile}
use Rattle.aa_representatives.specs.Representatives.{Adds, HasFiles}
use Rattle.aa_representatives.proofs.files.add_files_at.Given as goal

abbrev pub invariant-loop-bits : goal.invariant-loop-bits
invariant-loop-bits l = record {
  adds : Adds IsFile l.fn.requests.items l.requests.items;
  has : HasFiles l.path l.bits l.requests.items;
}
