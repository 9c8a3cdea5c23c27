use Rattle.std.proofs.Common.{◌≡◌, ℕ, ◌<◌, get_or}
use Rattle.aa_base.specs.declared.perms.Perms.{Perms}
use Rattle.aa_representatives.specs.Representatives.{Adds}
use Rattle.aa_quantifiers.specs.declared.word.Word.TheVariants.{Files}
use Rattle.aa_quantifiers.specs.Words.{IsOf}
use Rattle.aa_quantifiers.specs.Candidates.{HasFilesBy}
use Rattle.aa_quantifiers.proofs.requests.add_files_to.Given as goal

abbrev pub invariant-loop-mask : goal.invariant-loop-mask
invariant-loop-mask l = record {
  adds : Adds (IsOf (Files l.word)) l.fn.requests.items l.requests.items;
  has : (k : ℕ) (m : Perms) → k < l.mask-index → get_or l.masks k m ≡ m → HasFilesBy l.word.whose l.path m l.requests.items;
}
