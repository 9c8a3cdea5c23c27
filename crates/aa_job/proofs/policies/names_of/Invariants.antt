use Rattle.std.proofs.Common.{◌≡◌, take}
use Rattle.aa_files.specs.Texts.{texts}
use Rattle.aa_model.specs.Lawful.{names_of}
use Rattle.aa_job.proofs.policies.names_of.Given as goal

abbrev pub invariant-loop-profile : goal.invariant-loop-profile
invariant-loop-profile l = texts l.names.items ≡ names_of (take l.profile-index l.compiled.profiles)
