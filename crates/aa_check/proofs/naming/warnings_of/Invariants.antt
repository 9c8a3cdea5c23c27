use Rattle.std.proofs.Common.{◌≡◌, take, flat_map}
use Rattle.aa_files.specs.Texts.{texts}
use Rattle.aa_check.specs.Names.{warning_of}
use Rattle.aa_check.proofs.naming.warnings_of.Given as goal

abbrev pub invariant-loop-profile : goal.invariant-loop-profile
invariant-loop-profile l = texts l.warnings.items ≡ flat_map (warning_of l.files l.file) (take l.profile-index l.file.profiles.items)
