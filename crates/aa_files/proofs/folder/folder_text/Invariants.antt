use Rattle.std.proofs.Common.{◌≡◌, take}
use Rattle.aa_files.specs.Folders.{folder_lines}
use Rattle.aa_files.specs.Texts.{slices}
use Rattle.aa_files.proofs.folder.folder_text.Given as goal

abbrev pub invariant-loop-name : goal.invariant-loop-name
invariant-loop-name l = l.out.items ≡ folder_lines l.folder (slices (take l.name-index l.names))
