use Rattle.aa_files.proofs.Lines.{lines_include_their_paths}
use Rattle.aa_files.proofs.folder_laws.lines_include_their_paths.Goals as goal

pub returns : goal.returns
returns c = lines_include_their_paths
