use Rattle.std.proofs.Common.{refl}
use Rattle.aa_files.specs.FilesData.{read}
use Rattle.aa_files.specs.WalkData.Adds.{Missing, New}
use Rattle.aa_files.proofs.walk.look_up_new.Goals as goal

pub returns-in_ok-enter_missing-in-None-clause-adds : goal.returns-in_ok-enter_missing-in-None-clause-adds
returns-in_ok-enter_missing-in-None-clause-adds g c =
    let said = c.in_ok-enter_missing-in-None.ensures in
    record { path = said.path; text = said.text; adds = Missing c.args.wanted.name refl c.requires (rw c.in-None.is at c.in_ok-path.ensures.found) said.sources said.entries }

pub returns-in_ok-enter_source-in-Some-clause-adds : goal.returns-in_ok-enter_source-in-Some-clause-adds
returns-in_ok-enter_source-in-Some-clause-adds g c =
    let said = c.in_ok-enter_source-in-Some.ensures in
    record { path = said.path; text = said.text; adds = New c.in-Some.path.items (read c.in-Some.found) c.requires (rw c.in-Some.is at c.in_ok-path.ensures.found) said.added }
