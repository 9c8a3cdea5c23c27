use Rattle.std.proofs.Common.{map, ap, ◌∙◌}
use Rattle.aa_compile.specs.Matched.{files_at}
use Rattle.aa_explain.specs.Deciders.{granted_beside}
use Rattle.aa_explain.specs.Sayings.{file_saying}
use Rattle.aa_explain.specs.Told.{sayings_of}
use Rattle.aa_explain.proofs.Speaking.{granted_is}
use Rattle.aa_explain.proofs.deciders.wanted_of_target.Goals as goal

pub returns : goal.returns
returns c =
    let files = files_at c.args.compiled.now.profiles c.args.number in
    c.granted_beside.ensures
    ∙ ap (λ ts. granted_beside (sayings_of ts)) (c.as_slice.ensures.value ∙ c.in_ok-told.ensures)
    ∙ granted_is (map (file_saying c.link.result.now c.owned.result) files)
    ∙ ap (λ path. granted_beside (map (file_saying path c.owned.result) files)) c.link.ensures.path
    ∙ ap (λ owned. granted_beside (map (file_saying c.args.link.now.link owned) files)) c.owned.ensures
