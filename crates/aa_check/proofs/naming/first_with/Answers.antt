use Rattle.std.proofs.Common.{◌≡◌, ℕ, ap, ◌∙◌, Option, Some, None}
use Rattle.std.specs.Prelude.{slice_get, option_and_then, position}
use Rattle.aa_check.specs.Names.{has_name}
use Rattle.aa_check.proofs.Firsts.{found_at}
use Rattle.aa_check.proofs.naming.first_with.Goals as goal

pub returns-in-Some : goal.returns-in-Some
returns-in-Some c =
    let there : Some c.in-Some.number.now ≡ position (has_name c.args.name.now) c.args.files.now = c.in-Some.ensures.value ∙ c.requires c.args.name.now in
    c.file_at.ensures ∙ ap (option_and_then (slice_get c.args.files.now)) there ∙ found_at (has_name c.args.name.now) c.args.files.now

pub returns-in-None : goal.returns-in-None
returns-in-None c =
    let none : ◌≡◌ {A = Option ℕ} None (position (has_name c.args.name.now) c.args.files.now) = c.in-None.ensures.value ∙ c.requires c.args.name.now in
    ap (option_and_then (slice_get c.args.files.now)) none ∙ found_at (has_name c.args.name.now) c.args.files.now
