use Rattle.std.proofs.lemmas.Bool.Decides.{same_from_decides}
use Rattle.aa_pattern.specs.Globs.{Matches}
use Rattle.aa_pattern.proofs.Decided.{decided}
use Rattle.aa_compile.proofs.applying.is_matched.Goals as goal

pub returns : goal.returns
returns c =
    let items = c.args.pattern.now.items.items in
    same_from_decides {P = Matches items c.args.text.now} _ _ c.matches.ensures (decided items c.args.text.now)
