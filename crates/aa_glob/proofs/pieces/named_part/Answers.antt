use Rattle.std.proofs.Common.{◌∙◌, sym, ap, arith, length, refl, false, ◌∷◌, drop}
use Rattle.aa_glob.specs.Pieces.{name_at, Use, Broken, pieces_from}
use Rattle.aa_glob.proofs.PieceSteps.{part_use, part_broken}
use Rattle.aa_glob.proofs.pieces.named_part.Goals as goal

pub returns-in-Some-clause-first : goal.returns-in-Some-clause-first
returns-in-Some-clause-first c =
    part_use (name_at (drop 1 c.args.others.now)) c.in-Some.name.now c.args.others.now (length c.in-Some.name.now) (sym (rw c.split_at.ensures.back at c.in-Some.ensures.name)) refl
    ∙ ap (λ s. Use c.in-Some.name.now ∷ pieces_from false 0 s) (sym c.split_at-in-Some.ensures.back)

pub returns-in-None-clause-first : goal.returns-in-None-clause-first
returns-in-None-clause-first c =
    part_broken (name_at (drop 1 c.args.others.now)) c.args.others.now (length c.args.others.now) (sym (rw c.split_at.ensures.back at c.in-None.ensures.name)) (omega arith)
    ∙ ap (λ s. Broken ∷ pieces_from false 0 s) (sym c.split_at-in-None.ensures.back)
